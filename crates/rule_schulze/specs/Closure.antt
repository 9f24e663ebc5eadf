-- The strengths of the strongest paths by the Floyd–Warshall recursion, as the plain count and the circuit compute
-- them. `Paths.closure_strongest` of proofs/ shows that they are the rule's strengths.
use Rattle.std.specs.Prelude.{cond, ◌||◌, ℕ, zero, suc, min, max, eqb}

-- The table of strengths t if paths over l are allowed too. Row l, column l and the diagonal stay the same.
unfoldable pub detour : ℕ → (ℕ → ℕ → ℕ) → ℕ → ℕ → ℕ
detour l t i j = cond (eqb i l || eqb j l || eqb i j) (t i j) (max (t i j) (min (t i l) (t l j)))

-- The strengths if paths may lead over all candidates below k. s has the strengths of the links.
unfoldable pub closure : ℕ → (ℕ → ℕ → ℕ) → ℕ → ℕ → ℕ
closure zero s = s
closure (suc l) s = detour l (closure l s)
