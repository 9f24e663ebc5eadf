-- Counting bits, by levels of adders (carry-save).
use Rattle.std.specs.Prelude.{◌≡◌, cond, List, [], ◌∷◌, ◌++◌, ℕ, zero, suc, ◌+◌, ◌-◌, ◌*◌, ◌/◌, ◌%◌, ◌<◌, eqb}
use Rattle.gates.specs.Gate.{Gate}
use Rattle.gate_words.specs.Gates.{gate}
use Rattle.gate_words.specs.Adder.{full_adder, half_adder, increment}

-- One level: adds to wire s the m bits at `at`, at + d, and so on, two at a time, and at the end the public bit e.
-- Each adder passes its sum on to the next.
unfoldable pub level : ℕ → ℕ → ℕ → ℕ → ℕ → ℕ → List Gate
level n s at d e zero = cond (eqb e 0) [] (increment n s)
level n s at d e (suc zero) = half_adder n s at e
level n s at d e (suc (suc m)) = full_adder n s at (at + d) ++ level (n + 3) (n + 1) (at + d + d) d e m

-- The number of a level's adders. Its carries are at n + 2, n + 5, and so on: they are the next level's bits.
unfoldable pub adders : ℕ → ℕ → ℕ
adders m e = (m + e + 1) / 2

-- The wire of a level's sum: the last adder's, or s itself if there is none.
unfoldable pub level_sum : ℕ → ℕ → ℕ → ℕ → ℕ
level_sum n s m e = cond (eqb (adders m e) 0) s (n + 3 * adders m e - 2)

-- r levels of adders that count the m bits from `at` on, d apart, and the public number `extra`: each level adds one
-- of its binary digits. A level's sum starts with its first bit.
unfoldable pub count_levels : ℕ → ℕ → ℕ → ℕ → ℕ → ℕ → List Gate
count_levels n at d m extra zero = []
count_levels n at d m extra (suc r) =
    level n at (at + d) d (extra % 2) (m - 1)
    ++ count_levels (n + 3 * adders (m - 1) (extra % 2)) (n + 2) 3 (adders (m - 1) (extra % 2)) (extra / 2) r

-- The digits of the count, side by side: a gate of kind `low` for the sum of each of r levels, and one of kind
-- `top` for the single bit that is left. Either kind copies or complements. The levels start at wire n.
unfoldable pub count_digits_as : ℕ → ℕ → ℕ → ℕ → ℕ → ℕ → ℕ → List Gate
count_digits_as low top n at m extra zero = gate top at 0 0 ∷ []
count_digits_as low top n at m extra (suc r) =
    gate low (level_sum n at (m - 1) (extra % 2)) 0 0
    ∷ count_digits_as low top (n + 3 * adders (m - 1) (extra % 2)) (n + 2) (adders (m - 1) (extra % 2)) (extra / 2) r

-- The digits of the count, all copied.
abbrev pub count_digits : ℕ → ℕ → ℕ → ℕ → ℕ → List Gate
count_digits n at m extra r = count_digits_as 2 2 n at m extra r

-- Counts m bits and the public number `extra` in r + 1 digits, which are the last r + 1 gates.
unfoldable pub counter : ℕ → ℕ → ℕ → ℕ → ℕ → ℕ → List Gate
counter n at d m extra r = count_levels n at d m extra r ++ count_digits n at m extra r

-- The number of gates of r levels that count m bits and the number `extra`.
unfoldable pub count_size : ℕ → ℕ → ℕ → ℕ
count_size m extra zero = 0
count_size m extra (suc r) = 3 * adders (m - 1) (extra % 2) + count_size (adders (m - 1) (extra % 2)) (extra / 2) r

-- m bits and the number `extra` can be counted in r + 1 digits: each of r levels has a bit to start from, and exactly
-- one bit is left for the top digit.
abbrev pub Countable : ℕ → ℕ → ℕ → Type 0
Countable m extra zero = (m ≡ 1) × (extra ≡ 0)
Countable m extra (suc r) = (0 < m) × Countable (adders (m - 1) (extra % 2)) (extra / 2) r
