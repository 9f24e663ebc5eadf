-- What the loops of the plain count find in their tables.
-- Assumes nothing.
use mathlib.Core.Path.{◌≡◌, ◌∙◌, sym, ap}
use mathlib.Core.Bool.{Bool, true, false, cond, ◌||◌, true≢false}
use mathlib.Core.Logic.{⊎_elim, ◌≢◌}
use mathlib.Core.List.{List}
use Prim.Native.Nat.{ℕ, zero, suc, min, max, ◌+◌, ◌*◌, ◌≤◌, ◌<◌}
use native.Mathlib.Nat.{add-zero}
use native.Mathlib.Numerals.{add-one}
use native.Mathlib.Omega.{arith}
use lib.Dec.{leb, eqb}
use lib.ListN.{get_or}
use borrow.Author.Tests.{eq-eqb, ne_eqb, lt-leb}
use Rattle.jury.specs.Rankings.{rank_place, before}
use Rattle.basics.proofs.Cases.{same_or_not}
use Rattle.basics.proofs.Flags.{never_true, or_first, or_second}
use Rattle.rule_schulze.specs.Schulze.{all_candidates}
use Rattle.rule_schulze.specs.Closure.{detour, closure}
use Rattle.rule_schulze.specs.Votes.{votes}
use Rattle.rule_schulze.specs.inner.Tables.{entry, unbeaten_in}
use Rattle.rule_schulze.proofs.Members.{in_candidates, of_candidates}
use Rattle.rule_schulze.proofs.Paths.{detour_over}
use Rattle.rule_schulze.proofs.Winning.{all_holds, holds_all}
use Rattle.basics.proofs.Arithmetic.{row_within}

-- the byte of ballot b, row i and column j is one of the ballots' bytes
pub place_within : (k n b i j : ℕ) → b < n → i < k → j < k → (b * k + i) * k + j < n * k * k
place_within k n b i j hb hi hj =
    let l : b * k + k ≤ n * k = row_within b n k hb in
    let m : (b * k + i) * k + k ≤ n * k * k = row_within (b * k + i) (n * k) k (omega arith) in
    omega arith

-- the votes after one more ballot
votes_more : (k b : ℕ) (xs : List ℕ) (i j : ℕ) → votes k (b + 1) xs i j ≡ votes k b xs i j + cond (before k xs b i j) 1 0
unfolding votes
votes_more k b xs i j = ap (λ (n : ℕ). votes k n xs i j) (add-one b)

pub votes_one : (k b : ℕ) (xs : List ℕ) (i j at : ℕ) → at ≡ (b * k + i) * k + j → get_or xs at 0 ≡ 1
    → votes k (b + 1) xs i j ≡ votes k b xs i j + 1
unfolding before rank_place
votes_one k b xs i j at p e =
    votes_more k b xs i j ∙ ap (λ (t : Bool). votes k b xs i j + cond t 1 0)
    (eq-eqb (get_or xs ((b * k + i) * k + j) 0) 1 (ap (λ (m : ℕ). get_or xs m 0) (sym p) ∙ e))

pub votes_none : (k b : ℕ) (xs : List ℕ) (i j at : ℕ) → at ≡ (b * k + i) * k + j → (get_or xs at 0 ≡ 1 → ⊥)
    → votes k (b + 1) xs i j ≡ votes k b xs i j
unfolding before rank_place
votes_none k b xs i j at p e =
    votes_more k b xs i j
    ∙ ap (λ (t : Bool). votes k b xs i j + cond t 1 0)
    (ne_eqb (get_or xs ((b * k + i) * k + j) 0) 1 (λ h. e (ap (λ (m : ℕ). get_or xs m 0) p ∙ h)))
    ∙ add-zero (votes k b xs i j)

-- the test of candidate i against one candidate after another
module _ (t : List (List ℕ)) (k i : ℕ) where
  abbrev unbeaten_by : ℕ → Bool
  unbeaten_by j = eqb j i || leb (entry t j i) (entry t i j)

  pub unbeaten_holds : ((j : ℕ) → j < k → unbeaten_by j ≡ true) → unbeaten_in t k i ≡ true
  unfolding unbeaten_in
  unbeaten_holds h = holds_all unbeaten_by (all_candidates k) (λ j m. h j (of_candidates k m))

  pub unbeaten_fails : (j : ℕ) → j < k → j ≢ i → entry t i j < entry t j i → unbeaten_in t k i ≡ false
  unfolding unbeaten_in
  unbeaten_fails j h n l = never_true (unbeaten_in t k i)
      (λ e. true≢false (sym (all_holds unbeaten_by (all_candidates k) e j (in_candidates k j h)) ∙ fails))
    where
      fails : unbeaten_by j ≡ false
      fails = rw (ne_eqb j i n, lt-leb (entry t j i) (entry t i j) l)

-- the entry (i, j) of a table after a detour over l
module _ (l : ℕ) (t : ℕ → ℕ → ℕ) (i j : ℕ) where
  pub detour_stays : (eqb i l || eqb j l || eqb i j) ≡ true → detour l t i j ≡ t i j
  unfolding detour
  detour_stays e = ap (λ (b : Bool). cond b (t i j) (max (t i j) (min (t i l) (t l j)))) e

  -- if i or j is l itself, the path over l is no detour, and trying it changes nothing
  pub detour_tried : i ≢ j → max (t i j) (min (t i l) (t l j)) ≡ detour l t i j
  detour_tried ne = ⊎_elim from (λ il. ⊎_elim to (λ jl. sym (detour_over l t i j il jl ne)) (same_or_not j l)) (same_or_not i l)
    where
      from : i ≡ l → max (t i j) (min (t i l) (t l j)) ≡ detour l t i j
      from e = omega (
        arith,
        ap (λ (x : ℕ). t x j) e,
        detour_stays (or_first (eqb i l || eqb j l) (eqb i j) (or_first (eqb i l) (eqb j l) (eq-eqb i l e))),
      )

      to : j ≡ l → max (t i j) (min (t i l) (t l j)) ≡ detour l t i j
      to e = omega (
        arith,
        ap (t i) e,
        detour_stays (or_first (eqb i l || eqb j l) (eqb i j) (or_second (eqb i l) (eqb j l) (eq-eqb j l e))),
      )

-- tables that agree for every pair of the k candidates still agree after a detour
module _ (k : ℕ) (t u : ℕ → ℕ → ℕ) where
  abbrev pub AgreePairs : Type 0
  AgreePairs = (i j : ℕ) → i < k → j < k → i ≢ j → t i j ≡ u i j

pub detour_agree : (k l : ℕ) (t u : ℕ → ℕ → ℕ) → l < k → AgreePairs k t u → AgreePairs k (detour l t) (detour l u)
detour_agree k l t u h a i j hi hj ne =
    sym (detour_tried l t i j ne) ∙ same ∙ detour_tried l u i j ne
  where
    same : max (t i j) (min (t i l) (t l j)) ≡ max (u i j) (min (u i l) (u l j))
    same = ⊎_elim from (λ il. ⊎_elim to
        (λ jl. omega (arith, a i j hi hj ne, a i l hi h il, a l j h hj (λ e. jl (sym e)))) (same_or_not j l))
        (same_or_not i l)
      where
        from : i ≡ l → max (t i j) (min (t i l) (t l j)) ≡ max (u i j) (min (u i l) (u l j))
        from e = omega (arith, a i j hi hj ne, ap (λ (x : ℕ). t x j) e, ap (λ (x : ℕ). u x j) e)

        to : j ≡ l → max (t i j) (min (t i l) (t l j)) ≡ max (u i j) (min (u i l) (u l j))
        to e = omega (arith, a i j hi hj ne, ap (t i) e, ap (u i) e)

pub closure_agree : (k l : ℕ) (t u : ℕ → ℕ → ℕ) → l ≤ k → AgreePairs k t u → AgreePairs k (closure l t) (closure l u)
unfolding closure
closure_agree k zero t u h a = a
closure_agree k (suc l) t u h a = detour_agree k l (closure l t) (closure l u) (omega arith) (closure_agree k l t u (omega arith) a)
