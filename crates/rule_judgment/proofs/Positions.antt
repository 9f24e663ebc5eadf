-- The grades of a row in order, best first, at positions counted from 1; and the row's median among them.
-- Assumes nothing.
use mathlib.Core.Path.{◌≡◌, refl}
use mathlib.Core.Bool.{Bool, true, false, cond}
use mathlib.Core.Logic.{⊎_elim}
use mathlib.Core.List.{List, [], ◌∷◌}
use Prim.Native.Nat.{ℕ, zero, suc, ◌-◌, ◌*◌, ◌≤◌, ◌<◌}
use native.Mathlib.Omega.{arith}
use lib.Dec.{leb}
use lib.ListN.{length}
use borrow.Author.Tests.{leb-true, leb-false}
use Rattle.basics.specs.Lists.{sum}
use Rattle.rule_judgment.specs.Median.{median_of}
use Rattle.basics.proofs.Cases.{below_or_not}
use Rattle.rule_judgment.proofs.MedianFacts.{median_passed, median_reached}
use Rattle.rule_judgment.proofs.RunningSums.{running_grows}
use Rattle.rule_judgment.proofs.Statements.{running}

-- the grade at position p
unfoldable pub grade_at : List ℕ → ℕ → ℕ
grade_at [] p = 0
grade_at (x ∷ xs) p = cond (leb p x) 0 (suc (grade_at xs (p - x)))

-- g is the grade at which the running sum reaches p
pub record Grade (row : List ℕ) (p g : ℕ) : Type 0 where
  pub passed : running row g < p
  pub reached : p ≤ running row (suc g)

pub grade_at_lem : (row : List ℕ) (p : ℕ) → 0 < p → p ≤ sum row → Grade row p (grade_at row p)
unfolding grade_at sum
grade_at_lem [] p l h = absurd (omega arith)
grade_at_lem (x ∷ xs) p l h = go (leb p x) refl (grade_at_lem xs (p - x))
  where
    go : (t : Bool) → leb p x ≡ t → (0 < p - x → p - x ≤ sum xs → Grade xs (p - x) (grade_at xs (p - x)))
        → Grade (x ∷ xs) p (cond t 0 (suc (grade_at xs (p - x))))
    go true e ih = record { passed = omega arith; reached = omega (arith, leb-true p x e) }
    go false e ih =
        let l : x < p = leb-false p x e in
        let g = ih (omega arith) (omega arith) in
        record { passed = omega (arith, g.passed); reached = omega (arith, g.reached) }

-- there is only one such grade
pub grade_one : (row : List ℕ) (p g h : ℕ) → Grade row p g → Grade row p h → g ≡ h
grade_one row p g h a b = ⊎_elim (λ l. absurd (apart g h a b l))
    (λ l. ⊎_elim (λ m. absurd (apart h g b a m)) (λ m. omega arith) (below_or_not h g)) (below_or_not g h)
  where
    apart : (x y : ℕ) → Grade row p x → Grade row p y → x < y → ⊥
    apart x y u v l = omega (arith, u.reached, v.passed, running_grows row (suc x) y l)

-- the grade at p is among the t best exactly if the running sum at t reaches p
module _ (row : List ℕ) (p : ℕ) (l : 0 < p) (h : p ≤ sum row) (t : ℕ) where
  pub grade_below : p ≤ running row t → grade_at row p < t
  grade_below r =
      ⊎_elim (λ m. m) (λ m. absurd (omega (arith, (grade_at_lem row p l h).passed, running_grows row t (grade_at row p) m)))
      (below_or_not (grade_at row p) t)

  pub grade_reached : grade_at row p < t → p ≤ running row t
  grade_reached m = omega (arith, (grade_at_lem row p l h).reached, running_grows row (suc (grade_at row p)) t m)

  pub grade_not_below : running row t < p → t ≤ grade_at row p
  grade_not_below r = ⊎_elim (λ m. absurd (omega (arith, grade_reached m))) (λ m. m) (below_or_not (grade_at row p) t)

  pub grade_passed : t ≤ grade_at row p → running row t < p
  grade_passed m = omega (arith, (grade_at_lem row p l h).passed, running_grows row t (grade_at row p) m)

-- the median is where half of the row's grades are reached
pub record Median (row : List ℕ) (m : ℕ) : Type 0 where
  pub inside : m < length row
  pub passed : 2 * running row m < sum row
  pub reached : sum row ≤ 2 * running row (suc m)

pub median_at : (row : List ℕ) → 0 < sum row → Median row (median_of row)
unfolding sum
median_at [] h = absurd (omega arith)
median_at (x ∷ xs) h = record { inside = r.0; passed = go (median_of (x ∷ xs)) (median_passed (x ∷ xs)); reached = r.1 }
  where
    r : (median_of (x ∷ xs) < length (x ∷ xs)) × (sum (x ∷ xs) ≤ 2 * running (x ∷ xs) (suc (median_of (x ∷ xs))))
    r = median_reached (x ∷ xs) (omega arith)

    go : (m : ℕ) → ((g : ℕ) → g < m → 2 * running (x ∷ xs) (suc g) < sum (x ∷ xs)) → 2 * running (x ∷ xs) m < sum (x ∷ xs)
    go zero f = omega arith
    go (suc g) f = f g (omega arith)
