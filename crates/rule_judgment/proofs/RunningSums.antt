-- The running sums of a row of counts, and the median grade among them.
-- Assumes nothing.
use mathlib.Core.Path.{◌≡◌, refl}
use mathlib.Core.List.{List, [], ◌∷◌}
use Prim.Native.Nat.{ℕ, zero, suc, ◌+◌, ◌*◌, ◌≤◌, ◌<◌}
use native.Mathlib.Omega.{arith}
use lib.ListN.{length, get_or, take}
use Rattle.basics.specs.Lists.{sum}
use Rattle.rule_judgment.specs.Median.{median_of}
use Rattle.rule_judgment.specs.Gauge.{p_of, q_of}
use Rattle.rule_judgment.proofs.MedianFacts.{median_reached, p_median_q}

pub running_start : (row : List ℕ) → sum (take 0 row) ≡ 0
unfolding sum
running_start row = refl

pub running_next : (row : List ℕ) (g : ℕ) → sum (take (suc g) row) ≡ sum (take g row) + get_or row g 0
unfolding sum
running_next [] zero = refl
running_next [] (suc g) = refl
running_next (x ∷ row) zero = omega arith
running_next (x ∷ row) (suc g) = omega (arith, running_next row g)

pub running_most : (row : List ℕ) (g : ℕ) → sum (take g row) ≤ sum row
unfolding sum
running_most [] zero = omega arith
running_most [] (suc g) = omega arith
running_most (x ∷ row) zero = omega arith
running_most (x ∷ row) (suc g) = omega (arith, running_most row g)

pub running_grows : (row : List ℕ) (g h : ℕ) → g ≤ h → sum (take g row) ≤ sum (take h row)
unfolding sum
running_grows row zero h l = omega arith
running_grows row (suc g) zero l = absurd (omega arith)
running_grows [] (suc g) (suc h) l = omega arith
running_grows (x ∷ row) (suc g) (suc h) l = omega (arith, running_grows row g h (omega arith))

pub running_whole : (row : List ℕ) (g : ℕ) → length row ≤ g → sum (take g row) ≡ sum row
unfolding sum
running_whole [] zero l = refl
running_whole [] (suc g) l = refl
running_whole (x ∷ row) zero l = absurd (omega arith)
running_whole (x ∷ row) (suc g) l = omega (arith, running_whole row g (omega arith))

-- p is the sum before the median grade
pub p_is : (row : List ℕ) → p_of row ≡ sum (take (median_of row) row)
unfolding p_of
p_is row = refl

-- and q is the rest after it
pub q_is : (row : List ℕ) → 0 < length row → sum (take (suc (median_of row)) row) + q_of row ≡ sum row
q_is row h = omega (arith, running_next row (median_of row), p_is row, p_median_q row h)

-- from the median grade on, twice the running sum is at least the sum of all
pub from_median : (row : List ℕ) (g : ℕ) → 0 < length row → median_of row ≤ g → sum row ≤ 2 * sum (take (suc g) row)
from_median row g h l = omega (arith, (median_reached row h).1, running_grows row (suc (median_of row)) (suc g) (omega arith))
