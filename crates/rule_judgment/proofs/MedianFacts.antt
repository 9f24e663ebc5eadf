-- The median grade [gauge] as facts: it is the first grade such that at least half of all grades are as good or
-- better.
-- Assumes nothing.
use mathlib.Core.Path.{◌≡◌, refl}
use mathlib.Core.Bool.{Bool, true, false, cond}
use mathlib.Core.List.{List, [], ◌∷◌}
use Prim.Native.Nat.{ℕ, zero, suc, ◌+◌, ◌*◌, ◌≤◌, ◌<◌}
use native.Mathlib.Omega.{arith}
use lib.Dec.{leb}
use lib.ListN.{length, get_or, take, drop}
use borrow.Author.Tests.{leb-true, leb-false}
use Rattle.basics.specs.Lists.{sum}
use Rattle.rule_judgment.specs.Median.{median_from, median_of}
use Rattle.rule_judgment.specs.Gauge.{p_of, q_of}

-- before the median, twice the running sum is less than n
passed_from : (row : List ℕ) (n before g : ℕ) → g < median_from n before row → 2 * (before + sum (take (suc g) row)) < n
unfolding median_from sum
passed_from [] n before g h = absurd (omega arith)
passed_from (x ∷ xs) n before zero h = go (leb n (2 * (before + x))) refl h
  where
    go : (t : Bool) → leb n (2 * (before + x)) ≡ t → 0 < cond t 0 (suc (median_from n (before + x) xs)) → 2 * (before + (x + 0)) < n
    go true e l = absurd (omega arith)
    go false e l = omega (arith, leb-false n (2 * (before + x)) e)
passed_from (x ∷ xs) n before (suc g) h = go (leb n (2 * (before + x))) h (passed_from xs n (before + x) g)
  where
    go : (t : Bool) → suc g < cond t 0 (suc (median_from n (before + x) xs))
        → (g < median_from n (before + x) xs → 2 * (before + x + sum (take (suc g) xs)) < n) →
        2 * (before + (x + sum (take (suc g) xs))) < n
    go true l ih = absurd (omega arith)
    go false l ih = omega (arith, ih (omega arith))

pub median_passed : (row : List ℕ) (g : ℕ) → g < median_of row → 2 * sum (take (suc g) row) < sum row
unfolding median_of
median_passed row g h = omega (arith, passed_from row (sum row) 0 g h)

-- at the median, twice the running sum is at least n
Reached : ℕ → ℕ → List ℕ → ℕ → Type 0
Reached n before row m = (m < length row) × (n ≤ 2 * (before + sum (take (suc m) row)))

reached_from : (row : List ℕ) (n before : ℕ) → 0 < length row → n ≤ 2 * (before + sum row) → Reached n before row (median_from n before row)
unfolding median_from sum Reached
reached_from [] n before h l = absurd (omega arith)
reached_from (x ∷ []) n before h l = go (leb n (2 * (before + x))) refl
  where
    go : (t : Bool) → leb n (2 * (before + x)) ≡ t → Reached n before (x ∷ []) (cond t 0 (suc 0))
    go true e = (omega arith, omega arith)
    go false e = absurd (omega (arith, leb-false n (2 * (before + x)) e))
reached_from (x ∷ y ∷ ys) n before h l =
    go (leb n (2 * (before + x))) refl (reached_from (y ∷ ys) n (before + x) (omega arith) (omega arith))
  where
    go : (t : Bool) → leb n (2 * (before + x)) ≡ t → Reached n (before + x) (y ∷ ys) (median_from n (before + x) (y ∷ ys)) →
        Reached n before (x ∷ y ∷ ys) (cond t 0 (suc (median_from n (before + x) (y ∷ ys))))
    go true e ih = (omega arith, omega (arith, leb-true n (2 * (before + x)) e))
    go false e ih = (omega arith, omega arith)

pub median_reached : (row : List ℕ) → 0 < length row → (median_of row < length row) × (sum row ≤ 2 * sum (take (suc (median_of row)) row))
unfolding median_of Reached
median_reached row h =
    let r = reached_from row (sum row) 0 h (omega arith) in
    (r.0, omega (arith, r.1))

-- p, the count of the median grade, and q add up to all the counts
sum_split : (row : List ℕ) (m : ℕ) → m < length row → sum (take m row) + get_or row m 0 + sum (drop (suc m) row) ≡ sum row
unfolding sum
sum_split [] m h = absurd (omega arith)
sum_split (x ∷ xs) zero h = omega arith
sum_split (x ∷ xs) (suc m) h = omega (arith, sum_split xs m (omega arith))

pub p_median_q : (row : List ℕ) → 0 < length row → p_of row + get_or row (median_of row) 0 + q_of row ≡ sum row
unfolding p_of q_of
p_median_q row h = sum_split row (median_of row) (median_reached row h).0
