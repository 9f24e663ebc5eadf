-- Strikes go outward from the middle: the sequence of a row lists its grades at positions that depend only on n.
-- Assumes nothing.
use mathlib.Core.Path.{◌≡◌, ◌∙◌, refl, sym, ap, subst, subst₂}
use mathlib.Core.Bool.{Bool, true, false, cond}
use mathlib.Core.Logic.{◌⊎◌, inl, inr, ⊎_elim}
use mathlib.Core.List.{List, [], ◌∷◌}
use Prim.Native.Nat.{ℕ, zero, suc, ◌+◌, ◌-◌, ◌*◌, ◌/◌, ◌%◌, min, ◌≤◌, ◌<◌}
use native.Mathlib.Omega.{arith}
use lib.Dec.{eqb, leb}
use lib.ListN.{length, get_or, length-set}
use lib.Seq.{take-set-le}
use borrow.Author.Tests.{eqb-true, eqb-false, leb-true, leb-false}
use Rattle.basics.specs.Lists.{sum}
use Rattle.rule_judgment.specs.Median.{median_of}
use Rattle.basics.proofs.Cases.{below_or_not}
use Rattle.rule_judgment.proofs.RunningSums.{running_next, running_whole, running_grows}
use Rattle.rule_judgment.specs.Judgment.{strike, strikes, sequence_of}
use Rattle.rule_judgment.proofs.Statements.{running}
use Rattle.rule_judgment.proofs.Positions.{grade_at, Grade, grade_at_lem, grade_one, Median, median_at}

-- the position that is struck when `left` of n grades are left: the last one of the lower half if the halves are
-- equal, else the first one of the upper half
unfoldable pub position : ℕ → ℕ → ℕ
position n left = cond (eqb (left % 2) 0) (left / 2) (n - left / 2)

-- the values of f from n down to 1
unfoldable pub down : ℕ → (ℕ → ℕ) → List ℕ
down zero f = []
down (suc n) f = f (suc n) ∷ down n f

-- a strike takes 1 from the running sums that include its grade, and nothing from the others
strike_before : (row : List ℕ) (g t : ℕ) → t ≤ g → running (strike g row) t ≡ running row t
unfolding strike
strike_before row g t l = ap sum (take-set-le t row g (get_or row g 0 - 1) l)

strike_after : (row : List ℕ) (g t : ℕ) → g < t → 0 < get_or row g 0 → suc (running (strike g row) t) ≡ running row t
unfolding strike sum
strike_after [] g t l h = absurd (omega arith)
strike_after (x ∷ xs) g zero l h = absurd (omega arith)
strike_after (x ∷ xs) zero (suc t) l h = omega arith
strike_after (x ∷ xs) (suc g) (suc t) l h = omega (arith, strike_after xs g t (omega arith) h)

strike_length : (row : List ℕ) (g : ℕ) → length (strike g row) ≡ length row
unfolding strike
strike_length row g = length-set row g (get_or row g 0 - 1)

-- `rest` has the grades of a row at the positions up to `low` and above `high`
record Remains (row : List ℕ) (low high : ℕ) (rest : List ℕ) : Type 0 where
  ordered : low ≤ high
  within : high ≤ sum row
  size : length rest ≡ length row
  sums : (t : ℕ) → running rest t ≡ min (running row t) low + (running row t - high)

-- how many grades are left in `rest`
remains_sum : (row : List ℕ) (low high : ℕ) (rest : List ℕ) → Remains row low high rest → sum rest ≡ low + (sum row - high)
remains_sum row low high rest r =
    sym (running_whole rest (length row) (omega (arith, r.size)))
    ∙ r.sums (length row)
    ∙ omega (arith, running_whole row (length row) (omega arith), r.ordered, r.within)

-- the median of the rest is the grade at position p, and striking it leaves the positions up to `low` and above
-- `high`
record Struck (row : List ℕ) (p low high : ℕ) (rest : List ℕ) : Type 0 where
  median : median_of rest ≡ grade_at row p
  left : Remains row low high (strike (median_of rest) rest)

-- a strike at position p changes only the running sums that reach p
struck : (row : List ℕ) (p low high low' high' : ℕ) (rest : List ℕ) → Remains row low high rest → 0 < sum rest → 0 < p → p ≤ sum row
    → Grade row p (median_of rest) → low' ≤ high' → high' ≤ sum row
    → ((s : ℕ) → s < p → min s low + (s - high) ≡ min s low' + (s - high'))
    → ((s : ℕ) → p ≤ s → min s low + (s - high) ≡ suc (min s low' + (s - high')))
    → Struck row p low' high' rest
struck row p low high low' high' rest r some l h grade o w under over = record {
  median = grade_one row p (median_of rest) (grade_at row p) grade (grade_at_lem row p l h);
  left = record { ordered = o; within = w; size = strike_length rest (median_of rest) ∙ r.size; sums = each };
}
  where
    m : ℕ
    m = median_of rest

    med : Median rest m
    med = median_at rest some

    each : (t : ℕ) → running (strike m rest) t ≡ min (running row t) low' + (running row t - high')
    each t =
        ⊎_elim (λ b. omega (
          arith,
          strike_after rest m t b
              (omega (arith, med.passed, med.reached, running_next rest m)),
          r.sums t,
          over (running row t) (omega (arith, grade.reached, running_grows row (suc m) t b)),
        ))
        (λ b. strike_before rest m t b ∙ r.sums t ∙ under (running row t) (omega (arith, grade.passed, running_grows row t m b)))
        (below_or_not m t)

-- if the halves are equal, the last position of the lower half is struck
low_struck : (row : List ℕ) (low high : ℕ) (rest : List ℕ) → Remains row (suc low) high rest → sum row ≡ suc low
    + high → Struck row (suc low) low high rest
low_struck row low high rest r e =
    let size = remains_sum row (suc low) high rest r in
    let med = median_at rest (omega (arith, r.within)) in
    struck row (suc low) (suc low) high low high rest r (omega (arith, r.within)) (omega arith) (omega arith)
    (record {
      passed = omega (arith, med.passed, r.sums (median_of rest));
      reached = omega (arith, med.reached, r.sums (suc (median_of rest)), r.ordered);
    })
    (omega (arith, r.ordered)) r.within (λ s l. omega arith) (λ s l. omega arith)

-- if the upper half has one more, its first position is struck
high_struck : (row : List ℕ) (low high : ℕ) (rest : List ℕ) → Remains row low high rest → sum row ≡ suc (low + high)
    → Struck row (suc high) low (suc high) rest
high_struck row low high rest r e =
    let size = remains_sum row low high rest r in
    let med = median_at rest (omega (arith, r.within)) in
    struck row (suc high) low high low (suc high) rest r (omega (arith, r.within)) (omega arith) (omega arith)
    (record {
      passed = omega (arith, med.passed, r.sums (median_of rest), r.ordered);
      reached = omega (arith, med.reached, r.sums (suc (median_of rest)));
    })
    (omega (arith, r.ordered)) (omega arith) (λ s l. omega arith) (λ s l. omega (arith, r.ordered))

-- the last position of the lower half, and the one before the first of the upper half, when `left` of n grades are
-- left
abbrev low_of : ℕ → ℕ
low_of left = left / 2

abbrev high_of : ℕ → ℕ → ℕ
high_of n left = n - (left - left / 2)

-- every strike is at its position
strike_at : (row : List ℕ) (left : ℕ) (rest : List ℕ) → suc left ≤ sum row
    → Remains row (low_of (suc left)) (high_of (sum row) (suc left)) rest
    → Struck row (position (sum row) (suc left)) (low_of left) (high_of (sum row) left) rest
unfolding position
strike_at row left rest h r = go (eqb (suc left % 2) 0) refl
  where
    n : ℕ
    n = sum row

    go : (t : Bool) → eqb (suc left % 2) 0 ≡ t → Struck row (cond t (suc left / 2) (n - suc left / 2)) (low_of left) (high_of n left) rest
    go true e =
        let even : suc left % 2 ≡ 0 = eqb-true (suc left % 2) 0 e in
        let lows : suc left / 2 ≡ suc (low_of left) = omega arith in
        let highs : high_of n (suc left) ≡ high_of n left = omega arith in
        subst (λ (p : ℕ). Struck row p (low_of left) (high_of n left) rest) (sym lows)
        (low_struck row (low_of left) (high_of n left) rest (subst₂ (λ (a b : ℕ). Remains row a b rest) lows highs r) (omega arith))
    go false e =
        let odd : ¬ (suc left % 2 ≡ 0) = eqb-false (suc left % 2) 0 e in
        let lows : suc left / 2 ≡ low_of left = omega arith in
        let highs : suc (high_of n (suc left)) ≡ high_of n left = omega arith in
        let place : suc (high_of n (suc left)) ≡ n - suc left / 2 = omega arith in
        subst₂ (λ (p b : ℕ). Struck row p (low_of left) b rest) place highs
        (high_struck row (low_of left) (high_of n (suc left)) rest
        (subst (λ (a : ℕ). Remains row a (high_of n (suc left)) rest) lows r) (omega arith))

strikes_outward : (left : ℕ) (row rest : List ℕ) → left ≤ sum row → Remains row (low_of left) (high_of (sum row) left) rest
    → strikes left rest ≡ down left (λ l. grade_at row (position (sum row) l))
unfolding strikes down
strikes_outward zero row rest h r = refl
strikes_outward (suc left) row rest h r =
    let s = strike_at row left rest h r in
    cc (s.median, strikes_outward left row (strike (median_of rest) rest) (omega arith) s.left)

-- the sequence of a row lists its grades outward from the middle
pub outward : (row : List ℕ) → sequence_of row ≡ down (sum row) (λ left. grade_at row (position (sum row) left))
unfolding sequence_of
outward row =
    strikes_outward (sum row) row row (omega arith)
    (record { ordered = omega arith; within = omega arith; size = refl; sums = λ t. omega arith })

-- each position from 1 to n is struck once: position p is struck when `turn n p` grades are left
unfoldable pub turn : ℕ → ℕ → ℕ
turn n p = cond (leb (2 * p) n) (2 * p) (suc (2 * (n - p)))

turn_cases : (n p : ℕ) → ((2 * p ≤ n) × (turn n p ≡ 2 * p)) ⊎ ((n < 2 * p) × (turn n p ≡ suc (2 * (n - p))))
unfolding turn
turn_cases n p = go (leb (2 * p) n) refl
  where
    go : (t : Bool) → leb (2 * p) n ≡ t
        → ((2 * p ≤ n) × (cond t (2 * p) (suc (2 * (n - p))) ≡ 2 * p)) ⊎
        ((n < 2 * p) × (cond t (2 * p) (suc (2 * (n - p))) ≡ suc (2 * (n - p))))
    go true e = inl (leb-true (2 * p) n e, refl)
    go false e = inr (leb-false (2 * p) n e, refl)

position_cases : (n left : ℕ) → ((left % 2 ≡ 0) × (position n left ≡ left / 2)) ⊎ ((left % 2 ≡ 1) × (position n left ≡ n - left / 2))
unfolding position
position_cases n left = go (eqb (left % 2) 0) refl
  where
    go : (t : Bool) → eqb (left % 2) 0 ≡ t
        → ((left % 2 ≡ 0) × (cond t (left / 2) (n - left / 2) ≡ left / 2)) ⊎
        ((left % 2 ≡ 1) × (cond t (left / 2) (n - left / 2) ≡ n - left / 2))
    go true e = inl (eqb-true (left % 2) 0 e, refl)
    go false e = let odd : ¬ (left % 2 ≡ 0) = eqb-false (left % 2) 0 e in inr (omega arith, refl)

module _ (n left : ℕ) (l : 0 < left) (h : left ≤ n) where
  pub position_within : (0 < position n left) × (position n left ≤ n)
  position_within = ⊎_elim (λ c. (omega arith, omega arith)) (λ c. (omega arith, omega arith)) (position_cases n left)

  pub turn_position : turn n (position n left) ≡ left
  turn_position =
      ⊎_elim (λ c. ⊎_elim (λ t. omega arith) (λ t. omega arith) (turn_cases n (position n left)))
      (λ c. ⊎_elim (λ t. omega arith) (λ t. omega arith) (turn_cases n (position n left))) (position_cases n left)

module _ (n p : ℕ) (l : 0 < p) (h : p ≤ n) where
  pub turn_within : (0 < turn n p) × (turn n p ≤ n)
  turn_within = ⊎_elim (λ t. (omega arith, omega arith)) (λ t. (omega arith, omega arith)) (turn_cases n p)

  pub position_turn : position n (turn n p) ≡ p
  position_turn =
      ⊎_elim (λ t. ⊎_elim (λ c. omega arith) (λ c. omega arith) (position_cases n (turn n p)))
      (λ t. ⊎_elim (λ c. omega arith) (λ c. omega arith) (position_cases n (turn n p))) (turn_cases n p)

-- the lower of two positions is struck first if they add up to more than n, else the higher
pub lower_first : (n p q : ℕ) → p < q → q ≤ n → n < p + q → turn n q < turn n p
lower_first n p q l h s = ⊎_elim (λ t. ⊎_elim (λ u. omega arith) (λ u. omega arith) (turn_cases n q))
    (λ t. ⊎_elim (λ u. omega arith) (λ u. omega arith) (turn_cases n q)) (turn_cases n p)

pub higher_first : (n p q : ℕ) → 0 < p → p < q → q ≤ n → p + q ≤ n → turn n p < turn n q
higher_first n p q z l h s = ⊎_elim (λ t. ⊎_elim (λ u. omega arith) (λ u. omega arith) (turn_cases n q))
    (λ t. ⊎_elim (λ u. omega arith) (λ u. omega arith) (turn_cases n q)) (turn_cases n p)
