-- The laws of the width of a number.
-- Assumes nothing.
use mathlib.Core.Path.{◌≡◌, ◌∙◌, refl, ap}
use mathlib.Core.Bool.{Bool, cond}
use mathlib.Core.Logic.{⊎_elim}
use Prim.Native.Nat.{ℕ, zero, suc, ◌+◌, ◌*◌, ◌/◌, ◌^◌, ◌-◌, ◌≤◌, ◌<◌}
use native.Mathlib.Nat.{pow-succ', eq-zero-or-pos}
use native.Mathlib.Omega.{arith}
use lib.Dec.{eqb}
use lib.Pow.{pow_mono}
use borrow.Author.Tests.{ne_eqb}
use Rattle.basics.proofs.Cases.{below_or_not}
use Rattle.jury.specs.Width.{width_within, width_of}

-- one step of the definition, for a number above 0
within_step : (steps m : ℕ) → 0 < m → width_within (suc steps) m ≡ suc (width_within steps (m / 2))
unfolding width_within
within_step steps m h = ap (λ (t : Bool). cond {A = ℕ} t 0 (suc (width_within steps (m / 2)))) (ne_eqb m 0 (λ e. omega arith))

-- any sufficient number of steps gives the same width
enough : (i j m : ℕ) → m ≤ i → m ≤ j → width_within i m ≡ width_within j m
unfolding width_within
enough zero zero m hi hj = refl
enough zero (suc j) m hi hj = ap (λ (n : ℕ). cond {A = ℕ} (eqb n 0) 0 (suc (width_within j (n / 2)))) {x = 0} {y = m} (omega arith)
enough (suc i) zero m hi hj = ap (λ (n : ℕ). cond {A = ℕ} (eqb n 0) 0 (suc (width_within i (n / 2)))) {x = m} {y = 0} (omega arith)
enough (suc i) (suc j) m hi hj = ap (λ (w : ℕ). cond {A = ℕ} (eqb m 0) 0 (suc w)) (enough i j (m / 2) (omega arith) (omega arith))

sub_one_suc : (n : ℕ) → suc n - 1 ≡ n
sub_one_suc n = omega arith

-- 0 has no digit
pub width_zero : width_of 0 ≡ 0
unfolding width_of width_within
width_zero = refl

width_of_zero : (m : ℕ) → m ≡ 0 → width_of m ≡ 0
width_of_zero m e = ap width_of e ∙ width_zero

-- any other number has one digit more than its half
pub width_half : (m : ℕ) → 0 < m → width_of m ≡ suc (width_of (m / 2))
unfolding width_of
width_half zero h = absurd (omega arith)
width_half (suc m) h = within_step m (suc m) h ∙ ap suc (enough m (suc m / 2) (suc m / 2) (omega arith) (omega arith))

-- the widths of some numbers of ballots, 255 among them
pub width_examples : (width_of 1 ≡ 1) × (width_of 3 ≡ 2) × (width_of 4 ≡ 3) × (width_of 255 ≡ 8)
unfolding width_of width_within
width_examples = (refl, refl, refl, refl)

-- a number is below 2 to the power of its width
below_within : (steps m : ℕ) → m ≤ steps → m < 2 ^ width_of m
below_within zero m h = rw (width_of_zero m (omega arith)) (omega arith)
below_within (suc steps) m h =
    let ih : m / 2 < 2 ^ width_of (m / 2) = below_within steps (m / 2) (omega arith) in
    ⊎_elim (λ e. rw (width_of_zero m e) (omega arith))
    (λ l. rw (width_half m l, pow-succ' 2 (width_of (m / 2))) (omega arith)) (eq-zero-or-pos m)

pub below_width : (m : ℕ) → m < 2 ^ width_of m
below_width m = below_within m m (omega arith)

-- and at least half of that
least_step : (m : ℕ) → (0 < m / 2 → 2 ^ width_of (m / 2 / 2) ≤ m / 2) → 0 < m → 2 ^ width_of (m / 2) ≤ m
least_step m ih h =
    ⊎_elim (λ e. rw (width_of_zero (m / 2) e) (omega arith))
    (λ l.
    let low : 2 ^ width_of (m / 2 / 2) ≤ m / 2 = ih l in
    rw (width_half (m / 2) l, pow-succ' 2 (width_of (m / 2 / 2))) (omega arith))
    (eq-zero-or-pos (m / 2))

least_within : (steps m : ℕ) → m ≤ steps → 0 < m → 2 ^ width_of (m / 2) ≤ m
least_within zero m h l = absurd (omega arith)
least_within (suc steps) m h l = least_step m (least_within steps (m / 2) (omega arith)) l

pub least_width : (m : ℕ) → 0 < m → 2 ^ (width_of m - 1) ≤ m
least_width m h = rw (width_half m h, sub_one_suc (width_of (m / 2))) (least_within m m (omega arith) h)

-- a number from 2 to the power k on, below twice that, has k + 1 digits
pub width_by_powers : (m k : ℕ) → 2 ^ k ≤ m → m < 2 * 2 ^ k → width_of m ≡ k + 1
width_by_powers m k low high = ⊎_elim (λ l. absurd (more l)) (λ g. ⊎_elim (λ l. absurd (fewer l)) (λ h. omega arith) (below_or_not (width_of m) (k + 1)))
    (below_or_not (k + 1) (width_of m))
  where
    fewer : width_of m < k + 1 → ⊥
    fewer l = let p : 2 ^ width_of m ≤ 2 ^ k = pow_mono {i = width_of m} {j = k} (omega arith) in omega (arith, below_width m)

    some : 0 < m
    some = let p : 2 ^ 0 ≤ 2 ^ k = pow_mono {i = 0} {j = k} (omega arith) in omega arith

    more : k + 1 < width_of m → ⊥
    more l =
        let p : 2 ^ suc k ≤ 2 ^ (width_of m - 1) = pow_mono {i = suc k} {j = width_of m - 1} (omega arith) in
        omega (arith, least_width m some, pow-succ' 2 k)

-- the width of a number up to 255 is at most 8
pub width_most : (m : ℕ) → m ≤ 255 → width_of m ≤ 8
width_most m h = ⊎_elim (λ e. rw (width_of_zero m e) (omega arith)) most (eq-zero-or-pos m)
  where
    not_nine : 0 < m → ¬ (9 ≤ width_of m)
    not_nine l nine =
        let low : 2 ^ (width_of m - 1) ≤ m = least_width m l in
        let high : 2 ^ 8 ≤ 2 ^ (width_of m - 1) = pow_mono {i = 8} {j = width_of m - 1} (omega arith) in
        omega arith

    most : 0 < m → width_of m ≤ 8
    most l = let no : ¬ (9 ≤ width_of m) = not_nine l in omega arith
