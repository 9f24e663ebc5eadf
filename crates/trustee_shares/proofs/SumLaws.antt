-- Sums over trustees.
-- Assumes nothing.
use mathlib.Core.Path.{◌≡◌, refl}
use mathlib.Core.Bool.{Bool, true, false}
use mathlib.Core.Logic.{◌≢◌}
use Prim.Native.Nat.{ℕ, zero, suc, ◌+◌, ◌*◌, ◌%◌, ◌≤◌, ◌<◌}
use native.Mathlib.Omega.{arith}
use lib.Dec.{eqb}
use borrow.Author.Tests.{eqb-true, eqb-false}
use Rattle.trustee_shares.specs.Shares.{sum_of, entered}

-- sums of equal terms are equal
pub sum_same : (t : ℕ) (f g : ℕ → ℕ) → ((p : ℕ) → p < t → f p ≡ g p) → sum_of t f ≡ sum_of t g
unfolding sum_of
sum_same zero f g e = refl
sum_same (suc t) f g e = omega (arith, sum_same t f g (λ (p : ℕ) h. e p (omega arith)), e t (omega arith))

-- terms may be taken modulo 2
pub sum_mod : (t : ℕ) (f : ℕ → ℕ) → sum_of t (λ p. f p % 2) % 2 ≡ sum_of t f % 2
unfolding sum_of
sum_mod zero f = refl
sum_mod (suc t) f = omega (arith, sum_mod t f)

-- a sum of sums
pub sum_add : (t : ℕ) (f g : ℕ → ℕ) → sum_of t (λ p. f p + g p) ≡ sum_of t f + sum_of t g
unfolding sum_of
sum_add zero f g = refl
sum_add (suc t) f g = omega (arith, sum_add t f g)

pub sum_zero : (t : ℕ) → sum_of t (λ p. 0) ≡ 0
unfolding sum_of
sum_zero zero = refl
sum_zero (suc t) = omega (arith, sum_zero t)

-- a bit times a sum
pub sum_times : (t e : ℕ) (f : ℕ → ℕ) → e ≤ 1 → sum_of t (λ p. e * f p) ≡ e * sum_of t f
sum_times t zero f h = omega (arith, sum_same t (λ p. 0 * f p) (λ p. 0) (λ (p : ℕ) l. omega arith), sum_zero t)
sum_times t (suc zero) f h = omega (arith, sum_same t (λ p. 1 * f p) f (λ (p : ℕ) l. omega arith))
sum_times t (suc (suc e)) f h = absurd (omega arith)

-- a public bit counts once, because only the first trustee's part is not 0
pub sum_entered : (t x : ℕ) → 1 ≤ t → sum_of t (λ p. entered p x) ≡ x
unfolding sum_of entered
sum_entered zero x h = absurd (omega arith)
sum_entered (suc zero) x h = omega arith
sum_entered (suc (suc t)) x h = omega (arith, sum_entered (suc t) x (omega arith))

-- sums that differ only in one term
pub sum_change : (t q : ℕ) (f g : ℕ → ℕ) → q < t → ((p : ℕ) → p < t → p ≢ q → f p ≡ g p) → sum_of t f + g q ≡ sum_of t g + f q
unfolding sum_of
sum_change zero q f g h e = absurd (omega arith)
sum_change (suc t) q f g h e = go (eqb t q) refl (λ l. sum_change t q f g l (λ (i : ℕ) m n. e i (omega arith) n))
  where
    go : (b : Bool) → eqb t q ≡ b → (q < t → sum_of t f + g q ≡ sum_of t g + f q) → sum_of t f + f t + g q ≡ sum_of t g + g t + f q
    go true p rest =
        let s : t ≡ q = eqb-true t q p in
        let r = sum_same t f g (λ (i : ℕ) l. e i (omega arith) (λ n. omega arith)) in
        rw s (omega (arith, rw s at r))
    go false p rest =
        let n = eqb-false t q p in
        omega (arith, rest (omega arith), e t (omega arith) n)
