-- Sums of tables of numbers.
-- Assumes nothing.
use mathlib.Core.Path.{◌≡◌, refl}
use Prim.Native.Nat.{ℕ, zero, suc, ◌+◌}
use native.Mathlib.Omega.{arith}
use Rattle.basics.specs.Lists.{sum, tabulate}

-- the sum of an empty table, and of a longer one by its first or its last entry
pub sum_none : (f : ℕ → ℕ) → sum (tabulate 0 f) ≡ 0
unfolding sum tabulate
sum_none f = refl

pub sum_first : (n : ℕ) (f : ℕ → ℕ) → sum (tabulate (suc n) f) ≡ f 0 + sum (tabulate n (λ i. f (suc i)))
unfolding sum tabulate
sum_first n f = refl

pub sum_last : (n : ℕ) (f : ℕ → ℕ) → sum (tabulate (suc n) f) ≡ sum (tabulate n f) + f n
unfolding sum tabulate
sum_last zero f = omega arith
sum_last (suc n) f = omega (arith, sum_last n (λ i. f (suc i)))

pub sum_add : (n : ℕ) (f g : ℕ → ℕ) → sum (tabulate n (λ i. f i + g i)) ≡ sum (tabulate n f) + sum (tabulate n g)
unfolding sum tabulate
sum_add zero f g = omega arith
sum_add (suc n) f g = omega (arith, sum_add n (λ i. f (suc i)) (λ i. g (suc i)))

pub sum_zero : (n : ℕ) → sum (tabulate n (λ i. 0)) ≡ 0
unfolding sum tabulate
sum_zero zero = refl
sum_zero (suc n) = omega (arith, sum_zero n)
