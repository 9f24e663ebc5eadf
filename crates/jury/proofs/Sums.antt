-- Sums of tables of numbers.
-- Assumes nothing.
use mathlib.Core.Path.{◌≡◌, ◌∙◌, refl, ap}
use mathlib.Core.Bool.{Bool, true, false, cond}
use mathlib.Core.List.{List, [], ◌∷◌}
use Prim.Native.Nat.{ℕ, zero, suc, ◌+◌}
use native.Mathlib.Omega.{arith}
use lib.Dec.{eqb}
use lib.ListN.{get_or, take}
use lib.Seq.{take-nil}
use Rattle.jury.specs.Ballots.{ones}
use Rattle.basics.specs.Lists.{sum, tabulate}

-- the 0 or 1 that a byte adds to a count
unfoldable pub addend : ℕ → ℕ
addend x = cond (eqb x 1) 1 0

-- the first d bytes add as many as there are ones among them
pub sum_ones : (d : ℕ) (xs : List ℕ) → sum (tabulate d (λ g. addend (get_or xs g 0))) ≡ ones (take d xs)
unfolding sum tabulate ones addend
sum_ones zero xs = refl
sum_ones (suc d) [] = omega (arith, sum_ones d [] ∙ ap ones (take-nil d))
sum_ones (suc d) (x ∷ xs) = first (eqb x 1) (sum (tabulate d (λ g. addend (get_or xs g 0)))) (ones (take d xs)) (sum_ones d xs)
  where
    first : (t : Bool) (m n : ℕ) → m ≡ n → cond t 1 0 + m ≡ cond t (suc n) n
    first true m n e = omega arith
    first false m n e = omega arith
