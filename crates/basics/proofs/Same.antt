-- The test `same_numbers` holds exactly if the two lists are equal.
-- Assumes nothing.
use mathlib.Core.Path.{◌≡◌, refl}
use mathlib.Core.Bool.{true}
use mathlib.Core.List.{List, [], ◌∷◌}
use Prim.Native.Nat.{ℕ}
use native.Mathlib.Omega.{arith}
use lib.Dec.{eqb}
use borrow.Author.Tests.{eqb-true, eq-eqb}
use Rattle.basics.specs.Lists.{same_numbers}
use Rattle.basics.proofs.Flags.{and_first, and_second, and_both}

pub same_refl : (xs : List ℕ) → same_numbers xs xs ≡ true
unfolding same_numbers
same_refl [] = refl
same_refl (x ∷ xs) = and_both (eqb x x) (same_numbers xs xs) (eq-eqb x x refl) (same_refl xs)

pub same_true : (xs ys : List ℕ) → same_numbers xs ys ≡ true → xs ≡ ys
unfolding same_numbers
same_true [] [] e = refl
same_true [] (y ∷ ys) e = let z : ◌≡◌ {A = ℕ} 0 1 = cc in absurd (omega arith)
same_true (x ∷ xs) [] e = let z : ◌≡◌ {A = ℕ} 0 1 = cc in absurd (omega arith)
same_true (x ∷ xs) (y ∷ ys) e =
    cc (
      eqb-true x y (and_first (eqb x y) (same_numbers xs ys) e),
      same_true xs ys (and_second (eqb x y) (same_numbers xs ys) e),
    )
