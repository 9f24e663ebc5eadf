-- `rule_judgment::rule::same_counts` meets its contract: `==` of two rows is the test of the definition.
-- Assumes nothing.
use mathlib.Core.Path.{◌≡◌, ◌∙◌, refl, ap}
use mathlib.Core.Bool.{Bool, ◌&&◌}
use mathlib.Core.List.{List, [], ◌∷◌}
use Prim.Native.Nat.{ℕ}
use native.Mathlib.Omega.{arith}
use lib.Dec.{eqb}
use lib.Pointwise.{pointwise}
use lib.Seq.{length-take-le}
use Rattle.basics.specs.Lists.{same_numbers}
use Rattle.rule_judgment.proofs.rule.same_counts.Goals as goal

equal_is_same : (xs ys : List ℕ) → pointwise eqb xs ys ≡ same_numbers xs ys
unfolding same_numbers
equal_is_same [] [] = refl
equal_is_same [] (y ∷ ys) = refl
equal_is_same (x ∷ xs) [] = refl
equal_is_same (x ∷ xs) (y ∷ ys) = ap (λ (t : Bool). eqb x y && t) (equal_is_same xs ys)

pub returns : goal.returns
returns c = let p = c.requires in
    record {
      answer = c.eq.ensures ∙ equal_is_same _ _;
      first_length = length-take-le c.args.shape.grades _ (omega (arith, p.few_grades, p.first_columns));
      second_length = length-take-le c.args.shape.grades _ (omega (arith, p.few_grades, p.second_columns));
    }
