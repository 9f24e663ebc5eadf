-- Bytes that are all 0.
-- Assumes nothing.
use mathlib.Core.Path.{◌≡◌, ◌∙◌, refl, sym, ap}
use mathlib.Core.Bool.{Bool, true, false, cond, not, ◌&&◌}
use mathlib.Core.List.{List, [], ◌∷◌}
use Prim.Native.Nat.{ℕ, zero, suc, ◌+◌}
use native.Mathlib.Nat.{add-zero}
use native.Mathlib.Omega.{arith}
use lib.Dec.{eqb}
use lib.ListN.{length, replicate}
use borrow.Author.Tests.{ne_eqb, eqb-true}
use Rattle.std.specs.Prelude.{fold, count_by}
use Rattle.basics.proofs.Flags.{and_first, and_second, and_second_fails}
use Rattle.basics.specs.Lists.{all}
use Rattle.urn_chains.specs.Sound.{all_zero}

and_true : (t : Bool) → t ≡ (t && true)
and_true true = refl
and_true false = refl

-- all bytes are 0 exactly if none of another value is counted; n were counted before
others : (n : ℕ) (xs : List ℕ) → eqb (fold (λ a x. a + cond (not (eqb x 0)) 1 0) n xs) 0 ≡ (eqb n 0 && all_zero xs)
unfolding all all_zero
others n [] = and_true (eqb n 0)
others n (x ∷ xs) = by (eqb x 0) (λ m. others m xs)
  where
    by : (t : Bool) → ((m : ℕ) → eqb (fold (λ a x. a + cond (not (eqb x 0)) 1 0) m xs) 0 ≡ (eqb m 0 && all_zero xs))
        → eqb (fold (λ a x. a + cond (not (eqb x 0)) 1 0) (n + cond (not t) 1 0) xs) 0 ≡ (eqb n 0 && (t && all_zero xs))
    by true ih = ih (n + 0) ∙ ap (λ (m : ℕ). eqb m 0 && all_zero xs) (add-zero n)
    by false ih = ih (n + 1)
        ∙ ap (λ (u : Bool). u && all_zero xs) (ne_eqb (n + 1) 0 (λ e. omega arith)) ∙ sym (and_second_fails (eqb n 0) false refl)

pub none_other : (xs : List ℕ) → eqb (count_by (λ x. not (eqb x 0)) xs) 0 ≡ all_zero xs
none_other xs = others 0 xs

-- `all_zero` holds exactly for lists of zeros
pub zeros_zero : (n : ℕ) → all_zero (replicate n 0) ≡ true
unfolding all all_zero
zeros_zero zero = refl
zeros_zero (suc n) = zeros_zero n

pub zero_zeros : (xs : List ℕ) → all_zero xs ≡ true → xs ≡ replicate (length xs) 0
unfolding all all_zero
zero_zeros [] e = refl
zero_zeros (x ∷ xs) e =
    ap (λ (ys : List ℕ). x ∷ ys) (zero_zeros xs (and_second (eqb x 0) (all_zero xs) e))
    ∙ ap (λ (y : ℕ). y ∷ replicate (length xs) 0) (eqb-true x 0 (and_first (eqb x 0) (all_zero xs) e))
