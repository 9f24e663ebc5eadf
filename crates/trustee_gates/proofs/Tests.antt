-- Tests of all numbers below a limit.
-- Assumes nothing.
use mathlib.Core.Path.{◌≡◌, ◌∙◌, refl, sym}
use mathlib.Core.Bool.{Bool, true, false, ◌&&◌, and-false}
use Prim.Native.Nat.{ℕ, zero, suc, ◌<◌}
use native.Mathlib.Omega.{arith}
use lib.Dec.{eqb}
use borrow.Author.Tests.{eqb-true, eqb-false}
use lib.ListN.{length, get_or}
use mathlib.Core.List.{List}
use Rattle.std.specs.Bool.{MatchBool}
use Rattle.std.specs.List.{AllWithin, HoldsAt}
use Rattle.basics.specs.Below.{all_below}

module _ (f : ℕ → Bool) where
  pub all_none : true ≡ all_below 0 f
  unfolding all_below
  all_none = refl

  pub all_more : (n : ℕ) → true ≡ all_below n f → f n ≡ true → true ≡ all_below (suc n) f
  unfolding all_below
  all_more n e h = rw (sym e, h)

  pub not_all : (n i : ℕ) → i < n → f i ≡ false → false ≡ all_below n f
  unfolding all_below
  not_all zero i h e = absurd (omega arith)
  not_all (suc n) i h e = go (eqb i n) refl (λ l. not_all n i l e)
    where
      go : (b : Bool) → eqb i n ≡ b → (i < n → false ≡ all_below n f) → false ≡ (all_below n f && f n)
      go true is rest = let s : n ≡ i = sym (eqb-true i n is) in rw (s, e) (sym (and-false (all_below i f)))
      go false is rest = let n = eqb-false i n is in rw (sym (rest (omega arith))) refl

  -- the test of all numbers passes exactly if that of each does
  pub each_passes : (n : ℕ) → all_below n f ≡ true → (i : ℕ) → i < n → f i ≡ true
  each_passes n e i h = go (f i) refl
    where
      go : (b : Bool) → f i ≡ b → f i ≡ true
      go true is = is
      go false is = let z : false ≡ true = not_all n i h is ∙ e in let y : ◌≡◌ {A = ℕ} 0 1 = cc in absurd (omega arith)

  pub all_pass : (n : ℕ) → ((i : ℕ) → i < n → f i ≡ true) → true ≡ all_below n f
  all_pass zero e = all_none
  all_pass (suc n) e = all_more n (all_pass n (λ (i : ℕ) h. e i (omega arith))) (e n (omega arith))

-- what `all` answers over a list of numbers, as a test of all places
pub all_of_list : (f : ℕ → Bool) (xs : List ℕ) (r : Bool)
    → MatchBool r (AllWithin (λ x. f x ≡ true) xs 0 (length xs)) ((k : ℕ) × (k < length xs) × HoldsAt (λ x. f x ≡ false) xs k)
    → r ≡ all_below (length xs) (λ i. f (get_or xs i 0))
all_of_list f xs true h = all_pass (λ i. f (get_or xs i 0)) (length xs) (λ (i : ℕ) l. h i 0 (omega arith) l)
all_of_list f xs false (k, inside, fails) = not_all (λ i. f (get_or xs i 0)) (length xs) k inside (fails 0)
