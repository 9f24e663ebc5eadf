-- Tests of all elements of a list, membership, and lists without repetition.
-- Assumes nothing.
use mathlib.Core.Path.{◌≡◌, ◌∙◌, refl, sym, ap}
use mathlib.Core.Logic.{⊎_elim}
use mathlib.Core.Bool.{Bool, true, false, not, ◌&&◌, ◌||◌, and_assoc, or_assoc}
use mathlib.Core.List.{List, [], ◌∷◌, ◌++◌, map}
use Prim.Native.Nat.{ℕ, zero, suc, ◌<◌}
use native.Mathlib.Omega.{arith}
use lib.Dec.{eqb}
use borrow.Author.Tests.{eqb-true, eq-eqb, not-true}
use Rattle.basics.specs.Lists.{tabulate}
use Rattle.basics.proofs.Flags.{and_first, and_second, and_both, or_either, or_first, or_second, never_true}
use Rattle.basics.specs.Lists.{all, member, distinct}

-- two tests that imply each other are equal
pub same : (t u : Bool) → (t ≡ true → u ≡ true) → (u ≡ true → t ≡ true) → t ≡ u
same true true f g = refl
same true false f g = sym (f refl)
same false true f g = g refl
same false false f g = refl

module _ {A : Type 0} (p : A → Bool) where
  pub all_first : (x : A) (xs : List A) → all p (x ∷ xs) ≡ true → p x ≡ true
  unfolding all
  all_first x xs e = and_first (p x) (all p xs) e

  pub all_rest : (x : A) (xs : List A) → all p (x ∷ xs) ≡ true → all p xs ≡ true
  unfolding all
  all_rest x xs e = and_second (p x) (all p xs) e

  pub all_cons : (x : A) (xs : List A) → p x ≡ true → all p xs ≡ true → all p (x ∷ xs) ≡ true
  unfolding all
  all_cons x xs h e = and_both (p x) (all p xs) h e

  pub all_append : (xs ys : List A) → all p (xs ++ ys) ≡ (all p xs && all p ys)
  unfolding all
  all_append [] ys = refl
  all_append (x ∷ xs) ys = ap (λ (t : Bool). p x && t) (all_append xs ys) ∙ sym (and_assoc (p x) (all p xs) (all p ys))

  pub all_move : (xs : List A) (y : A) (ys : List A) → all p (xs ++ (y ∷ ys)) ≡ all p (y ∷ (xs ++ ys))
  unfolding all
  all_move [] y ys = refl
  all_move (x ∷ xs) y ys = ap (λ (t : Bool). p x && t) (all_move xs y ys) ∙ swap (p x) (p y) (all p (xs ++ ys))
    where
      swap : (a b c : Bool) → (a && (b && c)) ≡ (b && (a && c))
      swap true b c = refl
      swap false true c = refl
      swap false false c = refl

pub all_map : {A B : Type 0} (p : B → Bool) (f : A → B) (xs : List A) → all p (map f xs) ≡ all (λ x. p (f x)) xs
unfolding all
all_map p f [] = refl
all_map p f (x ∷ xs) = ap (λ (t : Bool). p (f x) && t) (all_map p f xs)

pub all_weaken : {A : Type 0} (p q : A → Bool) (xs : List A) → ((x : A) → p x ≡ true → q x ≡ true) → all p xs ≡ true → all q xs ≡ true
unfolding all
all_weaken p q [] f e = refl
all_weaken p q (x ∷ xs) f e = and_both (q x) (all q xs) (f x (and_first (p x) (all p xs) e))
    (all_weaken p q xs f (and_second (p x) (all p xs) e))

pub all_both : {A : Type 0} (p q : A → Bool) (xs : List A) → all p xs ≡ true → all q xs ≡ true → all (λ x. p x && q x) xs ≡ true
unfolding all
all_both p q [] e f = refl
all_both p q (x ∷ xs) e f =
    and_both (p x && q x) (all (λ y. p y && q y) xs) (and_both (p x) (q x) (and_first (p x) (all p xs) e) (and_first (q x) (all q xs) f))
    (all_both p q xs (and_second (p x) (all p xs) e) (and_second (q x) (all q xs) f))

-- a test that passes for a list passes for each member
pub all_member : (p : ℕ → Bool) (i : ℕ) (is : List ℕ) → all p is ≡ true → member i is ≡ true → p i ≡ true
unfolding all member
all_member p i [] e m = let z : ◌≡◌ {A = ℕ} 0 1 = cc in absurd (omega arith)
all_member p i (x ∷ is) e m =
    ⊎_elim (λ h. ap p (eqb-true i x h) ∙ and_first (p x) (all p is) e)
    (λ h. all_member p i is (and_second (p x) (all p is) e) h) (or_either (eqb i x) (member i is) m)

-- a test that passes for each member passes for the list
pub member_all : (p : ℕ → Bool) (is : List ℕ) → ((i : ℕ) → member i is ≡ true → p i ≡ true) → all p is ≡ true
unfolding all member
member_all p [] f = refl
member_all p (x ∷ is) f =
    and_both (p x) (all p is) (f x (or_first (eqb x x) (member x is) (eq-eqb x x refl)))
    (member_all p is (λ i h. f i (or_second (eqb i x) (member i is) h)))

pub member_append : (i : ℕ) (xs ys : List ℕ) → member i (xs ++ ys) ≡ (member i xs || member i ys)
unfolding member
member_append i [] ys = refl
member_append i (x ∷ xs) ys = ap (λ (t : Bool). eqb i x || t) (member_append i xs ys) ∙ sym (or_assoc (eqb i x) (member i xs) (member i ys))

pub member_move : (i : ℕ) (xs : List ℕ) (y : ℕ) (ys : List ℕ) → member i (xs ++ (y ∷ ys)) ≡ member i (y ∷ (xs ++ ys))
unfolding member
member_move i [] y ys = refl
member_move i (x ∷ xs) y ys = ap (λ (t : Bool). eqb i x || t) (member_move i xs y ys) ∙ swap (eqb i x) (eqb i y) (member i (xs ++ ys))
  where
    swap : (a b c : Bool) → (a || (b || c)) ≡ (b || (a || c))
    swap false b c = refl
    swap true true c = refl
    swap true false c = refl

pub eqb_sym : (a b : ℕ) → eqb a b ≡ eqb b a
eqb_sym a b = same (eqb a b) (eqb b a) (λ e. eq-eqb b a (sym (eqb-true a b e))) (λ e. eq-eqb a b (sym (eqb-true b a e)))

pub distinct_move : (xs : List ℕ) (y : ℕ) (ys : List ℕ) → distinct (xs ++ (y ∷ ys)) ≡ distinct (y ∷ (xs ++ ys))
unfolding distinct member
distinct_move [] y ys = refl
distinct_move (x ∷ xs) y ys =
    ap (λ (t : Bool). not (member x (xs ++ (y ∷ ys))) && t) (distinct_move xs y ys)
    ∙ ap (λ (t : Bool). not t && (not (member y (xs ++ ys)) && distinct (xs ++ ys))) (member_move x xs y ys)
    ∙ swap (eqb x y) (member x (xs ++ ys)) (member y (xs ++ ys)) (distinct (xs ++ ys))
    ∙ ap (λ (t : Bool). not (t || member y (xs ++ ys)) && (not (member x (xs ++ ys)) && distinct (xs ++ ys))) (eqb_sym x y)
  where
    swap : (a b c r : Bool) → (not (a || b) && (not c && r)) ≡ (not (a || c) && (not b && r))
    swap true b c r = refl
    swap false true true r = refl
    swap false true false r = refl
    swap false false true r = refl
    swap false false false r = refl

pub distinct_rest : (x : ℕ) (xs : List ℕ) → distinct (x ∷ xs) ≡ true → distinct xs ≡ true
unfolding distinct
distinct_rest x xs e = and_second (not (member x xs)) (distinct xs) e

pub distinct_first : (x : ℕ) (xs : List ℕ) → distinct (x ∷ xs) ≡ true → member x xs ≡ false
unfolding distinct
distinct_first x xs e = not-true (member x xs) (and_first (not (member x xs)) (distinct xs) e)

pub distinct_cons : (x : ℕ) (xs : List ℕ) → member x xs ≡ false → distinct xs ≡ true → distinct (x ∷ xs) ≡ true
unfolding distinct
distinct_cons x xs e f = and_both (not (member x xs)) (distinct xs) (ap not e) f

-- if two lists have no repetition together, a member of one is not in the other
pub distinct_apart : (i : ℕ) (xs ys : List ℕ) → distinct (xs ++ ys) ≡ true → member i xs ≡ true → member i ys ≡ false
unfolding member
distinct_apart i [] ys e m = let z : ◌≡◌ {A = ℕ} 0 1 = cc in absurd (omega arith)
distinct_apart i (x ∷ xs) ys e m =
    ⊎_elim
    (λ h. never_true (member i ys)
    (λ k. let z : ◌≡◌ {A = Bool} true false = sym (member_append x xs ys
    ∙ or_second (member x xs) (member x ys) (ap (λ (j : ℕ). member j ys) (sym (eqb-true i x h)) ∙ k))
    ∙ distinct_first x (xs ++ ys) e in let w : ◌≡◌ {A = ℕ} 0 1 = cc in omega arith))
    (λ h. distinct_apart i xs ys (distinct_rest x (xs ++ ys) e) h) (or_either (eqb i x) (member i xs) m)

pub distinct_left : (xs ys : List ℕ) → distinct (xs ++ ys) ≡ true → distinct xs ≡ true
unfolding distinct
distinct_left [] ys e = refl
distinct_left (x ∷ xs) ys e =
    distinct_cons x xs (never_true (member x xs)
    (λ k. let z : ◌≡◌ {A = Bool} true false = sym (member_append x xs ys
    ∙ or_first (member x xs) (member x ys) k) ∙ distinct_first x (xs ++ ys) e in let w : ◌≡◌ {A = ℕ} 0 1 = cc in
    omega arith))
    (distinct_left xs ys (distinct_rest x (xs ++ ys) e))

pub distinct_right : (xs ys : List ℕ) → distinct (xs ++ ys) ≡ true → distinct ys ≡ true
distinct_right [] ys e = e
distinct_right (x ∷ xs) ys e = distinct_right xs ys (distinct_rest x (xs ++ ys) e)

-- a test that passes for all values of a function passes for their table
pub all_tabulate : {A : Type 0} (p : A → Bool) (n : ℕ) (f : ℕ → A) → ((i : ℕ) → i < n → p (f i) ≡ true) → all p (tabulate n f) ≡ true
unfolding all tabulate
all_tabulate p zero f h = refl
all_tabulate p (suc n) f h = and_both (p (f 0)) (all p (tabulate n (λ i. f (suc i)))) (h 0 (omega arith))
    (all_tabulate p n (λ i. f (suc i)) (λ i l. h (suc i) (omega arith)))

pub tabulate_all : {A : Type 0} (p : A → Bool) (n : ℕ) (f : ℕ → A) → all p (tabulate n f) ≡ true → (i : ℕ) → i < n → p (f i) ≡ true
unfolding all tabulate
tabulate_all p zero f e i l = absurd (omega arith)
tabulate_all p (suc n) f e zero l = and_first (p (f 0)) (all p (tabulate n (λ i. f (suc i)))) e
tabulate_all p (suc n) f e (suc i) l =
    tabulate_all p n (λ j. f (suc j)) (and_second (p (f 0)) (all p (tabulate n (λ j. f (suc j)))) e) i (omega arith)
