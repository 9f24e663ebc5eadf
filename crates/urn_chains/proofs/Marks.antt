-- Marks: which numbers were met, and how many of them.
-- Assumes nothing.
use mathlib.Core.Path.{◌≡◌, ◌∙◌, refl, sym, ap}
use mathlib.Core.Logic.{◌⊎◌, inl, inr, ⊎_elim}
use mathlib.Core.Bool.{Bool, true, false, not, ◌&&◌, ◌||◌, and_assoc, and-false, or-false}
use mathlib.Core.List.{List, [], ◌∷◌, ◌++◌}
use Prim.Native.Nat.{ℕ, zero, suc, ◌+◌, ◌-◌, ◌≤◌, ◌<◌}
use native.Mathlib.Omega.{arith}
use lib.Dec.{eqb, ltb}
use lib.ListN.{length, get_or, set, replicate, length-set, length-replicate, get_or-replicate, get_or-eq_default}
use lib.Seq.{get_or-set_same, get_or-set_other}
use borrow.Author.Tests.{eqb-true, eq-eqb, ne_eqb, ltb-true, not-true}
use Rattle.basics.specs.Lists.{tabulate}
use Rattle.basics.proofs.Cases.{same_or_not, below_or_not}
use Rattle.basics.proofs.Flags.{and_first, and_second, or_either, or_first, or_second, never_true}
use Rattle.basics.specs.Lists.{all, member, distinct}
use Rattle.urn_chains.specs.Sound.{in_urn}
use Rattle.urn_chains.specs.inner.Walk.{no_marks, mark_all, fresh}
use Rattle.urn_chains.proofs.Lists.{all_first, all_rest, all_weaken, all_member, all_tabulate, tabulate_all}

pub fresh_append : (xs ys : List ℕ) (m : List Bool) → fresh (xs ++ ys) m ≡ (fresh xs m && fresh ys (mark_all xs m))
unfolding fresh mark_all
fresh_append [] ys m = refl
fresh_append (x ∷ xs) ys m = ap (λ (t : Bool). not (get_or m x false) && t) (fresh_append xs ys (set m x true))
    ∙ sym (and_assoc (not (get_or m x false)) (fresh xs (set m x true)) (fresh ys (mark_all xs (set m x true))))

pub mark_length : (is : List ℕ) (m : List Bool) → length (mark_all is m) ≡ length m
unfolding mark_all
mark_length [] m = refl
mark_length (i ∷ is) m = mark_length is (set m i true) ∙ length-set m i true

-- marking sets the marks of these numbers, and no others
set_mark : (m : List Bool) (x i : ℕ) → x < length m → get_or (set m x true) i false ≡ (eqb i x || get_or m i false)
set_mark m x i h =
    ⊎_elim
    (λ e. ap (λ (j : ℕ). get_or (set m x true) j false) e ∙ get_or-set_same m x true false h
    ∙ ap (λ (t : Bool). t || get_or m i false) (sym (eq-eqb i x e)))
    (λ e. get_or-set_other m x i true false e ∙ ap (λ (t : Bool). t || get_or m i false) (sym (ne_eqb i x e))) (same_or_not i x)

pub marked_is : (is : List ℕ) (m : List Bool) (i : ℕ) → all (λ x. ltb x (length m)) is ≡ true
    → get_or (mark_all is m) i false ≡ (member i is || get_or m i false)
unfolding mark_all member
marked_is [] m i h = refl
marked_is (x ∷ is) m i h =
    let l = ltb-true x (length m) (all_first (λ y. ltb y (length m)) x is h) in
    marked_is is (set m x true) i (all_weaken (λ y. ltb y (length m)) (λ y. ltb y (length (set m x true))) is
    (λ y e. ap (ltb y) (length-set m x true) ∙ e) (all_rest (λ y. ltb y (length m)) x is h))
    ∙ ap (λ (t : Bool). member i is || t) (set_mark m x i l)
    ∙ swap (member i is) (eqb i x) (get_or m i false)
  where
    swap : (a b c : Bool) → (a || (b || c)) ≡ (b || a || c)
    swap false false c = refl
    swap false true c = refl
    swap true false c = refl
    swap true true c = refl

pub true_or_false : (t : Bool) → (t ≡ true) ⊎ (t ≡ false)
true_or_false true = inl refl
true_or_false false = inr refl

wider : (js : List ℕ) (m : List Bool) (x : ℕ) → all (λ y. ltb y (length m)) js ≡ true → all (λ y. ltb y (length (set m x true))) js ≡ true
wider js m x e = all_weaken (λ y. ltb y (length m)) (λ y. ltb y (length (set m x true))) js (λ y q. ap (ltb y) (length-set m x true) ∙ q) e

-- numbers of which one is already marked are not fresh
met_not_fresh : (is : List ℕ) (m : List Bool) (x : ℕ) → all (λ y. ltb y (length m)) is ≡ true → member x is ≡ true
    → get_or m x false ≡ true → fresh is m ≡ false
unfolding fresh member
met_not_fresh [] m x h e g = let z : ◌≡◌ {A = ℕ} 0 1 = cc in absurd (omega arith)
met_not_fresh (y ∷ is) m x h e g =
    ⊎_elim
    (λ k. ap (λ (t : Bool). not t && fresh is (set m y true)) (ap (λ (j : ℕ). get_or m j false) (sym (eqb-true x y k)) ∙ g))
    (λ k. ap (λ (t : Bool). not (get_or m y false) && t)
    (met_not_fresh is (set m y true) x (wider is m y (all_rest (λ z. ltb z (length m)) y is h)) k
    (set_mark m y x (ltb-true y (length m) (all_first (λ z. ltb z (length m)) y is h)) ∙ or_second (eqb x y) (get_or m x false) g))
    ∙ and-false (not (get_or m y false)))
    (or_either (eqb x y) (member x is) e)

-- fresh numbers are unmarked and without repetition
pub fresh_is : (is : List ℕ) (m : List Bool) → all (λ x. ltb x (length m)) is ≡ true
    → ((i : ℕ) → member i is ≡ true → get_or m i false ≡ false) → fresh is m ≡ distinct is
unfolding fresh distinct member
fresh_is [] m h f = refl
fresh_is (x ∷ is) m h f =
    ⊎_elim
    (λ k. ap (λ (t : Bool). not t && fresh is (set m x true)) (f x (or_first (eqb x x) (member x is) (eq-eqb x x refl)))
    ∙ met_not_fresh is (set m x true) x r k (get_or-set_same m x true false l)
    ∙ sym (ap (λ (t : Bool). not t && distinct is) k))
    (λ k. ap (λ (t : Bool). not t && fresh is (set m x true)) (f x (or_first (eqb x x) (member x is) (eq-eqb x x refl)))
    ∙ fresh_is is (set m x true) r
    (λ i e. set_mark m x i l ∙ ap (λ (t : Bool). t || get_or m i false)
    (ne_eqb i x (λ q. let z : ◌≡◌ {A = Bool} true false = sym (ap (λ (j : ℕ). member j is) (sym q) ∙ e) ∙ k in
    let w : ◌≡◌ {A = ℕ} 0 1 = cc in omega arith)) ∙ f i (or_second (eqb i x) (member i is) e))
    ∙ sym (ap (λ (t : Bool). not t && distinct is) k))
    (true_or_false (member x is))
  where
    l : x < length m
    l = ltb-true x (length m) (all_first (λ y. ltb y (length m)) x is h)

    r : all (λ y. ltb y (length (set m x true))) is ≡ true
    r = wider is m x (all_rest (λ y. ltb y (length m)) x is h)

none_marked : (n i : ℕ) → get_or (replicate n false) i false ≡ false
none_marked n i = ⊎_elim (λ l. get_or-replicate n i false false l)
    (λ l. get_or-eq_default (replicate n false) false {n = i} (omega (arith, length-replicate n false)))
    (below_or_not i n)

pub fresh_no_marks : (is : List ℕ) → all (λ x. ltb x 256) is ≡ true → fresh is no_marks ≡ distinct is
unfolding no_marks
fresh_no_marks is h = fresh_is is (replicate 256 false) h (λ i e. none_marked 256 i)

-- How many marks are set.
pub trues : List Bool → ℕ
trues [] = 0
trues (true ∷ m) = suc (trues m)
trues (false ∷ m) = trues m

trues_set : (m : List Bool) (i : ℕ) → i < length m → get_or m i false ≡ false → trues (set m i true) ≡ suc (trues m)
unfolding trues
trues_set [] i h e = absurd (omega arith)
trues_set (true ∷ m) zero h e = let z : ◌≡◌ {A = ℕ} 0 1 = cc in absurd (omega arith)
trues_set (false ∷ m) zero h e = refl
trues_set (true ∷ m) (suc i) h e = ap suc (trues_set m i (omega arith) e)
trues_set (false ∷ m) (suc i) h e = trues_set m i (omega arith) e

trues_none : (n : ℕ) → trues (replicate n false) ≡ 0
unfolding trues
trues_none zero = refl
trues_none (suc n) = trues_none n

pub trues_most : (m : List Bool) → trues m ≤ length m
unfolding trues
trues_most [] = omega arith
trues_most (true ∷ m) = let l = trues_most m in omega arith
trues_most (false ∷ m) = let l = trues_most m in omega arith

trues_all : (m : List Bool) → ((i : ℕ) → i < length m → get_or m i false ≡ true) → trues m ≡ length m
unfolding trues
trues_all [] f = refl
trues_all (true ∷ m) f = ap suc (trues_all m (λ i l. f (suc i) (omega arith)))
trues_all (false ∷ m) f = let e = f 0 (omega arith) in let z : ◌≡◌ {A = ℕ} 0 1 = cc in absurd (omega arith)

all_trues : (m : List Bool) → trues m ≡ length m → (i : ℕ) → i < length m → get_or m i false ≡ true
unfolding trues
all_trues [] e i l = absurd (omega arith)
all_trues (true ∷ m) e zero l = refl
all_trues (true ∷ m) e (suc i) l = all_trues m (omega arith) i (omega arith)
all_trues (false ∷ m) e i l = absurd (omega (arith, trues_most m))

-- without repetition, as many marks are set as there are numbers
trues_marked : (is : List ℕ) (m : List Bool) → all (λ x. ltb x (length m)) is ≡ true → fresh is m ≡ true
    → trues (mark_all is m) ≡ length is + trues m
unfolding mark_all fresh
trues_marked [] m h f = omega arith
trues_marked (x ∷ is) m h f =
    let l = ltb-true x (length m) (all_first (λ y. ltb y (length m)) x is h) in
    let e = trues_marked is (set m x true) (wider is m x (all_rest (λ y. ltb y (length m)) x is h))
    (and_second (not (get_or m x false)) (fresh is (set m x true)) f) in
    omega (arith, trues_set m x l (not-true (get_or m x false) (and_first (not (get_or m x false)) (fresh is (set m x true)) f)))

-- if the first mark is not set, not all marks are set
first_missing : (m : List Bool) → 0 < length m → get_or m 0 false ≡ false → trues m < length m
unfolding trues
first_missing [] h e = absurd (omega arith)
first_missing (true ∷ m) h e = let z : ◌≡◌ {A = ℕ} 0 1 = cc in absurd (omega arith)
first_missing (false ∷ m) h e = let l = trues_most m in omega arith

others_set : (m : List Bool) → 0 < length m → get_or m 0 false ≡ false
    → ((i : ℕ) → suc i < length m → get_or m (suc i) false ≡ true) → suc (trues m) ≡ length m
unfolding trues
others_set [] h e f = absurd (omega arith)
others_set (true ∷ m) h e f = let z : ◌≡◌ {A = ℕ} 0 1 = cc in absurd (omega arith)
others_set (false ∷ m) h e f = ap suc (trues_all m (λ i l. f i (omega arith)))

set_others : (m : List Bool) → 0 < length m → get_or m 0 false ≡ false → suc (trues m) ≡ length m → (i : ℕ) → suc i
    < length m → get_or m (suc i) false ≡ true
unfolding trues
set_others [] h e q i l = absurd (omega arith)
set_others (true ∷ m) h e q i l = let z : ◌≡◌ {A = ℕ} 0 1 = cc in absurd (omega arith)
set_others (false ∷ m) h e q i l = all_trues m (omega arith) i (omega arith)

-- Numbers from 1 to n − 1 without repetition: there are at most n − 1 of them, and exactly n − 1 if none is
-- missing.
module _ (n : ℕ) (is : List ℕ) (p : 0 < n) (inside : all (in_urn n) is ≡ true) (once : distinct is ≡ true) where
  below : all (λ x. ltb x (length (replicate n false))) is ≡ true
  unfolding in_urn
  below = all_weaken (in_urn n) (λ x. ltb x (length (replicate n false))) is
      (λ x e. ap (ltb x) (length-replicate n false) ∙ and_second (ltb 0 x) (ltb x n) e) inside

  set_marks : trues (mark_all is (replicate n false)) ≡ length is
  set_marks =
      let e = trues_marked is (replicate n false) below (fresh_is is (replicate n false) below (λ i h. none_marked n i) ∙ once) in
      omega (arith, trues_none n)

  size : length (mark_all is (replicate n false)) ≡ n
  size = mark_length is (replicate n false) ∙ length-replicate n false

  mark_at : (i : ℕ) → get_or (mark_all is (replicate n false)) i false ≡ member i is
  mark_at i = marked_is is (replicate n false) i below ∙ ap (λ (t : Bool). member i is || t) (none_marked n i) ∙ or-false (member i is)

  first_unmarked : get_or (mark_all is (replicate n false)) 0 false ≡ false
  unfolding in_urn
  first_unmarked = mark_at 0 ∙ never_true (member 0 is)
      (λ e. let h = ltb-true 0 0 (and_first (ltb 0 0) (ltb 0 n) (all_member (in_urn n) 0 is inside e)) in omega arith)

  pub once_most : length is ≤ n - 1
  once_most = let h = first_missing (mark_all is (replicate n false)) (omega (arith, size)) first_unmarked in omega (arith, size, set_marks)

  pub once_all : all (λ i. member i is) (tabulate (n - 1) suc) ≡ true → length is ≡ n - 1
  once_all e =
      let h = others_set (mark_all is (replicate n false)) (omega (arith, size)) first_unmarked
      (λ i l. mark_at (suc i) ∙ tabulate_all (λ j. member j is) (n - 1) suc e i (omega (arith, size))) in
      omega (arith, size, set_marks)

  pub all_once : length is ≡ n - 1 → all (λ i. member i is) (tabulate (n - 1) suc) ≡ true
  all_once e =
      all_tabulate (λ j. member j is) (n - 1) suc
      (λ i l. sym (mark_at (suc i)) ∙ set_others (mark_all is (replicate n false)) (omega (arith, size))
      first_unmarked (omega (arith, size, set_marks)) i (omega (arith, size)))
