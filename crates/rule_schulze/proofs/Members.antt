-- Members of the lists that the rule makes: a list without one candidate, a table, all selections; and the largest of
-- a list.
-- Assumes nothing.
use mathlib.Core.Path.{◌≡◌, ◌∙◌, refl, sym, ap}
use mathlib.Core.Bool.{Bool, true, false, cond}
use mathlib.Core.Logic.{◌⊎◌, inl, inr, ⊎_elim, ◌≢◌}
use mathlib.Core.List.Memᴰ
use mathlib.Core.List.{List, [], ◌∷◌, map, flat_map, Memᴰ}
use Prim.Native.Nat.{ℕ, zero, suc, max, ◌≤◌, ◌<◌}
use native.Mathlib.Nat.{max-eq_left, max-eq_right}
use native.Mathlib.Omega.{arith}
use lib.Dec.{eqb}
use lib.ListN.{length}
use borrow.Author.Tests.{eqb-true, eqb-false}
use Rattle.basics.specs.Lists.{tabulate, maximum}
use Rattle.basics.proofs.Cases.{same_or_not, below_or_not}
use Rattle.rule_schulze.specs.Schulze.{all_candidates, without, selections}
use Rattle.rule_schulze.specs.Winner.{On, Distinct}

pub on_or_not : (x : ℕ) (xs : List ℕ) → On x xs ⊎ (¬ On x xs)
on_or_not x [] = inr Memᴰ.not-nil
on_or_not x (y ∷ ys) = here (same_or_not x y) (on_or_not x ys)
  where
    here : (x ≡ y) ⊎ (x ≢ y) → On x ys ⊎ (¬ On x ys) → On x (y ∷ ys) ⊎ (¬ On x (y ∷ ys))
    here (inl e) later = inl (Memᴰ.head e)
    here (inr n) (inl m) = inl (Memᴰ.tail m)
    here (inr n) (inr never) = inr (λ m. ⊎_elim n never (Memᴰ.cases_cons m))

module _ {A B : Type 0} (f : A → B) where
  pub in_map : {a : A} {l : List A} → Memᴰ a l → Memᴰ (f a) (map f l)
  in_map (Memᴰ.head e) = Memᴰ.head (ap f e)
  in_map (Memᴰ.tail m) = Memᴰ.tail (in_map m)

  pub of_map : {b : B} (l : List A) → Memᴰ b (map f l) → (a : A) × Memᴰ a l × (b ≡ f a)
  of_map [] m = absurd (Memᴰ.not-nil m)
  of_map {b} (x ∷ l) m = ⊎_elim (λ e. (x, Memᴰ.head refl, e))
      (λ n. let r = of_map l n in (r.0, Memᴰ.tail r.1, r.2)) (Memᴰ.cases_cons m)

module _ {A B : Type 0} (f : A → List B) where
  pub in_flat : {a : A} {b : B} (l : List A) → Memᴰ a l → Memᴰ b (f a) → Memᴰ b (flat_map f l)
  unfolding flat_map
  in_flat [] m h = absurd (Memᴰ.not-nil m)
  in_flat {a} {b} (x ∷ l) m h = ⊎_elim (λ e. Memᴰ.append_left (flat_map f l) (rw e at h))
      (λ n. Memᴰ.append_right (f x) (in_flat l n h)) (Memᴰ.cases_cons m)

  pub of_flat : {b : B} (l : List A) → Memᴰ b (flat_map f l) → (a : A) × Memᴰ a l × Memᴰ b (f a)
  unfolding flat_map
  of_flat [] m = absurd (Memᴰ.not-nil m)
  of_flat {b} (x ∷ l) m = ⊎_elim (λ h. (x, Memᴰ.head refl, h))
      (λ n. let r = of_flat l n in (r.0, Memᴰ.tail r.1, r.2)) (Memᴰ.append_cases (f x) m)

-- a list without x has all its other members
pub in_without : {y : ℕ} (x : ℕ) (xs : List ℕ) → On y xs → y ≢ x → On y (without x xs)
unfolding without
in_without x [] m n = absurd (Memᴰ.not-nil m)
in_without {y} x (z ∷ zs) m n = here (eqb x z) refl (λ h. in_without x zs h n)
  where
    here : (t : Bool) → eqb x z ≡ t → (On y zs → On y (without x zs)) → On y (cond t (without x zs) (z ∷ without x zs))
    here true e later = ⊎_elim (λ h. absurd (n (h ∙ sym (eqb-true x z e)))) later (Memᴰ.cases_cons m)
    here false e later = ⊎_elim (λ h. Memᴰ.head h) (λ h. Memᴰ.tail (later h)) (Memᴰ.cases_cons m)

pub of_without : {y : ℕ} (x : ℕ) (xs : List ℕ) → On y (without x xs) → On y xs × (y ≢ x)
unfolding without
of_without x [] m = absurd (Memᴰ.not-nil m)
of_without {y} x (z ∷ zs) m = here (eqb x z) refl (λ h. let r = of_without x zs h in (Memᴰ.tail r.0, r.1)) m
  where
    here : (t : Bool) → eqb x z ≡ t → (On y (without x zs) → On y (z ∷ zs) × (y ≢ x))
        → On y (cond t (without x zs) (z ∷ without x zs)) → On y (z ∷ zs) × (y ≢ x)
    here true e later h = later h
    here false e later h = ⊎_elim (λ s. (Memᴰ.head s, λ d. eqb-false x z e (sym d ∙ s))) later (Memᴰ.cases_cons h)

-- a list without x is no longer than before, and shorter if x was in it
pub without_most : (x : ℕ) (xs : List ℕ) → length (without x xs) ≤ length xs
unfolding without
without_most x [] = omega arith
without_most x (z ∷ zs) = here (eqb x z) (without_most x zs)
  where
    here : (t : Bool) → length (without x zs) ≤ length zs → length (cond t (without x zs) (z ∷ without x zs)) ≤ suc (length zs)
    here true l = omega arith
    here false l = omega arith

pub without_less : (x : ℕ) (xs : List ℕ) → On x xs → length (without x xs) < length xs
unfolding without
without_less x [] m = absurd (Memᴰ.not-nil m)
without_less x (z ∷ zs) m = here (eqb x z) refl (without_less x zs)
  where
    here : (t : Bool) → eqb x z ≡ t → (On x zs → length (without x zs) < length zs)
        → length (cond t (without x zs) (z ∷ without x zs)) < suc (length zs)
    here true e later = omega (arith, without_most x zs)
    here false e later = ⊎_elim (λ s. absurd (eqb-false x z e s)) (λ h. let l = later h in omega arith) (Memᴰ.cases_cons m)

-- the members of a table are its function's values
pub in_table : (n : ℕ) (f : ℕ → ℕ) (i : ℕ) → i < n → On (f i) (tabulate n f)
unfolding tabulate
in_table zero f i h = absurd (omega arith)
in_table (suc n) f zero h = Memᴰ.head refl
in_table (suc n) f (suc i) h = Memᴰ.tail (in_table n (λ j. f (suc j)) i (omega arith))

pub of_table : {y : ℕ} (n : ℕ) (f : ℕ → ℕ) → On y (tabulate n f) → (i : ℕ) × (i < n) × (y ≡ f i)
unfolding tabulate
of_table zero f m = absurd (Memᴰ.not-nil m)
of_table {y = y} (suc n) f m =
    ⊎_elim (λ e. (0, omega arith, e))
    (λ h. let r : (i : ℕ) × (i < n) × (y ≡ f (suc i)) = of_table {y = y} n (λ j. f (suc j)) h in (suc r.0, omega (arith, r.1), r.2))
    (Memᴰ.cases_cons m)

pub in_candidates : (k x : ℕ) → x < k → On x (all_candidates k)
unfolding all_candidates
in_candidates k x h = in_table k (λ i. i) x h

pub of_candidates : {x : ℕ} (k : ℕ) → On x (all_candidates k) → x < k
unfolding all_candidates
of_candidates k m = let r = of_table k (λ i. i) m in omega (arith, r.1, r.2)

-- a selection names some of the candidates, none of them twice
pub of_selections : {q : List ℕ} (most : ℕ) (free : List ℕ) → Memᴰ q (selections most free) → Distinct q
    × ((x : ℕ) → On x q → On x free)
unfolding selections
of_selections {q} zero free m = rw (Memᴰ.eq_of_singleton m) (tt, λ x h. absurd (Memᴰ.not-nil h))
of_selections {q} (suc most) free m =
    ⊎_elim nothing (λ h. some (λ l rest. of_selections {q = rest} most (without l free)) (of_flat longer free h))
    (Memᴰ.cases_cons m)
  where
    longer : ℕ → List (List ℕ)
    longer l = map (λ rest. l ∷ rest) (selections most (without l free))

    nothing : q ≡ [] → Distinct q × ((x : ℕ) → On x q → On x free)
    nothing e = rw e (tt, λ x h. absurd (Memᴰ.not-nil h))

    extended : (l : ℕ) (rest : List ℕ) → On l free → Distinct rest × ((x : ℕ) → On x rest → On x (without l free))
        → Distinct (l ∷ rest) × ((x : ℕ) → On x (l ∷ rest) → On x free)
    extended l rest m r = (
      (λ h. (of_without l free (r.1 l h)).1 refl, r.0),
      λ x h. ⊎_elim (λ e. Memᴰ.cast e m) (λ g. (of_without l free (r.1 x g)).0) (Memᴰ.cases_cons h),
    )

    some : ((l : ℕ) (rest : List ℕ) → Memᴰ rest (selections most (without l free)) → Distinct rest
        × ((x : ℕ) → On x rest → On x (without l free))) →
        (l : ℕ) × On l free × Memᴰ q (longer l) → Distinct q × ((x : ℕ) → On x q → On x free)
    some shorter (l, m, h) =
        let r = of_map (λ rest. l ∷ rest) (selections most (without l free)) h in
        rw r.2 (extended l r.0 m (shorter l r.0 r.1))

-- every list of some of the candidates, none of them twice, is a selection
pub in_selections : (most : ℕ) (free q : List ℕ) → length free ≤ most → Distinct q → ((x : ℕ) → On x q → On x free)
    → Memᴰ q (selections most free)
unfolding selections
in_selections zero free [] h d m = Memᴰ.head refl
in_selections zero free (l ∷ q) h d m = absurd (let s = without_less l free (m l (Memᴰ.head refl)) in omega arith)
in_selections (suc most) free [] h d m = Memᴰ.head refl
in_selections (suc most) free (l ∷ q) h d m =
    Memᴰ.tail
    (in_flat (λ l. map (λ rest. l ∷ rest) (selections most (without l free))) free (m l (Memᴰ.head refl))
    (in_map (λ rest. l ∷ rest)
    (in_selections most (without l free) q (let s = without_less l free (m l (Memᴰ.head refl)) in omega arith) d.1
    (λ x g. in_without l free (m x (Memᴰ.tail g)) (λ e. d.0 (Memᴰ.cast (sym e) g))))))

-- the largest of a list is a member, and no member is larger
pub maximum_largest : {x : ℕ} (xs : List ℕ) → On x xs → x ≤ maximum xs
unfolding maximum
maximum_largest [] m = absurd (Memᴰ.not-nil m)
maximum_largest {x} (y ∷ ys) m = ⊎_elim (λ e. omega arith) (λ h. let l = maximum_largest ys h in omega arith) (Memᴰ.cases_cons m)

maximum_one : (x : ℕ) (xs : List ℕ) → On (maximum (x ∷ xs)) (x ∷ xs)
unfolding maximum
maximum_one x [] = let e : max x 0 ≡ x = omega arith in Memᴰ.head e
maximum_one x (y ∷ ys) =
    ⊎_elim (λ (l : max y (maximum ys) < x). Memᴰ.head (max-eq_left (omega arith)))
    (λ l. Memᴰ.tail (Memᴰ.cast (max-eq_right l) (maximum_one y ys)))
    (below_or_not (max y (maximum ys)) x)

pub maximum_of : {x : ℕ} (xs : List ℕ) → On x xs → On (maximum xs) xs
maximum_of [] m = absurd (Memᴰ.not-nil m)
maximum_of (y ∷ ys) m = maximum_one y ys
