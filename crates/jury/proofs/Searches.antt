-- Searches in order, and tests of the numbers below m: the facts that loops over them need.
-- Assumes nothing.
use mathlib.Core.Path.{◌≡◌, ◌∙◌, refl, ap}
use mathlib.Core.Bool.{Bool, true, false, cond, not, ◌&&◌, ◌||◌}
use mathlib.Core.Logic.{⊎_elim}
use mathlib.Core.List.{List}
use Prim.Native.Nat.{ℕ, zero, suc, ◌+◌, ◌*◌, ◌≤◌, ◌<◌}
use native.Mathlib.Nat.{mul-le-mul}
use native.Mathlib.Numerals.{add-one}
use native.Mathlib.Omega.{arith}
use Rattle.std.specs.Prelude.{Option, Some, None}
use Rattle.jury.specs.Rankings.{rank_place, before, or_else, first_over, not_asymmetric_at, neither_after_nor_before, not_weak_order_after, not_weak_order, first_not_weak_order}
use Rattle.basics.specs.Below.{some_below}
use Rattle.basics.proofs.Cases.{below_or_not}
use Rattle.basics.proofs.Flags.{or_first, or_second}

-- no search has found anything yet
pub first_start : (found : ℕ → Option ℕ) → first_over 0 found ≡ None
unfolding first_over
first_start found = refl

-- if the searches below i and search i find nothing, those below i + 1 find nothing
pub first_later : (found : ℕ → Option ℕ) (i : ℕ) → first_over i found ≡ None → found i ≡ None → first_over (i + 1) found ≡ None
unfolding first_over or_else
first_later found i none here = ap (λ (m : ℕ). first_over m found) (add-one i) ∙ ap (λ (r : Option ℕ). or_else r (found i)) none ∙ here

-- the first search that finds a place decides
pub first_here : (found : ℕ → Option ℕ) (m i place : ℕ) → i < m → first_over i found ≡ None → found i ≡ Some place
    → first_over m found ≡ Some place
unfolding first_over or_else
first_here found zero i place h none here = absurd (omega arith)
first_here found (suc m) i place h none here =
    ⊎_elim (λ l. ap (λ (r : Option ℕ). or_else r (found m)) (first_here found m i place l none here))
    (λ l. let e : m ≡ i = omega arith in rw e (ap (λ (r : Option ℕ). or_else r (found i)) none ∙ here)) (below_or_not i m)

-- the whole search finds nothing exactly if no single search finds anything
pub first_none : (found : ℕ → Option ℕ) (m : ℕ) → ((i : ℕ) → i < m → found i ≡ None) → first_over m found ≡ None
unfolding first_over or_else
first_none found zero h = refl
first_none found (suc m) h = ap (λ (r : Option ℕ). or_else r (found m)) (first_none found m (λ i l. h i (omega arith))) ∙ h m (omega arith)

or_else_first : (p q : Option ℕ) → or_else p q ≡ None → p ≡ None
unfolding or_else
or_else_first (Some place) q e = e
or_else_first None q e = refl

or_else_second : (p q : Option ℕ) → or_else p q ≡ None → q ≡ None
unfolding or_else
or_else_second (Some place) q e = let z : ◌≡◌ {A = ℕ} 0 1 = cc in absurd (omega arith)
or_else_second None q e = e

pub none_first : (found : ℕ → Option ℕ) (m : ℕ) → first_over m found ≡ None → (i : ℕ) → i < m → found i ≡ None
unfolding first_over
none_first found zero e i h = absurd (omega arith)
none_first found (suc m) e i h =
    ⊎_elim (none_first found m (or_else_first (first_over m found) (found m) e) i)
    (λ l. let s : i ≡ m = omega arith in ap found s ∙ or_else_second (first_over m found) (found m) e) (below_or_not i m)

-- the same for a test of the numbers below m
pub some_start : (test : ℕ → Bool) → some_below 0 test ≡ false
unfolding some_below
some_start test = refl

pub some_later : (test : ℕ → Bool) (i : ℕ) → some_below i test ≡ false → test i ≡ false → some_below (i + 1) test ≡ false
unfolding some_below
some_later test i none here = ap (λ (m : ℕ). some_below m test) (add-one i) ∙ ap (λ (t : Bool). t || test i) none ∙ here

pub some_here : (test : ℕ → Bool) (m i : ℕ) → i < m → test i ≡ true → some_below m test ≡ true
unfolding some_below
some_here test zero i h e = absurd (omega arith)
some_here test (suc m) i h e =
    ⊎_elim (λ l. or_first (some_below m test) (test m) (some_here test m i l e))
    (λ l. let s : m ≡ i = omega arith in or_second (some_below m test) (test m) (ap test s ∙ e)) (below_or_not i m)

pub some_none : (test : ℕ → Bool) (m : ℕ) → ((i : ℕ) → i < m → test i ≡ false) → some_below m test ≡ false
unfolding some_below
some_none test zero h = refl
some_none test (suc m) h = ap (λ (t : Bool). t || test m) (some_none test m (λ i l. h i (omega arith))) ∙ h m (omega arith)

or_none_first : (t u : Bool) → (t || u) ≡ false → t ≡ false
or_none_first true u e = e
or_none_first false u e = refl

or_none_second : (t u : Bool) → (t || u) ≡ false → u ≡ false
or_none_second true u e = let z : ◌≡◌ {A = ℕ} 0 1 = cc in absurd (omega arith)
or_none_second false u e = e

pub none_some : (test : ℕ → Bool) (m : ℕ) → some_below m test ≡ false → (i : ℕ) → i < m → test i ≡ false
unfolding some_below
none_some test zero e i h = absurd (omega arith)
none_some test (suc m) e i h =
    ⊎_elim (none_some test m (or_none_first (some_below m test) (test m) e) i)
    (λ l. let s : i ≡ m = omega arith in ap test s ∙ or_none_second (some_below m test) (test m) e) (below_or_not i m)

-- a ballot lies within the ballots
pub ballot_within : (k n b : ℕ) → b < n → (b + 1) * k * k ≤ n * k * k
ballot_within k n b h = mul-le-mul {n₁ = (b + 1) * k} {m₁ = k} {n₂ = n * k} {m₂ = k}
    (mul-le-mul {n₁ = b + 1} {m₁ = k} {n₂ = n} {m₂ = k} (omega arith) (omega arith)) (omega arith)

-- a byte that is 1 together with its opposite is found; any other byte is not
pub clash_here : (k : ℕ) (xs : List ℕ) (b i j : ℕ) → before k xs b i j ≡ true → before k xs b j i ≡ true
    → not_asymmetric_at k xs b i j ≡ Some (rank_place k b i j)
unfolding not_asymmetric_at
clash_here k xs b i j e f = rw (e, f)

pub clash_not_forth : (k : ℕ) (xs : List ℕ) (b i j : ℕ) → before k xs b i j ≡ false → not_asymmetric_at k xs b i j ≡ None
unfolding not_asymmetric_at
clash_not_forth k xs b i j e = rw e

pub clash_not_back : (k : ℕ) (xs : List ℕ) (b i j : ℕ) → before k xs b i j ≡ true → before k xs b j i ≡ false
    → not_asymmetric_at k xs b i j ≡ None
unfolding not_asymmetric_at
clash_not_back k xs b i j e f = rw (e, f)

-- the parts of test 12, each found at one candidate or one ballot
module _ (k : ℕ) (xs : List ℕ) (b : ℕ) where
  pub apart_here : (i j l : ℕ) → l < k → before k xs b i l ≡ false → before k xs b l j ≡ false → neither_after_nor_before k xs b i j ≡ true
  unfolding neither_after_nor_before
  apart_here i j l h e f = some_here (λ m. not (before k xs b i m) && not (before k xs b m j)) k l h (rw (e, f) refl)

  pub gap_here : (i j : ℕ) → j < k → before k xs b i j ≡ true → neither_after_nor_before k xs b i j ≡ true → not_weak_order_after k xs b i ≡ true
  unfolding not_weak_order_after
  gap_here i j h e f = some_here (λ m. before k xs b i m && neither_after_nor_before k xs b i m) k j h (rw (e, f) refl)

  pub fault_here : (i : ℕ) → i < k → not_weak_order_after k xs b i ≡ true → not_weak_order k xs b ≡ true
  unfolding not_weak_order
  fault_here i h e = some_here (not_weak_order_after k xs b) k i h e

pub faulty_here : (k n : ℕ) (xs : List ℕ) (b : ℕ) → b < n → first_over b (λ a. cond (not_weak_order k xs a) (Some a) None) ≡ None
    → not_weak_order k xs b ≡ true → first_not_weak_order k n xs ≡ Some b
unfolding first_not_weak_order
faulty_here k n xs b h none e = first_here (λ a. cond (not_weak_order k xs a) (Some a) None) n b b h none (rw e refl)

-- what the loops of the searches need
pub ruleset finds = (first_start, first_later, first_here, ballot_within, clash_here, clash_not_forth, clash_not_back)

pub ruleset tests = (some_start, some_later, some_here, apart_here, gap_here, fault_here)
