-- Lexicographic order: strict, total, and decided by the first difference.
-- Assumes nothing.
use mathlib.Core.Path.{◌≡◌, ◌∙◌, refl, sym, subst}
use mathlib.Core.Bool.{true, false, ◌&&◌}
use mathlib.Core.Logic.{◌⊎◌, inl, inr, ⊎_elim}
use mathlib.Core.List.{List, [], ◌∷◌}
use Prim.Native.Nat.{ℕ, zero, suc, ◌≤◌, ◌<◌}
use native.Mathlib.Omega.{arith}
use lib.Dec.{ltb, eqb}
use borrow.Author.Tests.{ltb-true, lt-ltb, eqb-true, eq-eqb}
use Rattle.basics.proofs.Cases.{below_or_not, same_or_not}
use Rattle.basics.proofs.Flags.{and_first, and_second, and_both, or_either, or_first, or_second, never_true}
use Rattle.rule_judgment.specs.Judgment.{precedes}
use Rattle.rule_judgment.proofs.Outward.{down}
use Rattle.basics.proofs.Flags.{absurd_flag}

-- a better grade decides
pub precedes_here : (x y : ℕ) (xs ys : List ℕ) → x < y → precedes (x ∷ xs) (y ∷ ys) ≡ true
unfolding precedes
precedes_here x y xs ys l = or_first (ltb x y) (eqb x y && precedes xs ys) (lt-ltb x y l)

-- after equal grades the rest decides
pub precedes_later : (x y : ℕ) (xs ys : List ℕ) → x ≡ y → precedes xs ys ≡ true → precedes (x ∷ xs) (y ∷ ys) ≡ true
unfolding precedes
precedes_later x y xs ys e h = or_second (ltb x y) (eqb x y && precedes xs ys) (and_both (eqb x y) (precedes xs ys) (eq-eqb x y e) h)

-- there are no other cases
pub precedes_cases : (x y : ℕ) (xs ys : List ℕ) → precedes (x ∷ xs) (y ∷ ys) ≡ true → (x < y) ⊎ ((x ≡ y) × (precedes xs ys ≡ true))
unfolding precedes
precedes_cases x y xs ys h =
    ⊎_elim (λ l. inl (ltb-true x y l))
    (λ e. inr (eqb-true x y (and_first (eqb x y) (precedes xs ys) e), and_second (eqb x y) (precedes xs ys) e))
    (or_either (ltb x y) (eqb x y && precedes xs ys) h)

-- no sequence precedes itself
pub precedes_self : (xs : List ℕ) → precedes xs xs ≡ true → ⊥
unfolding precedes
precedes_self [] h = absurd_flag h
precedes_self (x ∷ xs) h = go (precedes_cases x x xs xs h) (precedes_self xs)
  where
    go : (x < x) ⊎ ((x ≡ x) × (precedes xs xs ≡ true)) → (precedes xs xs ≡ true → ⊥) → ⊥
    go (inl l) ih = omega arith
    go (inr r) ih = ih r.1

pub precedes_trans : (xs ys zs : List ℕ) → precedes xs ys ≡ true → precedes ys zs ≡ true → precedes xs zs ≡ true
unfolding precedes
precedes_trans [] [] zs h k = absurd_flag h
precedes_trans [] (y ∷ ys) [] h k = k
precedes_trans [] (y ∷ ys) (z ∷ zs) h k = refl
precedes_trans (x ∷ xs) [] zs h k = absurd_flag h
precedes_trans (x ∷ xs) (y ∷ ys) [] h k = absurd_flag k
precedes_trans (x ∷ xs) (y ∷ ys) (z ∷ zs) h k = go (precedes_cases x y xs ys h) (precedes_cases y z ys zs k) (precedes_trans xs ys zs)
  where
    go : (x < y) ⊎ ((x ≡ y) × (precedes xs ys ≡ true)) → (y < z) ⊎ ((y ≡ z) × (precedes ys zs ≡ true))
        → (precedes xs ys ≡ true → precedes ys zs ≡ true → precedes xs zs ≡ true) →
        precedes (x ∷ xs) (z ∷ zs) ≡ true
    go (inl l) (inl m) ih = precedes_here x z xs zs (omega arith)
    go (inl l) (inr m) ih = precedes_here x z xs zs (omega (arith, m.0))
    go (inr l) (inl m) ih = precedes_here x z xs zs (omega (arith, l.0))
    go (inr l) (inr m) ih = precedes_later x z xs zs (l.0 ∙ m.0) (ih l.1 m.1)

-- no two sequences precede each other
pub precedes_one_way : (xs ys : List ℕ) → precedes xs ys ≡ true → precedes ys xs ≡ false
precedes_one_way xs ys h = never_true (precedes ys xs) (λ k. precedes_self xs (precedes_trans xs ys xs h k))

-- one of two sequences precedes the other, or they are equal
pub data Compared (xs ys : List ℕ) : Type 0 where
  first : precedes xs ys ≡ true → Compared xs ys
  equal : xs ≡ ys → Compared xs ys
  second : precedes ys xs ≡ true → Compared xs ys

pub compared : (xs ys : List ℕ) → Compared xs ys
unfolding precedes
compared [] [] = equal refl
compared [] (y ∷ ys) = first refl
compared (x ∷ xs) [] = second refl
compared (x ∷ xs) (y ∷ ys) = ⊎_elim (λ l. first (precedes_here x y xs ys l))
    (λ l. ⊎_elim (λ m. second (precedes_here y x ys xs m)) (λ m. go (omega arith) (compared xs ys))
    (below_or_not y x)) (below_or_not x y)
  where
    go : x ≡ y → Compared xs ys → Compared (x ∷ xs) (y ∷ ys)
    go e (first h) = first (precedes_later x y xs ys e h)
    go e (equal h) = equal (cc)
    go e (second h) = second (precedes_later y x ys xs (sym e) h)

-- f is better than g at some strike before strike m. Strikes are counted down from n, so an earlier one has a
-- larger number.
pub record Ahead (f g : ℕ → ℕ) (m n : ℕ) : Type 0 where
  pub at : ℕ
  pub past : m < at
  pub within : at ≤ n
  pub better : f at < g at

ahead_sooner : (f g : ℕ → ℕ) (m n : ℕ) → f (suc n) ≡ g (suc n) → Ahead f g m (suc n) → Ahead f g m n
ahead_sooner f g m n e a = record {
  at = a.at;
  past = a.past;
  within =
      ⊎_elim same (λ ne. omega (arith, a.within)) (same_or_not a.at (suc n));
  better = a.better;
}
  where
    same : a.at ≡ suc n → a.at ≤ n
    same s = let l : f (suc n) < g (suc n) = subst (λ (i : ℕ). f i < g i) s a.better in absurd (omega arith)

-- f comes first if it is better at some strike, and was better before every strike at which it is worse
pub first_better : (n : ℕ) (f g : ℕ → ℕ) → Ahead f g 0 n → ((m : ℕ) → 0 < m → m ≤ n → g m < f m → Ahead f g m n)
    → precedes (down n f) (down n g) ≡ true
unfolding down
first_better zero f g a h = absurd (omega (arith, a.past, a.within))
first_better (suc n) f g a h =
    ⊎_elim (λ l. precedes_here (f (suc n)) (g (suc n)) (down n f) (down n g) l)
    (λ l. ⊎_elim (λ m. let b = h (suc n) (omega arith) (omega arith) m in absurd (omega (arith, b.past, b.within)))
    (λ m. let e : f (suc n) ≡ g (suc n) = omega arith in
    precedes_later (f (suc n)) (g (suc n)) (down n f) (down n g) e
    (first_better n f g (ahead_sooner f g 0 n e a) (λ i p q r. ahead_sooner f g i n e (h i p (omega arith) r))))
    (below_or_not (g (suc n)) (f (suc n)))) (below_or_not (f (suc n)) (g (suc n)))

-- functions that agree at every strike give the same list
pub down_same : (n : ℕ) (f g : ℕ → ℕ) → ((m : ℕ) → 0 < m → m ≤ n → f m ≡ g m) → down n f ≡ down n g
unfolding down
down_same zero f g h = refl
down_same (suc n) f g h = cc (h (suc n) (omega arith) (omega arith), down_same n f g (λ m l p. h m l (omega arith)))

-- if f is never worse than g, its list comes first or is the same
pub never_worse : (n : ℕ) (f g : ℕ → ℕ) → ((m : ℕ) → 0 < m → m ≤ n → f m ≤ g m)
    → (precedes (down n f) (down n g) ≡ true) ⊎ (down n f ≡ down n g)
unfolding down
never_worse zero f g h = inr refl
never_worse (suc n) f g h =
    ⊎_elim (λ l. inl (precedes_here (f (suc n)) (g (suc n)) (down n f) (down n g) l))
    (λ l. let e : f (suc n) ≡ g (suc n) = omega (arith, h (suc n) (omega arith) (omega arith)) in
    ⊎_elim (λ p. inl (precedes_later (f (suc n)) (g (suc n)) (down n f) (down n g) e p)) (λ p. inr (cc))
    (never_worse n f g (λ m z p. h m z (omega arith)))) (below_or_not (f (suc n)) (g (suc n)))

-- the first strike at which f and g differ; f is better there
pub record FirstBetter (f g : ℕ → ℕ) (n : ℕ) : Type 0 where
  pub at : ℕ
  pub some : 0 < at
  pub within : at ≤ n
  pub better : f at < g at
  pub same : (m : ℕ) → at < m → m ≤ n → f m ≡ g m
