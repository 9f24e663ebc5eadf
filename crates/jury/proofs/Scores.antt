-- A ballot that agrees with scores of its candidates is a strict weak order.
-- Assumes nothing.
use mathlib.Core.Path.{◌≡◌, ◌∙◌, sym, ap}
use mathlib.Core.Bool.{Bool}
use Prim.Native.Nat.{ℕ, ◌+◌, ◌*◌, ◌<◌}
use native.Mathlib.Nat.{add-mul, mul_assoc}
use native.Mathlib.Omega.{arith}
use mathlib.Core.List.{List}
use lib.Dec.{eqb, ltb}
use lib.ListN.{get_or, take, drop}
use lib.Seq.{get_or-take, get_or-drop}
use borrow.Author.Tests.{ltb-true, ltb-false, le-ltb}
use Rattle.jury.specs.Rankings.{rank_place, before}
use Rattle.jury.specs.WeakOrder.{StrictWeakOrder}
use Rattle.basics.proofs.Arithmetic.{row_within}

pub order_by_scores : (k : ℕ) (before : ℕ → ℕ → Bool) (s : ℕ → ℕ)
    → ((i : ℕ) → i < k → (j : ℕ) → j < k → before i j ≡ ltb (s j) (s i)) → StrictWeakOrder k before
order_by_scores k before s e = record {
  irreflexive = λ i h. e i h i h ∙ le-ltb (s i) (s i) (omega arith);
  asymmetric = λ i j hi hj f. e j hj i hi ∙ le-ltb (s i) (s j) (omega (arith, ltb-true (s j) (s i) (sym (e i hi j hj) ∙ f)));
  negatively_transitive = λ i l j hi hl hj f g.
      e i hi j hj
      ∙ le-ltb (s j) (s i)
      (omega (arith, ltb-false (s l) (s i) (sym (e i hi l hl) ∙ f), ltb-false (s j) (s l) (sym (e l hl j hj) ∙ g)));
}

-- an order of the bytes of a ballot is an order of ballot b among all
pub order_from : (k b : ℕ) (xs ballot : List ℕ) → ballot ≡ take (k * k) (drop (b * (k * k)) xs)
    → StrictWeakOrder k (λ i j. eqb (get_or ballot (i * k + j) 0) 1) → StrictWeakOrder k (before k xs b)
unfolding before rank_place
order_from k b xs ballot e o = record {
  irreflexive = λ i h. sym (same i i h h) ∙ o.irreflexive i h;
  asymmetric = λ i j hi hj f. sym (same j i hj hi) ∙ o.asymmetric i j hi hj (same i j hi hj ∙ f);
  negatively_transitive = λ i l j hi hl hj f g.
      sym (same i j hi hj) ∙ o.negatively_transitive i l j hi hl hj (same i l hi hl ∙ f) (same l j hl hj ∙ g);
}
  where
    same : (i j : ℕ) → i < k → j < k → eqb (get_or ballot (i * k + j) 0) 1 ≡ eqb (get_or xs ((b * k + i) * k + j) 0) 1
    same i j hi hj =
        ap (λ (n : ℕ). eqb n 1)
        (ap (λ (ys : List ℕ). get_or ys (i * k + j) 0) e
        ∙ get_or-take (k * k) (drop (b * (k * k)) xs) (i * k + j) 0 (omega (arith, row_within i k k hi))
        ∙ get_or-drop (b * (k * k)) xs (i * k + j) 0
        ∙ ap (λ (n : ℕ). get_or xs n 0) (omega (arith, add-mul (b * k) i k, mul_assoc b k k)))
