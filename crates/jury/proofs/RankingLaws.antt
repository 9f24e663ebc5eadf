-- The ranked ballots that pass the tests 11 and 12 are exactly the strict weak orders, and these are transitive.
-- Assumes nothing.
use mathlib.Core.Path.{◌≡◌, ◌∙◌, refl, sym, ap}
use mathlib.Core.Bool.{Bool, true, false, cond, not, ◌&&◌, true≢false}
use mathlib.Core.Logic.{◌↔◌}
use mathlib.Core.List.{List}
use Prim.Native.Nat.{ℕ, ◌<◌}
use native.Mathlib.Omega.{arith}
use Rattle.std.specs.Prelude.{Option, Some, None}
use Rattle.jury.specs.Rankings.{before, not_asymmetric_at, not_asymmetric_in_row, not_asymmetric_in_ballot, first_not_asymmetric, neither_after_nor_before, not_weak_order_after, not_weak_order, first_not_weak_order}
use Rattle.jury.specs.WeakOrder.{StrictWeakOrder}
use Rattle.basics.proofs.Flags.{and_both, and_first_fails, and_second_fails}
use Rattle.jury.proofs.Searches.{first_none, none_first, some_here, some_none, none_some, clash_here, clash_not_forth, clash_not_back}
use Rattle.basics.proofs.Flags.{either}

module _ (k : ℕ) (xs : List ℕ) (b : ℕ) where
  -- what it means that ballot b passes test 11: it is asymmetric
  abbrev NoClash : Type 0
  NoClash = (i j : ℕ) → i < k → j < k → before k xs b i j ≡ true → before k xs b j i ≡ false

  clash_free : not_asymmetric_in_ballot k xs b ≡ None → NoClash
  unfolding not_asymmetric_in_ballot not_asymmetric_in_row
  clash_free e i j hi hj f =
      either (before k xs b j i)
      (λ g.
      let here : not_asymmetric_at k xs b i j ≡ None =
      none_first (not_asymmetric_at k xs b i) k (none_first (not_asymmetric_in_row k xs b) k e i hi) j hj in
      let found = clash_here k xs b i j f g in
      let z : ◌≡◌ {A = ℕ} 0 1 = cc in absurd (omega arith))
      (λ g. g)

  free_clash : NoClash → not_asymmetric_in_ballot k xs b ≡ None
  unfolding not_asymmetric_in_ballot not_asymmetric_in_row
  free_clash h =
      first_none (not_asymmetric_in_row k xs b) k
      (λ i hi.
      first_none (not_asymmetric_at k xs b i) k
      (λ j hj. either (before k xs b i j) (λ f. clash_not_back k xs b i j f (h i j hi hj f)) (clash_not_forth k xs b i j)))

  -- what it means that ballot b passes test 12: it is negatively transitive
  abbrev NoGap : Type 0
  NoGap = (i l j : ℕ) → i < k → l < k → j < k → before k xs b i l ≡ false → before k xs b l j ≡ false → before k xs b i j ≡ false

  gap_free : not_weak_order k xs b ≡ false → NoGap
  unfolding not_weak_order not_weak_order_after neither_after_nor_before
  gap_free e i l j hi hl hj f g =
      either (before k xs b i j)
      (λ h.
      absurd
      (true≢false
      (sym (and_both (before k xs b i j) (neither_after_nor_before k xs b i j) h
      (some_here (λ m. not (before k xs b i m) && not (before k xs b m j)) k l hl
      (and_both (not (before k xs b i l)) (not (before k xs b l j)) (ap not f) (ap not g))))
      ∙ none_some (λ j. before k xs b i j && neither_after_nor_before k xs b i j) k (none_some (not_weak_order_after k xs b) k e i hi) j hj)))
      (λ h. h)

  free_gap : NoGap → not_weak_order k xs b ≡ false
  unfolding not_weak_order not_weak_order_after neither_after_nor_before
  free_gap h =
      some_none (not_weak_order_after k xs b) k
      (λ i hi.
      some_none (λ j. before k xs b i j && neither_after_nor_before k xs b i j) k
      (λ j hj.
      either (before k xs b i j) (λ f. and_second_fails (before k xs b i j) (neither_after_nor_before k xs b i j)
      (none_apart i j hi hj f)) (and_first_fails (before k xs b i j) (neither_after_nor_before k xs b i j))))
    where
      none_apart : (i j : ℕ) → i < k → j < k → before k xs b i j ≡ true → neither_after_nor_before k xs b i j ≡ false
      none_apart i j hi hj f =
          some_none (λ l. not (before k xs b i l) && not (before k xs b l j)) k
          (λ l hl.
          either (before k xs b i l) (λ p. and_first_fails (not (before k xs b i l)) (not (before k xs b l j)) (ap not p))
          (λ p.
          either (before k xs b l j) (λ q. and_second_fails (not (before k xs b i l)) (not (before k xs b l j)) (ap not q))
          (λ q. absurd (true≢false (sym f ∙ h i l j hi hl hj p q)))))

  order_of : NoClash → NoGap → StrictWeakOrder k (before k xs b)
  order_of c g = record {
    irreflexive = λ i h. either (before k xs b i i) (c i i h h) (λ e. e);
    asymmetric = c;
    negatively_transitive = g;
  }

  gap_found : Bool → Option ℕ
  gap_found t = cond t (Some b) None

  not_found : (t : Bool) → gap_found t ≡ None → t ≡ false
  unfolding gap_found
  not_found true e = let z : ◌≡◌ {A = ℕ} 0 1 = cc in absurd (omega arith)
  not_found false e = refl

-- the tests pass exactly if every ballot is a strict weak order
pub passes_orders : (k n : ℕ) (xs : List ℕ) →
    ((first_not_asymmetric k n xs ≡ None) × (first_not_weak_order k n xs ≡ None)) ↔ ((b : ℕ) → b < n → StrictWeakOrder k (before k xs b))
unfolding first_not_asymmetric first_not_weak_order gap_found
passes_orders k n xs = (
  λ p b h.
      order_of k xs b (clash_free k xs b (none_first (not_asymmetric_in_ballot k xs) n p.0 b h))
      (gap_free k xs b (not_found k xs b (not_weak_order k xs b) (none_first (λ b. cond (not_weak_order k xs b) (Some b) None) n p.1 b h))),
  λ orders. (
    first_none (not_asymmetric_in_ballot k xs) n (λ b h. free_clash k xs b (orders b h).asymmetric),
    first_none (λ b. cond (not_weak_order k xs b) (Some b) None) n
        (λ b h. ap (λ (t : Bool). cond t (Some b) None) (free_gap k xs b (orders b h).negatively_transitive)),
  ),
)
