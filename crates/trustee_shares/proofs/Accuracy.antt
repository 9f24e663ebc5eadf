-- The trustees' parts of a wire add up to the wire.
-- Assumes nothing.
use mathlib.Core.Path.{◌≡◌, ◌∙◌, refl, sym, ap, subst}
use mathlib.Core.Bool.{Bool, true, false, cond}
use mathlib.Core.List.{List, [], ◌∷◌, ◌++◌}
use Prim.Native.Nat.{ℕ, suc, ◌+◌, ◌-◌, ◌*◌, ◌%◌, ◌≤◌, ◌<◌, min, max}
use native.Mathlib.Nat.{add-zero}
use native.Mathlib.Omega.{arith}
use lib.Dec.{T, eqb, ltb}
use lib.ListN.{length, length-append, get_or-append}
use lib.Seq.{get_or-append_seam}
use borrow.Author.Tests.{ltb-true, ltb-false, eqb-true}
use Rattle.gates.specs.Kind.{operands_of, conditional_of, value_of, kind_count}
use Rattle.gates.specs.Gate.{Gate}
use Rattle.gates.specs.Board.{conditional_count}
use Rattle.gates.specs.Test.{good_gate}
use Rattle.gates.proofs.KindLaws.{each_kind}
use Rattle.gates.proofs.Goodness.{GoodGate, good_gate_lem}
use Rattle.gates.proofs.Counting.{count_cons}
use Rattle.gates.proofs.Laws.{AllGood, Holds, operand_counts_lem, marks, zero_value, one_value, copy_value, not_value, and_value, or_value, xor_value, mux_zero, mux_one}
use Rattle.trustee_shares.specs.Shares.{opened, part, u_of, v_of, first_factor, second_factor, masked_first, masked_second, entered, product_part, part_of_kind, Held, opened_first, opened_second, new_part, mark_of, parts_of}
use Rattle.trustee_shares.proofs.SumLaws.{sum_same, sum_mod, sum_add, sum_zero, sum_entered}
use Rattle.trustee_shares.proofs.Products.{two, opened_two, Triple, product_opens}

-- the product of the two factors, for each kind
pub product_by : ℕ → ℕ → ℕ → ℕ → ℕ
product_by kind a b c = a * cond (eqb kind 7) ((b + c) % 2) b

opened_three : (t : ℕ) (x y z : ℕ → ℕ) → opened t (λ p. (x p + y p + z p) % 2) ≡ (opened t x + opened t y + opened t z) % 2
unfolding opened
opened_three t x y z = omega (arith, sum_mod t (λ p. x p + y p + z p), sum_add t (λ p. x p + y p) z, sum_add t x y)

opened_entered : (t x : ℕ) → 1 ≤ t → opened t (λ p. entered p x) ≡ x % 2
unfolding opened
opened_entered t x h = ap (λ (s : ℕ). s % 2) (sum_entered t x h)

opened_zero : (t : ℕ) → opened t (λ p. 0) ≡ 0
unfolding opened
opened_zero t = ap (λ (s : ℕ). s % 2) (sum_zero t)

-- One gate: A, B and C are the parts of its operands a, b and c, and Z the parts of the product.
module _ (t : ℕ) (some : 1 ≤ t) (A B C Z : ℕ → ℕ) (a b c : ℕ) (ha : a ≤ 1) (hb : b ≤ 1) (hc : c ≤ 1) where
  abbrev Gives : ℕ → Type 0
  Gives kind =
      (0 < operands_of kind → opened t A ≡ a) → (1 < operands_of kind → opened t B ≡ b) → (2 < operands_of kind → opened t C ≡ c)
      → (conditional_of kind ≡ true → opened t Z ≡ product_by kind a b c)
      → opened t (λ p. part_of_kind p kind (A p) (B p) (C p) (Z p)) ≡ value_of kind a b c

  gives_0 : Gives 0
  unfolding part_of_kind
  gives_0 la lb lc lz = opened_zero t ∙ sym (zero_value a b c)

  gives_1 : Gives 1
  unfolding part_of_kind
  gives_1 la lb lc lz = opened_entered t 1 some ∙ sym (one_value a b c)

  gives_2 : Gives 2
  unfolding part_of_kind
  gives_2 la lb lc lz = la (omega (arith, operand_counts_lem.2)) ∙ sym (copy_value a b c)

  gives_3 : Gives 3
  unfolding part_of_kind
  gives_3 la lb lc lz =
      let e = la (omega (arith, operand_counts_lem.3)) in
      let n : (a + 1) % 2 ≡ 1 - a = omega arith in
      opened_two t A (λ p. entered p 1) ∙ rw (e, opened_entered t 1 some) (n ∙ sym (not_value a b c))

  gives_4 : Gives 4
  unfolding part_of_kind product_by
  gives_4 la lb lc lz = lz marks.4 ∙ two (λ x. x * b ≡ min x b) (omega arith) (omega arith) a ha ∙ sym (and_value a b c)

  gives_5 : Gives 5
  unfolding part_of_kind product_by
  gives_5 la lb lc lz =
      let e = la (omega (arith, operand_counts_lem.5)) in
      let f = lb (omega (arith, operand_counts_lem.5)) in
      opened_three t A B Z ∙ rw (e, f, lz marks.5)
      (two (λ x. (x + b + x * b) % 2 ≡ max x b) (omega arith) (omega arith) a ha ∙ sym (or_value a b c))

  gives_6 : Gives 6
  unfolding part_of_kind
  gives_6 la lb lc lz =
      let e = la (omega (arith, operand_counts_lem.6)) in
      let f = lb (omega (arith, operand_counts_lem.6)) in
      opened_two t A B ∙ rw (e, f) (sym (xor_value a b c ha hb))

  gives_7 : Gives 7
  unfolding part_of_kind product_by
  gives_7 la lb lc lz =
      let f = lc (omega (arith, operand_counts_lem.7)) in
      let none : (c + 0 * ((b + c) % 2)) % 2 ≡ c = omega arith in
      let one : (c + 1 * ((b + c) % 2)) % 2 ≡ b = omega arith in
      opened_two t C Z
      ∙ rw (f, lz marks.7) (two (λ x. (c + x * ((b + c) % 2)) % 2 ≡ value_of 7 x b c)
      (none ∙ sym (mux_zero 0 b c refl)) (one ∙ sym (mux_one 1 b c refl)) a ha)

  pub gives : (kind : ℕ) → kind < 8 → Gives kind
  gives kind h = each_kind Gives gives_0 gives_1 gives_2 gives_3 gives_4 gives_5 gives_6 gives_7 kind h

pub opened_same : (t : ℕ) (f g : ℕ → ℕ) → ((p : ℕ) → p < t → f p ≡ g p) → opened t f ≡ opened t g
unfolding opened
opened_same t f g e = ap (λ (s : ℕ). s % 2) (sum_same t f g e)

-- All trustees hold their parts of the first n wires, whose values are w.
pub record Split (t : ℕ) (w : ℕ → ℕ) (held : Held) (n : ℕ) : Type 0 where
  pub sizes : (p : ℕ) → p < t → length (held p) ≡ n
  pub sums : (x : ℕ) → x < n → opened t (λ p. part (held p) x) ≡ w x

-- if each trustee gets one more part, the earlier ones stay
pub part_before : (ws : List ℕ) (v n x : ℕ) → length ws ≡ n → x < n → part (ws ++ (v ∷ [])) x ≡ part ws x
unfolding part
part_before ws v n x e h = get_or-append ws (v ∷ []) 0 x (omega arith)

pub part_new : (ws : List ℕ) (v n : ℕ) → length ws ≡ n → part (ws ++ (v ∷ [])) n ≡ v
unfolding part
part_new ws v n e = rw (sym e) (get_or-append_seam ws v [] 0)

-- a conditional gate has at least two operands
pub conditional_operands : (kind : ℕ) → kind < kind_count → conditional_of kind ≡ true → 2 ≤ operands_of kind
conditional_operands kind h = each_kind (λ k. conditional_of k ≡ true → 2 ≤ operands_of k) (none 0 marks.0)
    (none 1 marks.1) (none 2 marks.2) (none 3 marks.3)
    (λ e. omega (arith, operand_counts_lem.4)) (λ e. omega (arith, operand_counts_lem.5))
    (λ e. omega (arith, operand_counts_lem.6)) (λ e. omega (arith, operand_counts_lem.7)) kind h
  where
    none : (k : ℕ) → conditional_of k ≡ false → conditional_of k ≡ true → 2 ≤ operands_of k
    none k e f = let z : false ≡ true = sym e ∙ f in let y : ◌≡◌ {A = ℕ} 0 1 = cc in absurd (omega arith)

pub choice_operands : (kind : ℕ) → eqb kind 7 ≡ true → 2 < operands_of kind
choice_operands kind e = rw (eqb-true kind 7 e) (omega (arith, operand_counts_lem.7))

-- counting the conditional gates of a list, one gate at a time
pub count_mark : (g : Gate) (gs : List Gate) → conditional_count (g ∷ gs) ≡ mark_of g + conditional_count gs
unfolding mark_of
count_mark g gs = count_cons g gs

pub mark_one : (g : Gate) → conditional_of g.kind ≡ true → mark_of g ≡ 1
unfolding mark_of
mark_one g e = rw e

-- the parts of the second factor add up to it, for a choice and for other gates
second_opens : (t : ℕ) (B C : ℕ → ℕ) (b c : ℕ) (chosen : Bool) → opened t B ≡ b → (chosen ≡ true → opened t C ≡ c)
    → opened t (λ p. cond chosen ((B p + C p) % 2) (B p)) ≡ cond chosen ((b + c) % 2) b
second_opens t B C b c true e f = opened_two t B C ∙ rw (e, f refl) refl
second_opens t B C b c false e f = e

module _ (t : ℕ) (some : 1 ≤ t) (triples : Held) (w : ℕ → ℕ) (bits : (x : ℕ) → w x ≤ 1) where
  -- the new parts of one gate add up to its wire
  pub gate_opens : (n i : ℕ) (g : Gate) (held : Held) → GoodGate n g
      → (conditional_of g.kind ≡ true → Triple t triples i) → Split t w held n
      → opened t (new_part t triples held i g) ≡ value_of g.kind (w g.a) (w g.b) (w g.c)
  unfolding new_part opened_first opened_second masked_first masked_second first_factor second_factor product_by
  gate_opens n i g held good triple s =
      let A : ℕ → ℕ = λ p. part (held p) g.a in
      let B : ℕ → ℕ = λ p. part (held p) g.b in
      let C : ℕ → ℕ = λ p. part (held p) g.c in
      let Y : ℕ → ℕ = λ p. cond (eqb g.kind 7) ((B p + C p) % 2) (B p) in
      let Z : ℕ → ℕ = λ p. product_part p (triples p) i (opened t (λ q. (A q + u_of (triples q) i) % 2))
      (opened t (λ q. (Y q + v_of (triples q) i) % 2)) in
      gives t some A B C Z (w g.a) (w g.b) (w g.c) (bits g.a) (bits g.b) (bits g.c) g.kind good.known
      (λ h. s.sums g.a (good.a_below h)) (λ h. s.sums g.b (good.b_below h)) (λ h. s.sums g.c (good.c_below h))
      (λ h.
      let k = conditional_operands g.kind good.known h in
      let a = s.sums g.a (good.a_below (omega arith)) in
      let b = s.sums g.b (good.b_below (omega arith)) in
      product_opens t triples i A Y some (triple h)
      ∙ rw (
        a,
        second_opens t B C (w g.b) (w g.c) (eqb g.kind 7) b
            (λ e. s.sums g.c (good.c_below (choice_operands g.kind e))),
      ))

  -- after one more gate, the parts of all wires still add up
  pub more : (n i : ℕ) (g : Gate) (held : Held) → T (good_gate n g) → w n ≡ value_of g.kind (w g.a) (w g.b) (w g.c)
      → (conditional_of g.kind ≡ true → Triple t triples i) → Split t w held n
      → Split t w (λ p. held p ++ (new_part t triples held i g p ∷ [])) (suc n)
  more n i g held good is triple s =
      let new : ℕ → ℕ = new_part t triples held i g in
      record {
        sizes = λ (p : ℕ) h. omega (arith, length-append (held p) (new p ∷ []), s.sizes p h);
        sums = λ (x : ℕ) h. at x h (ltb x n) refl;
      }
    where
      new : ℕ → ℕ
      new = new_part t triples held i g

      at : (x : ℕ) → x < suc n → (b : Bool) → ltb x n ≡ b → opened t (λ p. part (held p ++ (new p ∷ [])) x) ≡ w x
      at x h true e =
          opened_same t (λ p. part (held p ++ (new p ∷ [])) x) (λ p. part (held p) x)
          (λ (p : ℕ) l. part_before (held p) (new p) n x (s.sizes p l) (ltb-true x n e))
          ∙ s.sums x (ltb-true x n e)
      at x h false e =
          let m : n ≡ x = omega (arith, ltb-false x n e) in
          rw (sym m) (opened_same t (λ p. part (held p ++ (new p ∷ [])) n) new (λ (p : ℕ) l. part_new (held p) (new p) n (s.sizes p l))
          ∙ gate_opens n i g held (good_gate_lem n g good) triple s ∙ sym is)

  pub parts_split : (n i : ℕ) (gs : List Gate) (held : Held) → AllGood n gs → Holds w n gs
      → ((j : ℕ) → i ≤ j → j < i + conditional_count gs → Triple t triples j) → Split t w held n
      → Split t w (parts_of t triples held i gs) (n + length gs)
  unfolding parts_of
  parts_split n i [] held good holds products s = rw (add-zero n) s
  parts_split n i (g ∷ gs) held good holds products s =
      let c = count_mark g gs in
      subst (λ (m : ℕ). Split t w (parts_of t triples (λ p. held p ++ (new_part t triples held i g p ∷ [])) (i + mark_of g)
      gs) m) (omega arith) (parts_split (suc n) (i + mark_of g) gs
      (λ p. held p ++ (new_part t triples held i g p ∷ [])) good.1 holds.1
      (λ (j : ℕ) l h. products j (omega arith) (omega arith))
      (more n i g held good.0 holds.0 (λ e. products i (omega arith) (omega (arith, mark_one g e))) s))
