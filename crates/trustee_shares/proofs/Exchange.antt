-- Two runs of one list in which only the parts of trustee q differ: what is published is equal, and q's parts differ
-- by the difference of the wires.
-- Assumes nothing.
use mathlib.Core.Path.{◌≡◌, ◌∙◌, refl, sym, ap, subst}
use mathlib.Core.Bool.{Bool, true, false, cond}
use mathlib.Core.Logic.{◌≢◌}
use mathlib.Core.List.{List, [], ◌∷◌, ◌++◌}
use Prim.Native.Nat.{ℕ, zero, suc, ◌+◌, ◌%◌, ◌≤◌, ◌<◌}
use native.Mathlib.Nat.{add-zero}
use native.Mathlib.Omega.{arith}
use lib.Dec.{T, eqb, ltb}
use lib.ListN.{length}
use borrow.Author.Tests.{ltb-true, ltb-false, eqb-true, eqb-false}
use Rattle.gates.specs.Kind.{operands_of, conditional_of, value_of, kind_count}
use Rattle.gates.specs.Gate.{Gate}
use Rattle.gates.specs.Board.{conditional_count}
use Rattle.gates.specs.Test.{good_gate}
use Rattle.gates.proofs.KindLaws.{each_kind}
use Rattle.gates.proofs.Goodness.{GoodGate, good_gate_lem}
use Rattle.gates.proofs.Laws.{AllGood, Holds, operand_counts_lem, marks}
use Rattle.trustee_shares.specs.Shares.{sum_of, opened, part, u_of, v_of, first_factor, second_factor, masked_first, masked_second, entered, product_part, part_of_kind, Held, opened_first, opened_second, new_part, mark_of, parts_of}
use Rattle.trustee_shares.proofs.SumLaws.{sum_change}
use Rattle.trustee_shares.proofs.Products.{Triple}
use Rattle.trustee_shares.proofs.Accuracy.{Split, gate_opens, more, opened_same, part_before, part_new, conditional_operands, choice_operands, count_mark, mark_one}

-- the i-th conditional gate of a list
or_else : Gate → (ℕ → Gate) → ℕ → Gate
or_else g f zero = g
or_else g f (suc i) = f i

pub nth_conditional : List Gate → ℕ → Gate
nth_conditional [] i = record { kind = 0; a = 0; b = 0; c = 0 }
nth_conditional (g ∷ gs) i = cond (conditional_of g.kind) (or_else g (nth_conditional gs) i) (nth_conditional gs i)

pub nth_first : (g : Gate) (gs : List Gate) → conditional_of g.kind ≡ true → nth_conditional (g ∷ gs) 0 ≡ g
unfolding nth_conditional or_else
nth_first g gs e = rw e

pub nth_next : (g : Gate) (gs : List Gate) (i : ℕ) → nth_conditional (g ∷ gs) (mark_of g + i) ≡ nth_conditional gs i
unfolding nth_conditional or_else mark_of
nth_next g gs i = go (conditional_of g.kind)
  where
    go : (b : Bool) → cond b (or_else g (nth_conditional gs) (cond b 1 0 + i)) (nth_conditional gs (cond b 1 0 + i)) ≡ nth_conditional gs i
    go true = let e : 1 + i ≡ suc i = omega arith in rw e
    go false = let e : 0 + i ≡ i = omega arith in rw e

-- the part of a free gate does not depend on the product
pub ignores : (p kind a b c z y : ℕ) → kind < kind_count → conditional_of kind ≡ false → part_of_kind p kind a b c z ≡ part_of_kind p kind a b c y
unfolding part_of_kind
ignores p kind a b c z y h =
    each_kind (λ k. conditional_of k ≡ false → part_of_kind p k a b c z ≡ part_of_kind p k a b c y)
    (λ e. refl) (λ e. refl) (λ e. refl) (λ e. refl) (never 4 marks.4) (never 5 marks.5) (λ e. refl) (never 7 marks.7) kind h
  where
    never : (k : ℕ) → conditional_of k ≡ true → conditional_of k ≡ false → part_of_kind p k a b c z ≡ part_of_kind p k a b c y
    never k e f = let s : true ≡ false = sym e ∙ f in let x : ◌≡◌ {A = ℕ} 0 1 = cc in absurd (omega arith)

-- the parts of a gate's wire are bits
new_bit : (p kind a b c z : ℕ) → kind < kind_count → (0 < operands_of kind → a ≤ 1) → z ≤ 1 → part_of_kind p kind a b c z ≤ 1
unfolding part_of_kind entered
new_bit p kind a b c z h ha hz =
    each_kind (λ k. (0 < operands_of k → a ≤ 1) → part_of_kind p k a b c z ≤ 1)
    (λ u. omega arith) (λ u. one p) (λ u. u (omega (arith, operand_counts_lem.2))) (λ u. omega arith) (λ u. hz)
    (λ u. omega arith) (λ u. omega arith) (λ u. omega arith) kind h ha
  where
    one : (p : ℕ) → entered p 1 ≤ 1
    one zero = omega arith
    one (suc p) = omega arith

product_bit : (p : ℕ) (triples : List ℕ) (i e f : ℕ) → product_part p triples i e f ≤ 1
unfolding product_part
product_bit p triples i e f = omega arith

-- the differences of a factor and of its mask cancel out
cancels : (s s' v v' z : ℕ) → s' % 2 ≡ (s + z) % 2 → v' % 2 ≡ (v + z) % 2 → (s' % 2 + v') % 2 ≡ (s % 2 + v) % 2
cancels s s' v v' z e f = omega arith

pub add_mods : (a b : ℕ) → (a % 2 + b % 2) % 2 ≡ (a + b) % 2
add_mods a b = omega arith

add_mod : (a b : ℕ) → (a + b % 2) % 2 ≡ (a + b) % 2
add_mod a b = omega arith

pub reduced : (v s : ℕ) → v ≡ s % 2 → v % 2 ≡ s % 2
reduced v s e = omega arith

sums_differ : (a a' b b' x y : ℕ) → a' ≡ (a + x) % 2 → b' ≡ (b + y) % 2 → (a' + b') % 2 ≡ (a + b + (x + y) % 2) % 2
sums_differ a a' b b' x y e f =
    let r : (a + x) + (b + y) ≡ (a + b) + (x + y) = omega arith in
    rw (e, f) (add_mods (a + x) (b + y) ∙ ap (λ (n : ℕ). n % 2) r ∙ sym (add_mod (a + b) (x + y)))

module _ (t q : ℕ) (hq : q < t) (vs ws : ℕ → ℕ) (bv : (x : ℕ) → vs x ≤ 1) (bw : (x : ℕ) → ws x ≤ 1) (triples triples' : Held) where
  -- the difference of two wires
  unfoldable pub diff : ℕ → ℕ
  diff x = (vs x + ws x) % 2

  unfoldable pub diff_second : Gate → ℕ
  diff_second g = cond (eqb g.kind 7) ((diff g.b + diff g.c) % 2) (diff g.b)

  -- the dealer parts of a conditional gate: q's bits of u and v differ as the factors do
  pub record DealtAt (i : ℕ) (g : Gate) : Type 0 where
    pub u_is : u_of (triples' q) i ≡ (u_of (triples q) i + diff g.a) % 2
    pub v_is : v_of (triples' q) i ≡ (v_of (triples q) i + diff_second g) % 2

  -- the parts of the first n wires in both runs: equal except those of q
  pub record Same (held held' : Held) (n : ℕ) : Type 0 where
    pub split : Split t vs held n
    pub split' : Split t ws held' n
    pub others : (p : ℕ) → p < t → p ≢ q → held' p ≡ held p
    pub left_out : (x : ℕ) → x < n → part (held' q) x ≡ (part (held q) x + diff x) % 2
    pub bits : (x : ℕ) → x < n → part (held q) x ≤ 1

  module _ (same_triples : (p : ℕ) → p < t → p ≢ q → triples' p ≡ triples p) where
    module _ (held held' : Held) (n i : ℕ) (g : Gate) (good : GoodGate n g) (s : Same held held' n)
        (is : conditional_of g.kind ≡ true) (d : DealtAt i g) where
      operands : 2 ≤ operands_of g.kind
      operands = conditional_operands g.kind good.known is

      pub first_same : (p : ℕ) → p < t → masked_first (held' p) (triples' p) i g ≡ masked_first (held p) (triples p) i g
      unfolding masked_first first_factor diff
      first_same p h = go (eqb p q) refl
        where
          go : (b : Bool) → eqb p q ≡ b → (part (held' p) g.a + u_of (triples' p) i) % 2 ≡ (part (held p) g.a + u_of (triples p) i) % 2
          go true e =
              let k : p ≡ q = eqb-true p q e in
              let l = s.left_out g.a (good.a_below (omega (arith, operands))) in
              rw k (omega (arith, l, d.u_is))
          go false e = rw (s.others p h (eqb-false p q e), same_triples p h (eqb-false p q e))

      pub second_same : (p : ℕ) → p < t → masked_second (held' p) (triples' p) i g ≡ masked_second (held p) (triples p) i g
      unfolding masked_second second_factor diff diff_second
      second_same p h = go (eqb p q) refl
        where
          chosen : (b : Bool) → eqb g.kind 7 ≡ b → v_of (triples' q) i
              ≡ (v_of (triples q) i + cond b ((diff g.b + diff g.c) % 2) (diff g.b)) % 2
              → (cond b ((part (held' q) g.b + part (held' q) g.c) % 2) (part (held' q) g.b) + v_of (triples' q) i) % 2
              ≡ (cond b ((part (held q) g.b + part (held q) g.c) % 2) (part (held q) g.b) + v_of (triples q) i) % 2
          chosen true e v =
              let l = s.left_out g.b (good.b_below (omega (arith, operands))) in
              let m = s.left_out g.c (good.c_below (choice_operands g.kind e)) in
              let z = (diff g.b + diff g.c) % 2 in
              cancels (part (held q) g.b + part (held q) g.c) (part (held' q) g.b + part (held' q) g.c)
              (v_of (triples q) i) (v_of (triples' q) i) z
              (sums_differ (part (held q) g.b) (part (held' q) g.b) (part (held q) g.c)
              (part (held' q) g.c) (diff g.b) (diff g.c) l m)
              (reduced (v_of (triples' q) i) (v_of (triples q) i + z) v)
          chosen false e v =
              let l = s.left_out g.b (good.b_below (omega (arith, operands))) in
              omega (arith, l, v)

          go : (b : Bool) → eqb p q ≡ b
              → (cond (eqb g.kind 7) ((part (held' p) g.b + part (held' p) g.c) % 2)
              (part (held' p) g.b) + v_of (triples' p) i) % 2
              ≡ (cond (eqb g.kind 7) ((part (held p) g.b + part (held p) g.c) % 2) (part (held p) g.b) + v_of (triples p) i) % 2
          go true e = let k : p ≡ q = eqb-true p q e in rw k (chosen (eqb g.kind 7) refl d.v_is)
          go false e = rw (s.others p h (eqb-false p q e), same_triples p h (eqb-false p q e))

    module _ (held held' : Held) (n i : ℕ) (g : Gate) (ok : T (good_gate n g)) (s : Same held held' n)
        (d : conditional_of g.kind ≡ true → DealtAt i g) where
      good : GoodGate n g
      good = good_gate_lem n g ok

      new : ℕ → ℕ
      new = new_part t triples held i g

      new' : ℕ → ℕ
      new' = new_part t triples' held' i g

      -- the others' parts of the gate's wire are equal
      new_others : (p : ℕ) → p < t → p ≢ q → new' p ≡ new p
      unfolding new new' new_part opened_first opened_second
      new_others p h other = rw (s.others p h other, same_triples p h other) (go (conditional_of g.kind) refl)
        where
          go : (b : Bool) → conditional_of g.kind ≡ b
              → part_of_kind p g.kind (part (held p) g.a) (part (held p) g.b) (part (held p) g.c)
              (product_part p (triples p) i (opened t (λ r. masked_first (held' r) (triples' r) i g))
              (opened t (λ r. masked_second (held' r) (triples' r) i g)))
              ≡ part_of_kind p g.kind (part (held p) g.a) (part (held p) g.b) (part (held p) g.c)
              (product_part p (triples p) i (opened t (λ r. masked_first (held r) (triples r) i g))
              (opened t (λ r. masked_second (held r) (triples r) i g)))
          go true is =
              rw (
                opened_same t (λ r. masked_first (held' r) (triples' r) i g) (λ r. masked_first (held r) (triples r) i g)
                    (first_same held held' n i g good s is (d is)),
                opened_same t (λ r. masked_second (held' r) (triples' r) i g)
                    (λ r. masked_second (held r) (triples r) i g) (second_same held held' n i g good s is (d is)),
              )
          go false is =
              ignores p g.kind (part (held p) g.a) (part (held p) g.b) (part (held p) g.c)
              (product_part p (triples p) i (opened t (λ r. masked_first (held' r) (triples' r) i g))
              (opened t (λ r. masked_second (held' r) (triples' r) i g)))
              (product_part p (triples p) i (opened t (λ r. masked_first (held r) (triples r) i g))
              (opened t (λ r. masked_second (held r) (triples r) i g))) good.known is

      new_is_bit : new q ≤ 1
      unfolding new new_part
      new_is_bit =
          new_bit q g.kind (part (held q) g.a) (part (held q) g.b) (part (held q) g.c)
          (product_part q (triples q) i (opened_first t triples held i g) (opened_second t triples held i g)) good.known
          (λ u. s.bits g.a (good.a_below u)) (product_bit q (triples q) i (opened_first t triples held i g) (opened_second t triples held i g))

      left_out_bit : (x : ℕ) → x < n → part (held' q) x ≤ 1
      left_out_bit x h = omega (arith, s.left_out x h)

      new_is_bit' : new' q ≤ 1
      unfolding new' new_part
      new_is_bit' =
          new_bit q g.kind (part (held' q) g.a) (part (held' q) g.b) (part (held' q) g.c)
          (product_part q (triples' q) i (opened_first t triples' held' i g) (opened_second t triples' held' i g)) good.known
          (λ u. left_out_bit g.a (good.a_below u))
          (product_bit q (triples' q) i (opened_first t triples' held' i g) (opened_second t triples' held' i g))

      module _ (triple : conditional_of g.kind ≡ true → Triple t triples i) (triple' : conditional_of g.kind ≡ true → Triple t triples' i)
          (is : vs n ≡ value_of g.kind (vs g.a) (vs g.b) (vs g.c))
          (is' : ws n ≡ value_of g.kind (ws g.a) (ws g.b) (ws g.c)) where
        -- q's part differs as the two wires do, because all parts add up to them
        new_left_out : new' q ≡ (new q + diff n) % 2
        unfolding opened diff new new'
        new_left_out =
            let a : opened t new ≡ vs n = gate_opens t (omega arith) triples vs bv n i g held good triple s.split ∙ sym is in
            let b : opened t new' ≡ ws n = gate_opens t (omega arith) triples' ws bw n i g held' good triple' s.split' ∙ sym is' in
            differ (sum_of t new) (sum_of t new') (new q) (new' q) (vs n) (ws n) a b (sum_change t q new' new hq new_others) new_is_bit'
          where
            differ : (a b x y v w : ℕ) → a % 2 ≡ v → b % 2 ≡ w → b + x ≡ a + y → y ≤ 1 → y ≡ (x + (v + w) % 2) % 2
            differ a b x y v w ha hb e h = omega arith

        pub same_more : Same (λ p. held p ++ (new_part t triples held i g p ∷ []))
            (λ p. held' p ++ (new_part t triples' held' i g p ∷ [])) (suc n)
        unfolding new new'
        same_more =
            record {
              split = more t (omega arith) triples vs bv n i g held ok is triple s.split;
              split' = more t (omega arith) triples' ws bw n i g held' ok is' triple' s.split';
              others = λ (p : ℕ) h other. rw (s.others p h other, new_others p h other);
              left_out = λ (x : ℕ) h. at x h (ltb x n) refl;
              bits = λ (x : ℕ) h. bit x h (ltb x n) refl;
            }
          where
            at : (x : ℕ) → x < suc n → (b : Bool) → ltb x n ≡ b → part (held' q ++ (new' q ∷ [])) x
                ≡ (part (held q ++ (new q ∷ [])) x + diff x) % 2
            at x h true e =
                rw (
                  part_before (held' q) (new' q) n x (s.split'.sizes q hq) (ltb-true x n e),
                  part_before (held q) (new q) n x (s.split.sizes q hq) (ltb-true x n e),
                )
                (s.left_out x (ltb-true x n e))
            at x h false e =
                let m : x ≡ n = omega (arith, ltb-false x n e) in
                rw (
                  m,
                  part_new (held' q) (new' q) n (s.split'.sizes q hq),
                  part_new (held q) (new q) n (s.split.sizes q hq),
                ) new_left_out

            bit : (x : ℕ) → x < suc n → (b : Bool) → ltb x n ≡ b → part (held q ++ (new q ∷ [])) x ≤ 1
            bit x h true e = rw (part_before (held q) (new q) n x (s.split.sizes q hq) (ltb-true x n e)) (s.bits x (ltb-true x n e))
            bit x h false e =
                let m : x ≡ n = omega (arith, ltb-false x n e) in
                rw (m, part_new (held q) (new q) n (s.split.sizes q hq)) new_is_bit

    -- the same after all gates of a list
    pub same_parts : (n i : ℕ) (gs : List Gate) (held held' : Held) → AllGood n gs → Holds vs n gs → Holds ws n gs
        → ((j : ℕ) → i ≤ j → j < i + conditional_count gs → Triple t triples j × Triple t triples' j)
        → ((j : ℕ) → j < conditional_count gs → DealtAt (i + j) (nth_conditional gs j))
        → Same held held' n → Same (parts_of t triples held i gs) (parts_of t triples' held' i gs) (n + length gs)
    unfolding parts_of
    same_parts n i [] held held' good holds holds' products d s = rw (add-zero n) s
    same_parts n i (g ∷ gs) held held' good holds holds' products d s =
        let c = count_mark g gs in
        let next : Held = λ p. held p ++ (new_part t triples held i g p ∷ []) in
        let next' : Held = λ p. held' p ++ (new_part t triples' held' i g p ∷ []) in
        subst (λ (m : ℕ). Same (parts_of t triples next (i + mark_of g) gs) (parts_of t triples' next' (i + mark_of g) gs) m) (omega arith)
        (same_parts (suc n) (i + mark_of g) gs next next' good.1 holds.1 holds'.1
        (λ (j : ℕ) l h. products j (omega arith) (omega arith))
        (λ (j : ℕ) h.
        let a : i + (mark_of g + j) ≡ i + mark_of g + j = omega arith in
        subst (λ (x : Gate). DealtAt (i + mark_of g + j) x) (nth_next g gs j)
        (subst (λ (m : ℕ). DealtAt m (nth_conditional (g ∷ gs) (mark_of g + j))) a (d (mark_of g + j) (omega arith))))
        (same_more held held' n i g good.0 s (λ is. first is (d 0 (omega (arith, mark_one g is))))
        (λ is. (products i (omega arith) (omega (arith, mark_one g is))).0)
        (λ is. (products i (omega arith) (omega (arith, mark_one g is))).1) holds.0 holds'.0))
      where
        first : conditional_of g.kind ≡ true → DealtAt (i + 0) (nth_conditional (g ∷ gs) 0) → DealtAt i g
        first is x = subst (λ (h : Gate). DealtAt i h) (nth_first g gs is)
            (subst (λ (m : ℕ). DealtAt m (nth_conditional (g ∷ gs) 0)) (add-zero i) x)
