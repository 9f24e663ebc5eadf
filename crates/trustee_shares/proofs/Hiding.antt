-- The view of all trustees except one hides the inputs: the second dealing is the first one with the parts of the
-- left_out trustee changed by the differences of the wires.
-- Assumes nothing.
use mathlib.Core.Path.{◌≡◌, ◌∙◌, refl, sym, ap, subst}
use mathlib.Core.Bool.{Bool, true, false, cond}
use mathlib.Core.Logic.{◌≢◌}
use mathlib.Core.List.{List, [], ◌∷◌, ◌++◌}
use Prim.Native.Nat.{ℕ, zero, suc, ◌+◌, ◌-◌, ◌*◌, ◌%◌, ◌≤◌, ◌<◌}
use native.Mathlib.Nat.{add-zero}
use native.Mathlib.Omega.{arith}
use lib.Dec.{eqb}
use lib.ListN.{length, get_or, take, drop, length-append, length-drop}
use lib.Seq.{ext_get_or, get_or-drop, take_at}
use borrow.Author.Tests.{eqb-true, eqb-false, eq-eqb, ne_eqb}
use Rattle.gates.specs.Kind.{conditional_of}
use Rattle.gates.specs.Gate.{Gate}
use Rattle.gates.specs.Wires.{wire, wires_of, outputs_of}
use Rattle.gates.specs.Board.{conditional_count, Bits}
use Rattle.gates.specs.Test.{first_bad}
use Rattle.gates.specs.Hiding.{ExactlyOne}
use Rattle.std.specs.Prelude.{None}
use Rattle.gates.proofs.Goodness.{GoodGate}
use Rattle.gates.proofs.Hiding.{bits_take, bits_drop}
use Rattle.gates.proofs.WireLaws.{length_wires}
use Rattle.gates.proofs.Laws.{AllGood, Holds, all_good, wires_hold, wires_start, wires_bits, wire_bit, output_is}
use Rattle.trustee_shares.specs.Shares.{sum_of, opened, part, u_of, v_of, product_of, first_factor, second_factor, masked_first, masked_second, Held}
use Rattle.trustee_shares.specs.Views.{piece, joined, Dealing, ballots_of, triples_of, GoodDealing, wire_parts_of, masked_factors, closing_parts, published_of, View, view_of, ViewsHideInputs}
use Rattle.trustee_shares.proofs.SumLaws.{sum_change}
use Rattle.trustee_shares.proofs.Products.{Triple}
use Rattle.trustee_shares.proofs.Accuracy.{Split, opened_same, parts_split, conditional_operands, choice_operands}
use Rattle.trustee_shares.proofs.Tables.{length_joined, piece_joined, whole_table, length_piece, joined_cong, joined_same, others_cong, others_same}
use Rattle.trustee_shares.proofs.Lists.{made, length_made, made_at, triple_list, length_triples, triple_u, triple_v, triple_w, triples_same}
use Rattle.trustee_shares.proofs.Exchange.{add_mods, nth_conditional, diff, diff_second, DealtAt, Same, first_same, second_same, same_parts}
use Rattle.trustee_shares.proofs.Publishing.{nth_good, length_masked, AgreeAt, masked_cong, masked_same}

-- if one part changes by z, the opened bit changes by z
opened_shift : (t q z : ℕ) (f g : ℕ → ℕ) → q < t → ((p : ℕ) → p < t → p ≢ q → g p ≡ f p) → g q ≡ (f q + z) % 2
    → opened t g ≡ (opened t f + z) % 2
unfolding opened
opened_shift t q z f g h e s = shift (sum_of t f) (sum_of t g) (f q) (g q) z (sum_change t q g f h e) s
  where
    shift : (a b x y z : ℕ) → b + x ≡ a + y → y ≡ (x + z) % 2 → b % 2 ≡ (a % 2 + z) % 2
    shift a b x y z e s = omega arith

-- if the opened bits and all other parts are equal, q's parts are equal modulo 2
opened_left : (t q : ℕ) (f g : ℕ → ℕ) → q < t → ((p : ℕ) → p < t → p ≢ q → g p ≡ f p) → opened t g ≡ opened t f → g q % 2 ≡ f q % 2
unfolding opened
opened_left t q f g h e s = left (sum_of t f) (sum_of t g) (f q) (g q) (sum_change t q g f h e) s
  where
    left : (a b x y : ℕ) → b + x ≡ a + y → b % 2 ≡ a % 2 → y % 2 ≡ x % 2
    left a b x y e s = omega arith

-- every part of a list of bits has bits
bits_append : (xs ys : List ℕ) → Bits xs → Bits ys → Bits (xs ++ ys)
bits_append [] ys b c i = c i
bits_append (x ∷ xs) ys b c zero = b 0
bits_append (x ∷ xs) ys b c (suc i) = bits_append xs ys (λ j. b (suc j)) c i

pub bits_piece : (size : ℕ) (table : List ℕ) (p : ℕ) → Bits table → Bits (piece size table p)
unfolding piece
bits_piece size table p b = bits_take size (drop (p * size) table) (bits_drop (p * size) table b)

bits_joined : (t : ℕ) (f : Held) → ((p : ℕ) → p < t → Bits (f p)) → Bits (joined t f)
unfolding joined
bits_joined zero f b = λ i. omega arith
bits_joined (suc t) f b = bits_append (joined t f) (f t) (bits_joined t f (λ (p : ℕ) h. b p (omega arith))) (b t (omega arith))

bits_made : (n : ℕ) (f : ℕ → ℕ) → ((i : ℕ) → f i ≤ 1) → Bits (made n f)
unfolding made
bits_made zero f b i = omega arith
bits_made (suc n) f b zero = b 0
bits_made (suc n) f b (suc i) = bits_made n (λ j. f (suc j)) (λ j. b (suc j)) i

bits_triples : (n : ℕ) (u v w : ℕ → ℕ) → ((i : ℕ) → u i ≤ 1) → ((i : ℕ) → v i ≤ 1) → ((i : ℕ) → w i ≤ 1) → Bits (triple_list n u v w)
unfolding triple_list
bits_triples zero u v w a b c i = omega arith
bits_triples (suc n) u v w a b c zero = a 0
bits_triples (suc n) u v w a b c (suc zero) = b 0
bits_triples (suc n) u v w a b c (suc (suc zero)) = c 0
bits_triples (suc n) u v w a b c (suc (suc (suc i))) =
    bits_triples n (λ j. u (suc j)) (λ j. v (suc j)) (λ j. w (suc j)) (λ j. a (suc j)) (λ j. b (suc j))
    (λ j. c (suc j)) i

-- the pieces with that of trustee q replaced
pub swapped : ℕ → List ℕ → Held → Held
swapped q new f p = cond (eqb p q) new (f p)

swapped_left : (q : ℕ) (new : List ℕ) (f : Held) → swapped q new f q ≡ new
unfolding swapped
swapped_left q new f = rw (eq-eqb q q refl)

swapped_other : (q : ℕ) (new : List ℕ) (f : Held) (p : ℕ) → p ≢ q → swapped q new f p ≡ f p
unfolding swapped
swapped_other q new f p n = rw (ne_eqb p q n)

swapped_all : (P : List ℕ → Type 0) (q : ℕ) (new : List ℕ) (f : Held) (p : ℕ) → P new → P (f p) → P (swapped q new f p)
unfolding swapped
swapped_all P q new f p a b = go (eqb p q)
  where
    go : (c : Bool) → P (cond c new (f p))
    go true = a
    go false = b

-- dealings with equal tables are equal
dealing_same : (a b : Dealing) → a.ballot_parts ≡ b.ballot_parts → a.dealer_parts ≡ b.dealer_parts → a ≡ b
dealing_same a b e f = λ i. record { ballot_parts = e i; dealer_parts = f i }

-- a product of bits is a bit
bit_times : (x y : ℕ) → x ≤ 1 → y ≤ 1 → x * y ≤ 1
bit_times zero y h k = omega arith
bit_times (suc zero) y h k = omega arith
bit_times (suc (suc x)) y h k = absurd (omega arith)

module _ (t q k : ℕ) (gs : List Gate) (xs ys : List ℕ) (d : Dealing) (hq : q < t) (enough : k ≤ length gs)
    (same_length : length xs ≡ length ys)
    (bx : Bits xs) (by : Bits ys) (passes : first_bad (length xs) 0 gs ≡ None)
    (closing : outputs_of k (wires_of xs gs) ≡ outputs_of k (wires_of ys gs)) (good : GoodDealing t gs xs d) where
  n : ℕ
  n = length xs

  C : ℕ
  C = conditional_count gs

  vs : ℕ → ℕ
  vs x = wire (wires_of xs gs) x

  ws : ℕ → ℕ
  ws x = wire (wires_of ys gs) x

  good_list : AllGood n gs
  unfolding n
  good_list = subst (λ (m : ℕ). AllGood m gs) (add-zero (length xs)) (all_good (length xs) 0 gs passes)

  good_list' : AllGood (length ys) gs
  unfolding n
  good_list' = subst (λ (m : ℕ). AllGood m gs) same_length good_list

  bv : (x : ℕ) → vs x ≤ 1
  unfolding vs n
  bv x = wire_bit (wires_of xs gs) (wires_bits xs gs good_list bx) x

  bw : (x : ℕ) → ws x ≤ 1
  unfolding ws
  bw x = wire_bit (wires_of ys gs) (wires_bits ys gs good_list' by) x

  holds : Holds vs n gs
  unfolding vs n
  holds = wires_hold xs gs good_list

  holds' : Holds ws n gs
  unfolding ws n
  holds' = subst (λ (m : ℕ). Holds (wire (wires_of ys gs)) m gs) (sym same_length) (wires_hold ys gs good_list')

  starts : (x : ℕ) → x < n → vs x ≡ get_or xs x 0
  unfolding vs n
  starts x h = wires_start xs gs x h

  starts' : (x : ℕ) → x < n → ws x ≡ get_or ys x 0
  unfolding ws n
  starts' x h = wires_start ys gs x (omega arith)

  -- the first dealing's parts
  bal : Held
  bal = ballots_of n d

  triples : Held
  triples = triples_of gs d

  dif : ℕ → ℕ
  dif x = (vs x + ws x) % 2

  dif_second : Gate → ℕ
  dif_second g = cond (eqb g.kind 7) ((dif g.b + dif g.c) % 2) (dif g.b)

  -- the left_out trustee's new parts
  u' : ℕ → ℕ
  u' i = (u_of (triples q) i + dif (nth_conditional gs i).a) % 2

  v' : ℕ → ℕ
  v' i = (v_of (triples q) i + dif_second (nth_conditional gs i)) % 2

  -- the opened u and v of a triple, before and after
  U : ℕ → ℕ
  U i = opened t (λ p. u_of (triples p) i)

  W : ℕ → ℕ
  W i = opened t (λ p. v_of (triples p) i)

  U' : ℕ → ℕ
  U' i = (U i + dif (nth_conditional gs i).a) % 2

  W' : ℕ → ℕ
  W' i = (W i + dif_second (nth_conditional gs i)) % 2

  w' : ℕ → ℕ
  w' i = (product_of (triples q) i + (U i * W i + U' i * W' i)) % 2

  new_ballots : List ℕ
  new_ballots = made n (λ x. (part (bal q) x + dif x) % 2)

  new_triples : List ℕ
  new_triples = triple_list C u' v' w'

  bal' : Held
  bal' = swapped q new_ballots bal

  triples' : Held
  triples' = swapped q new_triples triples

  second : Dealing
  second = record { ballot_parts = joined t bal'; dealer_parts = joined t triples' }

  -- the lengths of the pieces
  bal_size : (p : ℕ) → p < t → length (bal p) ≡ n
  unfolding bal ballots_of n
  bal_size p h = length_piece t (length xs) d.ballot_parts p good.ballot_size h

  triples_size : (p : ℕ) → p < t → length (triples p) ≡ 3 * C
  unfolding triples triples_of C
  triples_size p h = length_piece t (3 * conditional_count gs) d.dealer_parts p good.dealer_size h

  bal_size' : (p : ℕ) → p < t → length (bal' p) ≡ n
  unfolding bal' new_ballots
  bal_size' p h = swapped_all (λ l. length l ≡ n) q new_ballots bal p (length_made n (λ x. (part (bal q) x + dif x) % 2)) (bal_size p h)

  triples_size' : (p : ℕ) → p < t → length (triples' p) ≡ 3 * C
  unfolding triples' new_triples
  triples_size' p h = swapped_all (λ l. length l ≡ 3 * C) q new_triples triples p (length_triples C u' v' w') (triples_size p h)

  -- the second dealing's pieces
  is_bal' : (p : ℕ) → p < t → ballots_of n second p ≡ bal' p
  unfolding ballots_of second
  is_bal' p h = piece_joined n bal' t bal_size' p h

  is_triples' : (p : ℕ) → p < t → triples_of gs second p ≡ triples' p
  unfolding triples_of second C
  is_triples' p h = piece_joined (3 * C) triples' t triples_size' p h

  other_bal : (p : ℕ) → p < t → p ≢ q → ballots_of n second p ≡ bal p
  unfolding bal'
  other_bal p h e = is_bal' p h ∙ swapped_other q new_ballots bal p e

  other_triples : (p : ℕ) → p < t → p ≢ q → triples_of gs second p ≡ triples p
  unfolding triples'
  other_triples p h e = is_triples' p h ∙ swapped_other q new_triples triples p e

  left_bal : ballots_of n second q ≡ new_ballots
  unfolding bal'
  left_bal = is_bal' q hq ∙ swapped_left q new_ballots bal

  left_triples : triples_of gs second q ≡ new_triples
  unfolding triples'
  left_triples = is_triples' q hq ∙ swapped_left q new_triples triples

  bal_left : (x : ℕ) → x < n → part (ballots_of n second q) x ≡ (part (bal q) x + dif x) % 2
  unfolding part new_ballots
  bal_left x h = rw left_bal (made_at n (λ x. (get_or (bal q) x 0 + dif x) % 2) x h)

  u_left : (i : ℕ) → i < C → u_of (triples_of gs second q) i ≡ u' i
  unfolding new_triples
  u_left i h = rw left_triples (triple_u C u' v' w' i h)

  v_left : (i : ℕ) → i < C → v_of (triples_of gs second q) i ≡ v' i
  unfolding new_triples
  v_left i h = rw left_triples (triple_v C u' v' w' i h)

  w_left : (i : ℕ) → i < C → product_of (triples_of gs second q) i ≡ w' i
  unfolding new_triples
  w_left i h = rw left_triples (triple_w C u' v' w' i h)

  -- opened bits of the second dealing
  opens_bal : (x : ℕ) → x < n → opened t (λ p. part (bal p) x) ≡ vs x
  unfolding bal n
  opens_bal x h = good.ballot_sums x h ∙ sym (starts x h)

  opens_bal' : (x : ℕ) → x < n → opened t (λ p. part (ballots_of n second p) x) ≡ ws x
  unfolding dif
  opens_bal' x h =
      opened_shift t q (dif x) (λ p. part (bal p) x) (λ p. part (ballots_of n second p) x) hq
      (λ (p : ℕ) l e. ap (λ (z : List ℕ). part z x) (other_bal p l e)) (bal_left x h)
      ∙ settle (opened t (λ p. part (bal p) x)) (vs x) (ws x) (opens_bal x h) (bv x) (bw x)
    where
      settle : (a v w : ℕ) → a ≡ v → v ≤ 1 → w ≤ 1 → (a + (v + w) % 2) % 2 ≡ w
      settle a v w e h k = omega arith

  opens_u : (i : ℕ) → i < C → opened t (λ p. u_of (triples_of gs second p) i) ≡ U' i
  unfolding U U' u'
  opens_u i h = opened_shift t q (dif (nth_conditional gs i).a) (λ p. u_of (triples p) i)
      (λ p. u_of (triples_of gs second p) i) hq (λ (p : ℕ) l e. ap (λ (z : List ℕ). u_of z i) (other_triples p l e))
      (u_left i h)

  opens_v : (i : ℕ) → i < C → opened t (λ p. v_of (triples_of gs second p) i) ≡ W' i
  unfolding W W' v'
  opens_v i h = opened_shift t q (dif_second (nth_conditional gs i)) (λ p. v_of (triples p) i)
      (λ p. v_of (triples_of gs second p) i) hq (λ (p : ℕ) l e. ap (λ (z : List ℕ). v_of z i) (other_triples p l e))
      (v_left i h)

  first_triple : (i : ℕ) → i < C → Triple t triples i
  unfolding triples C
  first_triple i h = good.products i h

  second_triple : (i : ℕ) → i < C → Triple t (triples_of gs second) i
  unfolding U W U' W' w'
  second_triple i h =
      let r : U' i * W' i ≤ 1 = bit_times (U' i) (W' i) (omega arith) (omega arith) in
      opened_shift t q (U i * W i + U' i * W' i) (λ p. product_of (triples p) i)
      (λ p. product_of (triples_of gs second p) i) hq
      (λ (p : ℕ) l e. ap (λ (z : List ℕ). product_of z i) (other_triples p l e)) (w_left i h)
      ∙ settle (opened t (λ p. product_of (triples p) i)) (U i * W i) (U' i * W' i) (first_triple i h) r
      ∙ sym (rw (opens_u i h, opens_v i h))
    where
      settle : (a m r : ℕ) → a ≡ m → r ≤ 1 → (a + (m + r)) % 2 ≡ r
      settle a m r e h = omega arith

  bal_bits : (p : ℕ) → Bits (bal p)
  unfolding bal ballots_of
  bal_bits p = bits_piece n d.ballot_parts p good.ballot_bits

  triples_bits : (p : ℕ) → Bits (triples p)
  unfolding triples triples_of
  triples_bits p = bits_piece (3 * conditional_count gs) d.dealer_parts p good.dealer_bits

  second_good : GoodDealing t gs ys second
  unfolding second bal' triples' new_ballots new_triples u' v' w' n C
  second_good =
      record {
        ballot_size = rw (sym same_length) (length_joined n bal' t bal_size');
        dealer_size = length_joined (3 * C) triples' t triples_size';
        ballot_bits = bits_joined t bal'
            (λ (p : ℕ) h. swapped_all Bits q new_ballots bal p
            (bits_made n (λ x. (part (bal q) x + dif x) % 2) (λ x. omega arith)) (bal_bits p));
        dealer_bits = bits_joined t triples'
            (λ (p : ℕ) h. swapped_all Bits q new_triples triples p
            (bits_triples C u' v' w' (λ i. omega arith) (λ i. omega arith) (λ i. omega arith)) (triples_bits p));
        ballot_sums = λ (x : ℕ) h. rw (sym same_length) (opens_bal' x (omega arith) ∙ starts' x (omega arith));
        products = second_triple;
      }

  -- the two runs start with the same parts, except those of q
  start : Same t q hq vs ws bv bw triples (triples_of gs second) bal (ballots_of n second) n
  unfolding diff dif
  start =
      record {
        split = record { sizes = bal_size; sums = opens_bal };
        split' = record { sizes = λ (p : ℕ) h. ap length (is_bal' p h) ∙ bal_size' p h; sums = opens_bal' };
        others = other_bal;
        left_out = bal_left;
        bits = λ (x : ℕ) h. part_bit (bal q) (bal_bits q) x;
      }
    where
      part_bit : (l : List ℕ) → Bits l → (x : ℕ) → part l x ≤ 1
      part_bit l b x = unfold part in b x

  triples_at : (i : ℕ) → i < C → DealtAt t q hq vs ws bv bw triples (triples_of gs second) i (nth_conditional gs i)
  unfolding diff diff_second dif dif_second u' v'
  triples_at i h = record { u_is = u_left i h; v_is = v_left i h }

  held : Held
  held = wire_parts_of t n gs d

  held' : Held
  held' = wire_parts_of t n gs second

  end : Same t q hq vs ws bv bw triples (triples_of gs second) held held' (n + length gs)
  unfolding held held' wire_parts_of bal triples C
  end =
      same_parts t q hq vs ws bv bw triples (triples_of gs second) other_triples n 0 gs bal (ballots_of n second) good_list holds holds'
      (λ (j : ℕ) l h. (first_triple j (omega arith), second_triple j (omega arith)))
      (λ (j : ℕ) h. let z : 0 + j ≡ j = omega arith in rw z (triples_at j h)) start

  -- the last k wires do not differ
  same_closing : (i : ℕ) → i < k → vs (n + length gs - k + i) ≡ ws (n + length gs - k + i)
  unfolding vs ws n
  same_closing i h =
      let a = length_wires xs gs in
      let b = length_wires ys gs in
      let e = output_is k (wires_of xs gs) i in
      let f = output_is k (wires_of ys gs) i in
      let g : length (wires_of xs gs) - k ≡ length xs + length gs - k = omega arith in
      let m : length (wires_of ys gs) - k ≡ length xs + length gs - k = omega arith in
      sym (rw g at e) ∙ ap (λ (l : List ℕ). get_or l i 0) closing ∙ rw m at f

  closing_same : closing_parts k (held' q) ≡ closing_parts k (held q)
  unfolding closing_parts part diff
  closing_same =
      let a = end.split.sizes q hq in
      let b = end.split'.sizes q hq in
      ext_get_or 0 (drop (length (held' q) - k) (held' q)) (drop (length (held q) - k) (held q))
      (omega (arith, length-drop (length (held' q) - k) (held' q), length-drop (length (held q) - k) (held q)))
      (λ (i : ℕ) h. at i (omega (arith, length-drop (length (held' q) - k) (held' q))))
    where
      settle : (a b v w : ℕ) → b ≡ (a + (v + w) % 2) % 2 → v ≡ w → a ≤ 1 → b ≡ a
      settle a b v w e s h = omega arith

      at : (i : ℕ) → i < k → get_or (drop (length (held' q) - k) (held' q)) i 0 ≡ get_or (drop (length (held q) - k) (held q)) i 0
      at i h =
          let a = end.split.sizes q hq in
          let b = end.split'.sizes q hq in
          let x = n + length gs - k + i in
          let e : length (held' q) - k ≡ n + length gs - k = omega arith in
          let f : length (held q) - k ≡ n + length gs - k = omega arith in
          rw (get_or-drop (length (held' q) - k) (held' q) i 0, get_or-drop (length (held q) - k) (held q) i 0, e, f)
          (settle (get_or (held q) x 0) (get_or (held' q) x 0) (vs x) (ws x) (end.left_out x (omega arith))
          (same_closing i h) (end.bits x (omega arith)))

  agree : (j : ℕ) → j < C → AgreeAt (held' q) (held q) (triples_of gs second q) (triples q) j (nth_conditional gs j)
  unfolding C
  agree j h =
      let g = nth_good n gs j good_list h in (
        first_same t q hq vs ws bv bw triples (triples_of gs second) other_triples held held' (n + length gs) j
            (nth_conditional gs j) g.0 end g.1 (triples_at j h) q hq,
        second_same t q hq vs ws bv bw triples (triples_of gs second) other_triples held held' (n + length gs) j
            (nth_conditional gs j) g.0 end g.1 (triples_at j h) q hq,
      )

  published_same : (p : ℕ) → p < t → published_of t n gs k second p ≡ published_of t n gs k d p
  unfolding published_of held held' triples
  published_same p h = go (eqb p q) refl
    where
      go : (b : Bool) → eqb p q ≡ b
          → masked_factors (held' p) (triples_of gs second p) 0 gs ++ closing_parts k (held' p)
          ≡ masked_factors (held p) (triples_of gs d p) 0 gs ++ closing_parts k (held p)
      go true e =
          let s : p ≡ q = eqb-true p q e in
          rw s (rw (
            masked_cong (held' q) (held q) (triples_of gs second q) (triples_of gs d q) 0 gs
                (λ (j : ℕ) l. let z : 0 + j ≡ j = omega arith in rw z (unfold C in agree j l)),
            closing_same,
          ))
      go false e = rw (end.others p h (eqb-false p q e), other_triples p h (eqb-false p q e))

  same_view : view_of t q n gs k d ≡ view_of t q n gs k second
  unfolding view_of held held' bal triples
  same_view =
      rw (
        others_cong t q (ballots_of n d) (ballots_of n second) (λ (p : ℕ) h e. sym (other_bal p h e)),
        others_cong t q (triples_of gs d) (triples_of gs second) (λ (p : ℕ) h e. sym (other_triples p h e)),
        others_cong t q (wire_parts_of t n gs d) (wire_parts_of t n gs second) (λ (p : ℕ) h e. sym (end.others p h e)),
        joined_cong t (published_of t n gs k d) (published_of t n gs k second) (λ (p : ℕ) h. sym (published_same p h)),
      )

  -- any other dealing of the second inputs with that view is this one
  module _ (e : Dealing) (fine : GoodDealing t gs ys e) (seen : view_of t q n gs k second ≡ view_of t q n gs k e) where
    sees_bal : (p : ℕ) → p < t → p ≢ q → ballots_of n e p ≡ ballots_of n second p
    unfolding view_of
    sees_bal p h o = sym (others_same t q (ballots_of n second) (ballots_of n e) (ap (λ (v : View). v.ballot_parts) seen) p h o)

    sees_triples : (p : ℕ) → p < t → p ≢ q → triples_of gs e p ≡ triples_of gs second p
    unfolding view_of
    sees_triples p h o = sym (others_same t q (triples_of gs second) (triples_of gs e) (ap (λ (v : View). v.dealer_parts) seen) p h o)

    sees_parts : (p : ℕ) → p < t → p ≢ q → wire_parts_of t n gs e p ≡ wire_parts_of t n gs second p
    unfolding view_of
    sees_parts p h o = sym (others_same t q (wire_parts_of t n gs second) (wire_parts_of t n gs e) (ap (λ (v : View). v.wire_parts) seen) p h o)

    -- its parts add up to the same wires
    size_bal : (p : ℕ) → p < t → length (ballots_of n e p) ≡ n
    unfolding ballots_of n
    size_bal p h = length_piece t (length xs) e.ballot_parts p (omega (arith, fine.ballot_size, ap (λ (m : ℕ). t * m) same_length)) h

    size_triples : (p : ℕ) → p < t → length (triples_of gs e p) ≡ 3 * C
    unfolding triples_of C
    size_triples p h = length_piece t (3 * conditional_count gs) e.dealer_parts p fine.dealer_size h

    opens_e : (x : ℕ) → x < n → opened t (λ p. part (ballots_of n e p) x) ≡ ws x
    unfolding n
    opens_e x h = subst (λ (m : ℕ). opened t (λ p. part (ballots_of m e p) x) ≡ get_or ys x 0) (sym same_length)
        (fine.ballot_sums x (omega arith)) ∙ sym (starts' x h)

    spells : Split t ws (wire_parts_of t n gs e) (n + length gs)
    unfolding wire_parts_of
    spells =
        parts_split t (omega arith) (triples_of gs e) ws bw n 0 gs (ballots_of n e) good_list holds'
        (λ (j : ℕ) l h. fine.products j (omega arith))
        (record { sizes = size_bal; sums = opens_e })

    -- so the left_out trustee's parts are equal modulo 2
    parts_left : (x : ℕ) → x < n + length gs → part (wire_parts_of t n gs e q) x % 2 ≡ part (held' q) x % 2
    unfolding held'
    parts_left x h =
        opened_left t q (λ p. part (wire_parts_of t n gs second p) x) (λ p. part (wire_parts_of t n gs e p) x) hq
        (λ (p : ℕ) l o. ap (λ (z : List ℕ). part z x) (sees_parts p l o))
        (spells.sums x h ∙ sym (end.split'.sums x h))

    bits_equal : (x y : ℕ) → x ≤ 1 → y ≤ 1 → x % 2 ≡ y % 2 → x ≡ y
    bits_equal x y h l m = omega arith

    part_bit : (l : List ℕ) → Bits l → (x : ℕ) → part l x ≤ 1
    unfolding part
    part_bit l b x = b x

    bal_equal : (x : ℕ) → x < n → get_or (ballots_of n e q) x 0 ≡ get_or (ballots_of n second q) x 0
    unfolding part ballots_of
    bal_equal x h =
        bits_equal (part (ballots_of n e q) x) (part (ballots_of n second q) x)
        (bits_piece n e.ballot_parts q fine.ballot_bits x) (bits_piece n second.ballot_parts q second_good.ballot_bits x)
        (opened_left t q (λ p. part (ballots_of n second p) x) (λ p. part (ballots_of n e p) x) hq
        (λ (p : ℕ) l o. ap (λ (z : List ℕ). part z x) (sees_bal p l o)) (opens_e x h ∙ sym (opens_bal' x h)))

    same_bal : (p : ℕ) → p < t → ballots_of n e p ≡ ballots_of n second p
    same_bal p h = go (eqb p q) refl
      where
        go : (b : Bool) → eqb p q ≡ b → ballots_of n e p ≡ ballots_of n second p
        go true is =
            let s : p ≡ q = eqb-true p q is in
            rw s (ext_get_or 0 (ballots_of n e q) (ballots_of n second q)
            (size_bal q hq ∙ sym (start.split'.sizes q hq))
            (λ (x : ℕ) l. bal_equal x (omega (arith, size_bal q hq))))
        go false is = sees_bal p h (eqb-false p q is)

    -- what the left_out trustee published is equal too
    size_published : (f : Dealing) → ((p : ℕ) → p < t → length (wire_parts_of t n gs f p) ≡ n + length gs) → (p : ℕ)
        → p < t → length (published_of t n gs k f p) ≡ 2 * C + k
    unfolding published_of closing_parts C
    size_published f l p h =
        let parts = wire_parts_of t n gs f p in
        omega (
          arith,
          length-append (masked_factors parts (triples_of gs f p) 0 gs) (drop (length parts - k) parts),
          length_masked parts (triples_of gs f p) 0 gs,
          length-drop (length parts - k) parts,
          l p h,
        )

    publishes : published_of t n gs k e q ≡ published_of t n gs k second q
    unfolding view_of
    publishes =
        sym (joined_same t (2 * C + k) (published_of t n gs k second) (published_of t n gs k e)
        (size_published second (unfold held' in end.split'.sizes)) (size_published e spells.sizes)
        (ap (λ (v : View). v.published) seen) q hq)

    masked_agree : (j : ℕ) → j < C
        → AgreeAt (wire_parts_of t n gs e q) (held' q) (triples_of gs e q) (triples_of gs second q) j (nth_conditional gs j)
    unfolding published_of held' C
    masked_agree j h =
        let parts = wire_parts_of t n gs e q in
        let parts' = wire_parts_of t n gs second q in
        let m = masked_factors parts (triples_of gs e q) 0 gs in
        let m' = masked_factors parts' (triples_of gs second q) 0 gs in
        let l = length_masked parts (triples_of gs e q) 0 gs in
        let l' = length_masked parts' (triples_of gs second q) 0 gs in
        let s : m ≡ m' = sym (take_at m (closing_parts k parts) (2 * conditional_count gs) l)
        ∙ ap (take (2 * conditional_count gs)) publishes
        ∙ take_at m' (closing_parts k parts') (2 * conditional_count gs) l' in
        let z : 0 + j ≡ j = omega arith in
        subst (λ (i : ℕ). AgreeAt parts parts' (triples_of gs e q) (triples_of gs second q) i (nth_conditional gs j)) z
        (masked_same parts parts' (triples_of gs e q) (triples_of gs second q) 0 gs s j h)

    unmasked : (a b x y : ℕ) → (a + x) % 2 ≡ (b + y) % 2 → a % 2 ≡ b % 2 → x ≤ 1 → y ≤ 1 → x ≡ y
    unmasked a b x y e s h l = omega arith

    dealer_bit : (i : ℕ) → (get_or (triples_of gs e q) i 0 ≤ 1) × (get_or (triples_of gs second q) i 0 ≤ 1)
    unfolding triples_of
    dealer_bit i = (
      bits_piece (3 * conditional_count gs) e.dealer_parts q fine.dealer_bits i,
      bits_piece (3 * conditional_count gs) second.dealer_parts q second_good.dealer_bits i,
    )

    u_equal : (i : ℕ) → i < C → u_of (triples_of gs e q) i ≡ u_of (triples_of gs second q) i
    unfolding u_of masked_first first_factor C
    u_equal i h =
        let g = nth_good n gs i good_list h in
        let a = (nth_conditional gs i).a in
        unmasked (part (wire_parts_of t n gs e q) a) (part (held' q) a) (get_or (triples_of gs e q) (3 * i) 0)
        (get_or (triples_of gs second q) (3 * i) 0)
        (masked_agree i h).0 (parts_left a
        (g.0.a_below (omega (arith, conditional_operands (nth_conditional gs i).kind g.0.known g.1))))
        (dealer_bit (3 * i)).0 (dealer_bit (3 * i)).1

    second_left : (g : Gate) → GoodGate (n + length gs) g → conditional_of g.kind ≡ true
        → second_factor (wire_parts_of t n gs e q) g % 2 ≡ second_factor (held' q) g % 2
    unfolding second_factor
    second_left g good is = go (eqb g.kind 7) refl
      where
        b_left : part (wire_parts_of t n gs e q) g.b % 2 ≡ part (held' q) g.b % 2
        b_left = parts_left g.b (good.b_below (omega (arith, conditional_operands g.kind good.known is)))

        add : (x y x' y' : ℕ) → x % 2 ≡ x' % 2 → y % 2 ≡ y' % 2 → (x + y) % 2 % 2 ≡ (x' + y') % 2 % 2
        add x y x' y' e f = ap (λ (m : ℕ). m % 2) (sym (add_mods x y) ∙ rw (e, f) (add_mods x' y'))

        go : (b : Bool) → eqb g.kind 7 ≡ b
            → cond b ((part (wire_parts_of t n gs e q) g.b + part (wire_parts_of t n gs e q) g.c) % 2)
            (part (wire_parts_of t n gs e q) g.b) % 2
            ≡ cond b ((part (held' q) g.b + part (held' q) g.c) % 2) (part (held' q) g.b) % 2
        go true k = add (part (wire_parts_of t n gs e q) g.b) (part (wire_parts_of t n gs e q) g.c)
            (part (held' q) g.b) (part (held' q) g.c) b_left
            (parts_left g.c (good.c_below (choice_operands g.kind k)))
        go false k = b_left

    v_equal : (i : ℕ) → i < C → v_of (triples_of gs e q) i ≡ v_of (triples_of gs second q) i
    unfolding v_of masked_second C
    v_equal i h =
        let g = nth_good n gs i good_list h in
        unmasked (second_factor (wire_parts_of t n gs e q) (nth_conditional gs i))
        (second_factor (held' q) (nth_conditional gs i)) (get_or (triples_of gs e q) (3 * i + 1) 0)
        (get_or (triples_of gs second q) (3 * i + 1) 0)
        (masked_agree i h).1 (second_left (nth_conditional gs i) g.0 g.1) (dealer_bit (3 * i + 1)).0 (dealer_bit (3 * i + 1)).1

    -- u and v are the same for all trustees, so the product is the same
    everywhere : (f : List ℕ → ℕ) → f (triples_of gs e q) ≡ f (triples_of gs second q) → (p : ℕ) → p < t
        → f (triples_of gs e p) ≡ f (triples_of gs second p)
    everywhere f s p h = go (eqb p q) refl
      where
        go : (b : Bool) → eqb p q ≡ b → f (triples_of gs e p) ≡ f (triples_of gs second p)
        go true is = let k : p ≡ q = eqb-true p q is in rw k s
        go false is = ap f (sees_triples p h (eqb-false p q is))

    w_equal : (i : ℕ) → i < C → product_of (triples_of gs e q) i ≡ product_of (triples_of gs second q) i
    unfolding product_of C
    w_equal i h =
        let su = opened_same t (λ p. u_of (triples_of gs e p) i) (λ p. u_of (triples_of gs second p) i) (everywhere (λ z. u_of z i) (u_equal i h)) in
        let sv = opened_same t (λ p. v_of (triples_of gs e p) i) (λ p. v_of (triples_of gs second p) i) (everywhere (λ z. v_of z i) (v_equal i h)) in
        bits_equal (get_or (triples_of gs e q) (3 * i + 2) 0) (get_or (triples_of gs second q) (3 * i + 2) 0)
        (dealer_bit (3 * i + 2)).0 (dealer_bit (3 * i + 2)).1
        (opened_left t q (λ p. product_of (triples_of gs second p) i) (λ p. product_of (triples_of gs e p) i) hq
        (λ (p : ℕ) l o. ap (λ (z : List ℕ). product_of z i) (sees_triples p l o))
        (fine.products i h ∙ rw (su, sv) (sym (second_triple i h))))

    same_triples : (p : ℕ) → p < t → triples_of gs e p ≡ triples_of gs second p
    same_triples p h = go (eqb p q) refl
      where
        go : (b : Bool) → eqb p q ≡ b → triples_of gs e p ≡ triples_of gs second p
        go true is =
            let s : p ≡ q = eqb-true p q is in
            rw s (triples_same C (triples_of gs e q) (triples_of gs second q) (size_triples q hq)
            (ap length (is_triples' q hq) ∙ triples_size' q hq) (λ (i : ℕ) l. (u_equal i l, v_equal i l, w_equal i l)))
        go false is = sees_triples p h (eqb-false p q is)

    same_dealing : e ≡ second
    same_dealing =
        let b : e.ballot_parts ≡ second.ballot_parts =
        sym (whole_table t n e.ballot_parts
        (unfold n in omega (arith, fine.ballot_size, ap (λ (m : ℕ). t * m) same_length)))
        ∙ joined_cong t (piece n e.ballot_parts) (piece n second.ballot_parts) (unfold ballots_of in same_bal)
        ∙ whole_table t n second.ballot_parts (unfold n in omega (arith, second_good.ballot_size, ap (λ (m : ℕ). t * m) same_length)) in
        let c : e.dealer_parts ≡ second.dealer_parts =
        sym (whole_table t (3 * conditional_count gs) e.dealer_parts fine.dealer_size)
        ∙ joined_cong t (piece (3 * conditional_count gs) e.dealer_parts)
        (piece (3 * conditional_count gs) second.dealer_parts) (unfold triples_of in same_triples)
        ∙ whole_table t (3 * conditional_count gs) second.dealer_parts second_good.dealer_size in
        dealing_same e second b c

  pub exactly_one : ExactlyOne (λ (e : Dealing). GoodDealing t gs ys e × (view_of t q (length xs) gs k d ≡ view_of t q (length ys) gs k e))
  unfolding n
  exactly_one = (
    second,
    (second_good, same_view ∙ ap (λ (m : ℕ). view_of t q m gs k second) same_length),
    λ (e : Dealing) r. same_dealing e r.0 (sym same_view ∙ r.1 ∙ ap (λ (m : ℕ). view_of t q m gs k e) (sym same_length)),
  )

pub views_hide_inputs : ViewsHideInputs
views_hide_inputs t q k gs xs ys d hq enough same bx by passes closing good =
    exactly_one t q k gs xs ys d hq enough same bx by passes closing good
