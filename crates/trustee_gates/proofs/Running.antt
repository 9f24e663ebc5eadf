-- One turn of the trustees' evaluation: running a gate and then the rest gives what running all that was left
-- gives.
-- Assumes nothing.
use mathlib.Core.Path.{◌≡◌, ◌∙◌, refl, sym, ap, subst}
use mathlib.Core.Bool.{Bool, true, false, cond}
use mathlib.Core.List.{List, [], ◌∷◌, ◌++◌}
use Prim.Native.Nat.{ℕ, suc, ◌+◌, ◌*◌, ◌≤◌, ◌<◌}
use native.Mathlib.Nat.{add-zero, add-suc}
use native.Mathlib.Omega.{arith}
use lib.Dec.{T}
use lib.ListN.{length, take, drop, set, length-append, drop_of_length-le}
use lib.Seq.{get_or-take, take_all, length-take-le, take-suc-set, sets}
use Rattle.gates.specs.Kind.{conditional_of}
use Rattle.gates.specs.Gate.{Gate, gates_of, gate_at}
use Rattle.gates.specs.Board.{conditional_count}
use Rattle.gates.specs.Test.{good_gate, first_bad}
use Rattle.std.specs.Prelude.{None}
use Rattle.gates.proofs.Table.{gates_from}
use Rattle.gates.proofs.Goodness.{good_gate_lem}
use Rattle.gates.proofs.Reading.{Below, operands_below}
use Rattle.gates.proofs.Counting.{count_most}
use Rattle.gates.proofs.Laws.{AllGood, all_good}
use Rattle.trustee_shares.specs.Shares.{part, first_factor, second_factor, masked_first, masked_second, Held, opened_first, opened_second, new_part, mark_of, parts_of}
use Rattle.trustee_shares.specs.Views.{piece, joined, masked_factors}
use Rattle.trustee_shares.proofs.Accuracy.{opened_same, part_before, count_mark, mark_one}
use Rattle.trustee_shares.proofs.Tables.{length_piece, whole_table, joined_cong}
use Rattle.trustee_gates.specs.declared.gate.Pieces.{Pieces}
use Rattle.trustee_gates.specs.inner.Tables.{each_puts}
use Rattle.trustee_gates.specs.inner.Gate.{GateReady}
use Rattle.trustee_gates.proofs.Puts.{length_puts, puts_at}
use Rattle.trustee_shares.proofs.Publishing.{mark_none}

-- equal parts of the operands give equal bits
pub record SameParts (t : ℕ) (held held' : Held) (g : Gate) : Type 0 where
  pub a_same : (p : ℕ) → p < t → part (held p) g.a ≡ part (held' p) g.a
  pub b_same : (p : ℕ) → p < t → part (held p) g.b ≡ part (held' p) g.b
  pub c_same : (p : ℕ) → p < t → part (held p) g.c ≡ part (held' p) g.c

module _ (t : ℕ) (triples held held' : Held) (i : ℕ) (g : Gate) (s : SameParts t held held' g) where
  pub first_cong : (p : ℕ) → p < t → masked_first (held p) (triples p) i g ≡ masked_first (held' p) (triples p) i g
  unfolding masked_first first_factor
  first_cong p h = rw (s.a_same p h)

  pub second_cong : (p : ℕ) → p < t → masked_second (held p) (triples p) i g ≡ masked_second (held' p) (triples p) i g
  unfolding masked_second second_factor
  second_cong p h = rw (s.b_same p h, s.c_same p h)

  pub new_cong : (p : ℕ) → p < t → new_part t triples held i g p ≡ new_part t triples held' i g p
  unfolding new_part opened_first opened_second
  new_cong p h =
      let e = opened_same t (λ q. masked_first (held q) (triples q) i g) (λ q. masked_first (held' q) (triples q) i g) first_cong in
      let f = opened_same t (λ q. masked_second (held q) (triples q) i g) (λ q. masked_second (held' q) (triples q) i g) second_cong in
      rw (e, f, s.a_same p h, s.b_same p h, s.c_same p h)

same_by : (t : ℕ) (held held' : Held) (g : Gate) → ((p : ℕ) → p < t → held p ≡ held' p) → SameParts t held held' g
same_by t held held' g e =
    record {
      a_same = λ p h. ap (λ (l : List ℕ). part l g.a) (e p h);
      b_same = λ p h. ap (λ (l : List ℕ). part l g.b) (e p h);
      c_same = λ p h. ap (λ (l : List ℕ). part l g.c) (e p h);
    }

-- the parts after a list depend only on what the first t trustees held before
pub parts_cong : (t : ℕ) (triples : Held) (gs : List Gate) (held held' : Held) (i : ℕ) → ((p : ℕ) → p < t → held p ≡ held' p)
    → (p : ℕ) → p < t → parts_of t triples held i gs p ≡ parts_of t triples held' i gs p
unfolding parts_of
parts_cong t triples [] held held' i e p h = e p h
parts_cong t triples (g ∷ gs) held held' i e p h =
    parts_cong t triples gs (λ q. held q ++ (new_part t triples held i g q ∷ []))
    (λ q. held' q ++ (new_part t triples held' i g q ∷ [])) (i + mark_of g)
    (λ (q : ℕ) l. rw (e q l, new_cong t triples held held' i g (same_by t held held' g e) q l)) p h

-- parts that a trustee holds stay, and each gate adds one
pub parts_keep : (t : ℕ) (triples : Held) (gs : List Gate) (held : Held) (i n p x : ℕ) → length (held p) ≡ n → x < n
    → part (parts_of t triples held i gs p) x ≡ part (held p) x
unfolding parts_of
parts_keep t triples [] held i n p x e h = refl
parts_keep t triples (g ∷ gs) held i n p x e h =
    let v = new_part t triples held i g p in
    parts_keep t triples gs (λ q. held q ++ (new_part t triples held i g q ∷ [])) (i + mark_of g) (suc n) p x
    (omega (arith, length-append (held p) (v ∷ []))) (omega arith)
    ∙ part_before (held p) v n x e h

pub length_parts : (t : ℕ) (triples : Held) (gs : List Gate) (held : Held) (i n p : ℕ) → length (held p) ≡ n
    → length (parts_of t triples held i gs p) ≡ n + length gs
unfolding parts_of
length_parts t triples [] held i n p e = omega arith
length_parts t triples (g ∷ gs) held i n p e =
    let v = new_part t triples held i g p in
    omega (
      arith,
      length_parts t triples gs (λ q. held q ++ (new_part t triples held i g q ∷ [])) (i + mark_of g) (suc n)
          p (omega (arith, length-append (held p) (v ∷ []))),
    )

module _ (t size_w size_p inputs : ℕ) (triples : Held) (table : List ℕ) (final final_published : Held) where
  -- The invariant: the gates from g on are left, and running them on these tables gives the wire parts and
  -- published bits of the whole list.
  pub record Left (ws published : List ℕ) (i g : ℕ) : Type 0 where
    pub order : g ≤ length (gates_of table)
    pub wires_left : (p : ℕ) → p < t → parts_of t triples (λ q. take (inputs + g) (piece size_w ws q)) i (drop g (gates_of table)) p ≡ final p
    pub published_left : (p : ℕ) → p < t
        → sets (piece size_p published p) (2 * i) (masked_factors (final p) (triples p) i (drop g (gates_of table)))
        ≡ final_published p
    pub count_left : i + conditional_count (drop g (gates_of table)) ≡ conditional_count (gates_of table)
    pub good_left : AllGood (inputs + g) (drop g (gates_of table))
    pub wires_long : length ws ≡ t * size_w
    pub published_long : length published ≡ t * size_p

  module _ (size_is : size_w ≡ inputs + length (gates_of table)) (room : 2 * conditional_count (gates_of table) ≤ size_p)
      (some_input : 1 ≤ inputs)
      (ws published : List ℕ) (i g : ℕ) (left : Left ws published i g) (h : g < length (gates_of table)) where
    abbrev x : Gate
    x = gate_at table g

    abbrev rest : List Gate
    rest = drop (suc g) (gates_of table)

    abbrev own : ℕ
    own = inputs + g

    from : drop g (gates_of table) ≡ x ∷ rest
    from = gates_from table g h

    good_from : AllGood own (x ∷ rest)
    good_from = subst (AllGood own) from left.good_left

    pub gate_good : T (good_gate own x)
    gate_good = good_from.0

    pub operands : Below own x
    operands = operands_below own x (omega arith) gate_good

    pub count_from : i + (mark_of x + conditional_count rest) ≡ conditional_count (gates_of table)
    count_from = omega (arith, left.count_left, ap conditional_count from, count_mark x rest)

    long : (p : ℕ) → p < t → length (piece size_w ws p) ≡ size_w
    long p l = length_piece t size_w ws p left.wires_long l

    held : Held
    held = λ p. take own (piece size_w ws p)

    held_long : (p : ℕ) → p < t → length (held p) ≡ own
    unfolding held
    held_long p l = length-take-le own (piece size_w ws p) (omega (arith, long p l))

    taken : (p y : ℕ) → y < own → part (piece size_w ws p) y ≡ part (held p) y
    unfolding part held
    taken p y l = sym (get_or-take own (piece size_w ws p) y 0 l)

    same_taken : SameParts t (piece size_w ws) held x
    same_taken =
        record {
          a_same = λ (p : ℕ) l. taken p x.a operands.a_below;
          b_same = λ (p : ℕ) l. taken p x.b operands.b_below;
          c_same = λ (p : ℕ) l. taken p x.c operands.c_below;
        }

    -- the parts of the operands do not change any more
    is_final : (p : ℕ) → p < t → parts_of t triples held i (drop g (gates_of table)) p ≡ final p
    unfolding held
    is_final p l = left.wires_left p l

    stands : (p y : ℕ) → p < t → y < own → part (piece size_w ws p) y ≡ part (final p) y
    stands p y l b =
        taken p y b ∙ sym (parts_keep t triples (drop g (gates_of table)) held i own p y (held_long p l) b)
        ∙ ap (λ (r : List ℕ). part r y) (is_final p l)

    same_final : SameParts t (piece size_w ws) final x
    same_final =
        record {
          a_same = λ (p : ℕ) l. stands p x.a l operands.a_below;
          b_same = λ (p : ℕ) l. stands p x.b l operands.b_below;
          c_same = λ (p : ℕ) l. stands p x.c l operands.c_below;
        }

    -- the wire parts after the gate
    module _ (ws' : List ℕ) (e : ws' ≡ each_puts t size_w own (λ p. new_part t triples (piece size_w ws) i x p ∷ []) ws) where
      new_held : (p : ℕ) → p < t → take (inputs + suc g) (piece size_w ws' p) ≡ held p ++ (new_part t triples held i x p ∷ [])
      unfolding held
      new_held p l =
          let v = new_part t triples (piece size_w ws) i x p in
          let put : piece size_w ws' p ≡ set (piece size_w ws p) own v =
          ap (λ (r : List ℕ). piece size_w r p) e
          ∙ puts_at size_w own (λ q. new_part t triples (piece size_w ws) i x q ∷ []) ws t p l
          (λ (q : ℕ) m. omega arith) in
          ap (λ (r : List ℕ). take (inputs + suc g) r) put
          ∙ ap (λ (n : ℕ). take n (set (piece size_w ws p) own v)) (add-suc inputs g)
          ∙ take-suc-set (piece size_w ws p) own v (omega (arith, long p l))
          ∙ ap (λ (n : ℕ). take own (piece size_w ws p) ++ (n ∷ []))
          (new_cong t triples (piece size_w ws) (λ q. take own (piece size_w ws q)) i x same_taken p l)

      pub wires_after : (p : ℕ) → p < t → parts_of t triples (λ q. take (inputs + suc g) (piece size_w ws' q)) (i + mark_of x) rest p ≡ final p
      unfolding parts_of
      wires_after p l =
          parts_cong t triples rest (λ q. take (inputs + suc g) (piece size_w ws' q))
          (λ q. held q ++ (new_part t triples held i x q ∷ [])) (i + mark_of x) new_held p l
          ∙ sym (ap (λ (gs : List Gate). parts_of t triples held i gs p) from) ∙ is_final p l

    -- the published bits after the gate
    module _ (published' : List ℕ)
        (e : published' ≡ cond (conditional_of x.kind)
        (each_puts t size_p (2 * i) (λ p. masked_first (piece size_w ws p) (triples p) i x ∷ masked_second
        (piece size_w ws p) (triples p) i x ∷ []) published) published) where
      two_more : (n : ℕ) → 2 * (n + 1) ≡ suc (suc (2 * n))
      two_more n = omega arith

      pub published_after : (p : ℕ) → p < t
          → sets (piece size_p published' p) (2 * (i + mark_of x))
          (masked_factors (final p) (triples p) (i + mark_of x) rest) ≡ final_published p
      unfolding masked_factors
      published_after p l =
          go (conditional_of x.kind) refl e
          ∙ sym (ap (λ (gs : List Gate). sets (piece size_p published p) (2 * i)
          (masked_factors (final p) (triples p) i gs)) from) ∙ left.published_left p l
        where
          first : ℕ
          first = masked_first (final p) (triples p) i x

          second : ℕ
          second = masked_second (final p) (triples p) i x

          go : (b : Bool) → conditional_of x.kind ≡ b
              → published' ≡ cond b (each_puts t size_p (2 * i)
              (λ p. masked_first (piece size_w ws p) (triples p) i x ∷ masked_second (piece size_w ws p) (triples p) i x ∷
              []) published) published
              → sets (piece size_p published' p) (2 * (i + mark_of x)) (masked_factors (final p) (triples p) (i + mark_of x) rest)
              ≡ sets (piece size_p published p) (2 * i) (masked_factors (final p) (triples p) i (x ∷ rest))
          go true is f =
              let one = mark_one x is in
              let put : piece size_p published' p
              ≡ sets (piece size_p published p) (2 * i)
              (masked_first (piece size_w ws p) (triples p) i x ∷ masked_second (piece size_w ws p) (triples p) i x ∷ []) =
              ap (λ (r : List ℕ). piece size_p r p) f
              ∙ puts_at size_p (2 * i) (λ q. masked_first (piece size_w ws q) (triples q) i x ∷ masked_second
              (piece size_w ws q) (triples q) i x ∷ []) published t p l (λ (q : ℕ) m. omega (arith, count_from)) in
              ap (λ (r : List ℕ). sets r (2 * (i + mark_of x)) (masked_factors (final p) (triples p) (i + mark_of x) rest)) put
              ∙ ap (λ (n : ℕ). sets (sets (piece size_p published p) (2 * i)
              (masked_first (piece size_w ws p) (triples p) i x ∷ masked_second (piece size_w ws p) (triples p) i x ∷
              [])) (2 * (i + n)) (masked_factors (final p) (triples p) (i + n) rest)) one
              ∙ ap (λ (n : ℕ). sets (sets (piece size_p published p) (2 * i)
              (masked_first (piece size_w ws p) (triples p) i x ∷ masked_second (piece size_w ws p) (triples p) i x ∷
              [])) n (masked_factors (final p) (triples p) (i + 1) rest)) (two_more i)
              ∙ ap (λ (n : ℕ). sets (piece size_p published p) (2 * i)
              (n ∷ masked_second (piece size_w ws p) (triples p) i x ∷ masked_factors (final p) (triples p) (i + 1)
              rest)) (first_cong t triples (piece size_w ws) final i x same_final p l)
              ∙ ap (λ (n : ℕ). sets (piece size_p published p) (2 * i)
              (first ∷ n ∷ masked_factors (final p) (triples p) (i + 1) rest))
              (second_cong t triples (piece size_w ws) final i x same_final p l)
              ∙ sym (ap (λ (b : Bool). sets (piece size_p published p) (2 * i)
              (cond b (first ∷ second ∷ masked_factors (final p) (triples p) (i + 1) rest)
              (masked_factors (final p) (triples p) i rest))) is)
          go false is f =
              let none : i + mark_of x ≡ i = omega (arith, mark_none x is) in
              ap (λ (r : List ℕ). sets (piece size_p r p) (2 * (i + mark_of x)) (masked_factors (final p) (triples p) (i + mark_of x) rest)) f
              ∙ ap (λ (n : ℕ). sets (piece size_p published p) (2 * n) (masked_factors (final p) (triples p) n rest)) none
              ∙ sym (ap (λ (b : Bool). sets (piece size_p published p) (2 * i)
              (cond b (first ∷ second ∷ masked_factors (final p) (triples p) (i + 1) rest)
              (masked_factors (final p) (triples p) i rest))) is)

      long_after : length published' ≡ t * size_p
      long_after = go (conditional_of x.kind) e
        where
          go : (b : Bool) → published' ≡ cond b
              (each_puts t size_p (2 * i) (λ p. masked_first (piece size_w ws p) (triples p) i x ∷ masked_second
              (piece size_w ws p) (triples p) i x ∷ []) published) published → length published' ≡ t * size_p
          go true f = ap length f ∙ length_puts t size_p (2 * i)
              (λ p. masked_first (piece size_w ws p) (triples p) i x ∷ masked_second (piece size_w ws p) (triples p) i x ∷
              []) published ∙ left.published_long
          go false f = ap length f ∙ left.published_long

      pub left_turn : (ws' : List ℕ) → ws'
          ≡ each_puts t size_w own (λ p. new_part t triples (piece size_w ws) i x p ∷ []) ws
          → Left ws' published' (i + mark_of x) (suc g)
      left_turn ws' f =
          record {
            order = h;
            wires_left = wires_after ws' f;
            published_left = published_after;
            count_left = omega (arith, count_from);
            good_left = subst (λ (n : ℕ). AllGood n rest) (sym (add-suc inputs g)) good_from.1;
            wires_long = ap length f ∙ length_puts t size_w own (λ p. new_part t triples (piece size_w ws) i x p ∷ []) ws ∙ left.wires_long;
            published_long = long_after;
          }

  -- if no gate is left, the tables are those of the whole list
  pub left_end : size_w ≡ inputs + length (gates_of table) → (ws published : List ℕ) (i g : ℕ) → Left ws published i g
      → length (gates_of table) ≤ g
      → (ws ≡ joined t final) × (published ≡ joined t final_published)
  left_end size_is ws published i g left h =
      let e : g ≡ length (gates_of table) = omega (arith, left.order) in
      let none : drop g (gates_of table) ≡ [] = drop_of_length-le (gates_of table) {i = g} h in (
        sym (whole_table t size_w ws left.wires_long)
            ∙ joined_cong t (piece size_w ws) final
            (λ (p : ℕ) l. sym (all_taken p l)
            ∙ sym (ap (λ (gs : List Gate). parts_of t triples (λ q. take (inputs + g) (piece size_w ws q)) i gs p) none
            ∙ no_gate p) ∙ left.wires_left p l),
        sym (whole_table t size_p published left.published_long)
            ∙ joined_cong t (piece size_p published) final_published
            (λ (p : ℕ) l.
            sym (ap (λ (gs : List Gate). sets (piece size_p published p) (2 * i)
            (masked_factors (final p) (triples p) i gs)) none ∙ no_factor p) ∙ left.published_left p l),
      )
    where
      all_taken : (p : ℕ) → p < t → take (inputs + g) (piece size_w ws p) ≡ piece size_w ws p
      all_taken p l = take_all (inputs + g) (piece size_w ws p) (omega (arith, length_piece t size_w ws p left.wires_long l))

      no_gate : (p : ℕ) → parts_of t triples (λ q. take (inputs + g) (piece size_w ws q)) i [] p ≡ take (inputs + g) (piece size_w ws p)
      no_gate p = unfold parts_of in refl

      no_factor : (p : ℕ) → sets (piece size_p published p) (2 * i) (masked_factors (final p) (triples p) i []) ≡ piece size_p published p
      no_factor p = unfold masked_factors in refl

-- the invariant before the first gate
pub left_start : (t size_w size_p inputs : ℕ) (triples : Held) (table ws published : List ℕ)
    → first_bad inputs 0 (gates_of table) ≡ None → length ws ≡ t * size_w → length published ≡ t * size_p
    → Left t size_w size_p inputs triples table (parts_of t triples (λ p. take inputs (piece size_w ws p)) 0 (gates_of table))
    (λ p. sets (piece size_p published p) 0
    (masked_factors (parts_of t triples (λ q. take inputs (piece size_w ws q)) 0 (gates_of table) p) (triples p) 0
    (gates_of table))) ws published 0 0
left_start t size_w size_p inputs triples table ws published good w q =
    record {
      order = omega arith;
      wires_left = λ (p : ℕ) l. ap (λ (n : ℕ). parts_of t triples (λ r. take n (piece size_w ws r)) 0 (gates_of table) p) (add-zero inputs);
      published_left = λ (p : ℕ) l. refl;
      count_left = omega arith;
      good_left = all_good inputs 0 (gates_of table) good;
      wires_long = w;
      published_long = q;
    }

module _ (t inputs : ℕ) (pieces : Pieces) (table triples : List ℕ) (final final_published : Held)
    (size_is : pieces.wires ≡ inputs + length (gates_of table)) (few : inputs + length (gates_of table) < 1073741824)
    (triples_size : 3 * conditional_count (gates_of table) ≤ pieces.triples)
    (room : 2 * conditional_count (gates_of table) ≤ pieces.published) (some_input : 1 ≤ inputs)
    (triples_length : length triples ≡ t * pieces.triples)
    (ws published : List ℕ) (i g : ℕ)
    (left : Left t pieces.wires pieces.published inputs (piece pieces.triples triples) table final
    final_published ws published i g) (h : g < length (gates_of table))
    (r : Gate) (is : r ≡ gate_at table g) where
  -- the next gate can be run
  pub gate_ready : GateReady t pieces r (inputs + g) i triples ws published
  gate_ready =
      let good = gate_good t pieces.wires pieces.published inputs (piece pieces.triples triples) table final
      final_published size_is room some_input ws published i g left h in
      let below = operands t pieces.wires pieces.published inputs (piece pieces.triples triples) table final
      final_published size_is room some_input ws published i g left h in
      let count = count_from t pieces.wires pieces.published inputs (piece pieces.triples triples) table final
      final_published size_is room some_input ws published i g left h in
      let a : r.a ≡ (gate_at table g).a = ap (λ (x : Gate). x.a) is in
      let b : r.b ≡ (gate_at table g).b = ap (λ (x : Gate). x.b) is in
      let c : r.c ≡ (gate_at table g).c = ap (λ (x : Gate). x.c) is in
      let k : r.kind ≡ (gate_at table g).kind = ap (λ (x : Gate). x.kind) is in
      let most = count_most (gates_of table) in
      record {
        free = record {
          a_in = omega (arith, below.a_below);
          b_in = omega (arith, below.b_below);
          c_in = omega (arith, below.c_below);
          own_in = omega arith;
          wires_length = left.wires_long;
        };
        known = omega (arith, (good_gate_lem (inputs + g) (gate_at table g) good).known);
        few = omega (arith, count);
        triple_in = λ e. omega (arith, count, mark_one (gate_at table g) (ap conditional_of (sym k) ∙ e));
        factors_in = λ e. omega (arith, count, mark_one (gate_at table g) (ap conditional_of (sym k) ∙ e));
        triples_length = triples_length;
        published_length = left.published_long;
      }

  -- the invariant after that gate
  pub turn_by : (ws' published' : List ℕ) (i' g' : ℕ) → i' ≡ i + mark_of r
      → ws' ≡ each_puts t pieces.wires (inputs + g)
      (λ p. new_part t (piece pieces.triples triples) (piece pieces.wires ws) i r p ∷ []) ws
      → published' ≡ cond (conditional_of r.kind)
      (each_puts t pieces.published (2 * i)
      (λ p. masked_first (piece pieces.wires ws p) (piece pieces.triples triples p) i r ∷ masked_second
      (piece pieces.wires ws p) (piece pieces.triples triples p) i r ∷ []) published) published
      → g' ≡ suc g → Left t pieces.wires pieces.published inputs (piece pieces.triples triples) table final
      final_published ws' published' i' g'
  turn_by ws' published' i' g' ei ew ep eg =
      rw (ei ∙ ap (λ (x : Gate). i + mark_of x) is, eg)
      (left_turn t pieces.wires pieces.published inputs (piece pieces.triples triples) table final
      final_published size_is room some_input ws published i g left h published'
      (ep ∙ ap (λ (x : Gate). cond (conditional_of x.kind)
      (each_puts t pieces.published (2 * i)
      (λ p. masked_first (piece pieces.wires ws p) (piece pieces.triples triples p) i x ∷ masked_second
      (piece pieces.wires ws p) (piece pieces.triples triples p) i x ∷ []) published) published) is) ws'
      (ew ∙ ap (λ (x : Gate). each_puts t pieces.wires (inputs + g)
      (λ p. new_part t (piece pieces.triples triples) (piece pieces.wires ws) i x p ∷ []) ws) is))
