-- Trustees who exchange sums once for each level end with the wire parts and the published bits of the single call.
-- Assumes nothing.
use mathlib.Core.Path.{◌≡◌, ◌∙◌, refl, sym, ap, subst}
use mathlib.Core.Bool.{Bool, true, false, cond}
use mathlib.Core.List.{List, [], ◌∷◌, ◌++◌, append-nil}
use Prim.Native.Nat.{ℕ, zero, suc, ◌+◌, ◌-◌, ◌*◌, ◌≤◌, ◌<◌}
use native.Mathlib.Nat.{add-zero, add-suc}
use native.Mathlib.Omega.{arith}
use lib.Dec.{ltb}
use lib.ListN.{length, get_or, take, drop, replicate, length-append, length-replicate, length-drop, drop_of_length-le, get_or-append}
use lib.Seq.{ext_get_or, get_or-append-add, sets, sets-eq, take_at}
use borrow.Author.Tests.{ltb-true, ltb-false, lt-ltb, le-ltb, eq-eqb, ne_eqb}
use Rattle.basics.proofs.Tables.{zeros_at}
use Rattle.gates.specs.Kind.{conditional_of}
use Rattle.gates.specs.Gate.{Gate}
use Rattle.gates.specs.Board.{conditional_count}
use Rattle.gates.specs.Test.{first_bad}
use Rattle.std.specs.Prelude.{None}
use Rattle.gates.proofs.Goodness.{good_gate_lem}
use Rattle.gates.proofs.Laws.{AllGood, all_good}
use Rattle.gate_levels.specs.Levels.{levels_of, rounds_of}
use Rattle.gates.proofs.Reading.{Below, operands_below}
use Rattle.gate_levels.proofs.Laws.{Leveled, levels_leveled, operand_levels, maximum_most}
use Rattle.trustee_shares.specs.Shares.{part, Held, new_part, mark_of, parts_of}
use Rattle.trustee_shares.specs.Views.{Dealing, ballots_of, triples_of, wire_parts_of, masked_factors, closing_parts, published_of}
use Rattle.trustee_shares.proofs.Accuracy.{part_new}
use Rattle.trustee_shares.proofs.Publishing.{length_masked}
use Rattle.trustee_gates.proofs.Running.{SameParts, new_cong, parts_keep, length_parts}
use Rattle.trustee_rounds.specs.Rounds.{Turn, enters, publishes, closes, start_wires, start_published}
use Rattle.trustee_rounds.specs.Together.{sums_of, Holdings, turn_of, parts_after, published_after, holdings_after, RoundsMakeTheTally, EarlierFollows}
use Rattle.trustee_rounds.proofs.Entering.{Fits, Heard, reached, turn, Stands, stands_end}
use Rattle.trustee_rounds.proofs.Publishing.{Shown, heard_shown, Published, published_end, all_shown, same_shown}

-- a list's own levels and parts fit each of its gates
fits_list : (t inputs : ℕ) (triples final : Held) (levels : List ℕ) → 1 ≤ inputs
    → (gs : List Gate) (g i : ℕ) (held : Held) → ((p : ℕ) → p < t → length (held p) ≡ inputs + g)
    → ((p : ℕ) → p < t → final p ≡ parts_of t triples held i gs p) → AllGood (inputs + g) gs
    → Leveled inputs levels g gs → Fits t inputs triples final levels gs g i
unfolding parts_of
fits_list t inputs triples final levels pos [] g i held long is good leveled = tt
fits_list t inputs triples final levels pos (x ∷ xs) g i held long is good leveled = (
  record {
    known = (good_gate_lem own x good.0).known;
    below = below;
    level = leveled.0;
    new = λ (p : ℕ) l.
        ap (λ (r : List ℕ). part r own) (is p l) ∙ parts_keep t triples xs next (i + mark_of x) (suc own) p own (next_long p l) (omega arith)
        ∙ part_new (held p) (new_part t triples held i x p) own (long p l) ∙ new_cong t triples held final i x same p l;
  },
  fits_list t inputs triples final levels pos xs (suc g) (i + mark_of x) next
      (λ (p : ℕ) l. next_long p l ∙ sym (add-suc inputs g)) is
      (subst (λ (m : ℕ). AllGood m xs) (sym (add-suc inputs g)) good.1) leveled.1,
)
  where
    own : ℕ
    own = inputs + g

    next : Held
    next = λ p. held p ++ (new_part t triples held i x p ∷ [])

    below : Below own x
    below = operands_below own x (omega arith) good.0

    next_long : (p : ℕ) → p < t → length (next p) ≡ suc own
    next_long p l = omega (arith, length-append (held p) (new_part t triples held i x p ∷ []), long p l)

    stays : (p y : ℕ) → p < t → y < own → part (held p) y ≡ part (final p) y
    stays p y l b = sym (ap (λ (r : List ℕ). part r y) (is p l) ∙ parts_keep t triples (x ∷ xs) held i own p y (long p l) b)

    same : SameParts t held final x
    same =
        record {
          a_same = λ (p : ℕ) l. stays p x.a l below.a_below;
          b_same = λ (p : ℕ) l. stays p x.b l below.b_below;
          c_same = λ (p : ℕ) l. stays p x.c l below.c_below;
        }

module _ (t inputs k : ℕ) (gs : List Gate) (d : Dealing) (pos : 1 ≤ inputs) (enough : k ≤ length gs)
    (good : first_bad inputs 0 gs ≡ None) (ballots : (p : ℕ) → p < t → length (ballots_of inputs d p) ≡ inputs) where
  size : ℕ
  size = length gs

  C : ℕ
  C = conditional_count gs

  R : ℕ
  R = rounds_of inputs gs

  levels : List ℕ
  levels = levels_of inputs gs

  triples : Held
  triples = triples_of gs d

  final : Held
  final = wire_parts_of t inputs gs d

  good_all : AllGood inputs gs
  good_all = subst (λ (n : ℕ). AllGood n gs) (add-zero inputs) (all_good inputs 0 gs good)

  count_is : C ≡ conditional_count gs
  count_is = unfold C in refl

  fits : Fits t inputs triples final levels gs 0 0
  unfolding final wire_parts_of triples levels
  fits =
      fits_list t inputs triples final levels pos gs 0 0 (ballots_of inputs d)
      (λ (p : ℕ) l. ballots p l ∙ sym (add-zero inputs)) (λ (p : ℕ) l. refl)
      (all_good inputs 0 gs good) (levels_leveled inputs gs pos good_all)

  long_final : (p : ℕ) → p < t → length (final p) ≡ inputs + size
  unfolding final wire_parts_of size
  long_final p l = length_parts t (triples_of gs d) gs (ballots_of inputs d) 0 inputs p (ballots p l)

  input_final : (p x : ℕ) → p < t → x < inputs → part (final p) x ≡ part (ballots_of inputs d p) x
  unfolding final wire_parts_of
  input_final p x l h = parts_keep t (triples_of gs d) gs (ballots_of inputs d) 0 inputs p x (ballots p l) h

  level_most : (h : ℕ) → get_or levels h 0 ≤ R
  unfolding levels R rounds_of
  level_most h = maximum_most (levels_of inputs gs) h

  -- a conditional gate's level is not 0, so nothing has to be published at the start
  first_shown : (p : ℕ) (published : List ℕ) → ((j : ℕ) → part published j ≡ 0) → (hs : List Gate) (g i : ℕ)
      → Fits t inputs triples final levels hs g i → Shown t inputs triples final levels p 1 published hs g i
  first_shown p published none [] g i f = tt
  first_shown p published none (x ∷ xs) g i f = (
    λ is.
        let mark : cond {A = ℕ} (conditional_of x.kind) 1 0 ≡ 1 = ap (λ (b : Bool). cond {A = ℕ} b 1 0) is in
        let high : 1 ≤ get_or levels g 0 = omega (arith, f.0.level, (operand_levels inputs levels x).a_level) in
        let late = le-ltb (get_or levels g 0) 1 high in
        (none (2 * i) ∙ rw late refl, none (2 * i + 1) ∙ rw late refl),
    first_shown p published none xs (suc g) (i + mark_of x) f.1,
  )

  -- What holds for trustee p after n rounds.
  record Reached (n : ℕ) (s : Holdings) (p : ℕ) : Type 0 where
    wires_long : length (s.wire_parts p) ≡ inputs + size
    input : (x : ℕ) → x < inputs → part (s.wire_parts p) x ≡ part (final p) x
    gate : (h : ℕ) → h < size → part (s.wire_parts p) (inputs + h) ≡ reached t inputs triples final levels p n h
    published_long : length (s.published p) ≡ 2 * C + k
    shown : Shown t inputs triples final levels p (suc n) (s.published p) gs 0 0
    blank : (j : ℕ) → 2 * C ≤ j → part (s.published p) j ≡ 0

  at_start : (p : ℕ) → p < t → Reached 0 (holdings_after t inputs gs k d 0) p
  unfolding holdings_after start_wires start_published size C part
  at_start p l =
      let b = ballots_of inputs d p in
      let long = ballots p l in
      record {
        wires_long = omega (arith, length-append b (replicate (length gs) 0), length-replicate {A = ℕ} (length gs) 0);
        input = λ (x : ℕ) h. get_or-append b (replicate (length gs) 0) 0 x (omega arith) ∙ sym (input_final p x l h);
        gate = λ (h : ℕ) m.
            ap (λ (n : ℕ). get_or (b ++ replicate (length gs) 0) (n + h) 0) (sym long)
            ∙ get_or-append-add b (replicate (length gs) 0) h 0 ∙ zeros_at (length gs) h
            ∙ sym (ap (λ (c : Bool). cond c (get_or (final p) (inputs + h) 0) 0) (le-ltb (get_or levels h 0) 0 (omega arith)));
        published_long = length-replicate {A = ℕ} (2 * conditional_count gs + k) 0;
        shown = first_shown p (replicate (2 * conditional_count gs + k) 0) (λ (j : ℕ). zeros_at (2 * conditional_count gs + k) j) gs 0 0 fits;
        blank = λ (j : ℕ) h. zeros_at (2 * conditional_count gs + k) j;
      }

  -- one round
  module _ (r : ℕ) (s : Holdings) (all : (p : ℕ) → p < t → Reached r s p) (p : ℕ) (l : p < t) where
    sums : List ℕ
    sums = sums_of t C s.published

    hears : Heard t inputs triples final levels p r sums gs 0 0
    unfolding sums C
    hears = heard_shown t inputs triples final levels gs 0 0 r C s.published (omega arith) (λ (q : ℕ) h. (all q h).shown) p

    u : Turn
    u = turn t inputs triples final levels p r sums

    turn_is : turn_of t inputs gs d r s.published p ≡ u
    unfolding turn_of u sums C levels triples
    turn_is = refl

    enters_all : Stands t inputs triples final levels p r sums size (enters u gs 0 0 (s.wire_parts p)) size
    unfolding size u
    enters_all =
        let e = all p l in
        stands_end t inputs triples final levels p r sums gs size 0 0 (s.wire_parts p) l (omega arith) fits hears
        (record { long = e.wires_long; input = e.input; done = λ (h : ℕ) m. absurd (omega arith); left = λ (h : ℕ) m n. e.gate h n })

    abbrev W : List ℕ
    W = enters u gs 0 0 (s.wire_parts p)

    publishes_all : Published t inputs triples final levels p r sums W size enters_all (s.published p)
        (publishes u W gs 0 0 (s.published p)) gs 0 0
    unfolding u size C
    publishes_all =
        let e = all p l in
        let long = e.published_long in
        published_end t inputs triples final levels p r sums W size enters_all gs 0 0 (s.published p) (omega arith)
        (omega arith) fits e.shown

    wires_are : parts_after t inputs gs d r s p ≡ W
    unfolding parts_after
    wires_are = ap (λ (v : Turn). enters v gs 0 0 (s.wire_parts p)) turn_is

    published_are : published_after t inputs gs k d r s p ≡ closes r R C k W (publishes u W gs 0 0 (s.published p))
    unfolding published_after R C
    published_are =
        ap (λ (v : Turn). closes r (rounds_of inputs gs) (conditional_count gs) k (parts_after t inputs gs d r s p)
        (publishes v (parts_after t inputs gs d r s p) gs 0 0 (s.published p))) turn_is
        ∙ ap (λ (ws : List ℕ). closes r (rounds_of inputs gs) (conditional_count gs) k ws (publishes u ws gs 0 0 (s.published p))) wires_are

    -- before the last round, no closing bits are published
    not_last : r < R → published_after t inputs gs k d r s p ≡ publishes u W gs 0 0 (s.published p)
    unfolding closes
    not_last h = published_are ∙ ap (λ (b : Bool). cond b
        (sets (publishes u W gs 0 0 (s.published p)) (2 * C) (closing_parts k W))
        (publishes u W gs 0 0 (s.published p))) (ne_eqb r R (λ e. omega arith))

    next_reached : (s' : Holdings) → s'.wire_parts p ≡ parts_after t inputs gs d r s p → s'.published p
        ≡ published_after t inputs gs k d r s p → r < R → Reached (suc r) s' p
    next_reached s' ew ep h =
        let w = ew ∙ wires_are in
        let q = ep ∙ not_last h in
        record {
          wires_long = ap length w ∙ enters_all.long;
          input = λ (x : ℕ) m. ap (λ (v : List ℕ). part v x) w ∙ enters_all.input x m;
          gate = λ (x : ℕ) m. ap (λ (v : List ℕ). part v (inputs + x)) w ∙ enters_all.done x m;
          published_long = ap length q ∙ publishes_all.long ∙ (all p l).published_long;
          shown = subst (λ (v : List ℕ). Shown t inputs triples final levels p (suc (suc r)) v gs 0 0) (sym q) publishes_all.shows;
          blank = λ (j : ℕ) m. ap (λ (v : List ℕ). part v j) q ∙ publishes_all.behind j (omega (arith, m, count_is)) ∙ (all p l).blank j m;
        }

    -- in the last round, all wire parts are final
    module _ (last : r ≡ R) where
      wires_final : W ≡ final p
      unfolding part
      wires_final = ext_get_or 0 W (final p) (enters_all.long ∙ sym (long_final p l))
          (λ (x : ℕ) h. at x (omega (arith, enters_all.long)) (ltb x inputs) refl)
        where
          at : (x : ℕ) → x < inputs + size → (b : Bool) → ltb x inputs ≡ b → get_or W x 0 ≡ get_or (final p) x 0
          at x h true e = enters_all.input x (ltb-true x inputs e)
          at x h false e =
              let f = ltb-false x inputs e in
              let is : inputs + (x - inputs) ≡ x = omega arith in
              subst (λ (y : ℕ). get_or W y 0 ≡ get_or (final p) y 0) is
              (enters_all.done (x - inputs) (omega arith)
              ∙ ap (λ (c : Bool). cond c (get_or (final p) (inputs + (x - inputs)) 0) 0)
              (lt-ltb (get_or levels (x - inputs) 0) (suc r) (omega (arith, level_most (x - inputs)))))

      published_final : published_after t inputs gs k d r s p ≡ masked_factors (final p) (triples p) 0 gs ++ closing_parts k (final p)
      unfolding closes closing_parts C
      published_final =
          let X = publishes u W gs 0 0 (s.published p) in
          let long : length X ≡ 2 * C + k = publishes_all.long ∙ (all p l).published_long in
          let wl = long_final p l in
          let cl : length (drop (length (final p) - k) (final p)) ≡ k =
          omega (arith, length-drop (length (final p) - k) (final p), size_is) in
          published_are
          ∙ ap (λ (b : Bool). cond b (sets X (2 * C) (drop (length W - k) W)) X) (eq-eqb r R last)
          ∙ ap (λ (ws : List ℕ). sets X (2 * C) (drop (length ws - k) ws)) wires_final
          ∙ sets-eq (drop (length (final p) - k) (final p)) X (2 * C) (omega arith)
          ∙ ap (λ (v : List ℕ). take (2 * C) X ++ drop (length (final p) - k) (final p) ++ v)
          (drop_of_length-le X {i = 2 * C + length (drop (length (final p) - k) (final p))} (omega arith))
          ∙ append-nil (take (2 * C) X ++ drop (length (final p) - k) (final p))
          ∙ ap (λ (v : List ℕ). v ++ drop (length (final p) - k) (final p))
          (all_shown t inputs triples final levels p (suc (suc r)) X gs 0 0
          (λ (h : ℕ). omega (arith, level_most h)) (omega arith) publishes_all.shows)
        where
          size_is : size ≡ length gs
          size_is = unfold size in refl

  -- all rounds but the last
  before_last : (n : ℕ) → n ≤ R → (p : ℕ) → p < t → Reached n (holdings_after t inputs gs k d n) p
  before_last zero h p l = at_start p l
  before_last (suc r) h p l =
      next_reached r (holdings_after t inputs gs k d r) (before_last r (omega arith)) p l
      (holdings_after t inputs gs k d (suc r)) (unfold holdings_after in refl) (unfold holdings_after in refl)
      (omega arith)

  pub tally_made : (p : ℕ) → p < t
      → ((holdings_after t inputs gs k d (suc (rounds_of inputs gs))).wire_parts p ≡ wire_parts_of t inputs gs d p)
      × ((holdings_after t inputs gs k d (suc (rounds_of inputs gs))).published p ≡ published_of t inputs gs k d p)
  unfolding holdings_after R final triples published_of
  tally_made p l =
      let s = holdings_after t inputs gs k d R in
      let all = before_last R (omega arith) in
      (wires_are R s all p l ∙ wires_final R s all p l refl, published_final R s all p l refl)

-- two dealings that give trustee p the same at the end
module _ (t inputs k : ℕ) (gs : List Gate) (d e : Dealing) (pos : 1 ≤ inputs) (enough : k ≤ length gs)
    (good : first_bad inputs 0 gs ≡ None)
    (bd : (p : ℕ) → p < t → length (ballots_of inputs d p) ≡ inputs) (be : (p : ℕ) → p < t → length (ballots_of inputs e p) ≡ inputs)
    (n : ℕ) (h : n ≤ rounds_of inputs gs) (p : ℕ) (l : p < t) where
  one : Reached t inputs k gs d pos enough good bd n (holdings_after t inputs gs k d n) p
  unfolding R
  one = before_last t inputs k gs d pos enough good bd n h p l

  other : Reached t inputs k gs e pos enough good be n (holdings_after t inputs gs k e n) p
  unfolding R
  other = before_last t inputs k gs e pos enough good be n h p l

  wires_earlier : wire_parts_of t inputs gs d p ≡ wire_parts_of t inputs gs e p
      → (holdings_after t inputs gs k d n).wire_parts p ≡ (holdings_after t inputs gs k e n).wire_parts p
  unfolding part size final levels
  wires_earlier same =
      ext_get_or 0 ((holdings_after t inputs gs k d n).wire_parts p) ((holdings_after t inputs gs k e n).wire_parts p)
      (one.wires_long ∙ sym other.wires_long)
      (λ (x : ℕ) m. at x (omega (arith, m, one.wires_long)) (ltb x inputs) refl)
    where
      at : (x : ℕ) → x < inputs + length gs → (b : Bool) → ltb x inputs ≡ b
          → get_or ((holdings_after t inputs gs k d n).wire_parts p) x 0 ≡ get_or ((holdings_after t inputs gs k e n).wire_parts p) x 0
      at x m true f = one.input x (ltb-true x inputs f) ∙ ap (λ (w : List ℕ). get_or w x 0) same ∙ sym (other.input x (ltb-true x inputs f))
      at x m false f =
          let g = ltb-false x inputs f in
          let is : inputs + (x - inputs) ≡ x = omega arith in
          subst (λ (y : ℕ). get_or ((holdings_after t inputs gs k d n).wire_parts p) y 0
          ≡ get_or ((holdings_after t inputs gs k e n).wire_parts p) y 0) is
          (one.gate (x - inputs) (omega arith)
          ∙ ap (λ (w : List ℕ). cond (ltb (get_or (levels_of inputs gs) (x - inputs) 0) n) (get_or w (inputs + (x - inputs)) 0) 0) same
          ∙ sym (other.gate (x - inputs) (omega arith)))

  factors_same : published_of t inputs gs k d p ≡ published_of t inputs gs k e p
      → masked_factors (wire_parts_of t inputs gs d p) (triples_of gs d p) 0 gs
      ≡ masked_factors (wire_parts_of t inputs gs e p) (triples_of gs e p) 0 gs
  unfolding published_of
  factors_same same =
      let m = masked_factors (wire_parts_of t inputs gs d p) (triples_of gs d p) 0 gs in
      let m' = masked_factors (wire_parts_of t inputs gs e p) (triples_of gs e p) 0 gs in
      sym (take_at m (closing_parts k (wire_parts_of t inputs gs d p)) (2 * conditional_count gs)
      (length_masked (wire_parts_of t inputs gs d p) (triples_of gs d p) 0 gs))
      ∙ ap (take (2 * conditional_count gs)) same
      ∙ take_at m' (closing_parts k (wire_parts_of t inputs gs e p)) (2 * conditional_count gs)
      (length_masked (wire_parts_of t inputs gs e p) (triples_of gs e p) 0 gs)

  published_earlier : published_of t inputs gs k d p ≡ published_of t inputs gs k e p
      → (holdings_after t inputs gs k d n).published p ≡ (holdings_after t inputs gs k e n).published p
  unfolding part C final triples levels
  published_earlier same =
      ext_get_or 0 ((holdings_after t inputs gs k d n).published p) ((holdings_after t inputs gs k e n).published p)
      (one.published_long ∙ sym other.published_long)
      (λ (j : ℕ) m. at j (ltb j (2 * conditional_count gs)) refl)
    where
      at : (j : ℕ) (b : Bool) → ltb j (2 * conditional_count gs) ≡ b
          → get_or ((holdings_after t inputs gs k d n).published p) j 0 ≡ get_or ((holdings_after t inputs gs k e n).published p) j 0
      at j true f =
          same_shown inputs (levels_of inputs gs) p (suc n) t (triples_of gs d) (wire_parts_of t inputs gs d)
          (triples_of gs e) (wire_parts_of t inputs gs e) gs 0 0 _ _ one.shown other.shown
          (factors_same same) j (omega arith) (omega (arith, ltb-true j (2 * conditional_count gs) f))
      at j false f = one.blank j (ltb-false j (2 * conditional_count gs) f) ∙ sym (other.blank j (ltb-false j (2 * conditional_count gs) f))

pub earlier_follows : EarlierFollows
earlier_follows t inputs k gs d e pos enough good bd be n h p l =
    (wires_earlier t inputs k gs d e pos enough good bd be n h p l, published_earlier t inputs k gs d e pos enough good bd be n h p l)

pub rounds_make_the_tally : RoundsMakeTheTally
rounds_make_the_tally t inputs k gs d pos enough good ballots p l = tally_made t inputs k gs d pos enough good ballots p l
