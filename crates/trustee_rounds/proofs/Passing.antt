-- The passes over a list, gate by gate: the pass over a gate and then the rest gives what the pass over all that
-- was left gives.
-- Assumes nothing.
use mathlib.Core.Path.{◌≡◌, ◌∙◌, refl, sym, ap, subst}
use mathlib.Core.Bool.{true, cond, ◌&&◌}
use mathlib.Core.List.{List, [], ◌∷◌}
use Prim.Native.Nat.{ℕ, suc, ◌+◌, ◌*◌, ◌≤◌, ◌<◌}
use native.Mathlib.Nat.{add-suc}
use native.Mathlib.Omega.{arith}
use lib.Dec.{eqb}
use lib.ListN.{length, get_or, drop, take, set, length-set, drop_of_length-le}
use lib.Seq.{sets, length-sets, take_all}
use Rattle.gates.specs.Kind.{conditional_of, kind_count}
use Rattle.gates.specs.Gate.{Gate, gates_of, gate_at}
use Rattle.gates.specs.Board.{conditional_count}
use Rattle.gates.specs.Test.{first_bad}
use Rattle.std.specs.Prelude.{None}
use Rattle.gates.proofs.Table.{gates_from}
use Rattle.gates.proofs.Goodness.{good_gate_lem}
use Rattle.gates.proofs.Laws.{AllGood, all_good}
use Rattle.gates.proofs.Reading.{Below, operands_below}
use Rattle.trustee_shares.specs.Shares.{part, masked_first, masked_second, product_part, part_of_kind, mark_of}
use Rattle.trustee_shares.specs.Views.{piece}
use Rattle.trustee_shares.proofs.Accuracy.{count_mark, mark_one}
use Rattle.trustee_rounds.specs.Rounds.{Turn, heard_part, enters_gate, enters, publishes_gate, publishes}
use Rattle.trustee_rounds.specs.inner.Passes.{GateIn, PartReady, PublishReady}
use Rattle.trustee_rounds.proofs.Closing.{length_cond}

-- a table of one trustee is its own piece 0
pub own_piece : (l : List ℕ) → piece (length l) l 0 ≡ l
unfolding piece
own_piece l = let e : 0 * length l ≡ 0 = omega arith in ap (λ (n : ℕ). take (length l) (drop n l)) e ∙ take_all (length l) l (omega arith)

mark_is : (x : Gate) → mark_of x ≡ cond (conditional_of x.kind) 1 0
mark_is x = unfold mark_of in refl

module _ (inputs : ℕ) (table : List ℕ) where
  -- The gates from g on are left; i conditional gates are done.
  pub record Ahead (g i : ℕ) : Type 0 where
    pub order : g ≤ length (gates_of table)
    pub good : AllGood (inputs + g) (drop g (gates_of table))
    pub count : i + conditional_count (drop g (gates_of table)) ≡ conditional_count (gates_of table)

  pub ahead_start : first_bad inputs 0 (gates_of table) ≡ None → Ahead 0 0
  ahead_start good = record { order = omega arith; good = all_good inputs 0 (gates_of table) good; count = omega arith }

  module _ (g i : ℕ) (a : Ahead g i) (pos : 1 ≤ inputs) (h : g < length (gates_of table)) where
    pub starts : drop g (gates_of table) ≡ gate_at table g ∷ drop (suc g) (gates_of table)
    starts = gates_from table g h

    good_here : AllGood (inputs + g) (gate_at table g ∷ drop (suc g) (gates_of table))
    good_here = subst (AllGood (inputs + g)) starts a.good

    pub known : (gate_at table g).kind < kind_count
    known = (good_gate_lem (inputs + g) (gate_at table g) good_here.0).known

    pub below : Below (inputs + g) (gate_at table g)
    below = operands_below (inputs + g) (gate_at table g) (omega arith) good_here.0

    pub count_here : i + (mark_of (gate_at table g) + conditional_count (drop (suc g) (gates_of table))) ≡ conditional_count (gates_of table)
    count_here = omega (arith, a.count, ap conditional_count starts, count_mark (gate_at table g) (drop (suc g) (gates_of table)))

    pub ahead_turn : (i' g' : ℕ) → i' ≡ i + mark_of (gate_at table g) → g' ≡ suc g → Ahead g' i'
    ahead_turn i' g' ei eg =
        rw (ei, eg) (record {
          order = omega arith;
          good = subst (λ (n : ℕ). AllGood n (drop (suc g) (gates_of table))) (sym (add-suc inputs g)) good_here.1;
          count = omega (arith, count_here);
        })

    -- the same, from the four numbers that the program has read
    module _ (n : Gate) (is : n ≡ gate_at table g) where
      pub mark_by : (m : ℕ) → m ≡ cond (conditional_of n.kind) 1 0 → i + m ≡ i + mark_of (gate_at table g)
      mark_by m e = ap (λ (k : ℕ). i + k) (e ∙ sym (mark_is n) ∙ ap mark_of is)

      pub mark_small : (m : ℕ) → m ≡ cond (conditional_of n.kind) 1 0 → i + m ≤ conditional_count (gates_of table)
      mark_small m e = omega (arith, mark_by m e, count_here)

      pub gate_in : (ws : List ℕ) → length ws ≡ inputs + length (gates_of table) → GateIn n ws
      gate_in ws l =
          record {
            a_in = omega (arith, below.a_below, ap (λ (x : Gate). x.a) is);
            b_in = omega (arith, below.b_below, ap (λ (x : Gate). x.b) is);
            c_in = omega (arith, below.c_below, ap (λ (x : Gate). x.c) is);
          }

      conditional_here : conditional_of n.kind ≡ true → i + 1 ≤ conditional_count (gates_of table)
      conditional_here e = omega (arith, count_here, mark_one (gate_at table g) (ap (λ (x : Gate). conditional_of x.kind) (sym is) ∙ e))

      pub part_ready : (triples heard ws : List ℕ) → length ws ≡ inputs + length (gates_of table) → length triples ≡ 3
          * conditional_count (gates_of table) → length heard ≡ 2 * conditional_count (gates_of table)
          → PartReady n i triples heard ws
      part_ready triples heard ws lw ld lh =
          record {
            operands = gate_in ws lw;
            known = omega (arith, known, ap (λ (x : Gate). x.kind) is);
            triple_in = λ e. omega (arith, conditional_here e);
            sums_in = λ e. omega (arith, conditional_here e);
          }

      pub publish_ready : (triples ws published : List ℕ) → length ws ≡ inputs + length (gates_of table) → length triples
          ≡ 3 * conditional_count (gates_of table) → 2 * conditional_count (gates_of table) ≤ length published
          → PublishReady n i triples ws published
      publish_ready triples ws published lw ld lp =
          record {
            operands = gate_in ws lw;
            triple_in = λ e. omega (arith, conditional_here e);
            places_in =
                λ e. omega (arith, conditional_here e);
          }

-- The invariant of the pass that enters parts.
pub record EnterLeft (u : Turn) (table ws₀ ws : List ℕ) (g i : ℕ) : Type 0 where
  pub ahead : Ahead u.inputs table g i
  pub long : length ws ≡ u.inputs + length (gates_of table)
  pub rest : enters u (drop g (gates_of table)) g i ws ≡ enters u (gates_of table) 0 0 ws₀

pub enter_start : (u : Turn) (table ws : List ℕ) → first_bad u.inputs 0 (gates_of table) ≡ None → length ws
    ≡ u.inputs + length (gates_of table) → EnterLeft u table ws ws 0 0
enter_start u table ws good long = record { ahead = ahead_start u.inputs table good; long = long; rest = refl }

module _ (u : Turn) (table ws₀ ws : List ℕ) (g i : ℕ) (left : EnterLeft u table ws₀ ws g i) (pos : 1 ≤ u.inputs)
    (h : g < length (gates_of table)) (n : Gate) (is : n ≡ gate_at table g) where
  pub enter_turn : (level : ℕ) (ws' : List ℕ) (m i' g' : ℕ) → level ≡ get_or u.levels g 0
      → ws' ≡ cond (eqb level u.round)
      (set ws (u.inputs + g) (part_of_kind u.trustee n.kind (part ws n.a) (part ws n.b) (part ws n.c)
      (product_part u.trustee u.triples i (part u.heard (2 * i)) (part u.heard (2 * i + 1))))) ws
      → m ≡ cond (conditional_of n.kind) 1 0 → i' ≡ i + m → g' ≡ suc g → EnterLeft u table ws₀ ws' g' i'
  unfolding enters
  enter_turn level ws' m i' g' el ew em ei eg =
      let x = gate_at table g in
      let mk = ei ∙ mark_by u.inputs table g i left.ahead pos h n is m em in
      let e : ws' ≡ enters_gate u g i x ws = stored ∙ ap (λ (y : Gate). enters_gate u g i y ws) is in
      record {
        ahead = ahead_turn u.inputs table g i left.ahead pos h i' g' mk eg;
        long = ap length ew ∙ length_cond (eqb level u.round) _ ws (length-set ws (u.inputs + g) _) ∙ left.long;
        rest = ap (λ (k : ℕ). enters u (drop k (gates_of table)) k i' ws') eg
            ∙ ap (λ (k : ℕ). enters u (drop (suc g) (gates_of table)) (suc g) k ws') mk
            ∙ ap (λ (l : List ℕ). enters u (drop (suc g) (gates_of table)) (suc g) (i + mark_of x) l) e
            ∙ sym (ap (λ (gs : List Gate). enters u gs g i ws) (starts u.inputs table g i left.ahead pos h)) ∙ left.rest;
      }
    where
      stored : ws' ≡ enters_gate u g i n ws
      stored = unfold enters_gate heard_part in ew
          ∙ ap (λ (k : ℕ). cond (eqb k u.round)
          (set ws (u.inputs + g) (part_of_kind u.trustee n.kind (part ws n.a) (part ws n.b)
          (part ws n.c) (product_part u.trustee u.triples i (part u.heard (2 * i))
          (part u.heard (2 * i + 1))))) ws) el

pub enter_end : (u : Turn) (table ws₀ ws : List ℕ) (g i : ℕ) → EnterLeft u table ws₀ ws g i → length (gates_of table)
    ≤ g → ws ≡ enters u (gates_of table) 0 0 ws₀
unfolding enters
enter_end u table ws₀ ws g i left h =
    let none : drop g (gates_of table) ≡ [] = drop_of_length-le (gates_of table) {i = g} h in
    sym (ap (λ (gs : List Gate). enters u gs g i ws) none) ∙ left.rest

-- The invariant of the pass that publishes.
pub record PublishLeft (u : Turn) (table ws published₀ published : List ℕ) (g i : ℕ) : Type 0 where
  pub ahead : Ahead u.inputs table g i
  pub long : length published ≡ length published₀
  pub rest : publishes u ws (drop g (gates_of table)) g i published ≡ publishes u ws (gates_of table) 0 0 published₀

pub publish_start : (u : Turn) (table ws published : List ℕ) → first_bad u.inputs 0 (gates_of table) ≡ None
    → PublishLeft u table ws published published 0 0
publish_start u table ws published good = record { ahead = ahead_start u.inputs table good; long = refl; rest = refl }

module _ (u : Turn) (table ws published₀ published : List ℕ) (g i : ℕ)
    (left : PublishLeft u table ws published₀ published g i) (pos : 1 ≤ u.inputs) (h : g < length (gates_of table))
    (n : Gate) (is : n ≡ gate_at table g) where
  pub publish_turn : (level next : ℕ) (published' : List ℕ) (m i' g' : ℕ) → level ≡ get_or u.levels g 0 → next ≡ suc u.round
      → published' ≡ cond (conditional_of n.kind && eqb level next)
      (sets published (2 * i) (masked_first ws u.triples i n ∷ masked_second ws u.triples i n ∷
      [])) published
      → m ≡ cond (conditional_of n.kind) 1 0 → i' ≡ i + m → g' ≡ suc g → PublishLeft u table ws published₀ published' g' i'
  unfolding publishes
  publish_turn level next published' m i' g' el en ep em ei eg =
      let x = gate_at table g in
      let mk = ei ∙ mark_by u.inputs table g i left.ahead pos h n is m em in
      let e : published' ≡ publishes_gate u ws g i x published = stored ∙ ap (λ (y : Gate). publishes_gate u ws g i y published) is in
      record {
        ahead = ahead_turn u.inputs table g i left.ahead pos h i' g' mk eg;
        long = ap length ep ∙ length_cond (conditional_of n.kind && eqb level next) _ published
            (length-sets published (2 * i)
            (masked_first ws u.triples i n ∷ masked_second ws u.triples i n ∷ [])) ∙ left.long;
        rest = ap (λ (k : ℕ). publishes u ws (drop k (gates_of table)) k i' published') eg
            ∙ ap (λ (k : ℕ). publishes u ws (drop (suc g) (gates_of table)) (suc g) k published') mk
            ∙ ap (λ (l : List ℕ). publishes u ws (drop (suc g) (gates_of table)) (suc g) (i + mark_of x) l) e
            ∙ sym (ap (λ (gs : List Gate). publishes u ws gs g i published)
            (starts u.inputs table g i left.ahead pos h)) ∙ left.rest;
      }
    where
      stored : published' ≡ publishes_gate u ws g i n published
      stored =
          unfold publishes_gate in ep
          ∙ ap (λ (k : ℕ). cond (conditional_of n.kind && eqb k next)
          (sets published (2 * i) (masked_first ws u.triples i n ∷ masked_second ws u.triples i
          n ∷ [])) published) el
          ∙ ap (λ (k : ℕ). cond (conditional_of n.kind && eqb (get_or u.levels g 0) k)
          (sets published (2 * i) (masked_first ws u.triples i n ∷ masked_second ws u.triples i
          n ∷ [])) published) en

pub publish_end : (u : Turn) (table ws published₀ published : List ℕ) (g i : ℕ)
    → PublishLeft u table ws published₀ published g i → length (gates_of table) ≤ g → published
    ≡ publishes u ws (gates_of table) 0 0 published₀
unfolding publishes
publish_end u table ws published₀ published g i left h =
    let none : drop g (gates_of table) ≡ [] = drop_of_length-le (gates_of table) {i = g} h in
    sym (ap (λ (gs : List Gate). publishes u ws gs g i published) none) ∙ left.rest
