-- `ranked_writer::list::circuit` meets its contract: the paths, the contests, who loses, and the output gates.
-- Assumes nothing.
use mathlib.Core.Path.{◌≡◌, ◌∙◌, refl, sym, ap}
use mathlib.Core.List.{List, ◌++◌, append_assoc}
use Prim.Native.Nat.{ℕ, suc, ◌+◌, ◌-◌, ◌*◌, ◌≤◌}
use native.Mathlib.Omega.{arith}
use lib.ListN.{length, length-append}
use Rattle.gates.specs.Gate.{Gate}
use Rattle.gate_words.specs.Writing.{Room}
use Rattle.gate_words.proofs.Writing.{room_less, room_after, wrote_as, wrote_both}
use Rattle.ranked_circuit.specs.Paths.{paths_to}
use Rattle.ranked_circuit.specs.Contests.{duels_from, duels, meetings, beats_at}
use Rattle.ranked_circuit.specs.RankedList.{loser_rows, output_gates, losers_from, ranked_list}
use Rattle.ranked_blocks.specs.Ranked.{kept_of}
use Rattle.ranked_blocks.specs.declared.entries.Ranks.{Ranks}
use Rattle.ranked_writer.specs.Tables.{Keeps}
use Rattle.ranked_writer.proofs.Parts.{list_parts, list_long, duels_from_lem, losers_from_lem, rows_long, rows_agree, outputs_agree}
use Rattle.ranked_writer.proofs.list.circuit.Goals as goal
use Rattle.ranked_writer.proofs.list.circuit.Goals.{After-contests-met, After-loser_rows-lost, After-path_tables-paths}

-- what is known from the start

pub record Known (p : Ranks) : Type 0 where
  pub two : p.candidates ≡ suc (suc (p.candidates - 2))
  pub long : length (ranked_list p.candidates p.ballots p.digits) ≡
      length (paths_to p.candidates p.ballots p.digits p.candidates).gates
      + (length (duels p.candidates p.ballots p.digits)
      + length (meetings p.candidates p.ballots p.digits))
      + p.candidates * (p.candidates - 2) + p.candidates

known : (p : Ranks) → 3 ≤ p.candidates → Known p
known p h =
    let e : p.candidates ≡ suc (suc (p.candidates - 2)) = omega arith in
    record { two = e; long = list_long p.candidates p.ballots p.digits (p.candidates - 2) (omega arith) e }

pub path_tables-paths-requires : goal.path_tables-paths-requires
path_tables-paths-requires c = let a = c.args in
    record {
      ranked = c.requires.ranked;
      room = room_less a.w _ _ (omega (arith, (known a.p c.requires.many).long)) c.requires.room;
      place = c.requires.place;
      words_long = refl;
    }

-- after the paths
paths_end : (c : After-path_tables-paths) → c.path_tables-paths.result.wire
    ≡ duels_from c.args.p.candidates c.args.p.ballots c.args.p.digits
paths_end c = let p = c.args.p in
    omega (
      arith,
      c.path_tables-paths.ensures.wrote.wires,
      c.requires.place,
      duels_from_lem p.candidates p.ballots p.digits,
    )

room_met : (c : After-path_tables-paths)
    → Room c.path_tables-paths.result
    (length (duels c.args.p.candidates c.args.p.ballots c.args.p.digits)
    + length (meetings c.args.p.candidates c.args.p.ballots c.args.p.digits)
    + c.args.p.candidates * (c.args.p.candidates - 2) + c.args.p.candidates)
room_met c =
    let a = c.args in
    let h = c.path_tables-paths in
    room_after a.w a.table.now _ h.new.table h.result _ _ h.ensures.wrote
    (omega (arith, (known a.p c.requires.many).long)) c.requires.room

pub contests-met-requires : goal.contests-met-requires
contests-met-requires c = record {
  ranked = c.requires.ranked;
  room = room_less c.path_tables-paths.result _ _ (omega arith) (room_met (goal.at.contests-met-requires c).After-path_tables-paths);
  place = paths_end (goal.at.contests-met-requires c).After-path_tables-paths;
  paths = c.path_tables-paths.ensures.kept;
  long = refl;
}

-- after the contests
both_long : (p : Ranks) → length
    (duels p.candidates p.ballots p.digits ++ meetings p.candidates p.ballots p.digits)
    ≡ length (duels p.candidates p.ballots p.digits)
    + length (meetings p.candidates p.ballots p.digits)
both_long p = length-append (duels p.candidates p.ballots p.digits) (meetings p.candidates p.ballots p.digits)

losers_start : (c : After-contests-met) → c.contests-met.result.wire
    ≡ losers_from c.args.p.candidates c.args.p.ballots
    c.args.p.digits
losers_start c =
    let p = c.args.p in
    omega (
      arith,
      c.contests-met.ensures.wrote.wires,
      both_long p,
      paths_end c.before.before.before.before.before.before.before,
      losers_from_lem p.candidates p.ballots p.digits,
    )

room_rows : (c : After-contests-met)
    → Room c.contests-met.result (c.args.p.candidates
    * (c.args.p.candidates - 2) + c.args.p.candidates)
room_rows c =
    let h = c.path_tables-paths in
    let m = c.contests-met in
    room_after h.result h.new.table _ m.new.table m.result _ _ m.ensures.wrote
    (omega (arith, both_long c.args.p)) (room_met c.before.before.before.before.before.before.before)

pub loser_rows-lost-requires : goal.loser_rows-lost-requires
loser_rows-lost-requires c = record {
  room = room_less c.contests-met.result _ _ (omega arith) (room_rows (goal.at.loser_rows-lost-requires c).After-contests-met);
  k_least = c.requires.ranked.k_least;
  k_most = c.requires.ranked.k_most;
  long = c.contests-met.ensures.kept.long;
}

rows_size : (c : After-loser_rows-lost)
    → length (loser_rows (kept_of c.contests-met.new.beats c.args.p.candidates)
    (c.args.p.candidates - 2) c.contests-met.result.wire
    c.args.p.candidates) ≡ c.args.p.candidates
    * (c.args.p.candidates - 2)
rows_size c =
    let p = c.args.p in
    rows_long p.candidates p.ballots p.digits (kept_of c.contests-met.new.beats p.candidates)
    (p.candidates - 2) c.contests-met.result.wire (known p c.requires.many).two

pub output_gates-requires : goal.output_gates-requires
output_gates-requires c = let l = c.contests-met in
    let r = c.loser_rows-lost in
    let e = rows_size (goal.at.output_gates-requires c).After-loser_rows-lost in
    record {
      room = room_after l.result l.new.table _ r.new.table r.result _ _ r.ensures (omega (arith, e))
          (room_rows (goal.at.output_gates-requires c).After-contests-met);
      k_least = c.requires.ranked.k_least;
      k_most = c.requires.ranked.k_most;
      long = l.ensures.kept.long;
      place = omega (arith, r.ensures.wires, e);
    }

rows_are : (k n w : ℕ) (bs : List ℕ) (wire : ℕ) → k ≡ suc (suc (k - 2)) → Keeps k bs (beats_at k n w) → wire
    ≡ losers_from k n w → loser_rows (kept_of bs k) (k - 2) wire k ≡ loser_rows (beats_at k n w) (k - 2) (losers_from k n w) k
rows_are k n w bs wire e t q =
    ap (λ (x : ℕ). loser_rows (kept_of bs k) (k - 2) x k) q
    ∙ rows_agree (k - 2) (kept_of bs k) (beats_at k n w) (λ i j hi hj ne. t.each i j (omega arith) (omega arith) ne)
    (losers_from k n w) k (omega arith)

outputs_are : (k n w : ℕ) (bs : List ℕ) (wire : ℕ) → k ≡ suc (suc (k - 2)) → Keeps k bs (beats_at k n w) → wire
    ≡ losers_from k n w → output_gates (kept_of bs k) (k - 2) wire k
    ≡ output_gates (beats_at k n w) (k - 2) (losers_from k n w) k
outputs_are k n w bs wire e t q =
    ap (λ (x : ℕ). output_gates (kept_of bs k) (k - 2) x k) q
    ∙ outputs_agree (k - 2) (kept_of bs k) (beats_at k n w)
    (λ i j hi hj ne. t.each i j (omega arith) (omega arith) ne) (losers_from k n w) k (omega arith)

pub returns : goal.returns
returns c = let a = c.args in
    let p = a.p in
    let k = p.candidates in
    let n = p.ballots in
    let w = p.digits in
    let h = c.path_tables-paths in
    let l = c.contests-met in
    let r = c.loser_rows-lost in
    let o = c.output_gates in
    let bs = l.new.beats in
    let two = (known p c.requires.many).two in
    let paths = (paths_to k n w k).gates in
    let met = duels k n w ++ meetings k n w in
    let rows = loser_rows (beats_at k n w) (k - 2) (losers_from k n w) k in
    let outputs = output_gates (beats_at k n w) (k - 2) (losers_from k n w) k in
    wrote_as a.w a.table.now _ _ o.new.table o.result (grouped k n w (k - 2) (omega (arith, c.requires.many)) two)
    (wrote_both a.w a.table.now (paths ++ met ++ rows) r.new.table r.result outputs o.new.table o.result
    (wrote_both a.w a.table.now (paths ++ met) l.new.table l.result rows r.new.table r.result
    (wrote_both a.w a.table.now paths h.new.table h.result met l.new.table l.result
    h.ensures.wrote l.ensures.wrote)
    (wrote_as l.result l.new.table _ rows r.new.table r.result
    (rows_are k n w bs l.result.wire two l.ensures.kept
    (losers_start (goal.at.returns c).After-contests-met)) r.ensures))
    (wrote_as r.result r.new.table _ outputs o.new.table o.result
    (outputs_are k n w bs l.result.wire two l.ensures.kept
    (losers_start (goal.at.returns c).After-contests-met)) o.ensures))
  where
    -- the contests as one part
    grouped : (k n w r : ℕ) → 1 ≤ r → k ≡ suc (suc r) →
        (paths_to k n w k).gates ++ (duels k n w ++ meetings k n w)
        ++ loser_rows (beats_at k n w) r (losers_from k n w) k ++ output_gates (beats_at k n w) r (losers_from k n w) k
        ≡ ranked_list k n w
    grouped k n w r h e =
        ap (λ (gs : List Gate). gs ++ loser_rows (beats_at k n w) r (losers_from k n w) k
        ++ output_gates (beats_at k n w) r (losers_from k n w) k)
        (sym (append_assoc (paths_to k n w k).gates (duels k n w) (meetings k n w)))
        ∙ sym (list_parts k n w r h e)
