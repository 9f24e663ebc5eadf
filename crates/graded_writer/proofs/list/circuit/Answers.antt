-- `graded_writer::list::circuit` meets its contract: the candidates, then all levels.
-- Assumes nothing.
use mathlib.Core.Path.{◌≡◌, refl, ap}
use Prim.Native.Nat.{ℕ, ◌+◌, ◌*◌}
use native.Mathlib.Omega.{arith}
use lib.ListN.{length}
use Rattle.gate_words.proofs.Writing.{wrote_as, room_less}
use Rattle.graded_circuit.specs.Key.{candidate_span}
use Rattle.graded_circuit.specs.OwnList.{candidates_from, levels_at, circuit}
use Rattle.graded_circuit.proofs.LevelsLaws.{candidates_block}
use Rattle.gate_words.proofs.Standing.{Stands, stands, stands_after, wrote_then}
use Rattle.graded_writer.proofs.ListWriters.{divided, all_levels_span, circuit_parts, circuit_long}
use Rattle.graded_writer.proofs.list.circuit.Goals as goal
use Rattle.graded_writer.proofs.list.circuit.Goals.{After-candidates-all, Start}

long : (c : Start) → length (circuit c.args.p) ≡ c.args.p.candidates * candidate_span c.args.p + all_levels_span c.args.p
long c = circuit_long c.args.p c.requires.plan c.requires.several

pub candidates-all-requires : goal.candidates-all-requires
candidates-all-requires c = record {
  plan = c.requires.plan;
  room = room_less c.args.w _ _ (omega (arith, long (goal.at.candidates-all-requires c).Start)) c.requires.room;
  inputs_below = omega (arith, c.requires.place);
}

all : (c : After-candidates-all) → let p = c.args.p in
    Stands c.candidates-all.result (levels_at p) (all_levels_span p)
all c =
    let a = c.args in
    let e = c.requires.place in
    stands_after a.w a.table.now _ c.candidates-all.new.table c.candidates-all.result _ _ _
    c.candidates-all.ensures (candidates_block a.p c.requires.plan a.w.wire 0 a.p.candidates
    (omega (arith, e)) (omega arith)).long
    (stands a.w a.p.inputs _ _ e (omega (arith, long c.before.before.before)) c.requires.room)

pub all_levels-requires : goal.all_levels-requires
all_levels-requires c = let p = c.args.p in
    let f = c.candidates-all in
    let l = all (goal.at.all_levels-requires c).After-candidates-all in
    record {
      plan = c.requires.plan;
      room = l.left;
      span_is = divided f.result.wire p.inputs p.candidates (candidate_span p) (omega (arith, c.requires.several)) l.place;
      place = l.place;
      several = c.requires.several;
    }

pub returns : goal.returns
returns c = let a = c.args in
    let p = a.p in
    let f = c.candidates-all in
    let g = c.all_levels in
    wrote_as a.w a.table.now _ (circuit p) g.new.table g.result (circuit_parts p)
    (wrote_then a.w a.table.now _ f.new.table f.result _ _ _ _
    (wrote_as a.w a.table.now _ _ _ _ (ap (λ (i : ℕ). candidates_from p i 0 p.candidates) c.requires.place) f.ensures)
    g.ensures refl)
