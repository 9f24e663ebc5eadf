-- `trustee_rounds::round::enter` meets its contract: the pass over the rest gives what the pass over all gates
-- gives.
-- Assumes nothing.
use mathlib.Core.Path.{refl}
use Prim.Native.Nat.{◌<◌}
use native.Mathlib.Numerals.{add-one}
use native.Mathlib.Omega.{arith}
use lib.ListN.{length}
use Rattle.gates.specs.Gate.{gates_of}
use Rattle.gates.proofs.Table.{length_gates}
use Rattle.trustee_rounds.proofs.Passing.{enter_start, enter_turn, enter_end, part_ready}
use Rattle.trustee_rounds.proofs.round.enter.Goals as goal

pub loop-g-init : goal.loop-g-init
loop-g-init c = let a = c.args in
    enter_start (record {
      trustee = a.seat.trustee;
      round = a.seat.round;
      inputs = a.seat.inputs;
      levels =
          a.levels.now;
      triples = a.triples.now;
      heard = a.heard.now;
    }) a.table.now a.wires.now
    c.requires.pass.good c.requires.pass.wires_length

pub at-gate-requires : goal.at-gate-requires
at-gate-requires c = let l = c.loop-g in
    let a = c.args in
    let r = c.requires.pass in
    omega (arith, r.levels_length, length_gates a.table.now, c.loop-g-test.true)

pub enter_gate-requires : goal.enter_gate-requires
enter_gate-requires c = let l = c.loop-g in
    let a = c.args in
    let r = c.requires.pass in
    let n = c.at-gate in
    let h = c.loop-g-test.true in
    let inside : l.g < length (gates_of a.table.now) = omega (arith, r.levels_length) in
    record {
      marked = refl;
      gate = record {
        ready = part_ready a.seat.inputs a.table.now l.g l.i l.invariant.ahead
            r.some_input inside n.result n.ensures a.triples.now a.heard.now l.wires l.invariant.long
            r.triples_length c.requires.heard_length;
        own_in = omega (arith, l.invariant.long);
      };
    }

pub loop-g-preserved : goal.loop-g-preserved
loop-g-preserved c = let l = c.loop-g in
    let a = c.args in
    let r = c.requires.pass in
    let n = c.at-gate in
    let h = c.loop-g-test.true in
    let inside : l.g < length (gates_of a.table.now) = omega (arith, r.levels_length) in
    enter_turn (record {
      trustee = a.seat.trustee;
      round = a.seat.round;
      inputs = a.seat.inputs;
      levels =
          a.levels.now;
      triples = a.triples.now;
      heard = a.heard.now;
    }) a.table.now a.wires.now l.wires
    l.g l.i l.invariant r.some_input inside n.result n.ensures
    c.rounds-depth.result _ c.mark-i.result _ _ c.rounds-depth.ensures
    c.enter_gate.ensures c.mark-i.ensures refl (add-one l.g)

pub returns : goal.returns
returns c = let l = c.loop-g in
    let a = c.args in
    let r = c.requires.pass in
    enter_end (record {
      trustee = a.seat.trustee;
      round = a.seat.round;
      inputs = a.seat.inputs;
      levels =
          a.levels.now;
      triples = a.triples.now;
      heard = a.heard.now;
    }) a.table.now a.wires.now l.wires
    l.g l.i l.invariant (omega (arith, r.levels_length, c.loop-g-test.false))
