-- `batch_lanes::step::step` meets its contract: in every lane, running the gates that are left gives what running
-- the whole range gives.
-- Assumes nothing.
use mathlib.Core.Path.{refl}
use native.Mathlib.Numerals.{add-one}
use Rattle.batch_lanes.proofs.StepLaws.{lanes_start, gate_ready, lanes_turn, lanes_end}
use Rattle.batch_lanes.proofs.step.step.Goals as goal

pub loop-g-init : goal.loop-g-init
loop-g-init c = let a = c.args in
    lanes_start a.inputs a.table.now a.from a.to a.tape.now a.shown a.wires.now a.board.now c.requires

pub run_gate-next-requires : goal.run_gate-next-requires
run_gate-next-requires c = let a = c.args in
    let l = c.loop-g in
    record {
      marked = refl;
      gate = gate_ready a.inputs a.table.now a.from a.to a.tape.now a.shown a.wires.now
          a.board.now c.requires l.wires l.board l.next l.g l.invariant
          c.loop-g-test.true;
    }

pub loop-g-preserved : goal.loop-g-preserved
loop-g-preserved c = let a = c.args in
    let l = c.loop-g in
    let r = c.run_gate-next in
    lanes_turn a.inputs a.table.now a.from a.to a.tape.now a.shown a.wires.now
    a.board.now c.requires l.wires l.board l.next l.g l.invariant
    c.loop-g-test.true _ _ _ _ (add-one l.g) r.ensures.shown_is r.auto.wires
    r.auto.board r.ensures.wires_are r.ensures.board_is

pub returns : goal.returns
returns c = let a = c.args in
    let l = c.loop-g in
    let e = lanes_end a.inputs a.table.now a.from a.to a.tape.now a.shown a.wires.now
    a.board.now c.requires l.wires l.board l.next l.g l.invariant c.loop-g-test.false in
    record { shown_is = e.0; wires_are = e.1; board_is = e.2 }
