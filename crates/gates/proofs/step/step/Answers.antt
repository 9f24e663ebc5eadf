-- `gates::step::step` meets its contract: after each gate, the gates that are left make the wires and the board of
-- the whole range.
-- Assumes nothing.
use mathlib.Core.Path.{refl}
use native.Mathlib.Numerals.{add-one}
use Rattle.gates.specs.Open.Step.{step_board}
use Rattle.gates.proofs.Stepping.{next_ready, left_turn, left_as, left_end}
use Rattle.gates.proofs.step.step.Goals as goal

pub loop-g-init : goal.loop-g-init
unfolding step_board
loop-g-init c = record {
  order = c.requires.order;
  wires_left = refl;
  board_left = refl;
  count_left = refl;
  good_left = c.requires.good;
  wires_length = refl;
  board_length = refl;
}

pub run_gate-next-requires : goal.run_gate-next-requires
run_gate-next-requires c = let l = c.loop-g in
    record {
      marked = refl;
      gate = next_ready c.args.inputs c.args.table.now c.args.to c.args.tape.now _ _ _ _ _
          c.requires.in_table c.requires.in_wires c.requires.in_tape c.requires.in_board
          l.wires l.board l.next l.g l.invariant c.loop-g-test.true;
    }

pub loop-g-preserved : goal.loop-g-preserved
loop-g-preserved c = let l = c.loop-g in
    let r = c.run_gate-next in
    left_as c.args.inputs c.args.table.now c.args.to c.args.tape.now _ _ _ _ _ c.requires.in_table
    c.requires.in_wires c.requires.in_tape c.requires.in_board
    _ _ _ _ _ _ _ _
    (left_turn c.args.inputs c.args.table.now c.args.to c.args.tape.now _ _ _ _ _
    c.requires.in_table c.requires.in_wires c.requires.in_tape c.requires.in_board
    l.wires l.board l.next l.g l.invariant c.loop-g-test.true)
    r.ensures.wires r.ensures.board r.ensures.next (add-one l.g)

pub returns : goal.returns
returns c = let l = c.loop-g in
    let e = left_end c.args.inputs c.args.table.now c.args.to c.args.tape.now _ _ _ _ _
    c.requires.in_table c.requires.in_wires c.requires.in_tape c.requires.in_board
    l.wires l.board l.next l.g l.invariant c.loop-g-test.false in
    record { next = e.0; wires = e.1; board = e.2 }
