-- `gates::step::step` meets its contract: after each gate, the gates that are left make the wires and the board of
-- the whole range.
-- Assumes nothing.
use Prim.Native.Nat.{◌+◌}
use lib.ListN.{length}
use Rattle.gates.specs.Open.Board.{conditional_count}
use Rattle.gates.specs.Open.Step.{range_of, step_wires, step_board}
use Rattle.gates.proofs.Stepping.{Left}
use Rattle.gates.proofs.step.step.Given as goal

abbrev pub invariant-loop-g : goal.invariant-loop-g
invariant-loop-g l =
    let ws = l.initial.wires in
    let bs = l.initial.board in
    Left l.inputs l.table l.to l.tape (length ws) (length bs) (l.shown + conditional_count (range_of l.table l.from l.to))
    (step_wires l.inputs l.table l.from l.to ws) (step_board l.inputs l.table l.from l.to l.tape l.shown ws bs)
    l.wires l.board l.next l.g
