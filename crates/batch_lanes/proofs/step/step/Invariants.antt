-- `batch_lanes::step::step` meets its contract: in every lane, running the gates that are left gives what running
-- the whole range gives.
-- Assumes nothing.
use Rattle.batch_lanes.proofs.StepLaws.{LanesLeft}
use Rattle.batch_lanes.proofs.step.step.Given as goal

abbrev pub invariant-loop-g : goal.invariant-loop-g
invariant-loop-g l = LanesLeft l.inputs l.table l.from l.to l.tape l.shown l.initial.wires l.initial.board l.wires l.board l.next l.g
