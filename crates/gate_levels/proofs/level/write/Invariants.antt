-- `gate_levels::level::write` meets its contract: after each gate, writing the levels left completes the table.
-- Assumes nothing.
use Rattle.gate_levels.proofs.Filling.{Left}
use Rattle.gate_levels.proofs.level.write.Given as goal

abbrev pub invariant-loop-g : goal.invariant-loop-g
invariant-loop-g l = Left l.inputs l.table l.levels l.most l.g
