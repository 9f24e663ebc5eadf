-- `gate_levels::level::compare` meets its contract: the first gate whose level differs decides; until then,
-- comparing the rest answers for all.
-- Assumes nothing.
use Rattle.gate_levels.proofs.Filling.{Left}
use Rattle.gate_levels.proofs.level.compare.Given as goal

abbrev pub invariant-loop-g : goal.invariant-loop-g
invariant-loop-g l = Left l.inputs l.table l.levels l.most l.g
