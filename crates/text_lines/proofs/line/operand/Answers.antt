-- `text_lines::line::operand` meets its contract.
-- Assumes nothing.
use Rattle.text_lines.specs.Line.{operand_in}
use Rattle.text_lines.specs.inner.Found.{number_found}
use Rattle.text_lines.proofs.Found.{operand_none, operand_other, operand_number}
use Rattle.text_lines.proofs.line.operand.Goals as goal

pub returns-then-not-used : goal.returns-then-not-used
unfolding number_found operand_in
returns-then-not-used c = record { found = rw c.if-not-used.true; within = c.requires }

pub returns-then-text-at : goal.returns-then-text-at
unfolding number_found
returns-then-text-at c = record { found = rw (c.if-not-used.false, operand_none _ _ c.if-text-at.true); within = tt }

pub returns-then-text-at-ne-SPACE : goal.returns-then-text-at-ne-SPACE
unfolding number_found
returns-then-text-at-ne-SPACE c = record {
  found = rw (c.if-not-used.false, operand_other _ _ c.if-text-at.false c.if-text-at-ne-SPACE.true);
  within = tt;
}

pub returns : goal.returns
returns c = rw (c.if-not-used.false, operand_number _ _ c.if-text-at.false c.if-text-at-ne-SPACE.false) c.number.ensures
