-- `gate_words::writer::Writer::xor_rows` meets its contract: it is `rows` at kind 6.
-- Assumes nothing.
use Rattle.gates.proofs.Laws.{operand_counts_lem}
use Rattle.gate_words.proofs.Writing.{wrote_as}
use Rattle.gate_words.proofs.RowSteps.{rows_xor}
use Rattle.gate_words.proofs.writer.Writer.xor_rows.Goals as goal

pub rows-requires : goal.rows-requires
rows-requires c = record { rows = c.requires; two = operand_counts_lem.6 }

pub returns : goal.returns
returns c =
    let a = c.args in
    wrote_as a.self a.table.now _ _ _ _ (rows_xor a.x a.dx a.y a.dy a.count) c.rows.ensures
