-- `gate_words::writer::Writer::differences` meets its contract: it is `rows` at kind 6, of neighbouring wires.
-- Assumes nothing.
use native.Mathlib.Omega.{arith}
use Rattle.gates.proofs.Laws.{operand_counts_lem}
use Rattle.gate_words.proofs.Writing.{wrote_as}
use Rattle.gate_words.proofs.HalvesLaws.{beside}
use Rattle.gate_words.proofs.RowSteps.{rows_differences}
use Rattle.gate_words.proofs.writer.Writer.differences.Goals as goal

pub rows-requires : goal.rows-requires
rows-requires c =
    let a = c.args in
    let r = c.requires in
    record {
      rows = record {
        room = r.room;
        first_below = beside a.self.wire a.x a.digits r.first_below;
        first_near = omega arith;
        second_below = beside a.self.wire a.y a.digits r.second_below;
        second_near = omega arith;
      };
      two = operand_counts_lem.6;
    }

pub returns : goal.returns
returns c =
    let a = c.args in
    wrote_as a.self a.table.now _ _ _ _ (rows_differences a.x a.y a.digits) c.rows.ensures
