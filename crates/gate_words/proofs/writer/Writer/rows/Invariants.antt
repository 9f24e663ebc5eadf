-- `gate_words::writer::Writer::rows` meets its contract: after each gate, writing the gates left completes the
-- rows.
-- Assumes nothing.
use Prim.Native.Nat.{◌-◌}
use Rattle.gate_words.specs.Word.{Below}
use Rattle.gate_words.specs.Rows.{rows_of}
use Rattle.gate_words.proofs.Going.{Goes}
use Rattle.gate_words.proofs.writer.Writer.rows.Given as goal

abbrev pub invariant-loop : goal.invariant-loop
invariant-loop l =
    Goes l.initial.w l.initial.table (rows_of l.kind l.x l.dx l.y l.dy l.count) l.w l.table
    (rows_of l.kind l.first l.dx l.second l.dy (l.count - l.counter))
    × Below l.initial.w.wire l.first l.dx (l.count - l.counter) × Below l.initial.w.wire l.second l.dy (l.count - l.counter)
