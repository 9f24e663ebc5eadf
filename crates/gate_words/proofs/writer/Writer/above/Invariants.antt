-- `gate_words::writer::Writer::above` meets its contract: after i digits, writing the rest of the chain completes
-- it.
-- Assumes nothing.
use Prim.Native.Nat.{◌+◌, ◌-◌}
use Rattle.gate_words.specs.Comparison.{above}
use Rattle.gate_words.proofs.Going.{Goes}
use Rattle.gate_words.proofs.writer.Writer.above.Given as goal

abbrev pub invariant-loop-i : goal.invariant-loop-i
invariant-loop-i l =
    Goes l.initial.w l.initial.table (above l.initial.w.wire l.differ l.x l.s l.digits) l.w l.table
    (above l.w.wire (l.differ + l.i) (l.x + l.i) l.last (l.digits - l.i))
