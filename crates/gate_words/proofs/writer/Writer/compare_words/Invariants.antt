-- `gate_words::writer::Writer::compare_words` meets its contract: after i digits, writing the digits left completes
-- the block.
-- Assumes nothing.
use Prim.Native.Nat.{◌+◌, ◌-◌}
use Rattle.gate_words.specs.Comparison.{compare_words}
use Rattle.gate_words.proofs.Going.{Goes}
use Rattle.gate_words.proofs.writer.Writer.compare_words.Given as goal

abbrev pub invariant-loop-i : goal.invariant-loop-i
invariant-loop-i l =
    Goes l.initial.w l.initial.table (compare_words l.initial.w.wire l.x l.y l.up l.down l.digits) l.w l.table
    (compare_words l.w.wire (l.x + l.i) (l.y + l.i) l.above l.below (l.digits - l.i))
