-- `gate_words::writer::Writer::masked` meets its contract: after i gates, writing the digits left completes the
-- block.
-- Assumes nothing.
use Prim.Native.Nat.{◌+◌, ◌-◌}
use Rattle.gate_words.specs.Choice.{masked}
use Rattle.gate_words.proofs.Going.{Goes}
use Rattle.gate_words.proofs.writer.Writer.masked.Given as goal

abbrev pub invariant-loop-i : goal.invariant-loop-i
invariant-loop-i l =
    Goes l.initial.w l.initial.table (masked l.f l.x l.digits) l.w l.table
    (masked l.f (l.x + l.i) (l.digits - l.i))
