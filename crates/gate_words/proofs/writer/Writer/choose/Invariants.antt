-- `gate_words::writer::Writer::choose` meets its contract: after i gates, writing the digits left completes the
-- block.
-- Assumes nothing.
use Prim.Native.Nat.{◌+◌, ◌-◌}
use Rattle.gate_words.specs.Choice.{choose}
use Rattle.gate_words.proofs.Going.{Goes}
use Rattle.gate_words.proofs.writer.Writer.choose.Given as goal

abbrev pub invariant-loop-i : goal.invariant-loop-i
invariant-loop-i l =
    Goes l.initial.w l.initial.table (choose l.f l.x l.y l.digits) l.w l.table
    (choose l.f (l.x + l.i) (l.y + l.i) (l.digits - l.i))
