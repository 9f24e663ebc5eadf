-- `gate_words::writer::Writer::masked` meets its contract: after i gates, writing the digits left completes the
-- block.
-- Assumes nothing.
use Prim.Native.Nat.{◌+◌}
use native.Mathlib.Omega.{arith}
use Rattle.gate_words.proofs.Emitting.{and_wrote}
use Rattle.gate_words.proofs.Going.{goes_turn, goes_room_for, goes_done}
use Rattle.gate_words.proofs.ChoiceSteps.{masked_step, masked_none, length_masked}
use Rattle.gate_words.proofs.writer.Writer.masked.Goals as goal

pub emit-w-requires : goal.emit-w-requires
emit-w-requires c =
    goes_room_for c.loop-i.invariant (omega (arith, length_masked)) (omega (arith, length_masked)) c.requires.room

pub loop-i-preserved : goal.loop-i-preserved
loop-i-preserved c =
    let a = c.args in
    let l = c.loop-i in
    goes_turn (masked_step a.f a.x l.i a.digits c.loop-i-test.true) l.invariant (and_wrote _ _ _ _ _ _ _ c.emit-w.ensures)

pub returns : goal.returns
returns c =
    let a = c.args in
    let l = c.loop-i in
    goes_done l.invariant (masked_none a.f (a.x + l.i) l.i a.digits c.loop-i-test.false)
