-- `gate_words::writer::Writer::choose` meets its contract: after i gates, writing the digits left completes the
-- block.
-- Assumes nothing.
use Prim.Native.Nat.{◌+◌}
use native.Mathlib.Omega.{arith}
use Rattle.gate_words.proofs.Emitting.{mux_wrote}
use Rattle.gate_words.proofs.Going.{goes_turn, goes_room_for, goes_done}
use Rattle.gate_words.proofs.ChoiceSteps.{choose_step, choose_none, length_choose}
use Rattle.gate_words.proofs.writer.Writer.choose.Goals as goal

pub emit-w-requires : goal.emit-w-requires
emit-w-requires c =
    goes_room_for c.loop-i.invariant (omega (arith, length_choose)) (omega (arith, length_choose)) c.requires.room

pub loop-i-preserved : goal.loop-i-preserved
loop-i-preserved c =
    let a = c.args in
    let l = c.loop-i in
    goes_turn (choose_step a.f a.x a.y l.i a.digits c.loop-i-test.true) l.invariant (mux_wrote _ _ _ _ _ _ _ c.emit-w.ensures)

pub returns : goal.returns
returns c =
    let a = c.args in
    let l = c.loop-i in
    goes_done l.invariant (choose_none a.f (a.x + l.i) (a.y + l.i) l.i a.digits c.loop-i-test.false)
