-- `gate_words::writer::Writer::above` meets its contract: after i digits, writing the rest of the chain completes
-- it.
-- Assumes nothing.
use mathlib.Core.Path.{sym, ap}
use Prim.Native.Nat.{ℕ, ◌+◌, ◌-◌}
use native.Mathlib.Omega.{arith}
use Rattle.gate_words.specs.Comparison.{above}
use Rattle.gate_words.proofs.Emitting.{mux_wrote}
use Rattle.gate_words.proofs.WordSteps.{above_step, above_none, length_above}
use Rattle.gate_words.proofs.Going.{goes_turn_as, goes_room_for, goes_done}
use Rattle.gate_words.proofs.writer.Writer.above.Goals as goal

pub emit-w-requires : goal.emit-w-requires
emit-w-requires c =
    goes_room_for c.loop-i.invariant (omega (arith, length_above)) (omega (arith, length_above)) c.requires.room

pub loop-i-preserved : goal.loop-i-preserved
loop-i-preserved c =
    let a = c.args in
    let l = c.loop-i in
    let e = c.emit-w in
    goes_turn_as (above_step l.w.wire a.differ a.x l.last l.i a.digits c.loop-i-test.true) l.invariant
    (mux_wrote _ _ _ _ _ _ _ e.ensures)
    (ap (λ (n : ℕ). above n (a.differ + (l.i + 1)) (a.x + (l.i + 1)) l.w.wire (a.digits - (l.i + 1))) (sym e.ensures.wires))

pub returns : goal.returns
returns c =
    let a = c.args in
    let l = c.loop-i in
    goes_done l.invariant (above_none l.w.wire (a.differ + l.i) (a.x + l.i) l.last l.i a.digits c.loop-i-test.false)
