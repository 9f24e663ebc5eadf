-- `gate_adders::reach::carries_by` meets its contract: after i digits, writing the rest of the chain completes it.
-- Assumes nothing.
use mathlib.Core.Path.{sym, ap}
use Prim.Native.Nat.{ℕ, ◌+◌, ◌-◌}
use native.Mathlib.Omega.{arith}
use Rattle.gate_words.specs.Reach.{carries_by}
use Rattle.gate_words.proofs.Emitting.{mux_wrote}
use Rattle.gate_words.proofs.ReachLaws.{carries_by_step, carries_by_none, length_carries_by}
use Rattle.gate_words.proofs.Going.{goes_turn_as, goes_room_for, goes_done}
use Rattle.gate_adders.proofs.reach.carries_by.Goals as goal

pub emit-next-requires : goal.emit-next-requires
emit-next-requires c =
    goes_room_for c.loop-i.invariant (omega (arith, length_carries_by)) (omega (arith, length_carries_by)) c.requires.room

pub loop-i-preserved : goal.loop-i-preserved
loop-i-preserved c =
    let a = c.args in
    let l = c.loop-i in
    let e = c.emit-next in
    goes_turn_as (carries_by_step l.next.wire a.f a.x l.last l.i a.digits c.loop-i-test.true) l.invariant
    (mux_wrote _ _ _ _ _ _ _ e.ensures)
    (ap (λ (n : ℕ). carries_by n (a.f + (l.i + 1)) (a.x + (l.i + 1)) l.next.wire (a.digits - (l.i + 1)))
    (sym e.ensures.wires))

pub returns : goal.returns
returns c =
    let a = c.args in
    let l = c.loop-i in
    goes_done l.invariant
    (carries_by_none l.next.wire (a.f + l.i) (a.x + l.i) l.last l.i a.digits c.loop-i-test.false)
