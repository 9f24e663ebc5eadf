-- `gate_adders::reach::carries` meets its contract: after i digits, writing the digits left completes the block.
-- Assumes nothing.
use mathlib.Core.Path.{◌∙◌, sym, ap}
use Prim.Native.Nat.{ℕ, ◌+◌, ◌-◌}
use native.Mathlib.Omega.{arith}
use Rattle.gate_words.specs.Reach.{carries}
use Rattle.gate_words.proofs.ReachLaws.{carries_step, carries_none, length_carries}
use Rattle.gate_words.proofs.Going.{goes_turn_as, goes_room_for, goes_done}
use Rattle.gate_adders.proofs.reach.carries.Goals as goal

pub carry_next-next-requires : goal.carry_next-next-requires
carry_next-next-requires c =
    goes_room_for c.loop-i.invariant (omega (arith, length_carries)) (omega (arith, length_carries)) c.requires.room

pub overflow_add-last : goal.overflow_add-last
overflow_add-last c =
    let a = c.args in
    let l = c.loop-i in
    omega (
      arith,
      l.invariant.wire_left,
      c.requires.room.small,
      length_carries l.next.wire (a.x + l.i) (a.y + l.i) l.last (a.digits - l.i),
      length_carries a.w.wire a.x a.y a.carry a.digits,
    )

pub loop-i-preserved : goal.loop-i-preserved
unfolding carries
loop-i-preserved c =
    let a = c.args in
    let l = c.loop-i in
    let e = c.carry_next-next in
    goes_turn_as (carries_step l.next.wire a.x a.y l.last l.i a.digits c.loop-i-test.true) l.invariant e.ensures
    (ap (λ (n : ℕ). carries n (a.x + (l.i + 1)) (a.y + (l.i + 1)) (l.next.wire + 1) (a.digits - (l.i + 1)))
    (sym (e.ensures.wires ∙ ap (λ (n : ℕ). l.next.wire + n)
    (length_carries l.next.wire (a.x + l.i) (a.y + l.i) l.last 1))))

pub returns : goal.returns
returns c =
    let a = c.args in
    let l = c.loop-i in
    goes_done l.invariant
    (carries_none l.next.wire (a.x + l.i) (a.y + l.i) l.last l.i a.digits c.loop-i-test.false)
