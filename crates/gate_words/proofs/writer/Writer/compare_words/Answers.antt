-- `gate_words::writer::Writer::compare_words` meets its contract: after i digits, writing the digits left completes
-- the block.
-- Assumes nothing.
use mathlib.Core.Path.{◌∙◌, sym, ap}
use Prim.Native.Nat.{ℕ, ◌+◌, ◌-◌}
use native.Mathlib.Omega.{arith}
use Rattle.gate_words.specs.Comparison.{compare_words}
use Rattle.gate_words.proofs.WordSteps.{compare_step, compare_none, length_compare}
use Rattle.gate_words.proofs.Going.{goes_turn_as, goes_room_for, goes_done}
use Rattle.gate_words.proofs.writer.Writer.compare_words.Goals as goal

pub compare_next-w-requires : goal.compare_next-w-requires
compare_next-w-requires c =
    goes_room_for c.loop-i.invariant (omega (arith, length_compare)) (omega (arith, length_compare)) c.requires.room

pub loop-i-preserved : goal.loop-i-preserved
loop-i-preserved c =
    let a = c.args in
    let l = c.loop-i in
    let e = c.compare_next-w in
    goes_turn_as (compare_step l.w.wire a.x a.y l.above l.below l.i a.digits c.loop-i-test.true) l.invariant e.ensures
    (ap (λ (n : ℕ). compare_words n (a.x + (l.i + 1)) (a.y + (l.i + 1)) (l.w.wire + 1) (l.w.wire + 2) (a.digits - (l.i + 1)))
    (sym (e.ensures.wires ∙ ap (λ (n : ℕ). l.w.wire + n)
    (length_compare l.w.wire (a.x + l.i) (a.y + l.i) l.above l.below 1))))

pub returns : goal.returns
returns c =
    let a = c.args in
    let l = c.loop-i in
    goes_done l.invariant
    (compare_none l.w.wire (a.x + l.i) (a.y + l.i) l.above l.below l.i a.digits c.loop-i-test.false)
