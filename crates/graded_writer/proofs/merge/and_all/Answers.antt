-- `graded_writer::merge::and_all` meets its contract: after each gate, writing the gates left completes the block.
-- Assumes nothing.
use mathlib.Core.Path.{◌≡◌, ◌∙◌, sym, ap}
use Prim.Native.Nat.{ℕ, ◌+◌, ◌-◌}
use native.Mathlib.Nat.{add-zero}
use native.Mathlib.Omega.{arith}
use Rattle.gate_words.proofs.Emitting.{and_wrote}
use Rattle.gate_words.proofs.Going.{goes_start, goes_as, goes_on, goes_room, goes_end}
use Rattle.graded_circuit.specs.Merge.{and_all}
use Rattle.graded_writer.proofs.ListWriters.{both_step, both_none, length_both}
use Rattle.graded_writer.proofs.merge.and_all.Goals as goal

pub loop-i-init : goal.loop-i-init
loop-i-init c = let a = c.args in
    let e : a.count ≡ a.count - 0 = omega arith in
    goes_as a.w a.table.now (and_all a.at a.stays a.count) a.w a.table.now _ _
    (ap (λ (k : ℕ). and_all k a.stays a.count) (sym (add-zero a.at))
    ∙ ap (and_all (a.at + 0) a.stays) e)
    (goes_start a.w a.table.now (and_all a.at a.stays a.count) a.count c.requires.room)

pub overflow_add-at : goal.overflow_add-at
overflow_add-at c = omega (
  arith,
  c.requires.room.small,
  c.requires.below,
  c.loop-i-test.true,
)

pub emit-next-requires : goal.emit-next-requires
emit-next-requires c = let a = c.args in
    let l = c.loop-i in
    goes_room a.w a.table.now (and_all a.at a.stays a.count) l.next l.table
    (and_all (a.at + l.i) a.stays (a.count - l.i)) 1 a.count l.invariant
    (omega (arith, length_both (a.at + l.i) a.stays (a.count - l.i), c.loop-i-test.true))
    (omega (arith, length_both a.at a.stays a.count)) c.requires.room

pub loop-i-preserved : goal.loop-i-preserved
loop-i-preserved c = let a = c.args in
    let l = c.loop-i in
    let t = c.loop-i-test.true in
    let h = c.emit-next in
    goes_on a.w a.table.now (and_all a.at a.stays a.count) l.next l.table _ _ h.new.table h.result
    (goes_as a.w a.table.now (and_all a.at a.stays a.count) l.next l.table _ _
    (both_step a.at a.stays l.i a.count t) l.invariant)
    (and_wrote l.next l.table h.new.table h.result (a.at + l.i) a.stays 0 h.ensures)

pub returns : goal.returns
returns c = let a = c.args in
    let l = c.loop-i in
    goes_end a.w a.table.now (and_all a.at a.stays a.count) l.next l.table _
    (both_none (a.at + l.i) a.stays l.i a.count c.loop-i-test.false) l.invariant
