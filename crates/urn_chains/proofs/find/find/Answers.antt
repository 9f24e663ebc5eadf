-- `urn_chains::find::find` meets its contract: the search in the rest of the chain finds what the search in all of
-- it finds.
-- Assumes nothing.
use mathlib.Core.Path.{◌∙◌, sym}
use Prim.Native.Nat.{◌+◌, ◌*◌, ◌≤◌, ◌<◌}
use lib.ListN.{length, get_or}
use Rattle.urn_chains.specs.Slots.{slot_bytes, slots_of}
use Rattle.urn_chains.proofs.SlotLaws.{slot_within, size_least, next_is, juror_is}
use Rattle.urn_chains.proofs.Positions.{find_below, find_here, find_go, find_stuck, find_end}
use native.Mathlib.Omega.{arith}
use Rattle.urn_chains.proofs.find.find.Goals as goal
use Rattle.urn_chains.proofs.find.find.Goals.{Else-count-slots}

-- a turn's slot lies within the urn
below_end : (c : Else-count-slots) → c.loop-slot.slot < c.args.slots
below_end c =
    let a = c.args in
    find_below (slots_of a.bytes a.slots a.urn.now) a.slots (get_or a.urn.now 0 0) a.juror
    c.loop-slot.before c.loop-slot.count c.loop-slot.slot c.loop-slot.invariant c.if-count-slots.false
    (omega (arith, c.loop-slot-test.true))

inside : (c : Else-count-slots) → c.loop-slot.slot
    * (2 + c.args.bytes)
    + (2 + c.args.bytes)
    ≤ length c.args.urn.now
unfolding slot_bytes
inside c =
    omega (arith, slot_within c.loop-slot.slot c.args.slots c.args.bytes (below_end c), c.requires.table.size)

pub bounds-urn-0 : goal.bounds-urn-0
bounds-urn-0 c = let l : 0 < length c.args.urn.now =
    omega (arith, c.requires.table.size, size_least c.args.bytes c.args.slots c.requires.table.least) in
    l

pub returns-then-count-slots : goal.returns-then-count-slots
returns-then-count-slots c = let a = c.args in
    find_stuck (slots_of a.bytes a.slots a.urn.now) a.slots (get_or a.urn.now 0 0) a.juror
    c.loop-slot.before c.loop-slot.count c.loop-slot.slot c.loop-slot.invariant c.if-count-slots.true

pub overflow_mul-at : goal.overflow_mul-at
overflow_mul-at c = omega (arith, inside (goal.at.overflow_mul-at c).Else-count-slots)

pub overflow_add-at : goal.overflow_add-at
overflow_add-at c = omega (arith, inside (goal.at.overflow_add-at c).Else-count-slots)

pub bounds-urn-at : goal.bounds-urn-at
bounds-urn-at c = omega (arith, inside (goal.at.bounds-urn-at c).Else-count-slots)

pub bounds-urn-at-in-loop-slot : goal.bounds-urn-at-in-loop-slot
bounds-urn-at-in-loop-slot c = omega (arith, inside (goal.at.bounds-urn-at-in-loop-slot c).Else-count-slots)

pub loop-slot-preserved : goal.loop-slot-preserved
unfolding slot_bytes
loop-slot-preserved c = let a = c.args in
    find_go (slots_of a.bytes a.slots a.urn.now) a.slots (get_or a.urn.now 0 0) a.juror
    c.loop-slot.before c.loop-slot.count c.loop-slot.slot c.loop-slot.invariant c.from-slot-in-loop-slot.result
    (c.from-slot-in-loop-slot.ensures ∙ sym (next_is a.bytes a.slots a.urn.now c.loop-slot.slot (below_end (goal.at.loop-slot-preserved c).Else-count-slots)))
    c.if-count-slots.false (omega (arith, c.loop-slot-test.true))
    (λ q. c.if-from-juror.false
    (c.from.ensures
    ∙ sym (juror_is a.bytes a.slots a.urn.now c.loop-slot.slot (below_end (goal.at.loop-slot-preserved c).Else-count-slots)) ∙ q))

pub returns : goal.returns
returns c = let a = c.args in
    find_end (slots_of a.bytes a.slots a.urn.now) a.slots (get_or a.urn.now 0 0) a.juror
    c.loop-slot.before c.loop-slot.count c.loop-slot.slot c.loop-slot.invariant c.loop-slot-test.false

pub returns-then-from-juror : goal.returns-then-from-juror
unfolding slot_bytes
returns-then-from-juror c =
    let a = c.args in
    find_here (slots_of a.bytes a.slots a.urn.now) a.slots (get_or a.urn.now 0 0) a.juror
    c.loop-slot.before c.loop-slot.count c.loop-slot.slot c.loop-slot.invariant c.if-count-slots.false
    (omega (arith, c.loop-slot-test.true))
    (juror_is a.bytes a.slots a.urn.now c.loop-slot.slot (below_end (goal.at.returns-then-from-juror c).Else-count-slots)
    ∙ sym c.from.ensures ∙ c.if-from-juror.true)
