-- `urn_chains::walk::look_at_free` meets its contract: the bytes at the slot's place are the slot's parts.
-- Assumes nothing.
use mathlib.Core.Path.{◌≡◌, ◌∙◌, sym, ap}
use mathlib.Core.Bool.{Bool, ◌&&◌}
use Prim.Native.Nat.{ℕ, ◌+◌, ◌-◌, ◌*◌, ◌≤◌}
use lib.ListN.{length, get_or, take, drop}
use borrow.Author.Tests.{eq-eqb, ne_eqb}
use Rattle.urn_chains.specs.Slots.{slot_bytes, slots_of}
use Rattle.urn_chains.specs.Sound.{all_zero}
use Rattle.urn_chains.specs.inner.Walk.{free_at}
use Rattle.urn_chains.proofs.SlotLaws.{slot_within, next_is, juror_is}
use Rattle.urn_chains.proofs.SlotChecks.{look_wrong, look_well, free_out, free_by_bytes}
use native.Mathlib.Omega.{arith}
use Rattle.urn_chains.proofs.walk.look_at_free.Goals as goal
use Rattle.urn_chains.proofs.walk.look_at_free.Goals.{After-is_zero, Else-slots-slot}

-- the slot lies within the urn
inside : (c : Else-slots-slot) → c.args.slot * (2 + c.args.bytes)
    + (2 + c.args.bytes) ≤ length c.args.urn.now
unfolding slot_bytes
inside c =
    let a = c.args in
    omega (arith, slot_within a.slot a.slots a.bytes c.if-slots-slot.false, c.requires.table.size)

-- the test of the slot is the definition's
held : (c : After-is_zero)
    → free_at (slots_of c.args.bytes
    c.args.slots
    c.args.urn.now)
    c.args.slot ≡ c.is_zero.result
unfolding slot_bytes
held c =
    let a = c.args in
    let p = c.requires in
    let at = a.slot * (2 + a.bytes) in
    free_by_bytes a.bytes a.slots a.urn.now a.slot p.chained c.if-slots-slot.false p.table.size
    ∙ ap (λ (t : Bool). t && all_zero (take a.bytes (drop (at + 2) a.urn.now)))
    (eq-eqb (get_or a.urn.now (at + 1) 0) 0 c.if-juror-ne0.false)
    ∙ ap (λ (n : ℕ). all_zero (take n (drop (at + 2) a.urn.now))) {x = a.bytes} {y = at + (2 + a.bytes) - (at + 2)} (omega arith)
    ∙ sym c.is_zero.ensures

pub returns-then-slots-slot : goal.returns-then-slots-slot
returns-then-slots-slot c = let a = c.args in
    look_wrong _ _ (free_out a.bytes a.slots a.urn.now a.slot c.requires.chained c.if-slots-slot.true)

pub bounds-urn-at : goal.bounds-urn-at
bounds-urn-at c = omega (arith, inside (goal.at.bounds-urn-at c).Else-slots-slot)

pub returns-then-juror-ne0 : goal.returns-then-juror-ne0
unfolding slot_bytes
returns-then-juror-ne0 c = let a = c.args in
    let p = c.requires in
    let at = a.slot * (2 + a.bytes) in
    look_wrong _ _
    (free_by_bytes a.bytes a.slots a.urn.now a.slot p.chained c.if-slots-slot.false p.table.size
    ∙ ap (λ (t : Bool). t && all_zero (take a.bytes (drop (at + 2) a.urn.now)))
    (ne_eqb (get_or a.urn.now (at + 1) 0) 0 c.if-juror-ne0.true))

pub slice_bounds-is_zero-end : goal.slice_bounds-is_zero-end
slice_bounds-is_zero-end c = inside (goal.at.slice_bounds-is_zero-end c).Else-slots-slot

pub returns-then-not-is_zero : goal.returns-then-not-is_zero
returns-then-not-is_zero c = look_wrong _ _ (held (goal.at.returns-then-not-is_zero c).After-is_zero ∙ c.if-not-is_zero.true)

pub bounds-urn-at-2 : goal.bounds-urn-at-2
bounds-urn-at-2 c = omega (arith, inside (goal.at.bounds-urn-at-2 c).Else-slots-slot)

pub returns : goal.returns
unfolding slot_bytes
returns c = let a = c.args in
    look_well _ _ _ _ (held (goal.at.returns c).After-is_zero ∙ c.if-not-is_zero.false)
    (c.from.ensures ∙ sym (juror_is a.bytes a.slots a.urn.now a.slot c.if-slots-slot.false))
    (c.from-2.ensures ∙ sym (next_is a.bytes a.slots a.urn.now a.slot c.if-slots-slot.false))
