-- `urn_chains::walk::look_at_ballot` meets its contract: the bytes at the slot's place are the slot's parts.
-- Assumes nothing.
use mathlib.Core.Path.{◌≡◌, ◌∙◌, sym, ap}
use mathlib.Core.Bool.{◌&&◌}
use Prim.Native.Nat.{ℕ, ◌+◌, ◌-◌, ◌*◌, ◌≤◌}
use lib.ListN.{length, get_or, take, drop}
use Rattle.urn_chains.specs.Slots.{slot_bytes, slots_of}
use Rattle.urn_chains.specs.Sound.{good_juror, good_ballot}
use Rattle.urn_chains.specs.inner.Walk.{ballot_at}
use Rattle.urn_chains.proofs.SlotLaws.{slot_within, next_is, juror_is}
use Rattle.urn_chains.proofs.SlotChecks.{look_wrong, look_well, ballot_out, ballot_by_bytes}
use native.Mathlib.Omega.{arith}
use Rattle.urn_chains.proofs.walk.look_at_ballot.Goals as goal
use Rattle.urn_chains.proofs.walk.look_at_ballot.Goals.{After-holds_ballot, Else-slots-slot}

-- the slot lies within the urn
inside : (c : Else-slots-slot) → c.args.slot
    * (2 + c.args.k * c.args.d)
    + (2 + c.args.k * c.args.d) ≤ length c.args.urn.now
unfolding slot_bytes
inside c =
    let a = c.args in
    omega (arith, slot_within a.slot a.slots (a.k * a.d) c.if-slots-slot.false, c.requires.bytes.table.size)

-- the test of the slot is the definition's
held : (c : After-holds_ballot)
    → ballot_at c.args.k
    c.args.d
    (slots_of (c.args.k
    * c.args.d) c.args.slots
    c.args.urn.now)
    c.args.slot ≡ c.holds_ballot.result
unfolding slot_bytes
held c =
    let a = c.args in
    let p = c.requires in
    let at = a.slot * (2 + a.k * a.d) in
    ballot_by_bytes (a.k * a.d) a.slots a.urn.now a.slot p.chained a.k a.d c.if-slots-slot.false p.bytes.table.size
    ∙ ap (λ (n : ℕ). good_juror (get_or a.urn.now (at + 1) 0) && good_ballot a.k a.d
    (take n (drop (at + 2) a.urn.now))) {x = a.k * a.d} {y = at + (2 + a.k * a.d) - (at + 2)} (omega arith)
    ∙ sym c.holds_ballot.ensures

pub returns-then-slots-slot : goal.returns-then-slots-slot
returns-then-slots-slot c = let a = c.args in
    look_wrong _ _ (ballot_out (a.k * a.d) a.slots a.urn.now a.slot c.requires.chained
    a.k a.d c.if-slots-slot.true)

pub bounds-urn-at : goal.bounds-urn-at
bounds-urn-at c = omega (arith, inside (goal.at.bounds-urn-at c).Else-slots-slot)

pub slice_bounds-holds_ballot-end : goal.slice_bounds-holds_ballot-end
slice_bounds-holds_ballot-end c = inside (goal.at.slice_bounds-holds_ballot-end c).Else-slots-slot

pub returns-then-not-holds_ballot : goal.returns-then-not-holds_ballot
returns-then-not-holds_ballot c = look_wrong _ _ (held (goal.at.returns-then-not-holds_ballot c).After-holds_ballot ∙ c.if-not-holds_ballot.true)

pub bounds-urn-at-2 : goal.bounds-urn-at-2
bounds-urn-at-2 c = omega (arith, inside (goal.at.bounds-urn-at-2 c).Else-slots-slot)

pub returns : goal.returns
unfolding slot_bytes
returns c = let a = c.args in
    look_well _ _ _ _ (held (goal.at.returns c).After-holds_ballot ∙ c.if-not-holds_ballot.false)
    (c.from.ensures ∙ sym (juror_is (a.k * a.d) a.slots a.urn.now a.slot c.if-slots-slot.false))
    (c.from-2.ensures ∙ sym (next_is (a.k * a.d) a.slots a.urn.now a.slot c.if-slots-slot.false))
