-- `urn_chains::walk::walk_free` meets its contract: the walk along the rest of the chain finds what the walk along
-- all of it finds.
-- Assumes nothing.
use Prim.Native.Nat.{◌-◌, ◌<◌}
use lib.ListN.{length}
use Rattle.urn_chains.specs.Slots.{slots_of}
use Rattle.urn_chains.proofs.SlotLaws.{slots_length, size_least}
use Rattle.urn_chains.proofs.SlotChecks.{free_below}
use Rattle.urn_chains.proofs.Walks.{free_go, free_fail, free_walked, free_wrong, free_met, looked_well, looked_wrong, not_walked}
use native.Mathlib.Omega.{arith}
use Rattle.urn_chains.proofs.walk.walk_free.Goals as goal

pub bounds-urn-1 : goal.bounds-urn-1
bounds-urn-1 c = let l : 1 < length c.args.urn.now = omega (arith, c.requires.size, size_least c.args.bytes c.args.slots c.requires.least) in
    l

pub returns-then-count-slots : goal.returns-then-count-slots
returns-then-count-slots c = let a = c.args in
    not_walked _ _ _ (free_fail _ a.slots _ _ _ _ _ c.loop-slot.invariant
    (omega (arith, c.loop-slot-test.true)) (λ l. absurd (omega (arith, c.if-count-slots.true))))

pub bounds-marks-slot : goal.bounds-marks-slot
bounds-marks-slot c =
    let w = looked_well _ _ _ c.in_ok-link.ensures in
    let a = c.args in
    omega (
      arith,
      free_below (slots_of a.bytes a.slots a.urn.now) c.loop-slot.slot w.0,
      slots_length a.bytes a.slots a.urn.now,
      c.requires.most,
    )

pub returns-then-marks-slot : goal.returns-then-marks-slot
returns-then-marks-slot c = let a = c.args in
    let p : 0 < c.loop-slot.slot = omega (arith, c.loop-slot-test.true) in
    not_walked _ _ _ (free_fail _ a.slots _ _ _ _ _ c.loop-slot.invariant p
    (λ l. free_met _ (a.slots - c.loop-slot.count) c.loop-slot.slot _ (omega arith) p c.if-marks-slot.true))

pub bounds-marks-slot-in-loop-slot : goal.bounds-marks-slot-in-loop-slot
bounds-marks-slot-in-loop-slot c =
    let w = looked_well _ _ _ c.in_ok-link.ensures in
    let a = c.args in
    omega (
      arith,
      free_below (slots_of a.bytes a.slots a.urn.now) c.loop-slot.slot w.0,
      slots_length a.bytes a.slots a.urn.now,
      c.requires.most,
    )

pub loop-slot-preserved : goal.loop-slot-preserved
loop-slot-preserved c = let a = c.args in
    let w = looked_well _ _ _ c.in_ok-link.ensures in
    free_go _ a.slots _ _ _ _ c.loop-slot.slot c.loop-slot.invariant _ w.2
    c.if-count-slots.false
    (omega (arith, c.loop-slot-test.true)) w.0 c.if-marks-slot.false

pub returns : goal.returns
returns c = let a = c.args in
    free_walked _ a.slots _ _ _ _ c.loop-slot.slot c.loop-slot.invariant c.loop-slot-test.false

pub returns-in_err-link : goal.returns-in_err-link
returns-in_err-link c =
    let a = c.args in
    let p : 0 < c.loop-slot.slot = omega (arith, c.loop-slot-test.true) in
    rw c.from_residual.ensures (not_walked _ _ _ (free_fail _ a.slots _ _ _ _ _ c.loop-slot.invariant p
    (λ l. free_wrong _ (a.slots - c.loop-slot.count) c.loop-slot.slot _ (omega arith) p
    (looked_wrong _ _ c.in_err-link.ensures))))
