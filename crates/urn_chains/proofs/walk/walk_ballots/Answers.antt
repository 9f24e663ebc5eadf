-- `urn_chains::walk::walk_ballots` meets its contract: the walk along the rest of the chain finds what the walk
-- along all of it finds.
-- Assumes nothing.
use Prim.Native.Nat.{◌-◌, ◌*◌, ◌<◌}
use lib.ListN.{length, get_or}
use Rattle.urn_chains.specs.Slots.{slots_of}
use Rattle.urn_chains.specs.inner.Walk.{no_marks}
use Rattle.urn_chains.proofs.SlotLaws.{slots_length, size_least}
use Rattle.urn_chains.proofs.SlotChecks.{ballot_below, ballot_juror}
use Rattle.urn_chains.proofs.Walks.{ballots_start, ballots_go, ballots_fail, ballots_walked, ballots_wrong, ballots_met, ballots_twice, looked_well, looked_wrong, not_walked}
use native.Mathlib.Omega.{arith}
use Rattle.urn_chains.proofs.walk.walk_ballots.Goals as goal

pub bounds-urn-0 : goal.bounds-urn-0
bounds-urn-0 c = let l : 0 < length c.args.urn.now =
    omega (
      arith,
      c.requires.table.size,
      size_least (c.args.k * c.args.d) c.args.slots c.requires.table.least,
    ) in
    l

pub loop-slot-init : goal.loop-slot-init
unfolding no_marks
loop-slot-init c = let a = c.args in
    ballots_start a.k a.d (slots_of (a.k * a.d) a.slots a.urn.now) a.slots (get_or a.urn.now 0 0)
    c.from-slot.result c.from-slot.ensures

pub returns-then-count-slots : goal.returns-then-count-slots
returns-then-count-slots c = let a = c.args in
    not_walked _ _ _ (ballots_fail a.k a.d _ a.slots _ _ _ _ _ c.loop-slot.invariant
    (omega (arith, c.loop-slot-test.true)) (λ l. absurd (omega (arith, c.if-count-slots.true))))

pub bounds-marks-slot : goal.bounds-marks-slot
bounds-marks-slot c =
    let w = looked_well _ _ _ c.in_ok-link.ensures in
    let a = c.args in
    omega (
      arith,
      ballot_below a.k a.d (slots_of (a.k * a.d) a.slots a.urn.now) c.loop-slot.slot w.0,
      slots_length (a.k * a.d) a.slots a.urn.now,
      c.requires.table.most,
    )

pub returns-then-marks-slot : goal.returns-then-marks-slot
returns-then-marks-slot c = let a = c.args in
    let p : 0 < c.loop-slot.slot = omega (arith, c.loop-slot-test.true) in
    not_walked _ _ _ (ballots_fail a.k a.d _ a.slots _ _ _ _ _ c.loop-slot.invariant p
    (λ l. ballots_met a.k a.d _ (a.slots - c.loop-slot.count) c.loop-slot.slot _ _ (omega arith) p c.if-marks-slot.true))

pub bounds-jurors-link : goal.bounds-jurors-link
bounds-jurors-link c =
    let w = looked_well _ _ _ c.in_ok-link.ensures in
    omega (arith, ballot_juror _ _ _ c.loop-slot.slot w.0, w.1)

pub returns-then-jurors-link : goal.returns-then-jurors-link
returns-then-jurors-link c = let a = c.args in
    let w = looked_well _ _ _ c.in_ok-link.ensures in
    let p : 0 < c.loop-slot.slot = omega (arith, c.loop-slot-test.true) in
    not_walked _ _ _ (ballots_fail a.k a.d _ a.slots _ _ _ _ _ c.loop-slot.invariant p
    (λ l. ballots_twice a.k a.d _ (a.slots - c.loop-slot.count) c.loop-slot.slot _ _ (omega arith) p
    (rw w.1 at c.if-jurors-link.true)))

pub bounds-marks-slot-in-loop-slot : goal.bounds-marks-slot-in-loop-slot
bounds-marks-slot-in-loop-slot c =
    let w = looked_well _ _ _ c.in_ok-link.ensures in
    let a = c.args in
    omega (
      arith,
      ballot_below a.k a.d (slots_of (a.k * a.d) a.slots a.urn.now) c.loop-slot.slot w.0,
      slots_length (a.k * a.d) a.slots a.urn.now,
      c.requires.table.most,
    )

pub bounds-jurors-link-in-loop-slot : goal.bounds-jurors-link-in-loop-slot
bounds-jurors-link-in-loop-slot c =
    let w = looked_well _ _ _ c.in_ok-link.ensures in
    omega (arith, ballot_juror _ _ _ c.loop-slot.slot w.0, w.1)

pub loop-slot-preserved : goal.loop-slot-preserved
loop-slot-preserved c = let a = c.args in
    let w = looked_well _ _ _ c.in_ok-link.ensures in
    ballots_go a.k a.d _ a.slots _ _ _ _ c.loop-slot.slot c.loop-slot.invariant _ _ w.1 w.2
    c.if-count-slots.false
    (omega (arith, c.loop-slot-test.true)) w.0 c.if-marks-slot.false
    c.if-jurors-link.false

pub returns : goal.returns
returns c = let a = c.args in
    ballots_walked a.k a.d _ a.slots _ _ _ _ c.loop-slot.slot c.loop-slot.invariant c.loop-slot-test.false

pub returns-in_err-link : goal.returns-in_err-link
returns-in_err-link c =
    let a = c.args in
    let p : 0 < c.loop-slot.slot = omega (arith, c.loop-slot-test.true) in
    rw c.from_residual.ensures (not_walked _ _ _ (ballots_fail a.k a.d _ a.slots _ _ _ _ _ c.loop-slot.invariant p
    (λ l. ballots_wrong a.k a.d _ (a.slots - c.loop-slot.count) c.loop-slot.slot _ _ (omega arith) p
    (looked_wrong _ _ c.in_err-link.ensures))))
