-- `graded_size::contest::medians_span` meets its contract: the gates counted so far and those of the digits left add
-- up to all.
-- Assumes nothing.
use native.Mathlib.Nat.{sub-zero}
use native.Mathlib.Omega.{arith}
use Rattle.graded_circuit.proofs.MedianLaws.{fits_half, fits_some, ones_span_lem}
use Rattle.graded_circuit.proofs.BoundLaws.{ones_span_most}
use Rattle.graded_size.proofs.Spans.{later_turn, later_none}
use Rattle.graded_size.proofs.contest.medians_span.Goals as goal

pub loop-init : goal.loop-init
loop-init c =
    let a = c.args in
    rw (sub-zero a.above) (
      fits_half a.count a.above c.requires.fits,
      omega (arith, ones_span_lem a.count a.above, fits_some a.count a.above c.requires.fits),
    )

pub overflow_add-gates-in-loop : goal.overflow_add-gates-in-loop
overflow_add-gates-in-loop c =
    let a = c.args in
    let l = c.loop in
    let t = later_turn l.many l.counter a.above c.loop-test.true l.invariant.0 in
    omega (arith, t.1, l.invariant.1, ones_span_most a.count a.above, c.requires)

pub loop-preserved : goal.loop-preserved
loop-preserved c =
    let l = c.loop in
    let t = later_turn l.many l.counter c.args.above c.loop-test.true l.invariant.0 in
    (t.0, omega (arith, t.1, l.invariant.1))

pub returns : goal.returns
returns c =
    let l = c.loop in
    omega (arith, l.invariant.1, later_none l.many l.counter c.args.above c.loop-test.false)
