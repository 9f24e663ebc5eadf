-- The list is tested, then the ballots, then the parts; the first reason decides.
use Rattle.std.proofs.Common.{◌≡◌, ◌∙◌, sym, ap}
use mathlib.Core.Option.{Option, none, some}
use Rattle.gates.specs.Gate.{gates_of}
use Rattle.jury.specs.Shape.{within_limits}
use Rattle.jury.specs.Reason.{Reason, reason_of, refused_for, first_of}
use Rattle.jury.specs.Ballots.{ballot_reasons}
use Rattle.basics.proofs.Flags.{true_T}
use Rattle.tally.specs.Answer.{accepted, refused, outcome, outcome_of, size_of, size_in}
use Rattle.tally.proofs.Exits.{exit}
use Rattle.tally.proofs.TestReasons.{TestPassed, test_passed}
use Rattle.trustees.specs.Call.{Call, tables_in}
use Rattle.trustees.specs.Reasons.{trustees_reasons}
use Rattle.trustees.proofs.Reasons.{by_test, by_ballots, by_parts, small_sizes}
use Rattle.trustees.proofs.test.test.Goals as goal
use Rattle.trustees.proofs.test.test.Goals.{Start, In_ok-size, In_ok-test}

-- this call
abbrev call : Start → Call
call c =
    let a = c.args in
    record { shape = a.shape; table = a.table.now; ballots = a.ballots.now; trustees = a.t; lent = tables_in a.lent }

-- the first reason decides the answer
refuses : (x : Call) (r : Reason) → first_of (trustees_reasons x) ≡ some r
    → refused r ≡ outcome (first_of (trustees_reasons x)) (size_of (gates_of x.table))
unfolding outcome
refuses x r e = sym (ap (λ (o : Option Reason). outcome o (size_of (gates_of x.table))) e)

-- the list has passed its test
passed : (c : In_ok-size) → TestPassed c.args.shape c.args.table.now (size_in c.in_ok-size.size)
unfolding outcome_of
passed c = test_passed c.args.shape c.args.table.now (size_in c.in_ok-size.size) (sym c.in_ok-size.ensures)

-- the ballots have passed theirs
no_reason : (c : In_ok-test) → first_of (ballot_reasons c.args.shape c.args.ballots.now) ≡ none
unfolding refused_for
no_reason c = sym c.in_ok-test.ensures

pub returns-in_err-size : goal.returns-in_err-size
unfolding outcome_of
returns-in_err-size c =
    let x = call (goal.at.returns-in_err-size c).Start in
    let r = reason_of c.in_err-size.field-0.0 in
    let p = exit c.from_residual.result c.from_residual.ensures in
    rw (p.1, p.2) (refuses x r (by_test x r (sym c.in_err-size.ensures)))

pub test-requires-2 : goal.test-requires-2
test-requires-2 c = true_T (within_limits c.args.shape) (passed (goal.at.test-requires-2 c).In_ok-size).within

pub returns-in_err-test : goal.returns-in_err-test
unfolding outcome_of refused_for
returns-in_err-test c =
    let at = goal.at.returns-in_err-test c in
    let x = call at.Start in
    let r = reason_of c.in_err-test.field-0.0 in
    let p = exit c.from_residual-in_err-test.result c.from_residual-in_err-test.ensures in
    rw (p.1, p.2) (refuses x r (by_ballots x (passed at.In_ok-size).reasons r (sym c.in_err-test.ensures)))

pub test_parts-requires : goal.test_parts-requires
test_parts-requires c =
    let at = goal.at.test_parts-requires c in
    let a = c.args in
    small_sizes a.shape a.table.now a.ballots.now (size_in c.in_ok-size.size) (passed at.In_ok-size) (no_reason at.In_ok-test)

pub returns-in_err-test_parts : goal.returns-in_err-test_parts
unfolding outcome_of refused_for
returns-in_err-test_parts c =
    let at = goal.at.returns-in_err-test_parts c in
    let x = call at.Start in
    let r = reason_of c.in_err-test_parts.field-0.0 in
    let p = exit c.from_residual-in_err-test_parts.result c.from_residual-in_err-test_parts.ensures in
    let list = passed at.In_ok-size in
    rw (p.1, p.2) (refuses x r (by_parts x list.reasons (size_in c.in_ok-size.size) (some r) list.size
    (no_reason at.In_ok-test) (sym c.in_err-test_parts.ensures)))

pub returns : goal.returns
unfolding outcome_of outcome refused_for
returns c =
    let at = goal.at.returns c in
    let x = call at.Start in
    let list = passed at.In_ok-size in
    let e = by_parts x list.reasons (size_in c.in_ok-size.size) none list.size (no_reason at.In_ok-test)
    (sym c.in_ok-test_parts.ensures) in
    ap accepted list.size ∙ sym (ap (λ (o : Option Reason). outcome o (size_of (gates_of x.table))) e)
