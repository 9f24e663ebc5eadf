-- It tests the list, then the ballots, then the buffers; the first reason decides.
use Rattle.std.proofs.Common.{◌∙◌, sym, ap, ℕ}
use mathlib.Core.Option.{Option, none, some}
use Rattle.gates.specs.Gate.{gates_of}
use Rattle.jury.specs.Shape.{within_limits}
use Rattle.jury.specs.Reason.{Reason, reason_of, refused_for, first_of}
use Rattle.basics.proofs.Flags.{true_T}
use Rattle.tally.specs.Answer.{accepted, outcome, outcome_of, size_of, size_in}
use Rattle.tally.proofs.TestReasons.{test_passed}
use Rattle.batch.specs.Call.{Call}
use Rattle.batch.specs.Run.{word_buffer_reasons}
use Rattle.batch.proofs.Reasons.{by_test, by_ballots, by_lent}
use Rattle.tally.proofs.Exits.{exit}
use Rattle.batch.proofs.run.test_run.Goals as goal
use Rattle.batch.proofs.run.test_run.Goals.{Start}

-- this call, from its arguments
abbrev call : Start → Call
call s =
    let a = s.args in
    record {
      shape = a.shape;
      table = a.table.now;
      ballots = a.ballots.now;
      tape = a.tape.now;
      wires = a.wires.now;
      board = a.board.now;
    }

pub returns-in_err-size : goal.returns-in_err-size
unfolding outcome_of outcome
returns-in_err-size c =
    let of = call (goal.at.returns-in_err-size c).Start in
    let p = exit c.from_residual.result c.from_residual.ensures in
    rw (p.1, p.2)
    (sym (ap (λ (o : Option Reason). outcome o (size_of (gates_of of.table)))
    (by_test of (reason_of c.in_err-size.field-0.0) (sym c.in_err-size.ensures))))

pub test-requires-2 : goal.test-requires-2
unfolding outcome_of
test-requires-2 c = true_T (within_limits c.args.shape)
    (test_passed c.args.shape c.args.table.now (size_in c.in_ok-size.size) (sym c.in_ok-size.ensures)).within

pub returns-in_err-test : goal.returns-in_err-test
unfolding outcome_of outcome refused_for
returns-in_err-test c =
    let of = call (goal.at.returns-in_err-test c).Start in
    let p = exit c.from_residual-in_err-test.result c.from_residual-in_err-test.ensures in
    rw (p.1, p.2)
    (sym (ap (λ (o : Option Reason). outcome o (size_of (gates_of of.table)))
    (by_ballots of (test_passed c.args.shape c.args.table.now (size_in c.in_ok-size.size) (sym c.in_ok-size.ensures)).reasons
    (reason_of c.in_err-test.field-0.0) (sym c.in_err-test.ensures))))

pub ballot_bytes-requires : goal.ballot_bytes-requires
unfolding outcome_of
ballot_bytes-requires c = true_T (within_limits c.args.shape)
    (test_passed c.args.shape c.args.table.now (size_in c.in_ok-size.size) (sym c.in_ok-size.ensures)).within

-- if the tests before have passed, the tests 7, 9 and 10 decide
pub returns-in_err-test_buffers : goal.returns-in_err-test_buffers
unfolding outcome_of outcome refused_for
returns-in_err-test_buffers c =
    let of = call (goal.at.returns-in_err-test_buffers c).Start in
    let size = size_in c.in_ok-size.size in
    let f = test_passed c.args.shape c.args.table.now (size_in c.in_ok-size.size) (sym c.in_ok-size.ensures) in
    let p = exit c.from_residual-in_err-test_buffers.result c.from_residual-in_err-test_buffers.ensures in
    rw (p.1, p.2)
    (sym (ap (λ (o : Option Reason). outcome o (size_of (gates_of of.table)))
    (by_lent of f.reasons size (some (reason_of c.in_err-test_buffers.field-0.0)) f.size (sym c.in_ok-test.ensures)
    (sym (c.in_err-test_buffers.ensures
    ∙ ap (λ (i : ℕ). first_of (word_buffer_reasons i of.shape.candidates size of.tape of.wires of.board))
    c.ballot_bytes.ensures)))))

pub returns : goal.returns
unfolding outcome_of outcome refused_for
returns c =
    let of = call (goal.at.returns c).Start in
    let size = size_in c.in_ok-size.size in
    let f = test_passed c.args.shape c.args.table.now (size_in c.in_ok-size.size) (sym c.in_ok-size.ensures) in
    ap accepted f.size
    ∙ sym (ap (λ (o : Option Reason). outcome o (size_of (gates_of of.table)))
    (by_lent of f.reasons size none f.size (sym c.in_ok-test.ensures)
    (sym (c.in_ok-test_buffers.ensures
    ∙ ap (λ (i : ℕ). first_of (word_buffer_reasons i of.shape.candidates size of.tape of.wires of.board))
    c.ballot_bytes.ensures))))
