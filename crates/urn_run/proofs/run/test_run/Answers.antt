-- `urn_run::run::test_run` meets its contract: it tests shape and urn, then the list, the number of ballots, and the
-- buffers.
-- Assumes nothing.
use mathlib.Core.Path.{◌∙◌, sym, ap}
use mathlib.Core.Option.{Option, none, some}
use Prim.Native.Nat.{ℕ}
use Rattle.gates.specs.Gate.{gates_of}
use Rattle.jury.specs.Shape.{within_limits}
use Rattle.jury.specs.Reason.{Reason, reason_of, refused_for, first_of}
use Rattle.basics.proofs.Flags.{true_T}
use Rattle.tally.specs.Answer.{accepted, outcome, outcome_of, size_of, size_in}
use Rattle.tally.specs.Run.{buffer_reasons}
use Rattle.tally.proofs.TestReasons.{test_passed}
use Rattle.tally.proofs.Exits.{exit}
use Rattle.urn_chains.proofs.SlotTests.{soundness_sound, soundness_unsound}
use Rattle.urn.proofs.FactLaws.{not_looked}
use Rattle.urn_run.specs.Run.{ballots_in}
use Rattle.urn_run.proofs.Reasons.{one_T, by_1, by_13, by_list, by_4, by_lent}
use Rattle.urn_run.proofs.run.test_run.Goals as goal

pub returns-then-not-is_within_graded_limits : goal.returns-then-not-is_within_graded_limits
unfolding outcome_of outcome reason_of
returns-then-not-is_within_graded_limits c =
    let a = c.args in
    sym (ap (λ (o : Option Reason). outcome o (size_of (gates_of a.table.now)))
    (by_1 a.shape a.table.now a.urn.now a.tape.now a.wires.now a.board.now (sym c.is_within_graded_limits.ensures ∙ c.if-not-is_within_graded_limits.true)))

pub test-requires : goal.test-requires
test-requires c = one_T c.args.shape (sym c.is_within_graded_limits.ensures ∙ c.if-not-is_within_graded_limits.false)

pub returns-in_err-ballots : goal.returns-in_err-ballots
unfolding outcome_of outcome reason_of
returns-in_err-ballots c =
    let a = c.args in
    let p = exit c.from_residual.result c.from_residual.ensures in
    let n = not_looked _ _ _ c.in_err-ballots.ensures.value in
    rw (p.1, p.2, n.0)
    (sym (ap (λ (o : Option Reason). outcome o (size_of (gates_of a.table.now)))
    (by_13 a.shape a.table.now a.urn.now a.tape.now a.wires.now a.board.now (sym c.is_within_graded_limits.ensures ∙ c.if-not-is_within_graded_limits.false)
    (soundness_unsound _ _ (sym (sym n.1 ∙ c.test.ensures))))))

pub returns-in_err-size : goal.returns-in_err-size
unfolding outcome_of outcome
returns-in_err-size c =
    let a = c.args in
    let graded = sym c.is_within_graded_limits.ensures ∙ c.if-not-is_within_graded_limits.false in
    let s = soundness_sound _ _ _ (sym c.test.ensures ∙ c.in_ok-ballots.ensures.ok_part) in
    let p = exit c.from_residual-in_err-size.result c.from_residual-in_err-size.ensures in
    rw (p.1, p.2)
    (sym (ap (λ (o : Option Reason). outcome o (size_of (gates_of a.table.now)))
    (by_list a.shape a.table.now a.urn.now a.tape.now a.wires.now a.board.now graded s.0 (reason_of c.in_err-size.field-0.0) (sym c.in_err-size.ensures))))

pub returns-then-ballots-shape : goal.returns-then-ballots-shape
unfolding outcome_of outcome reason_of ballots_in
returns-then-ballots-shape c =
    let a = c.args in
    let graded = sym c.is_within_graded_limits.ensures ∙ c.if-not-is_within_graded_limits.false in
    let s = soundness_sound _ _ _ (sym c.test.ensures ∙ c.in_ok-ballots.ensures.ok_part) in
    let f = test_passed a.shape a.table.now (size_in c.in_ok-size.size) (sym c.in_ok-size.ensures) in
    sym (ap (λ (o : Option Reason). outcome o (size_of (gates_of a.table.now)))
    (by_4 a.shape a.table.now a.urn.now a.tape.now a.wires.now a.board.now graded s.0 f.reasons (λ q. c.if-ballots-shape.true (s.1 ∙ q))))

pub ballot_bytes-inputs-requires : goal.ballot_bytes-inputs-requires
unfolding outcome_of
ballot_bytes-inputs-requires c = true_T (within_limits c.args.shape)
    (test_passed c.args.shape c.args.table.now (size_in c.in_ok-size.size) (sym c.in_ok-size.ensures)).within

pub returns-in_err-test_buffers : goal.returns-in_err-test_buffers
unfolding outcome_of outcome refused_for ballots_in
returns-in_err-test_buffers c =
    let a = c.args in
    let size = size_in c.in_ok-size.size in
    let graded = sym c.is_within_graded_limits.ensures ∙ c.if-not-is_within_graded_limits.false in
    let s = soundness_sound _ _ _ (sym c.test.ensures ∙ c.in_ok-ballots.ensures.ok_part) in
    let f = test_passed a.shape a.table.now size (sym c.in_ok-size.ensures) in
    let p = exit c.from_residual-in_err-test_buffers.result c.from_residual-in_err-test_buffers.ensures in
    rw (p.1, p.2)
    (sym (ap (λ (o : Option Reason). outcome o (size_of (gates_of a.table.now)))
    (by_lent a.shape a.table.now a.urn.now a.tape.now a.wires.now a.board.now graded s.0 f.reasons size
    (some (reason_of c.in_err-test_buffers.field-0.0)) f.size (sym s.1 ∙ c.if-ballots-shape.false)
    (sym (c.in_err-test_buffers.ensures
    ∙ ap (λ (i : ℕ). first_of (buffer_reasons i a.shape.candidates size a.tape.now a.wires.now a.board.now))
    c.ballot_bytes-inputs.ensures)))))

pub returns : goal.returns
unfolding outcome_of outcome refused_for ballots_in
returns c =
    let a = c.args in
    let size = size_in c.in_ok-size.size in
    let graded = sym c.is_within_graded_limits.ensures ∙ c.if-not-is_within_graded_limits.false in
    let s = soundness_sound _ _ _ (sym c.test.ensures ∙ c.in_ok-ballots.ensures.ok_part) in
    let f = test_passed a.shape a.table.now size (sym c.in_ok-size.ensures) in
    ap accepted f.size
    ∙ sym (ap (λ (o : Option Reason). outcome o (size_of (gates_of a.table.now)))
    (by_lent a.shape a.table.now a.urn.now a.tape.now a.wires.now a.board.now graded s.0 f.reasons size
    none f.size (sym s.1 ∙ c.if-ballots-shape.false)
    (sym (c.in_ok-test_buffers.ensures
    ∙ ap (λ (i : ℕ). first_of (buffer_reasons i a.shape.candidates size a.tape.now a.wires.now a.board.now))
    c.ballot_bytes-inputs.ensures))))
