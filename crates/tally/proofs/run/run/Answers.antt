-- If the tests pass, the evaluation fills wire table and board, and the wire table is emptied; otherwise nothing is
-- touched.
use Rattle.std.proofs.Common.{◌≡◌, ◌∙◌, sym, ap, ℕ, replicate}
use mathlib.Core.Option.{Option, none, some}
use Rattle.gates.specs.Gate.{gates_of}
use Rattle.jury.specs.Reason.{Reason, reason_of, first_of}
use Rattle.tally.specs.Answer.{outcome, outcome_of, size_of, size_in}
use Rattle.tally.specs.Run.{run_reasons, run_result_after}
use Rattle.tally.proofs.RunReasons.{same_result, outcome_refused, outcome_accepted, run_passed, run_ready, ran_by}
use Rattle.tally.proofs.Exits.{exit}
use Rattle.tally.proofs.run.run.Goals as goal
use Rattle.tally.proofs.run.run.Goals.{In_ok-size}

pub returns-in_err-size : goal.returns-in_err-size
unfolding outcome_of run_result_after
returns-in_err-size c =
    let a = c.args in
    let o = first_of (run_reasons a.shape a.table.now a.ballots.now a.tape.now a.wires.now a.board.now) in
    let r = reason_of c.in_err-size.field-0.0 in
    let p = exit c.from_residual.result c.from_residual.ensures in
    rw (p.1, p.2)
    (sym (ran_by a.shape a.table.now a.ballots.now a.tape.now a.wires.now a.board.now (some r)
    (outcome_refused o (size_of (gates_of a.table.now)) r (sym c.in_err-size.ensures))))

-- no reason applies
no_reason : (c : In_ok-size) → let a = c.args in
    first_of (run_reasons a.shape a.table.now a.ballots.now a.tape.now a.wires.now a.board.now) ≡ none
unfolding outcome_of
no_reason c =
    let a = c.args in
    outcome_accepted (first_of (run_reasons a.shape a.table.now a.ballots.now a.tape.now a.wires.now a.board.now))
    (size_of (gates_of a.table.now)) (size_in c.in_ok-size.size) (sym c.in_ok-size.ensures)

pub run-requires : goal.run-requires
run-requires c =
    let a = c.args in
    run_ready a.shape a.table.now a.ballots.now a.tape.now a.wires.now a.board.now
    (run_passed a.shape a.table.now a.ballots.now a.tape.now a.wires.now a.board.now
    (no_reason (goal.at.run-requires c).In_ok-size))

-- at the end the list has been run, and then the wire table emptied
pub returns : goal.returns
unfolding outcome run_result_after
returns c =
    let a = c.args in
    let n = no_reason (goal.at.returns c).In_ok-size in
    same_result
    (c.in_ok-size.ensures ∙ ap (λ (o : Option Reason). outcome o (size_of (gates_of a.table.now))) n)
    (c.fill.ensures.after (λ y e. e) ∙ ap (λ (n : ℕ). replicate n 0) c.run.auto.wires) c.run.ensures.board
    ∙ sym (ran_by a.shape a.table.now a.ballots.now a.tape.now a.wires.now a.board.now none n)
