-- If the tests pass, the evaluation fills wires and board, and the wires are emptied; otherwise nothing is touched.
use Rattle.std.proofs.Common.{◌≡◌, ◌∙◌, sym, ap, ℕ, replicate}
use mathlib.Core.Option.{Option, none, some}
use Rattle.gates.specs.Gate.{gates_of}
use Rattle.jury.specs.Reason.{Reason, reason_of, first_of}
use Rattle.tally.specs.Answer.{outcome, outcome_of, size_of, size_in}
use Rattle.tally.specs.Run.{RunResult}
use Rattle.tally.proofs.RunReasons.{outcome_refused, outcome_accepted}
use Rattle.batch_lanes.specs.Lane.{words_of}
use Rattle.batch_lanes.proofs.ListLaws.{words_are}
use Rattle.batch.specs.Call.{Call}
use Rattle.batch.specs.Run.{batch_reasons, board_alone, batch_result_after}
use Rattle.batch.proofs.Reasons.{batch_passed, batch_ready, result_by, same_result}
use Rattle.tally.proofs.Exits.{exit}
use Rattle.batch.proofs.run.run.Goals as goal
use Rattle.batch.proofs.run.run.Goals.{Start, In_ok-size}

-- this call, from its arguments
abbrev call : Start → Call
call s =
    let a = s.args in
    record {
      shape = a.shape;
      table = a.table.now;
      ballots = a.ballots.now;
      tape = a.tape.now;
      wires = a.wires.now;
      board = a.board.now;
    }

pub returns-in_err-size : goal.returns-in_err-size
unfolding outcome_of batch_result_after
returns-in_err-size c =
    let of = call (goal.at.returns-in_err-size c).Start in
    let r = reason_of c.in_err-size.field-0.0 in
    let p = exit c.from_residual.result c.from_residual.ensures in
    rw (p.1, p.2)
    (sym (result_by of (some r)
    (outcome_refused (first_of (batch_reasons of)) (size_of (gates_of of.table)) r (sym c.in_err-size.ensures))))

-- if the tests pass, no reason applies
no_reason : (c : In_ok-size) → let a = c.args in
    first_of (batch_reasons (record {
      shape = a.shape;
      table = a.table.now;
      ballots = a.ballots.now;
      tape = a.tape.now;
      wires = a.wires.now;
      board = a.board.now;
    })) ≡ none
unfolding outcome_of
no_reason c =
    outcome_accepted (first_of (batch_reasons _)) (size_of (gates_of c.args.table.now)) (size_in c.in_ok-size.size)
    (sym c.in_ok-size.ensures)

pub run-requires : goal.run-requires
run-requires c =
    let at = goal.at.run-requires c in
    batch_ready (call at.Start) (batch_passed (call at.Start) (no_reason at.In_ok-size))

pub returns : goal.returns
unfolding outcome batch_result_after
returns c =
    let at = goal.at.returns c in
    let of = call at.Start in
    let n = no_reason at.In_ok-size in
    let p = batch_passed of n in
    let e = result_by of none n in
    same_result _ _
    (c.in_ok-size.ensures ∙ ap (λ (o : Option Reason). outcome o (size_of (gates_of of.table))) n
    ∙ sym (ap (λ (r : RunResult). r.answer) e))
    (c.fill.ensures.after (λ y e. e) ∙ ap (λ (n : ℕ). replicate n 0) c.run.auto.wires ∙ sym (ap (λ (r : RunResult). r.wires) e))
    (words_are _ (board_alone of) (λ i. (c.type_inv.board i).fits) c.run.ensures.board_is
    ∙ ap (λ (n : ℕ). words_of n (board_alone of)) (c.run.auto.board ∙ p.board_length)
    ∙ sym (ap (λ (r : RunResult). r.board) e))
