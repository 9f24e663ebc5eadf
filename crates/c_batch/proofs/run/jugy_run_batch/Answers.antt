-- `c_batch::run::jugy_run_batch` meets its contract: if the answer array is long enough, it answers what the entry
-- point does.
use Rattle.std.specs.Prelude.{Err}
use Rattle.jury.specs.declared.reason.Refusal.{Refusal}
use mathlib.Core.Path.{◌∙◌, sym, ap}
use mathlib.Core.Option.{some}
use mathlib.Core.List.{[], ◌∷◌}
use Rattle.jury.specs.declared.shape.Shape.{Shape}
use Rattle.jury.specs.Shape.{within_limits}
use Rattle.jury.specs.Reason.{reason_at, reason_of}
use Rattle.jury.proofs.Constructed.{shape_is, outside_is}
use Rattle.tally.specs.Answer.{outcome_of}
use Rattle.tally.specs.Run.{RunResult}
use Rattle.tally.proofs.TestReasons.{outside_list}
use Rattle.c_answers.specs.Numbers.{shape_of, size_answer, size_numbers}
use Rattle.c_answers.proofs.Answering.{short_call, put_call}
use Rattle.batch.specs.Call.{Call}
use Rattle.batch.specs.Run.{batch_result_after, batch_result}
use Rattle.batch.proofs.Reasons.{by_test, result_by}
use Rattle.c_batch.proofs.run.jugy_run_batch.Goals as goal
use Rattle.c_batch.proofs.run.jugy_run_batch.Goals.{Start}

-- The call for a shape, by its other arguments at the start; and this call.
abbrev call_for : Shape → Start → Call
call_for s start =
    let a = start.args in
    record {
      shape = s;
      table = a.table.now;
      ballots = a.words.now;
      tape = a.tape.now;
      wires = a.wires.now;
      board = a.board.now;
    }

abbrev call : Start → Call
call start = call_for (shape_of start.args.candidates start.args.grades start.args.ballots) start

pub returns-then-answer-lt-SIZE_ANSWER : goal.returns-then-answer-lt-SIZE_ANSWER
unfolding shape_of
returns-then-answer-lt-SIZE_ANSWER c =
    let of = call (goal.at.returns-then-answer-lt-SIZE_ANSWER c).Start in
    let r = batch_result of in
    short_call size_answer c.args.answer.now c.if-answer-lt-SIZE_ANSWER.true (size_numbers r.answer)
    (of.wires ∷ of.board ∷ []) (r.wires ∷ r.board ∷ [])

pub returns-in-Err : goal.returns-in-Err
unfolding shape_of outcome_of reason_of batch_result_after
returns-in-Err c =
    let start = (goal.at.returns-in-Err c).Start in
    let of = call start in
    let outside = outside_is (within_limits of.shape) of.shape c.in-Err.reason (sym c.in-Err.ensures.result) in
    let r = batch_result of in
    let left = result_by of (some (reason_at 1 0)) (by_test of (reason_at 1 0) (outside_list of.shape of.table outside.0)) in
    put_call size_answer c.args.answer.now c.if-answer-lt-SIZE_ANSWER.false (size_numbers r.answer) _ _ _
    c.put_size.ensures (ap (λ (q : Refusal). size_numbers (outcome_of (Err q))) outside.1 ∙ ap (λ (z : RunResult). size_numbers z.answer) (sym left))
    (of.wires ∷ of.board ∷ []) (r.wires ∷ r.board ∷ []) _ (ap (λ (z : RunResult). z.wires ∷ z.board ∷ []) (sym left))

pub returns : goal.returns
unfolding shape_of
returns c =
    let start = (goal.at.returns c).Start in
    let of = call start in
    let same = shape_is (within_limits of.shape) of.shape c.in-Ok.shape (sym c.in-Ok.ensures.result) in
    let r = batch_result of in
    let left = c.run-outcome.ensures ∙ ap (λ (z : Shape). batch_result (call_for z start)) same in
    put_call size_answer c.args.answer.now c.if-answer-lt-SIZE_ANSWER.false (size_numbers r.answer) _ _ _
    c.put_size-2.ensures (ap (λ (z : RunResult). size_numbers z.answer) left)
    (of.wires ∷ of.board ∷ []) (r.wires ∷ r.board ∷ []) _ (ap (λ (z : RunResult). z.wires ∷ z.board ∷ []) left)
