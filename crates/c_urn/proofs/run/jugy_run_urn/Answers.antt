-- `c_urn::run::jugy_run_urn` meets its contract: if the answer array is long enough, it answers what the entry point
-- does.
use Rattle.std.specs.Prelude.{Err}
use Rattle.jury.specs.declared.reason.Refusal.{Refusal}
use mathlib.Core.Path.{◌∙◌, sym, ap}
use mathlib.Core.List.{[], ◌∷◌}
use Rattle.jury.specs.declared.shape.Shape.{Shape}
use Rattle.jury.specs.Shape.{within_limits}
use Rattle.jury.specs.Reason.{reason_of}
use Rattle.jury.proofs.Constructed.{shape_is, outside_is}
use Rattle.tally.specs.Answer.{outcome_of}
use Rattle.tally.specs.Run.{RunResult}
use Rattle.urn_run.specs.Run.{urn_run_result}
use Rattle.urn_run.proofs.Reasons.{outside_urn_run}
use Rattle.c_answers.specs.Numbers.{shape_of, size_numbers}
use Rattle.c_answers.proofs.Answering.{short_call, put_call}
use Rattle.c_urn.proofs.run.jugy_run_urn.Goals as goal

pub returns-then-answer-lt-SIZE_ANSWER : goal.returns-then-answer-lt-SIZE_ANSWER
unfolding shape_of
returns-then-answer-lt-SIZE_ANSWER c =
    let a = c.args in
    let r = urn_run_result (shape_of a.candidates a.grades a.ballots) a.table.now a.urn.now
    a.tape.now a.wires.now a.board.now in
    short_call 4 a.answer.now c.if-answer-lt-SIZE_ANSWER.true (size_numbers r.answer) (a.wires.now ∷ a.board.now ∷ []) (r.wires ∷ r.board ∷ [])

pub returns-in-Err : goal.returns-in-Err
unfolding shape_of outcome_of reason_of
returns-in-Err c =
    let a = c.args in
    let s = shape_of a.candidates a.grades a.ballots in
    let outside = outside_is (within_limits s) s c.in-Err.reason (sym c.in-Err.ensures.result) in
    let r = urn_run_result s a.table.now a.urn.now a.tape.now a.wires.now a.board.now in
    let left = outside_urn_run s outside.0 a.table.now a.urn.now a.tape.now a.wires.now a.board.now in
    put_call 4 a.answer.now c.if-answer-lt-SIZE_ANSWER.false (size_numbers r.answer) _ _ _ c.put_size.ensures
    (ap (λ (q : Refusal). size_numbers (outcome_of (Err q))) outside.1
    ∙ ap (λ (z : RunResult). size_numbers z.answer) (sym left)) (a.wires.now ∷ a.board.now ∷ []) (r.wires ∷ r.board ∷ []) _
    (ap (λ (z : RunResult). z.wires ∷ z.board ∷ []) (sym left))

pub returns : goal.returns
unfolding shape_of
returns c =
    let a = c.args in
    let s = shape_of a.candidates a.grades a.ballots in
    let same = shape_is (within_limits s) s c.in-Ok.shape (sym c.in-Ok.ensures.result) in
    let r = urn_run_result s a.table.now a.urn.now a.tape.now a.wires.now a.board.now in
    let left = c.run_on_urn-outcome.ensures
    ∙ ap (λ (z : Shape). urn_run_result z a.table.now a.urn.now a.tape.now a.wires.now
    a.board.now) same in
    put_call 4 a.answer.now c.if-answer-lt-SIZE_ANSWER.false (size_numbers r.answer) _ _ _ c.put_size-2.ensures
    (ap (λ (z : RunResult). size_numbers z.answer) left) (a.wires.now ∷ a.board.now ∷ []) (r.wires ∷ r.board ∷ []) _
    (ap (λ (z : RunResult). z.wires ∷ z.board ∷ []) left)
