-- `c_trustees::one_trustee::jugy_trustee_finish` meets its contract: if the answer array is long enough, it answers
-- what the entry point does.
use Rattle.std.specs.Prelude.{Err}
use Rattle.jury.specs.declared.reason.Refusal.{Refusal}
use mathlib.Core.Path.{◌∙◌, sym, ap}
use mathlib.Core.List.{[], ◌∷◌}
use Rattle.jury.specs.declared.shape.Shape.{Shape}
use Rattle.jury.specs.Shape.{within_limits}
use Rattle.jury.specs.Reason.{reason_of}
use Rattle.jury.proofs.Constructed.{shape_is, outside_is}
use Rattle.tally.specs.Answer.{outcome_of}
use Rattle.trustee_alone.specs.Finish.{FinishResult, finish_result}
use Rattle.trustee_alone.proofs.Outside.{outside_finish}
use Rattle.c_answers.specs.Numbers.{size_answer, size_numbers, shape_of}
use Rattle.c_answers.proofs.Answering.{short_call, put_call}
use Rattle.c_trustees.proofs.one_trustee.jugy_trustee_finish.Goals as goal
use Rattle.c_trustees.proofs.one_trustee.jugy_trustee_finish.Goals.{Start}

-- What the entry point leaves for a shape, by its other arguments at the start; and what this call leaves.
abbrev left_for : Shape → Start → FinishResult
left_for s start =
    let a = start.args in
    finish_result s a.table.now a.wires.now

abbrev left_by : Start → FinishResult
left_by start = left_for (shape_of start.args.candidates start.args.grades start.args.ballots) start

pub returns-then-answer-lt-SIZE_ANSWER : goal.returns-then-answer-lt-SIZE_ANSWER
unfolding shape_of
returns-then-answer-lt-SIZE_ANSWER c =
    let a = c.args in
    let r = left_by (goal.at.returns-then-answer-lt-SIZE_ANSWER c).Start in
    short_call size_answer a.answer.now c.if-answer-lt-SIZE_ANSWER.true (size_numbers r.answer) (a.wires.now ∷ []) (r.wires ∷ [])

pub returns-in-Err : goal.returns-in-Err
unfolding shape_of outcome_of reason_of
returns-in-Err c =
    let a = c.args in
    let s = shape_of a.candidates a.grades a.ballots in
    let outside = outside_is (within_limits s) s c.in-Err.reason (sym c.in-Err.ensures.result) in
    let r = left_by (goal.at.returns-in-Err c).Start in
    let left = outside_finish s outside.0 a.table.now a.wires.now in
    put_call size_answer a.answer.now c.if-answer-lt-SIZE_ANSWER.false (size_numbers r.answer) _ _ _ c.put_size.ensures
    (ap (λ (q : Refusal). size_numbers (outcome_of (Err q))) outside.1
    ∙ ap (λ (z : FinishResult). size_numbers z.answer) (sym left)) (a.wires.now ∷ []) (r.wires ∷ []) _
    (ap (λ (z : FinishResult). z.wires ∷ []) (sym left))

pub returns : goal.returns
unfolding shape_of
returns c =
    let a = c.args in
    let s = shape_of a.candidates a.grades a.ballots in
    let same = shape_is (within_limits s) s c.in-Ok.shape (sym c.in-Ok.ensures.result) in
    let r = left_by (goal.at.returns c).Start in
    let left = c.finish-outcome.ensures
    ∙ ap (λ (z : Shape). left_for z (goal.at.returns c).Start) same in
    put_call size_answer a.answer.now c.if-answer-lt-SIZE_ANSWER.false (size_numbers r.answer) _ _ _ c.put_size-2.ensures
    (ap (λ (z : FinishResult). size_numbers z.answer) left) (a.wires.now ∷ []) (r.wires ∷ []) _
    (ap (λ (z : FinishResult). z.wires ∷ []) left)
