-- `c_tally::test::jugy_test` meets its contract: if the answer array is long enough, it answers what the entry point
-- does.
use Rattle.std.specs.Prelude.{Err}
use Rattle.jury.specs.declared.reason.Refusal.{Refusal}
use mathlib.Core.Path.{◌∙◌, refl, sym, ap}
use mathlib.Core.List.{[]}
use Rattle.jury.specs.declared.shape.Shape.{Shape}
use Rattle.jury.specs.Shape.{within_limits}
use Rattle.jury.specs.Reason.{reason_of}
use Rattle.jury.proofs.Constructed.{shape_is, outside_is}
use Rattle.tally.specs.Answer.{outcome_of}
use Rattle.tally.specs.Test.{test_outcome}
use Rattle.tally.proofs.TestReasons.{outside_list}
use Rattle.c_answers.specs.Numbers.{shape_of, size_numbers}
use Rattle.c_answers.proofs.Answering.{short_call, put_call}
use Rattle.c_tally.proofs.test.jugy_test.Goals as goal

pub returns-then-answer-lt-SIZE_ANSWER : goal.returns-then-answer-lt-SIZE_ANSWER
unfolding shape_of
returns-then-answer-lt-SIZE_ANSWER c =
    let a = c.args in
    short_call 4 a.answer.now c.if-answer-lt-SIZE_ANSWER.true
    (size_numbers (test_outcome (shape_of a.candidates a.grades a.ballots) a.table.now)) [] []

pub returns-in-Err : goal.returns-in-Err
unfolding shape_of outcome_of reason_of
returns-in-Err c =
    let a = c.args in
    let s = shape_of a.candidates a.grades a.ballots in
    let outside = outside_is (within_limits s) s c.in-Err.reason (sym c.in-Err.ensures.result) in
    put_call 4 a.answer.now c.if-answer-lt-SIZE_ANSWER.false (size_numbers (test_outcome s a.table.now)) _ _ _ c.put_size.ensures
    (ap (λ (q : Refusal). size_numbers (outcome_of (Err q))) outside.1 ∙ ap size_numbers (sym (outside_list s a.table.now outside.0))) [] [] [] refl

pub returns : goal.returns
unfolding shape_of
returns c =
    let a = c.args in
    let s = shape_of a.candidates a.grades a.ballots in
    let same = shape_is (within_limits s) s c.in-Ok.shape (sym c.in-Ok.ensures.result) in
    put_call 4 a.answer.now c.if-answer-lt-SIZE_ANSWER.false (size_numbers (test_outcome s a.table.now)) _ _ _
    c.put_size-2.ensures
    (ap size_numbers (c.test-outcome.ensures ∙ ap (λ (z : Shape). test_outcome z a.table.now) same)) [] [] [] refl
