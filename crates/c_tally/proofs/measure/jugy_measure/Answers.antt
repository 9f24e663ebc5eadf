-- `c_tally::measure::jugy_measure` meets its contract: if the answer array is long enough, it answers what the entry
-- point does.
use Rattle.std.specs.Prelude.{Err}
use Rattle.jury.specs.declared.reason.Refusal.{Refusal}
use mathlib.Core.Path.{◌∙◌, refl, sym, ap}
use mathlib.Core.List.{[]}
use Rattle.jury.specs.Shape.{within_limits}
use Rattle.jury.specs.Reason.{reason_of}
use Rattle.jury.proofs.Constructed.{shape_is, outside_is}
use Rattle.tally.specs.Measure.{measured_by, measure_outcome}
use Rattle.tally.proofs.Outside.{outside_measure}
use Rattle.c_answers.specs.Numbers.{shape_of, measure_numbers}
use Rattle.c_answers.proofs.Answering.{short_call, put_call}
use Rattle.c_tally.proofs.measure.jugy_measure.Goals as goal

pub returns-then-answer-lt-THREE_ANSWER : goal.returns-then-answer-lt-THREE_ANSWER
unfolding shape_of
returns-then-answer-lt-THREE_ANSWER c =
    let a = c.args in
    short_call 5 a.answer.now c.if-answer-lt-THREE_ANSWER.true (measure_numbers (measure_outcome (shape_of a.candidates a.grades a.ballots))) [] []

pub returns-in-Err : goal.returns-in-Err
unfolding shape_of measured_by reason_of
returns-in-Err c =
    let a = c.args in
    let s = shape_of a.candidates a.grades a.ballots in
    let outside = outside_is (within_limits s) s c.in-Err.reason (sym c.in-Err.ensures.result) in
    put_call 5 a.answer.now c.if-answer-lt-THREE_ANSWER.false (measure_numbers (measure_outcome s)) _ _ _ c.put_measures.ensures
    (ap (λ (q : Refusal). measure_numbers (measured_by (Err q))) outside.1 ∙ ap measure_numbers (sym (outside_measure s outside.0))) [] [] [] refl

pub returns : goal.returns
unfolding shape_of
returns c =
    let a = c.args in
    let s = shape_of a.candidates a.grades a.ballots in
    let same = shape_is (within_limits s) s c.in-Ok.shape (sym c.in-Ok.ensures.result) in
    put_call 5 a.answer.now c.if-answer-lt-THREE_ANSWER.false (measure_numbers (measure_outcome s)) _ _ _ c.put_measures-2.ensures
    (ap measure_numbers (c.measure-outcome.ensures ∙ ap measure_outcome same)) [] [] [] refl
