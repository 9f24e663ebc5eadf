-- `c_tally::count::jugy_count` meets its contract: if the answer array is long enough, it answers what the entry
-- point does.
use Rattle.std.specs.Prelude.{Err}
use Rattle.jury.specs.declared.reason.Refusal.{Refusal}
use mathlib.Core.Path.{◌∙◌, refl, sym, ap}
use mathlib.Core.List.{[]}
use Rattle.jury.specs.declared.shape.Shape.{Shape}
use Rattle.jury.specs.Shape.{within_limits}
use Rattle.jury.specs.Reason.{reason_of}
use Rattle.jury.proofs.Constructed.{shape_is, outside_is}
use Rattle.tally.specs.Count.{count_reason, plain_closing, count_refused, count_bytes}
use Rattle.tally.proofs.CountReason.{outside_reason}
use Rattle.tally.proofs.Outside.{outside_closing}
use Rattle.c_answers.specs.Numbers.{shape_of, count_answer, told_numbers}
use Rattle.c_answers.proofs.Answering.{counted, short_call, put_call}
use Rattle.c_tally.proofs.count.jugy_count.Goals as goal

pub returns-then-answer-lt-COUNT_ANSWER : goal.returns-then-answer-lt-COUNT_ANSWER
unfolding shape_of
returns-then-answer-lt-COUNT_ANSWER c =
    let a = c.args in
    let s = shape_of a.candidates a.grades a.ballots in
    short_call count_answer a.answer.now c.if-answer-lt-COUNT_ANSWER.true (told_numbers (count_reason s a.bytes.now) (plain_closing s a.bytes.now)) [] []

pub returns-in-Err : goal.returns-in-Err
unfolding shape_of count_refused count_bytes reason_of
returns-in-Err c =
    let a = c.args in
    let s = shape_of a.candidates a.grades a.ballots in
    let outside = outside_is (within_limits s) s c.in-Err.reason (sym c.in-Err.ensures.result) in
    put_call count_answer a.answer.now c.if-answer-lt-COUNT_ANSWER.false (told_numbers (count_reason s a.bytes.now) (plain_closing s a.bytes.now)) _ _ _
    c.put_count.ensures
    (ap (λ (q : Refusal). told_numbers (count_refused (Err q)) (count_bytes (Err q))) outside.1
    ∙ counted _ _ _ _ (sym (outside_reason s a.bytes.now outside.0)) (sym (outside_closing s outside.0 a.bytes.now))) [] [] [] refl

pub returns : goal.returns
unfolding shape_of
returns c =
    let a = c.args in
    let s = shape_of a.candidates a.grades a.ballots in
    let same = shape_is (within_limits s) s c.in-Ok.shape (sym c.in-Ok.ensures.result) in
    put_call count_answer a.answer.now c.if-answer-lt-COUNT_ANSWER.false (told_numbers (count_reason s a.bytes.now) (plain_closing s a.bytes.now)) _ _ _
    c.put_count-2.ensures
    (counted _ _ _ _ (c.count-outcome.ensures.verdict ∙ ap (λ (z : Shape). count_reason z a.bytes.now) same)
    (c.count-outcome.ensures.closing ∙ ap (λ (z : Shape). plain_closing z a.bytes.now) same)) [] [] [] refl
