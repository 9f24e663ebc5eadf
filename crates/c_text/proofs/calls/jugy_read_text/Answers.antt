-- `c_text::calls::jugy_read_text` meets its contract: if the answer array is long enough, it answers what the entry
-- point does.
use Rattle.text.specs.declared.answer.TextRefusal.TheVariants.{OfList}
use Rattle.std.specs.Prelude.{Err}
use Rattle.jury.specs.declared.reason.Refusal.{Refusal}
use mathlib.Core.Path.{◌∙◌, sym, ap}
use mathlib.Core.List.{List, [], ◌∷◌}
use Prim.Native.Nat.{ℕ}
use Rattle.jury.specs.declared.shape.Shape.{Shape}
use Rattle.jury.specs.Shape.{within_limits}
use Rattle.jury.specs.Reason.{reason_at, reason_of}
use Rattle.jury.proofs.Constructed.{shape_is, outside_is}
use Rattle.text.specs.Read.{read_text_result}
use Rattle.text.proofs.Reasons.{shape_outside, read_refused}
use Rattle.text.specs.Answer.{TextResult, text_reason_of, length_outcome}
use Rattle.c_answers.specs.Numbers.{shape_of, one_numbers}
use Rattle.c_answers.proofs.Answering.{short_call, put_call}
use Rattle.c_text.proofs.calls.jugy_read_text.Goals as goal

pub returns-then-answer-lt-ONE_ANSWER : goal.returns-then-answer-lt-ONE_ANSWER
unfolding shape_of
returns-then-answer-lt-ONE_ANSWER c =
    let a = c.args in
    let r = read_text_result (shape_of a.candidates a.grades a.ballots) a.text.now a.output.now in
    short_call 3 a.answer.now c.if-answer-lt-ONE_ANSWER.true (one_numbers r.answer) (a.output.now ∷ []) (r.output ∷ [])

pub returns-in-Err : goal.returns-in-Err
unfolding shape_of length_outcome text_reason_of reason_of
returns-in-Err c =
    let a = c.args in
    let s = shape_of a.candidates a.grades a.ballots in
    let outside = outside_is (within_limits s) s c.in-Err.reason (sym c.in-Err.ensures.result) in
    let r = read_text_result s a.text.now a.output.now in
    let left = read_refused s a.text.now a.output.now (reason_at 1 0) (shape_outside s a.text.now a.output.now outside.0) in
    put_call 3 a.answer.now c.if-answer-lt-ONE_ANSWER.false (one_numbers r.answer) _ _ _ c.put_length.ensures
    (ap (λ (q : Refusal). one_numbers (length_outcome (Err (OfList q)))) outside.1 ∙ ap one_numbers left.0)
    (a.output.now ∷ []) (r.output ∷ []) _ (ap (λ (z : List ℕ). z ∷ []) left.1)

pub returns : goal.returns
unfolding shape_of
returns c =
    let a = c.args in
    let s = shape_of a.candidates a.grades a.ballots in
    let same = shape_is (within_limits s) s c.in-Ok.shape (sym c.in-Ok.ensures.result) in
    let r = read_text_result s a.text.now a.output.now in
    let left = c.read-outcome.ensures ∙ ap (λ (z : Shape). read_text_result z a.text.now a.output.now) same in
    put_call 3 a.answer.now c.if-answer-lt-ONE_ANSWER.false (one_numbers r.answer) _ _ _ c.put_length-2.ensures
    (ap (λ (z : TextResult). one_numbers z.answer) left) (a.output.now ∷ []) (r.output ∷ []) _
    (ap (λ (z : TextResult). z.output ∷ []) left)
