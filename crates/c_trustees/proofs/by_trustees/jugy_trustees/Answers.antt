-- `c_trustees::by_trustees::jugy_trustees` meets its contract: if the answer array is long enough, it answers what
-- the entry point does.
use Rattle.std.specs.Prelude.{Err}
use Rattle.jury.specs.declared.reason.Refusal.{Refusal}
use mathlib.Core.Path.{◌∙◌, sym, ap}
use mathlib.Core.Option.{some}
use mathlib.Core.List.{[], ◌∷◌}
use Rattle.jury.specs.declared.shape.Shape.{Shape}
use Rattle.jury.specs.Shape.{within_limits}
use Rattle.jury.specs.Reason.{reason_at, reason_of}
use Rattle.jury.specs.ClosingBytes.{eight_bytes}
use Rattle.jury.proofs.Constructed.{shape_is, outside_is}
use Rattle.tally.proofs.TestReasons.{outside_list}
use Rattle.trustees.specs.Call.{Call}
use Rattle.trustees.specs.Result.{TrusteesResult, trustees_result_after, trustees_result, tallied_outcome, tallied_closing}
use Rattle.trustees.proofs.Reasons.{by_test, result_by}
use Rattle.c_answers.specs.Numbers.{tally_answer, shape_of}
use Rattle.c_trustees.specs.Numbers.{tally_numbers}
use Rattle.c_answers.proofs.Answering.{short_call, put_call}
use Rattle.c_trustees.proofs.by_trustees.jugy_trustees.Goals as goal
use Rattle.c_trustees.proofs.by_trustees.jugy_trustees.Goals.{Start}

-- The call for a shape, by its other arguments at the start; and this call.
abbrev call_for : Shape → Start → Call
call_for s start =
    let a = start.args in
    record {
      shape = s;
      table = a.table.now;
      ballots = a.bytes.now;
      trustees = a.trustees;
      lent = record {
        dealing = record { ballot_parts = a.shares.now; dealer_parts = a.triples.now };
        wire_parts = a.wires.now;
        published = a.published.now;
      };
    }

abbrev call : Start → Call
call start = call_for (shape_of start.args.candidates start.args.grades start.args.ballots) start

pub returns-then-answer-lt-TALLY_ANSWER : goal.returns-then-answer-lt-TALLY_ANSWER
unfolding shape_of
returns-then-answer-lt-TALLY_ANSWER c =
    let of = call (goal.at.returns-then-answer-lt-TALLY_ANSWER c).Start in
    let r = trustees_result of in
    short_call tally_answer c.args.answer.now c.if-answer-lt-TALLY_ANSWER.true (tally_numbers r.answer r.closing)
    (of.lent.wire_parts ∷ of.lent.published ∷ []) (r.wire_parts ∷ r.published ∷ [])

pub returns-in-Err : goal.returns-in-Err
unfolding shape_of tallied_outcome tallied_closing reason_of eight_bytes trustees_result_after
returns-in-Err c =
    let of = call (goal.at.returns-in-Err c).Start in
    let outside = outside_is (within_limits of.shape) of.shape c.in-Err.reason (sym c.in-Err.ensures.result) in
    let r = trustees_result of in
    let left = result_by of (some (reason_at 1 0)) (by_test of (reason_at 1 0) (outside_list of.shape of.table outside.0)) in
    put_call tally_answer c.args.answer.now c.if-answer-lt-TALLY_ANSWER.false (tally_numbers r.answer r.closing) _ _ _
    c.put_tally.ensures (ap (λ (q : Refusal). tally_numbers (tallied_outcome (Err q)) (tallied_closing (Err q))) outside.1
    ∙ ap (λ (z : TrusteesResult). tally_numbers z.answer z.closing) (sym left))
    (of.lent.wire_parts ∷ of.lent.published ∷ []) (r.wire_parts ∷ r.published ∷ []) _
    (ap (λ (z : TrusteesResult). z.wire_parts ∷ z.published ∷ []) (sym left))

pub returns : goal.returns
unfolding shape_of
returns c =
    let of = call
    (goal.at.returns c).Start
    in
    let same = shape_is (within_limits of.shape) of.shape c.in-Ok.shape (sym c.in-Ok.ensures.result) in
    let r = trustees_result of in
    let left = c.run-outcome.ensures
    ∙ ap (λ (z : Shape).
    trustees_result
    (call_for z
    (goal.at.returns c).Start)) same in
    put_call tally_answer c.args.answer.now c.if-answer-lt-TALLY_ANSWER.false (tally_numbers r.answer r.closing) _ _ _
    c.put_tally-2.ensures (ap (λ (z : TrusteesResult). tally_numbers z.answer z.closing) left)
    (of.lent.wire_parts ∷ of.lent.published ∷ []) (r.wire_parts ∷ r.published ∷ []) _
    (ap (λ (z : TrusteesResult). z.wire_parts ∷ z.published ∷ []) left)
