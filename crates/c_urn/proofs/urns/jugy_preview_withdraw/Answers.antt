-- `c_urn::urns::jugy_preview_withdraw` meets its contract: if the answer array is long enough, it answers what the
-- entry point does.
use mathlib.Core.Path.{refl, ap}
use mathlib.Core.List.{[]}
use Prim.Native.Nat.{ℕ}
use Rattle.tally.specs.Answer.{Outcome}
use Rattle.urn.specs.Withdraw.{withdraw_outcome}
use Rattle.c_answers.specs.Numbers.{one_numbers}
use Rattle.c_answers.proofs.Answering.{short_call, put_call}
use Rattle.c_urn.proofs.urns.jugy_preview_withdraw.Goals as goal

pub returns-then-answer-lt-ONE_ANSWER : goal.returns-then-answer-lt-ONE_ANSWER
returns-then-answer-lt-ONE_ANSWER c =
    let a = c.args in
    short_call 3 a.answer.now c.if-answer-lt-ONE_ANSWER.true (one_numbers (withdraw_outcome a.candidates a.grades a.urn.now a.juror)) [] []

pub returns : goal.returns
returns c =
    let a = c.args in
    put_call 3 a.answer.now c.if-answer-lt-ONE_ANSWER.false
    (one_numbers (withdraw_outcome a.candidates a.grades a.urn.now a.juror)) _ _ _
    c.put_ballots.ensures
    (ap (λ (z : Outcome ℕ). one_numbers z) c.preview-outcome.ensures) [] [] [] refl
