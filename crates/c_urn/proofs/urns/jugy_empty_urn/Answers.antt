-- `c_urn::urns::jugy_empty_urn` meets its contract: if the answer array is long enough, it answers what the entry
-- point does.
use mathlib.Core.Path.{ap}
use mathlib.Core.List.{[], ◌∷◌}
use Rattle.urn.specs.Facts.{UrnResult}
use Rattle.urn.specs.Empty.{emptying}
use Rattle.c_answers.specs.Numbers.{one_numbers}
use Rattle.c_answers.proofs.Answering.{short_call, put_call}
use Rattle.c_urn.proofs.urns.jugy_empty_urn.Goals as goal

pub returns-then-answer-lt-ONE_ANSWER : goal.returns-then-answer-lt-ONE_ANSWER
returns-then-answer-lt-ONE_ANSWER c =
    let a = c.args in
    let r = emptying a.candidates a.grades a.urn.now in
    short_call 3 a.answer.now c.if-answer-lt-ONE_ANSWER.true (one_numbers r.answer) (a.urn.now ∷ []) (r.urn ∷ [])

pub returns : goal.returns
returns c =
    let a = c.args in
    let r = emptying a.candidates a.grades a.urn.now in
    let left = c.empty-outcome.ensures in
    put_call 3 a.answer.now c.if-answer-lt-ONE_ANSWER.false (one_numbers r.answer) _ _ _ c.put_ballots.ensures
    (ap (λ (z : UrnResult). one_numbers z.answer) left) (a.urn.now ∷ []) (r.urn ∷ []) _
    (ap (λ (z : UrnResult). z.urn ∷ []) left)
