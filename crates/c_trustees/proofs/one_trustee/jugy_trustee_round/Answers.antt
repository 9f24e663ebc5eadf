-- `c_trustees::one_trustee::jugy_trustee_round` meets its contract: if the answer array is long enough, it answers
-- what the entry point does.
use Rattle.levels.specs.declared.answer.LevelRefusal.TheVariants.{OfCore}
use Rattle.std.specs.Prelude.{Err}
use Rattle.jury.specs.declared.reason.Refusal.{Refusal}
use mathlib.Core.Path.{◌∙◌, sym, ap}
use mathlib.Core.List.{[], ◌∷◌}
use Rattle.jury.specs.declared.shape.Shape.{Shape}
use Rattle.jury.specs.Shape.{within_limits}
use Rattle.jury.specs.Reason.{reason_of}
use Rattle.jury.proofs.Constructed.{shape_is, outside_is}
use Rattle.levels.specs.Answer.{Depths, depths_outcome, level_reason_of}
use Rattle.trustee_alone.specs.Own.{OwnResult}
use Rattle.trustee_alone.specs.Rounds.{round_result}
use Rattle.trustee_alone.proofs.Outside.{outside_round}
use Rattle.c_answers.specs.Numbers.{three_answer, shape_of}
use Rattle.c_levels.specs.Numbers.{depth_numbers}
use Rattle.c_answers.proofs.Answering.{short_call, put_call}
use Rattle.c_trustees.proofs.one_trustee.jugy_trustee_round.Goals as goal
use Rattle.c_trustees.proofs.one_trustee.jugy_trustee_round.Goals.{Start}

-- What the entry point leaves for a shape, by its other arguments at the start; and what this call leaves.
abbrev left_for : Shape → Start → OwnResult Depths
left_for s start =
    let a = start.args in
    round_result s a.table.now a.trustees a.trustee a.round a.levels.now a.triples.now
    a.heard.now a.wires.now a.published.now

abbrev left_by : Start → OwnResult Depths
left_by start = left_for (shape_of start.args.candidates start.args.grades start.args.ballots) start

pub returns-then-answer-lt-THREE_ANSWER : goal.returns-then-answer-lt-THREE_ANSWER
unfolding shape_of
returns-then-answer-lt-THREE_ANSWER c =
    let a = c.args in
    let r = left_by (goal.at.returns-then-answer-lt-THREE_ANSWER c).Start in
    short_call three_answer a.answer.now c.if-answer-lt-THREE_ANSWER.true (depth_numbers r.answer)
    (a.wires.now ∷ a.published.now ∷ []) (r.wires ∷ r.published ∷ [])

pub returns-in-Err : goal.returns-in-Err
unfolding shape_of depths_outcome level_reason_of reason_of
returns-in-Err c =
    let a = c.args in
    let s = shape_of a.candidates a.grades a.ballots in
    let outside = outside_is (within_limits s) s c.in-Err.reason (sym c.in-Err.ensures.result) in
    let r = left_by (goal.at.returns-in-Err c).Start in
    let left = outside_round s outside.0 a.table.now a.trustees a.trustee a.round a.levels.now
    a.triples.now a.heard.now a.wires.now a.published.now in
    put_call three_answer a.answer.now c.if-answer-lt-THREE_ANSWER.false (depth_numbers r.answer) _ _ _ c.put_depths.ensures
    (ap (λ (q : Refusal). depth_numbers (depths_outcome (Err (OfCore q)))) outside.1
    ∙ ap (λ (z : OwnResult Depths). depth_numbers z.answer) (sym left)) (a.wires.now ∷ a.published.now ∷ [])
    (r.wires ∷ r.published ∷ []) _ (ap (λ (z : OwnResult Depths). z.wires ∷ z.published ∷ []) (sym left))

pub returns : goal.returns
unfolding shape_of
returns c =
    let a = c.args in
    let s = shape_of a.candidates a.grades a.ballots in
    let same = shape_is (within_limits s) s c.in-Ok.shape (sym c.in-Ok.ensures.result) in
    let r = left_by
    (goal.at.returns c).Start
    in
    let left = c.round-outcome.ensures
    ∙ ap (λ (z : Shape).
    left_for z
    (goal.at.returns c).Start) same in
    put_call three_answer a.answer.now c.if-answer-lt-THREE_ANSWER.false (depth_numbers r.answer) _ _ _ c.put_depths-2.ensures
    (ap (λ (z : OwnResult Depths). depth_numbers z.answer) left) (a.wires.now ∷ a.published.now ∷ [])
    (r.wires ∷ r.published ∷ []) _ (ap (λ (z : OwnResult Depths). z.wires ∷ z.published ∷ []) left)
