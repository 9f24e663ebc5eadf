-- `c_levels::calls::jugy_levels` meets its contract: if the answer array is long enough, it answers what the entry
-- point does.
use Rattle.levels.specs.declared.answer.LevelRefusal.TheVariants.{OfCore}
use Rattle.std.specs.Prelude.{Err}
use Rattle.jury.specs.declared.reason.Refusal.{Refusal}
use mathlib.Core.Path.{◌∙◌, sym, ap}
use mathlib.Core.List.{[], ◌∷◌}
use Rattle.jury.specs.declared.shape.Shape.{Shape}
use Rattle.jury.specs.Shape.{within_limits}
use Rattle.jury.specs.Reason.{reason_at, reason_of}
use Rattle.jury.proofs.Constructed.{shape_is, outside_is}
use Rattle.tally.proofs.TestReasons.{outside_list}
use Rattle.levels.specs.Answer.{depths_outcome, level_reason_of}
use Rattle.levels.specs.Levels.{LevelsResult, levels_result}
use Rattle.levels.proofs.Reasons.{of_list, call_refused}
use Rattle.c_answers.specs.Numbers.{three_answer, shape_of}
use Rattle.c_answers.proofs.Answering.{short_call, put_call}
use Rattle.c_levels.specs.Numbers.{depth_numbers}
use Rattle.c_levels.proofs.calls.jugy_levels.Goals as goal

pub returns-then-answer-lt-THREE_ANSWER : goal.returns-then-answer-lt-THREE_ANSWER
unfolding shape_of
returns-then-answer-lt-THREE_ANSWER c =
    let a = c.args in
    let r = levels_result (shape_of a.candidates a.grades a.ballots) a.table.now a.levels.now in
    short_call three_answer a.answer.now c.if-answer-lt-THREE_ANSWER.true (depth_numbers r.answer) (a.levels.now ∷ []) (r.levels ∷ [])

pub returns-in-Err : goal.returns-in-Err
unfolding shape_of depths_outcome level_reason_of reason_of
returns-in-Err c =
    let a = c.args in
    let s = shape_of a.candidates a.grades a.ballots in
    let outside = outside_is (within_limits s) s c.in-Err.reason (sym c.in-Err.ensures.result) in
    let r = levels_result s a.table.now a.levels.now in
    let left = call_refused s a.table.now a.levels.now (reason_at 1 0)
    (of_list s a.table.now a.levels.now (reason_at 1 0) (outside_list s a.table.now outside.0)) in
    put_call three_answer a.answer.now c.if-answer-lt-THREE_ANSWER.false (depth_numbers r.answer) _ _ _ c.put_depths.ensures
    (ap (λ (q : Refusal). depth_numbers (depths_outcome (Err (OfCore q)))) outside.1
    ∙ ap (λ (z : LevelsResult). depth_numbers z.answer) left) (a.levels.now ∷ []) (r.levels ∷ []) _
    (ap (λ (z : LevelsResult). z.levels ∷ []) left)

pub returns : goal.returns
unfolding shape_of
returns c =
    let a = c.args in
    let s = shape_of a.candidates a.grades a.ballots in
    let same = shape_is (within_limits s) s c.in-Ok.shape (sym c.in-Ok.ensures.result) in
    let r = levels_result s a.table.now a.levels.now in
    let left = c.write-outcome.ensures ∙ ap (λ (z : Shape). levels_result z a.table.now a.levels.now) same in
    put_call three_answer a.answer.now c.if-answer-lt-THREE_ANSWER.false (depth_numbers r.answer) _ _ _ c.put_depths-2.ensures
    (ap (λ (z : LevelsResult). depth_numbers z.answer) left) (a.levels.now ∷ []) (r.levels ∷ []) _
    (ap (λ (z : LevelsResult). z.levels ∷ []) left)
