-- What a call that uses levels tells, as numbers.
-- Assumes nothing.
use Rattle.std.proofs.Common.{◌≡◌, refl, [], ◌∷◌}
use Rattle.std.specs.Prelude.{Result, Ok, Err}
use Rattle.levels.specs.declared.answer.Depths.{Depths}
use Rattle.levels.specs.declared.answer.LevelRefusal.{LevelRefusal}
use Rattle.levels.specs.Answer.{depths_outcome, level_reason_of}
use Rattle.c_answers.specs.Numbers.{answer_numbers, mapped, result_numbers}
use Rattle.c_levels.specs.Numbers.{depth_told, depth_numbers}

pub depths_as : (o : Result Depths LevelRefusal)
    → result_numbers level_reason_of 3 (mapped (λ (x : Depths). x.gates ∷ x.conditional ∷ x.rounds ∷ []) o) ≡ depth_numbers (depths_outcome o)
unfolding result_numbers answer_numbers depth_told depths_outcome
depths_as (Ok x) = refl
depths_as (Err q) = refl
