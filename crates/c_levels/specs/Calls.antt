-- What the exported call leaves, given the shape, what is lent, and the answer array.
use Rattle.std.specs.Prelude.{List, [], ◌∷◌, ℕ}
use Rattle.jury.specs.declared.shape.Shape.{Shape}
use Rattle.levels.specs.Levels.{levels_outcome, levels_written}
use Rattle.c_answers.specs.Numbers.{three_answer, CallResult, call_result}
use Rattle.c_levels.specs.Numbers.{depth_numbers}

abbrev pub levels_call : (s : Shape) (table levels answer : List ℕ) → CallResult
levels_call s table levels answer =
    call_result three_answer (depth_numbers (levels_outcome s table levels)) answer (levels ∷ [])
    (levels_written s table levels ∷ [])
