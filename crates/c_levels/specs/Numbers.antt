-- The numbers that a call that uses levels leaves in its answer array.
use Rattle.std.specs.Prelude.{List, [], ◌∷◌, ℕ}
use Rattle.tally.specs.Answer.{Outcome, refused, accepted}
use Rattle.levels.specs.Answer.{Depths}
use Rattle.c_answers.specs.Numbers.{answer_numbers}

-- Such a call tells G, C and the rounds R. A refused call tells zeros.
unfoldable pub depth_told : Outcome Depths → List ℕ
depth_told (refused r) = 0 ∷ 0 ∷ 0 ∷ []
depth_told (accepted d) = d.gates ∷ d.conditional ∷ d.rounds ∷ []

abbrev pub depth_numbers : Outcome Depths → List ℕ
depth_numbers o = answer_numbers o (depth_told o)
