-- What the status of the call [levels] means, for any arguments.
use Rattle.std.specs.Prelude.{List, ℕ}
use Rattle.jury.specs.declared.shape.Shape.{Shape}
use Rattle.tally.specs.Answer.{Outcome}
use Rattle.levels.specs.Answer.{Depths}
use Rattle.levels.specs.Levels.{levels_reason_numbers, levels_outcome}
use Rattle.c_answers.specs.Numbers.{three_answer}
use Rattle.c_answers.specs.Status.{StatusReads}
use Rattle.c_levels.specs.Numbers.{depth_told}

-- For an answer with G, C and R.
abbrev pub DepthStatus : (reason_numbers answer : List ℕ) → Outcome Depths → Type 0
DepthStatus reason_numbers answer o = StatusReads reason_numbers three_answer o (depth_told o) answer

pub record StatusMeans : Type 0 where
  pub levels : (s : Shape) (table ls answer : List ℕ)
      → DepthStatus levels_reason_numbers answer (levels_outcome s table ls)
