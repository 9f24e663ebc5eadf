-- What the calls that use levels answer: a reason, or G, C and R.
use Rattle.std.specs.Prelude.{ℕ, length, List, Result, Ok, Err}
use Rattle.gates.specs.Gate.{Gate}
use Rattle.gates.specs.Board.{conditional_count}
use Rattle.gate_levels.specs.Levels.{rounds_of}
use Rattle.jury.specs.Reason.{Reason, reason_at, reason_of}
use Rattle.tally.specs.Answer.{Outcome, refused, accepted}
use Rattle.levels.specs.declared.answer.LevelRefusal.{LevelRefusal}
use Rattle.levels.specs.declared.answer.LevelRefusal.TheVariants.{OfCore, Levels, Round, Heard}
use Rattle.levels.specs.declared.answer.Depths as program

-- The number and place of each case. Our own are 200 (the level table does not fit the list), 201 (the list has no
-- such round) and 202 (the sums that a trustee heard are not two bits for each conditional gate).
unfoldable pub level_reason_of : LevelRefusal → Reason
level_reason_of (OfCore r) = reason_of r
level_reason_of Levels = reason_at 200 0
level_reason_of Round = reason_at 201 0
level_reason_of Heard = reason_at 202 0

-- The numbers answered: G, C and the rounds R.
pub record Depths : Type 0 where
  pub gates : ℕ
  pub conditional : ℕ
  pub rounds : ℕ

-- G, C and R of a list with this many inputs.
unfoldable pub depths_of : ℕ → List Gate → Depths
depths_of inputs gs = record { gates = length gs; conditional = conditional_count gs; rounds = rounds_of inputs gs }

-- What each case of the program's answer means.
unfoldable pub depths_outcome : Result program.Depths LevelRefusal → Outcome Depths
depths_outcome (Ok d) = accepted (record { gates = d.gates; conditional = d.conditional; rounds = d.rounds })
depths_outcome (Err r) = refused (level_reason_of r)
