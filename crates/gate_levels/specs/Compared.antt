-- Whether a table holds a list's own levels.
use Rattle.std.specs.Prelude.{cond, List, ℕ, Option, Some, None}
use Rattle.gates.specs.Gate.{Gate}
use Rattle.gate_levels.specs.Levels.{levels_of, rounds_of}
use Rattle.basics.specs.Lists.{same_numbers}

-- The number of rounds if these are the list's own levels, else nothing.
unfoldable pub compared : ℕ → List Gate → List ℕ → Option ℕ
compared inputs gs levels = cond (same_numbers levels (levels_of inputs gs)) (Some (rounds_of inputs gs)) None
