-- What holds for the call [levels], stated about the definitions that its contract equates with its answer and with
-- the level table.
use Rattle.std.specs.Prelude.{◌≡◌, true, List, [], ◌∷◌, ℕ, ◌≤◌, ◌<◌, get_or}
use Rattle.gates.specs.Kind.{conditional_of}
use Rattle.gates.specs.Gate.{gates_of, gate_at}
use Rattle.gate_levels.specs.Levels.{wire_level}
use Rattle.jury.specs.declared.shape.Shape.{Shape}
use Rattle.jury.specs.Shape.{ballot_bytes}
use Rattle.tally.specs.Answer.{accepted}
use Rattle.tally.specs.Memory.{Lent, KeepsMemory}
use Rattle.levels.specs.Answer.{Depths, depths_of}
use Rattle.levels.specs.Levels.{levels_reason_numbers, levels_outcome, levels_written}

-- The table that the call may write to. It holds no secrets.
abbrev pub level_table : (s : Shape) (table levels : List ℕ) → Lent
level_table s table levels = record { before = levels; after = levels_written s table levels }

abbrev pub LevelsMemory : Type 0
LevelsMemory =
    (s : Shape) (table levels : List ℕ)
    → KeepsMemory levels_reason_numbers (levels_outcome s table levels) (level_table s table levels ∷ []) []

-- An operand x of gate g: its level is at most the gate's, and below it if the gate is conditional.
pub record OperandBelow (s : Shape) (table levels : List ℕ) (g x : ℕ) : Type 0 where
  pub most : wire_level (ballot_bytes s) (levels_written s table levels) x ≤ get_or (levels_written s table levels) g 0
  pub below : conditional_of (gate_at table g).kind ≡ true
      → wire_level (ballot_bytes s) (levels_written s table levels) x < get_or (levels_written s table levels) g 0

-- For an accepted call: G, C and R are the list's own, R is at most C, and no level is above R. If gates are opened
-- level by level, every operand is there before its gate needs it.
pub record Depth (s : Shape) (table levels : List ℕ) (depths : Depths) : Type 0 where
  pub own : depths ≡ depths_of (ballot_bytes s) (gates_of table)
  pub few : depths.rounds ≤ depths.conditional
  pub level : (g : ℕ) → get_or (levels_written s table levels) g 0 ≤ depths.rounds
  pub a_operand : (g : ℕ) → g < depths.gates → OperandBelow s table levels g (gate_at table g).a
  pub b_operand : (g : ℕ) → g < depths.gates → OperandBelow s table levels g (gate_at table g).b
  pub c_operand : (g : ℕ) → g < depths.gates → OperandBelow s table levels g (gate_at table g).c

pub record LevelsHold : Type 0 where
  pub memory : LevelsMemory
  pub depth : (s : Shape) (table levels : List ℕ) (depths : Depths) → levels_outcome s table levels ≡ accepted depths
      → Depth s table levels depths
