-- What inner functions ask for and leave; no entry point's contract needs it.
use Rattle.std.specs.Prelude.{◌≡◌, List, ℕ, ◌+◌, ◌*◌, ◌≤◌, ◌<◌, length, get_or, None}
use Rattle.gates.specs.Gate.{gates_of, gate_at}
use Rattle.gates.specs.Test.{first_bad, most_gates}
use Rattle.gate_levels.specs.Levels.{levels_of, rounds_of}

-- For the level of gate g: its numbers are in the table, its operands name inputs or earlier gates, and the levels
-- before it are at most g, so that adding 1 cannot wrap.
pub record LevelReady (inputs : ℕ) (table : List ℕ) (g : ℕ) (levels : List ℕ) : Type 0 where
  pub in_table : 4 * g + 3 < length table
  pub in_levels : g < length levels
  pub a_below : (gate_at table g).a < inputs + g
  pub b_below : (gate_at table g).b < inputs + g
  pub c_below : (gate_at table g).c < inputs + g
  pub small : (h : ℕ) → h < g → get_or levels h 0 ≤ g
  pub few : g < most_gates

-- For the levels of a whole list: good gates over at least one input, at most 2 ^ 20 of them, and a place for each
-- level.
pub record LevelsReady (inputs : ℕ) (table levels : List ℕ) : Type 0 where
  pub some_input : 1 ≤ inputs
  pub few : length (gates_of table) ≤ most_gates
  pub good : first_bad inputs 0 (gates_of table) ≡ None
  pub levels_length : length levels ≡ length (gates_of table)

-- What writing leaves: the level of each gate, and r, the largest of them.
pub record Filled (inputs : ℕ) (table : List ℕ) (r : ℕ) (ls : List ℕ) : Type 0 where
  pub rounds : r ≡ rounds_of inputs (gates_of table)
  pub levels : ls ≡ levels_of inputs (gates_of table)
