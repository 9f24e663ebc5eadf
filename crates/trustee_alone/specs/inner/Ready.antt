-- What inner functions require; no entry point's contract needs it.
use Rattle.std.specs.Prelude.{◌≡◌, List, ℕ, ◌≤◌, length, None}
use Rattle.gates.specs.Gate.{gates_of}
use Rattle.gates.specs.Board.{conditional_count}
use Rattle.gates.specs.Test.{first_bad, most_gates}
use Rattle.jury.specs.Shape.{most_candidates}

-- The list has passed its test, and `gates` and `conditional` are its own numbers.
pub record TablesReady (inputs k gates conditional : ℕ) (table : List ℕ) : Type 0 where
  pub some_input : 1 ≤ inputs
  pub inputs_most : inputs ≤ 1048576
  pub outputs_most : k ≤ most_candidates
  pub few : length (gates_of table) ≤ most_gates
  pub good : first_bad inputs 0 (gates_of table) ≡ None
  pub gates_are : gates ≡ length (gates_of table)
  pub conditional_are : conditional ≡ conditional_count (gates_of table)
