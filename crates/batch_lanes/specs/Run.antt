-- What evaluating a whole list over words leaves: in each lane, the wires and the board of that lane's inputs and
-- tape.
use Rattle.std.specs.Prelude.{◌≡◌, List, ℕ, ◌<◌}
use Rattle.gates.specs.Gate.{gates_of}
use Rattle.gates.specs.Wires.{wires_of}
use Rattle.gates.specs.Board.{board_of}
use Rattle.batch_lanes.specs.Lane.{lane_count, lane_of}

pub record RunDone (inputs table : List ℕ) (outputs : ℕ) (tape wires board : List ℕ) : Type 0 where
  pub wires_are : (j : ℕ) → j < lane_count → lane_of j wires ≡ wires_of (lane_of j inputs) (gates_of table)
  pub board_is : (j : ℕ) → j < lane_count
      → lane_of j board ≡ board_of (wires_of (lane_of j inputs) (gates_of table)) (gates_of table) outputs
      (lane_of j tape)
