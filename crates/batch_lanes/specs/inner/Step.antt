-- What the functions of the evaluation promise, in every lane. They ask for what those over bytes ask for.
use Rattle.std.specs.Prelude.{◌≡◌, cond, List, [], ◌∷◌, ℕ, ◌+◌, ◌<◌, get_or, set}
use Rattle.gates.specs.Kind.{conditional_of}
use Rattle.gates.specs.Wires.{value}
use Rattle.gates.specs.Board.{conditional_count, shown_bit}
use Rattle.gates.specs.inner.Step.{range_of, step_wires, step_board}
use Rattle.gates.specs.Gate.{gate_at}
use Rattle.batch_lanes.specs.Lane.{lane_count, lane_of}

-- What running one gate leaves, in every lane.
pub record GateDone (table : List ℕ) (g own : ℕ) (tape : List ℕ) (shown : ℕ) (wires board wires' board' : List ℕ)
    (next : ℕ) : Type 0 where
  pub shown_is : next ≡ shown + conditional_count (gate_at table g ∷ [])
  pub wires_are : (j : ℕ) → j < lane_count
      → lane_of j wires' ≡ set (lane_of j wires) own (value (lane_of j wires) (gate_at table g))
  pub board_is : (j : ℕ) → j < lane_count
      → lane_of j board'
      ≡ cond (conditional_of (gate_at table g).kind)
      (set (lane_of j board) shown (shown_bit (lane_of j wires) (gate_at table g) (get_or (lane_of j tape) shown 0)))
      (lane_of j board)

-- What running a range of gates leaves, in every lane.
pub record StepDone (inputs : ℕ) (table : List ℕ) (from to : ℕ) (tape : List ℕ) (shown : ℕ)
    (wires board wires' board' : List ℕ) (next : ℕ) : Type 0 where
  pub shown_is : next ≡ shown + conditional_count (range_of table from to)
  pub wires_are : (j : ℕ) → j < lane_count → lane_of j wires' ≡ step_wires inputs table from to (lane_of j wires)
  pub board_is : (j : ℕ) → j < lane_count
      → lane_of j board' ≡ step_board inputs table from to (lane_of j tape) shown (lane_of j wires) (lane_of j board)
