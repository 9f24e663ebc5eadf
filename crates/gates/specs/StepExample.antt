-- The first two gates of two lists, on wire tables and boards that hold something else after the inputs. The second
-- list has one gate more, which is still to come.
use Rattle.std.specs.Prelude.{◌≡◌, refl, ℕ}
use mathlib.Core.List.{List, [], ◌∷◌, zip_with}
use Rattle.gates.specs.Open.Kind.{operands_of, conditional_of, differ, value_of}
use Rattle.gates.specs.Open.Gate.{gates_of}
use Rattle.gates.specs.Open.Wires.{wire, value, wires_of, outputs_of}
use Rattle.gates.specs.Open.Board.{conditionals, conditional_count, shown_bit, shown_bits}
use Rattle.gates.specs.Open.Test.{good_operand, good_gate, first_bad, judged, tested}
use Rattle.gates.specs.Open.Step.{range_of, step_wires, step_board}
use Rattle.gates.specs.Open.Test.{accepted}
use Rattle.gates.specs.HidingExample.{free_gate_first}

-- The two gates of `free_gate_first`, then the conjunction of wires 1 and 3.
unfoldable pub three_gates : List ℕ
three_gates = 6 ∷ 0 ∷ 1 ∷ 0 ∷ 4 ∷ 0 ∷ 2 ∷ 0 ∷ 4 ∷ 1 ∷ 3 ∷ 0 ∷ []

pub three_gates_tested : tested 2 1 three_gates ≡ accepted 3 2
unfolding three_gates tested judged first_bad good_gate good_operand conditional_count conditionals gates_of
    conditional_of
    operands_of
three_gates_tested = refl

-- Inputs 1 0: wires 2 and 3 are made, what comes after them stays.
pub two_gates_wires : step_wires 2 free_gate_first 0 2 (1 ∷ 0 ∷ 9 ∷ 9 ∷ []) ≡ 1 ∷ 0 ∷ 1 ∷ 1 ∷ []
unfolding free_gate_first step_wires range_of wires_of value wire gates_of value_of differ
two_gates_wires = refl

pub two_of_three_wires : step_wires 2 three_gates 0 2 (1 ∷ 0 ∷ 7 ∷ 7 ∷ 7 ∷ []) ≡ 1 ∷ 0 ∷ 1 ∷ 1 ∷ 7 ∷ []
unfolding three_gates step_wires range_of wires_of value wire gates_of value_of differ
two_of_three_wires = refl

-- The second gate shows wire 0 under its mask.
pub two_gates_board : step_board 2 free_gate_first 0 2 (0 ∷ []) 0 (1 ∷ 0 ∷ 9 ∷ 9 ∷ []) (9 ∷ 9 ∷ []) ≡ 1 ∷ 9 ∷ []
unfolding free_gate_first step_board step_wires range_of wires_of value wire gates_of value_of differ shown_bits
    shown_bit
    conditionals conditional_of zip_with
two_gates_board = refl

pub two_of_three_board : step_board 2 three_gates 0 2 (1 ∷ 0 ∷ []) 0 (1 ∷ 0 ∷ 7 ∷ 7 ∷ 7 ∷ []) (7 ∷ 7 ∷ 7 ∷ [])
    ≡ 0 ∷ 7 ∷ 7 ∷ []
unfolding three_gates step_board step_wires range_of wires_of value wire gates_of value_of differ shown_bits shown_bit
    conditionals conditional_of zip_with
two_of_three_board = refl

-- The output of the first list.
pub two_gates_output : outputs_of 1 (1 ∷ 0 ∷ 1 ∷ 1 ∷ []) ≡ 1 ∷ []
unfolding outputs_of
two_gates_output = refl
