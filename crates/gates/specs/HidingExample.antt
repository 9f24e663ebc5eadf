-- Demand 3 on one list: different inputs, equal outputs, two tapes, one board. The list is a single gate, the
-- conjunction of wires 0 and 1.
use Rattle.std.specs.Prelude.{◌≡◌, refl, ℕ}
use mathlib.Core.List.{List, [], ◌∷◌, zip_with}
use Rattle.gates.specs.Open.Kind.{operands_of, conditional_of, differ, value_of}
use Rattle.gates.specs.Open.Gate.{gates_of}
use Rattle.gates.specs.Open.Wires.{wire, value, wires_of, outputs_of}
use Rattle.gates.specs.Open.Board.{conditionals, conditional_count, shown_bit, shown_bits, board_of}
use Rattle.gates.specs.Open.Test.{good_operand, good_gate, first_bad, judged, tested}
use Rattle.gates.specs.Open.Test.{accepted}

unfoldable pub one_gate : List ℕ
one_gate = 4 ∷ 0 ∷ 1 ∷ 0 ∷ []

-- The list is accepted for two inputs and one output, with G = 1 and C = 1.
pub one_gate_tested : tested 2 1 one_gate ≡ accepted 1 1
unfolding one_gate tested judged first_bad good_gate good_operand conditional_count conditionals gates_of conditional_of
    operands_of
one_gate_tested = refl

-- The board of these inputs under this tape.
unfoldable pub board_under : List ℕ → List ℕ → List ℕ
board_under inputs tape = board_of (wires_of inputs (gates_of one_gate)) (gates_of one_gate) 1 tape

-- Inputs 1 0 under the mask 0.
pub first_board : board_under (1 ∷ 0 ∷ []) (0 ∷ []) ≡ 1 ∷ 0 ∷ []
unfolding board_under one_gate board_of shown_bits shown_bit conditionals outputs_of wires_of value wire gates_of
    value_of
    conditional_of zip_with
first_board = refl

-- Inputs 0 1 under the mask 1: the same board.
pub second_board : board_under (0 ∷ 1 ∷ []) (1 ∷ []) ≡ 1 ∷ 0 ∷ []
unfolding board_under one_gate board_of shown_bits shown_bit conditionals outputs_of wires_of value wire gates_of
    value_of
    conditional_of zip_with
second_board = refl

-- Inputs 0 1 under the mask 0: another board.
pub other_tape : board_under (0 ∷ 1 ∷ []) (0 ∷ []) ≡ 0 ∷ 0 ∷ []
unfolding board_under one_gate board_of shown_bits shown_bit conditionals outputs_of wires_of value wire gates_of
    value_of
    conditional_of zip_with
other_tape = refl

-- The wires of both inputs. Wire 2 is the output, 0 each time.
pub first_wires : wires_of (1 ∷ 0 ∷ []) (gates_of one_gate) ≡ 1 ∷ 0 ∷ 0 ∷ []
unfolding one_gate wires_of value wire gates_of value_of
first_wires = refl

pub second_wires : wires_of (0 ∷ 1 ∷ []) (gates_of one_gate) ≡ 0 ∷ 1 ∷ 0 ∷ []
unfolding one_gate wires_of value wire gates_of value_of
second_wires = refl

-- With a free gate of kind 6 in front, the tape still has one byte, and the board one shown bit.
unfoldable pub free_gate_first : List ℕ
free_gate_first = 6 ∷ 0 ∷ 1 ∷ 0 ∷ 4 ∷ 0 ∷ 2 ∷ 0 ∷ []

pub free_gate_tested : tested 2 1 free_gate_first ≡ accepted 2 1
unfolding free_gate_first tested judged first_bad good_gate good_operand conditional_count conditionals gates_of
    conditional_of
    operands_of
free_gate_tested = refl

pub free_gate_board : board_of (wires_of (1 ∷ 0 ∷ []) (gates_of free_gate_first)) (gates_of free_gate_first) 1 (1 ∷ [])
    ≡ 0 ∷ 1 ∷ []
unfolding free_gate_first board_of shown_bits shown_bit conditionals outputs_of wires_of value wire gates_of value_of
    differ
    conditional_of zip_with
free_gate_board = refl
