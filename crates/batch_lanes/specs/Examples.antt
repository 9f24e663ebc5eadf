-- Demand 3 on two lanes of the same words: different inputs, different masks, the same board. The list is one gate
-- that says whether wires 0 and 1 are both 1 (`HidingExample` of the gates).
use Rattle.std.specs.Prelude.{◌≡◌, List, [], ◌∷◌, ℕ}
use Rattle.gates.specs.HidingExample.{board_under}
use Rattle.batch_lanes.specs.Lane.{lane_of}

-- Jury 0 has the inputs 1 0 and the mask 0, jury 1 has the inputs 0 1 and the mask 1.
abbrev pub two_inputs : List ℕ
two_inputs = 1 ∷ 2 ∷ []

abbrev pub two_masks : List ℕ
two_masks = 2 ∷ []

pub record TwoLanes : Type 0 where
  pub first_inputs : lane_of 0 two_inputs ≡ 1 ∷ 0 ∷ []
  pub second_inputs : lane_of 1 two_inputs ≡ 0 ∷ 1 ∷ []
  pub first_board : board_under (lane_of 0 two_inputs) (lane_of 0 two_masks) ≡ 1 ∷ 0 ∷ []
  pub second_board : board_under (lane_of 1 two_inputs) (lane_of 1 two_masks) ≡ 1 ∷ 0 ∷ []
