-- The two lanes of `Examples`, by the gate layer's own example.
-- Assumes nothing.
use mathlib.Core.Path.{◌≡◌, ◌∙◌, refl, ap}
use mathlib.Core.List.{List, [], ◌∷◌, map}
use Prim.Native.Nat.{ℕ}
use Rattle.gates.specs.HidingExample as gates
use Rattle.batch_lanes.specs.Lane.{lane, lane_of}
use Rattle.batch_lanes.specs.Examples.{two_inputs, two_masks, TwoLanes}

first_inputs : lane_of 0 two_inputs ≡ 1 ∷ 0 ∷ []
unfolding lane_of lane map
first_inputs = refl

second_inputs : lane_of 1 two_inputs ≡ 0 ∷ 1 ∷ []
unfolding lane_of lane map
second_inputs = refl

first_mask : lane_of 0 two_masks ≡ 0 ∷ []
unfolding lane_of lane map
first_mask = refl

second_mask : lane_of 1 two_masks ≡ 1 ∷ []
unfolding lane_of lane map
second_mask = refl

pub two_lanes : TwoLanes
two_lanes =
    record {
      first_inputs = first_inputs;
      second_inputs = second_inputs;
      first_board =
          ap (λ (xs : List ℕ). gates.board_under xs (lane_of 0 two_masks)) first_inputs
          ∙ ap (gates.board_under (1 ∷ 0 ∷ [])) first_mask ∙ gates.first_board;
      second_board =
          ap (λ (xs : List ℕ). gates.board_under xs (lane_of 1 two_masks)) second_inputs
          ∙ ap (gates.board_under (0 ∷ 1 ∷ [])) second_mask ∙ gates.second_board;
    }
