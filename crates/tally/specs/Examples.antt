-- Demand 3 on two concrete runs with different ballots, equal closing bytes, different tapes and the same board.
-- The jury has one candidate, two grades and one ballot. The list is a stranger's: one gate that says whether wires
-- 0 and 1 are both 1.
use Rattle.std.specs.Prelude.{◌≡◌, [], ◌∷◌}
use Rattle.gates.specs.HidingExample.{one_gate}
use Rattle.jury.specs.declared.shape.Shape.{Shape}
use Rattle.tally.specs.Answer.{accepted}
use Rattle.tally.specs.Run.{run_result}

-- One candidate, two grades, one ballot.
unfoldable pub one_ballot : Shape
one_ballot = record { candidates = 1; grades = 2; ballots = 1 }

pub record PairOfRuns : Type 0 where
  -- the better grade under the mask 0
  pub first_run : run_result one_ballot one_gate (1 ∷ 0 ∷ []) (0 ∷ []) (9 ∷ 9 ∷ 9 ∷ []) (9 ∷ 9 ∷ [])
      ≡ record { answer = accepted (record { gates = 1; conditional = 1 }); wires = 0 ∷ 0 ∷ 0 ∷ []; board = 1 ∷ 0 ∷ [] }
  -- the worse grade under the mask 1, over other old contents: the same board
  pub second_run : run_result one_ballot one_gate (0 ∷ 1 ∷ []) (1 ∷ []) (7 ∷ 7 ∷ 7 ∷ []) (7 ∷ 7 ∷ [])
      ≡ record { answer = accepted (record { gates = 1; conditional = 1 }); wires = 0 ∷ 0 ∷ 0 ∷ []; board = 1 ∷ 0 ∷ [] }
  -- the worse grade under the mask 0: another board
  pub other_tape : (run_result one_ballot one_gate (0 ∷ 1 ∷ []) (0 ∷ []) (7 ∷ 7 ∷ 7 ∷ []) (7 ∷ 7 ∷ [])).board
      ≡ 0 ∷ 0 ∷ []
