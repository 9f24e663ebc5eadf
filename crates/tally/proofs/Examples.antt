-- The pair of runs of `Examples`, by the laws of runs and the gate layer's own example.
-- Assumes nothing.
use mathlib.Core.Path.{◌≡◌, ◌∙◌, refl, sym, ap}
use mathlib.Core.Bool.{true}
use mathlib.Core.Option.{none}
use mathlib.Core.List.{List, [], ◌∷◌}
use Prim.Native.Nat.{ℕ}
use lib.ListN.{length, replicate}
use Rattle.gates.specs.Gate.{gates_of}
use Rattle.gates.specs.Wires.{wires_of}
use Rattle.gates.specs.Board.{board_of}
use Rattle.gates.specs.Test.{tested, first_above_one}
use Rattle.gates.specs.HidingExample.{one_gate, board_under}
use Rattle.gates.specs.HidingExample as gates
use Rattle.gates.specs.Test as gate_test
use Rattle.jury.specs.Shape.{is_ranking, graded_limits, ranked_limits, within_limits, columns, ballot_bytes}
use Rattle.jury.specs.Reason.{unless, found_at, first_of}
use Rattle.jury.specs.Ballots.{ones, rows_of, first_bad_row, graded_reasons, ballot_kind_reasons, ballot_reasons}
use Rattle.tally.specs.Answer.{accepted, Size}
use Rattle.tally.specs.Run.{RunResult, buffer_reasons, run_result_after, run_result}
use Rattle.tally.specs.Examples.{one_ballot, PairOfRuns}
use Rattle.tally.proofs.TestReasons.{TestPassed, list_accepted, test_passed}
use Rattle.tally.proofs.RunReasons.{by_lent, ran_by}

one : Size
one = record { gates = 1; conditional = 1 }

within : within_limits one_ballot ≡ true
unfolding one_ballot is_ranking graded_limits ranked_limits within_limits
within = refl

list : tested (ballot_bytes one_ballot) one_ballot.candidates one_gate ≡ gate_test.accepted 1 1
unfolding one_ballot is_ranking columns ballot_bytes
list = gates.one_gate_tested

passed : TestPassed one_ballot one_gate one
unfolding one
passed = test_passed one_ballot one_gate one (list_accepted one_ballot one_gate within 1 1 list)

-- a run of the list is accepted if its ballots and buffers pass their tests
module _ (ballots tape wires board : List ℕ) (b : first_of (ballot_reasons one_ballot ballots) ≡ none)
    (l : first_of (buffer_reasons (ballot_bytes one_ballot) one_ballot.candidates one tape wires board) ≡ none) where
  outcome : (bs : List ℕ) → board_under ballots tape ≡ bs
      → run_result one_ballot one_gate ballots tape wires board
      ≡ record {
        answer = accepted (record { gates = 1; conditional = 1 });
        wires = replicate (length wires) 0;
        board = bs;
      }
  unfolding run_result_after board_under one one_ballot
  outcome bs e =
      ran_by one_ballot one_gate ballots tape wires board none
      (by_lent one_ballot one_gate ballots tape wires board passed.reasons one none passed.size b l)
      ∙ ap (λ (z : Size). record {
        answer = accepted z;
        wires = replicate (length wires) 0;
        board =
            board_of (wires_of ballots (gates_of one_gate)) (gates_of one_gate) 1 tape;
      }) (sym passed.size)
      ∙ ap (λ (z : List ℕ). record { answer = accepted one; wires = replicate (length wires) 0; board = z }) e

pub pair_of_runs : PairOfRuns
unfolding one_ballot is_ranking columns graded_reasons ballot_kind_reasons ballot_reasons buffer_reasons ballot_bytes ones rows_of
    first_bad_row unless found_at first_of first_above_one one
pair_of_runs =
    record {
      first_run = outcome (1 ∷ 0 ∷ []) (0 ∷ []) (9 ∷ 9 ∷ 9 ∷ []) (9 ∷ 9 ∷ []) refl refl (1 ∷ 0 ∷ []) gates.first_board;
      second_run = outcome (0 ∷ 1 ∷ []) (1 ∷ []) (7 ∷ 7 ∷ 7 ∷ []) (7 ∷ 7 ∷ []) refl refl (1 ∷ 0 ∷ []) gates.second_board;
      other_tape = ap (λ (r : RunResult). r.board)
          (outcome (0 ∷ 1 ∷ []) (0 ∷ []) (7 ∷ 7 ∷ 7 ∷ []) (7 ∷ 7 ∷ []) refl refl (0 ∷ 0 ∷ []) gates.other_tape);
    }
