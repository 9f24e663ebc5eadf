-- The entry point [lanes]: one list run on 64 juries of one shape; bit j of each number is jury j's (request 2.11).
use Rattle.std.proofs.Math.Option.{Option, none, some}
use Rattle.std.specs.Prelude.{List, [], ◌∷◌, ◌++◌, ℕ, ◌+◌, length, replicate}
use Rattle.gates.specs.Gate.{gates_of}
use Rattle.gates.specs.Wires.{wires_of}
use Rattle.gates.specs.Board.{conditional_count, board_of}
use Rattle.jury.specs.Shape.{ballot_bytes}
use Rattle.jury.specs.Reason.{Reason, first_of}
use Rattle.jury.specs.Ballots.{ballot_kind_reason_numbers}
use Rattle.tally.specs.Answer.{refused, accepted, Size, size_of}
use Rattle.tally.specs.Test.{test_reasons, test_reason_numbers}
use Rattle.tally.specs.Run.{RunResult, tape_reason, wires_and_board_reasons}
use Rattle.batch_lanes.specs.Lane.{lane_of, words_of}
use Rattle.batch.specs.Call.{Call}
use Rattle.batch.specs.Ballots.{word_ballot_reasons}

-- The reasons of tape, wire table and board, in the order 7, 9, 10, for a list with i inputs and k outputs. Each has
-- as many words as it has bytes in a single run. 8 never applies.
unfoldable pub word_buffer_reasons : ℕ → ℕ → Size → List ℕ → List ℕ → List ℕ → List (Option Reason)
word_buffer_reasons i k size tape wires board = tape_reason size tape ∷ wires_and_board_reasons i k size wires board

abbrev pub word_buffer_reason_numbers : List ℕ
word_buffer_reason_numbers = 7 ∷ 9 ∷ 10 ∷ []

-- All reasons, in the order of their tests: 1, 2, 3, 4, then 6 for grades or 11 and 12 for rankings, then 7, 9, 10.
unfoldable pub batch_reasons : Call → List (Option Reason)
batch_reasons c =
    test_reasons c.shape c.table
    ++ word_ballot_reasons c.shape c.ballots
    ++ word_buffer_reasons (ballot_bytes c.shape) c.shape.candidates (size_of (gates_of c.table)) c.tape
    c.wires
    c.board

abbrev pub batch_reason_numbers : List ℕ
batch_reason_numbers = test_reason_numbers ++ 4 ∷ ballot_kind_reason_numbers ++ word_buffer_reason_numbers

-- The board of jury j by itself, from its own ballots and tape.
abbrev pub board_alone : Call → ℕ → List ℕ
board_alone c j =
    let gs = gates_of c.table in
    board_of (wires_of (lane_of j c.ballots) gs) gs c.shape.candidates (lane_of j c.tape)

-- A refusal changes nothing. An accepted call answers the list's own G and C, leaves zeros in the wire table, and
-- leaves a board whose lane j is the board of jury j.
unfoldable pub batch_result_after : Option Reason → Call → RunResult
batch_result_after (some r) c = record { answer = refused r; wires = c.wires; board = c.board }
batch_result_after none c =
    record {
      answer = accepted (size_of (gates_of c.table));
      wires = replicate (length c.wires) 0;
      board = words_of (conditional_count (gates_of c.table) + c.shape.candidates) (board_alone c);
    }

-- What a call leaves: the contract of `run` is an equation with this.
unfoldable pub batch_result : Call → RunResult
batch_result c = batch_result_after (first_of (batch_reasons c)) c
