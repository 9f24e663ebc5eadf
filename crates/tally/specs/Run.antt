-- The entry point [run].
use Rattle.std.proofs.Math.Option.{Option, none, some}
use Rattle.std.specs.Prelude.{List, [], ◌∷◌, ◌++◌, ℕ, ◌+◌, eqb, length, replicate}
use Rattle.gates.specs.Gate.{Gate, gates_of}
use Rattle.gates.specs.Wires.{wires_of}
use Rattle.gates.specs.Board.{board_of}
use Rattle.gates.specs.Test.{first_above_one}
use Rattle.jury.specs.declared.shape.Shape.{Shape}
use Rattle.jury.specs.Shape.{ballot_bytes}
use Rattle.jury.specs.Reason.{Reason, unless, found_at, first_of}
use Rattle.jury.specs.Ballots.{ballot_reasons, ballot_reason_numbers}
use Rattle.tally.specs.Answer.{Outcome, refused, accepted, outcome, Size, size_of}
use Rattle.tally.specs.Test.{test_reasons, test_reason_numbers}

-- The tape has a bit for each conditional gate.
abbrev pub tape_reason : Size → List ℕ → Option Reason
tape_reason size tape = unless (eqb (length tape) size.conditional) 7

-- For a list with i inputs and k outputs, the wire table has a byte for each input and gate, and the board a byte
-- for each conditional gate and output.
abbrev pub wires_and_board_reasons : ℕ → ℕ → Size → List ℕ → List ℕ → List (Option Reason)
wires_and_board_reasons i k size wires board =
    unless (eqb (length wires) (i + size.gates)) 9
    ∷ unless (eqb (length board) (size.conditional + k)) 10
    ∷ []

-- The reasons of tape, wire table and board, in the order 7, 8, 9, 10.
unfoldable pub buffer_reasons : ℕ → ℕ → Size → List ℕ → List ℕ → List ℕ → List (Option Reason)
buffer_reasons i k size tape wires board =
    tape_reason size tape ∷ found_at 8 (first_above_one 0 tape) ∷ wires_and_board_reasons i k size wires board

abbrev pub buffer_reason_numbers : List ℕ
buffer_reason_numbers = 7 ∷ 8 ∷ 9 ∷ 10 ∷ []

-- All reasons of a run, in the order of its tests: those of the list, of the ballots, and of tape, wire table and
-- board.
unfoldable pub run_reasons : Shape → List ℕ → List ℕ → List ℕ → List ℕ → List ℕ → List (Option Reason)
run_reasons s table ballots tape wires board =
    test_reasons s table
    ++ ballot_reasons s ballots
    ++ buffer_reasons (ballot_bytes s) s.candidates (size_of (gates_of table)) tape wires board

abbrev pub run_reason_numbers : List ℕ
run_reason_numbers = test_reason_numbers ++ ballot_reason_numbers ++ buffer_reason_numbers

-- The answer of a run: the first reason, or the list's own G and C.
abbrev pub run_outcome : Shape → List ℕ → List ℕ → List ℕ → List ℕ → List ℕ → Outcome Size
run_outcome s table ballots tape wires board =
    outcome (first_of (run_reasons s table ballots tape wires board)) (size_of (gates_of table))

-- What a run leaves: its answer, the wire table and the board.
pub record RunResult : Type 0 where
  pub answer : Outcome Size
  pub wires : List ℕ
  pub board : List ℕ

-- A call whose shape, list and ballots are fixed: what it leaves, given tape, wire table and board.
abbrev pub BoardCall : Type 0
BoardCall = (tape wires board : List ℕ) → RunResult

-- A refusal changes nothing. An accepted run leaves zeros in the wire table (request 2.13), and on the board the
-- shown bits and the closing bytes. Both come from the wires that the list computes from the ballots.
unfoldable pub run_result_after : Option Reason → Shape → List Gate → List ℕ → List ℕ → List ℕ → List ℕ → RunResult
run_result_after (some r) s gs ballots tape wires board = record { answer = refused r; wires = wires; board = board }
run_result_after none s gs ballots tape wires board =
    record {
      answer = accepted (size_of gs);
      wires = replicate (length wires) 0;
      board = board_of (wires_of ballots gs) gs s.candidates tape;
    }

-- What a run leaves, from all that it was given: the contract of `run` is an equation with this.
unfoldable pub run_result : Shape → List ℕ → List ℕ → List ℕ → List ℕ → List ℕ → RunResult
run_result s table ballots tape wires board =
    run_result_after (first_of (run_reasons s table ballots tape wires board)) s (gates_of table) ballots tape wires
    board
