-- The demands on the entry point [run] alone, with the names of its arguments written out. They follow from
-- `ThreeDemands`, which states them for every kind of call.
use Rattle.std.specs.Prelude.{◌≡◌, List, ℕ, length, take}
use Rattle.gates.specs.Gate.{gates_of}
use Rattle.gates.specs.Wires.{wires_of}
use Rattle.gates.specs.Board.{Bits}
use Rattle.gates.specs.Hiding.{ExactlyOne}
use Rattle.jury.specs.declared.shape.Shape.{Shape}
use Rattle.tally.specs.Answer.{accepted, Size}
use Rattle.tally.specs.SaysWhoWins.{SaysWhoWins}
use Rattle.tally.specs.Count.{plain_closing}
use Rattle.tally.specs.Write.{write_outcome}
use Rattle.tally.specs.Run.{RunResult, run_result}
use Rattle.tally.specs.Hiding.{closing_bytes}
use Rattle.tally.specs.Demands.{list_in}

-- Demand 2. A write has left its list in a table. If a run of that list is accepted, its closing bytes say who wins,
-- and are those of the plain count.
abbrev pub RunSaysWhoWins : Type 0
RunSaysWhoWins =
    (s : Shape) (table : List ℕ) (written : Size) (ballots tape wires board : List ℕ) (answer : Size)
    → let run = run_result s (list_in s written table) ballots tape wires board in
    write_outcome s table ≡ accepted written → run.answer ≡ accepted answer
    → SaysWhoWins s ballots (closing_bytes s run.board)
    × (closing_bytes s run.board ≡ take s.candidates (plain_closing s ballots))

-- Demand 3. Two accepted runs have the same shape, the same list and the same closing bytes. Then exactly one tape
-- gives the second run the answer and the board of the first.
abbrev pub RunHidesBallots : Type 0
RunHidesBallots =
    (s : Shape) (list ballots tape wires board other_ballots other_tape other_wires other_board : List ℕ)
    (size other_size : Size)
    → let first = run_result s list ballots tape wires board in
    let second : List ℕ → RunResult = λ t. run_result s list other_ballots t other_wires other_board in
    first.answer ≡ accepted size → (second other_tape).answer ≡ accepted other_size
    → closing_bytes s first.board ≡ closing_bytes s (second other_tape).board
    → ExactlyOne (λ (t : List ℕ). ((second t).answer ≡ first.answer) × ((second t).board ≡ first.board))

-- The board of an accepted run does not depend on what the wire table and the board held before.
abbrev pub OldContentsIgnored : Type 0
OldContentsIgnored =
    (s : Shape) (list ballots tape wires board other_wires other_board : List ℕ) (size : Size)
    → (run_result s list ballots tape wires board).answer ≡ accepted size
    → length other_wires ≡ length wires → length other_board ≡ length board
    → (run_result s list ballots tape other_wires other_board).board
    ≡ (run_result s list ballots tape wires board).board

-- Shape, list and ballots decide the closing bytes of an accepted run, whatever the tape.
abbrev pub TapeIgnored : Type 0
TapeIgnored =
    (s : Shape) (list ballots tape wires board other_tape other_wires other_board : List ℕ) (size other_size : Size)
    → let first = run_result s list ballots tape wires board in
    let second = run_result s list ballots other_tape other_wires other_board in
    first.answer ≡ accepted size → second.answer ≡ accepted other_size
    → closing_bytes s first.board ≡ closing_bytes s second.board

-- In an accepted run of any list, whoever wrote it, every wire, every byte of the board and so every closing byte is
-- 0 or 1.
pub record RunBits (s : Shape) (list ballots tape wires board : List ℕ) : Type 0 where
  pub wire_values : Bits (wires_of ballots (gates_of list))
  pub board_bytes : Bits (run_result s list ballots tape wires board).board
  pub closing_bytes : Bits (closing_bytes s (run_result s list ballots tape wires board).board)

pub record RunAlone : Type 0 where
  pub says_who_wins : RunSaysWhoWins
  pub hides_ballots : RunHidesBallots
  pub old_contents : OldContentsIgnored
  pub any_tape : TapeIgnored
  pub bits : (s : Shape) (list ballots tape wires board : List ℕ) (size : Size)
      → (run_result s list ballots tape wires board).answer ≡ accepted size → RunBits s list ballots tape wires board
