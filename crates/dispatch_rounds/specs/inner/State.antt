-- What the functions inside this crate require and promise.
use Rattle.std.specs.Prelude.{◌≡◌, List, ℕ, ◌+◌, ◌*◌, ◌≤◌, ◌<◌, T, length}
use Rattle.gates.specs.Gate.{gates_of}
use Rattle.gates.specs.inner.Step.{RunReady}
use Rattle.jury.specs.Shape.{within_limits, ballot_bytes}
use Rattle.gates.specs.Test.{most_gates}
use Rattle.dispatch_rounds.specs.declared.header.JuryHeader.{JuryHeader}
use Rattle.dispatch_rounds.specs.declared.header.Places.{Places}
use Rattle.dispatch_rounds.specs.Tables.{Tables, tables_of, header_shape}
use Rattle.dispatch_rounds.specs.Rounds.{jury_wires, jury_board, jury_shown, RoundState, most_juries, most_gates_per_round}

-- Where the next jury's pieces begin, after those of a jury with c conditional gates.
abbrev pub places_after : Places → JuryHeader → ℕ → Places
places_after at s c =
    record {
      lists = at.lists + 4 * s.gates;
      ballots = at.ballots + ballot_bytes (header_shape s);
      tapes = at.tapes + c;
      wires = at.wires + (ballot_bytes (header_shape s) + s.gates);
      boards = at.boards + (c + s.candidates);
    }

-- None of these places wraps.
pub record PlacesFit (at : Places) (s : JuryHeader) (c : ℕ) : Type 0 where
  pub within : T (within_limits (header_shape s))
  pub lists : at.lists + 4 * s.gates < 18446744073709551616
  pub ballots : at.ballots + ballot_bytes (header_shape s) < 18446744073709551616
  pub tapes : at.tapes + c < 18446744073709551616
  pub wires : at.wires + (ballot_bytes (header_shape s) + s.gates) < 18446744073709551616
  pub boards : at.boards + (c + s.candidates) < 18446744073709551616

-- One jury between two rounds. p has its pieces as they were lent.
pub record JuryState (given : ℕ) (s : JuryHeader) (p : Tables) (wires board : List ℕ) (shown : ℕ) : Type 0 where
  pub run : RunReady p.ballots p.lists s.candidates p.tapes p.wires p.boards
  pub some_gate : 1 ≤ s.gates
  pub gates : length (gates_of p.lists) ≡ s.gates
  pub wires_are : wires ≡ jury_wires given s p
  pub board_is : board ≡ jury_board given s p
  pub count : shown ≡ jury_shown given s p

-- What a jury's turn requires: the jury between two rounds, for some old contents of its wire table and board.
pub record TurnReady (given gates_per_round : ℕ) (s : JuryHeader) (list ballots tape wires board : List ℕ) (shown : ℕ)
    : Type 0 where
  pub per_round_least : 1 ≤ gates_per_round
  pub per_round_most : gates_per_round ≤ most_gates_per_round
  pub wires_lent : List ℕ
  pub board_lent : List ℕ
  pub state : JuryState given s (tables_of list ballots tape wires_lent board_lent) wires board shown

-- What a round requires: a call between two rounds. A jury has at most 1,048,576 gates, so at most that many rounds
-- come before this one.
pub record RoundReady (headers : List JuryHeader) (done gates_per_round : ℕ) (lists ballots tapes : List ℕ)
    (conditional wires boards shown : List ℕ) : Type 0 where
  pub few : length headers ≤ most_juries
  pub per_round_least : 1 ≤ gates_per_round
  pub per_round_most : gates_per_round ≤ most_gates_per_round
  pub done_most : done ≤ most_gates
  pub wires_lent : List ℕ
  pub boards_lent : List ℕ
  pub state : RoundState (done * gates_per_round) headers
      (tables_of lists ballots tapes wires_lent boards_lent)
      conditional
      wires boards shown
