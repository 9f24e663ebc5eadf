-- What the functions inside this crate require and promise.
use Rattle.std.specs.Prelude.{◌≡◌, List, [], ◌∷◌, ℕ, ◌+◌, ◌*◌, ◌≤◌, max, length, Result, IfOk}
use Rattle.std.proofs.Math.Option.{none}
use Rattle.gates.specs.Gate.{gates_of}
use Rattle.gates.specs.Board.{conditional_count}
use Rattle.jury.specs.Shape.{ballot_bytes}
use Rattle.jury.specs.Reason.{first_of}
use Rattle.tally.specs.Answer.{Outcome, outcome, Size, size_of}
use Rattle.dispatch_rounds.specs.declared.header.JuryHeader.{JuryHeader}
use Rattle.dispatch_rounds.specs.Tables.{Tables, header_shape, list_of}
use Rattle.dispatch_rounds.specs.Reasons.{reasons_of, jury_reasons}
use Rattle.dispatch_rounds.specs.Rounds.{eight_of, RoundState, most_juries, most_gates_per_round}
use Rattle.dispatch.specs.declared.tests.Tested.{Tested}
use Rattle.dispatch.specs.declared.refusal.JuryRefusal.{JuryRefusal}
use Rattle.dispatch.specs.NoIdleRound.{NoIdleRound}
use Rattle.dispatch.specs.Reasons.{verdict_reason}

-- How many wires all juries have.
unfoldable pub wire_bytes : List JuryHeader → ℕ
wire_bytes [] = 0
wire_bytes (s ∷ ss) = ballot_bytes (header_shape s) + s.gates + wire_bytes ss

-- The number of gates of the longest list.
unfoldable pub longest_list : List JuryHeader → ℕ
longest_list [] = 0
longest_list (s ∷ ss) = max s.gates (longest_list ss)

-- How many conditional gates a jury has, counted in its piece of the lists.
abbrev pub piece_conditional : JuryHeader → Tables → ℕ
piece_conditional s p = conditional_count (gates_of p.lists)

-- The answer of one jury's tests on the rest of the tables: its first reason, or the size of its list.
abbrev pub JuryTested : JuryHeader → Tables → Outcome Size → Type 0
JuryTested s t answer = answer ≡ outcome (first_of (reasons_of s t)) (size_of (gates_of (list_of s t)))

-- What the tests of accepted juries found.
pub record TestedAll (ss : List JuryHeader) (t : Tables) (found : Tested) : Type 0 where
  pub conditional : found.conditional ≡ eight_of piece_conditional ss t
  pub wires : found.wires ≡ wire_bytes ss

-- What the tests of all juries answer.
pub record TestsFound (ss : List JuryHeader) (t : Tables) (r : Result Tested JuryRefusal) : Type 0 where
  pub reason : verdict_reason r ≡ first_of (jury_reasons 0 ss t)
  pub found : IfOk r (TestedAll ss t)

-- What the rounds require: no jury is refused.
pub record Ready (ss : List JuryHeader) (gates_per_round : ℕ) (t : Tables) (conditional : List ℕ) : Type 0 where
  pub few : length ss ≤ most_juries
  pub per_round_least : 1 ≤ gates_per_round
  pub per_round_most : gates_per_round ≤ most_gates_per_round
  pub accepted : first_of (jury_reasons 0 ss t) ≡ none
  pub conditional_are : conditional ≡ eight_of piece_conditional ss t

-- What counting the rounds requires.
pub record RoundsSmall (ss : List JuryHeader) (gates_per_round : ℕ) : Type 0 where
  pub few : length ss ≤ most_juries
  pub per_round_least : 1 ≤ gates_per_round

-- What the rounds leave after `done` rounds: every jury has done all its gates, and no round was idle.
pub record RoundsFinished (ss : List JuryHeader) (gates_per_round : ℕ) (t : Tables) (conditional wires boards : List ℕ)
    : Type 0 where
  pub done : ℕ
  pub shown : List ℕ
  pub all : longest_list ss ≤ done * gates_per_round
  pub none_idle : NoIdleRound gates_per_round done ss
  pub state : RoundState (done * gates_per_round) ss t conditional wires boards shown
