-- What holds for a run on an urn, stated about the definition that the contract equates with answer, wire table and
-- board. The three demands are those of `tally` for this kind of call, whose input is an urn.
use Rattle.std.specs.Prelude.{◌≡◌, ◌≢◌, true, false, List, ℕ}
use Rattle.jury.specs.declared.shape.Shape.{Shape}
use Rattle.jury.specs.Shape.{graded_limits}
use Rattle.jury.specs.Reason.{reason_at}
use Rattle.jury.specs.Accepted.{AcceptedBallots}
use Rattle.tally.specs.Answer.{refused, accepted, Size}
use Rattle.tally.specs.Test.{test_outcome}
use Rattle.tally.specs.Write.{write_outcome}
use Rattle.tally.specs.Run.{run_result}
use Rattle.tally.specs.Memory.{BoardKeepsMemory}
use Rattle.tally.specs.Hiding.{BoardTellsNoMore}
use Rattle.tally.specs.Demands.{Accuracy}
use Rattle.urn_chains.specs.Sound.{sound}
use Rattle.urn_run.specs.Run.{chain_ballots, ballots_in, urn_run_reason_numbers, urn_run_result}

-- The ballots that a run of this shape finds in an urn.
abbrev pub ballots_for : Shape → List ℕ → List ℕ
ballots_for s urn = chain_ballots s.candidates s.grades urn

-- The shape is graded, and the urn is sound and has n ballots.
pub record RightUrn (s : Shape) (urn : List ℕ) : Type 0 where
  pub graded : graded_limits s ≡ true
  pub is_sound : sound s.candidates s.grades urn ≡ true
  pub number : ballots_in s.candidates s.grades urn ≡ s.ballots

-- A run on an urn equals the run on its chain's ballots, in answer, wire table and board, refusals included.
pub record SameAsRun : Type 0 where
  -- for a graded shape and a sound urn, whatever n is
  pub on_chain : (s : Shape) (table urn tape wires board : List ℕ)
      → graded_limits s ≡ true → sound s.candidates s.grades urn ≡ true
      → urn_run_result s table urn tape wires board ≡ run_result s table (ballots_for s urn) tape wires board
  -- if n is the number of ballots in the urn, the run accepts them
  pub good_ballots : (s : Shape) (urn : List ℕ) → RightUrn s urn → AcceptedBallots s (ballots_for s urn)
  -- another n gives 4, after the reasons of the list
  pub other_number : (s : Shape) (table urn tape wires board : List ℕ) (size : Size)
      → graded_limits s ≡ true → sound s.candidates s.grades urn ≡ true
      → test_outcome s table ≡ accepted size → ballots_in s.candidates s.grades urn ≢ s.ballots
      → (urn_run_result s table urn tape wires board).answer ≡ refused (reason_at 4 0)
  -- an unsound urn gives 13, before the reasons of the list
  pub unsound : (s : Shape) (table urn tape wires board : List ℕ)
      → graded_limits s ≡ true → sound s.candidates s.grades urn ≡ false
      → (urn_run_result s table urn tape wires board).answer ≡ refused (reason_at 13 0)
  -- any other shape gives 1, before all other reasons
  pub other_shape : (s : Shape) (table urn tape wires board : List ℕ) → graded_limits s ≡ false
      → (urn_run_result s table urn tape wires board).answer ≡ refused (reason_at 1 0)

-- Demand 1: the wire table, which held the ballots in the clear, is emptied.
abbrev pub UrnRunMemory : Type 0
UrnRunMemory =
    (s : Shape) (table urn tape wires board : List ℕ)
    → BoardKeepsMemory urn_run_reason_numbers wires board (urn_run_result s table urn tape wires board)

-- Demand 2, with the list that a write left: the closing bytes are those of majority judgment on the chain's
-- ballots.
abbrev pub UrnAccuracy : (s : Shape) (table : List ℕ) (size : Size) → Type 0
UrnAccuracy = Accuracy urn_run_result ballots_for RightUrn

-- Demand 3, for two urns, which may differ in length, jurors, free slots and chain order.
abbrev pub UrnTellsNoMore : Type 0
UrnTellsNoMore = BoardTellsNoMore urn_run_result ballots_for

-- The run on the urn, and the three demands for it.
pub record UrnRunHolds : Type 0 where
  pub same_as_run : SameAsRun
  pub memory : UrnRunMemory
  pub accuracy : (s : Shape) (table : List ℕ) (size : Size) → write_outcome s table ≡ accepted size
      → UrnAccuracy s table size
  pub hiding : UrnTellsNoMore
