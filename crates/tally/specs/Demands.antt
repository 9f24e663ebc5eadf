-- The three demands. They are stated about definitions; the contracts of the entry points say that the program's
-- answers and all lent tables are equal to these definitions.
use Rattle.std.specs.Prelude.{◌≡◌, ◌≢◌, ◌↔◌, List, [], ◌∷◌, ℕ, ◌+◌, ◌*◌, length, take}
use Rattle.std.proofs.Math.Option.{none}
use Rattle.gates.specs.Gate.{gates_of}
use Rattle.gates.specs.Board.{MaskTape}
use Rattle.jury.specs.declared.shape.Shape.{Shape}
use Rattle.jury.specs.Shape.{ballot_bytes, most_candidates}
use Rattle.jury.specs.Reason.{Reason}
use Rattle.jury.specs.Accepted.{AcceptedBallots}
use Rattle.tally.specs.Answer.{refused, accepted, Size}
use Rattle.tally.specs.SaysWhoWins.{SaysWhoWins}
use Rattle.tally.specs.Memory.{KeepsMemory, BoardKeepsMemory}
use Rattle.tally.specs.Count.{count_reason, count_reason_numbers, plain_closing, count_outcome}
use Rattle.tally.specs.Measure.{measure_reason_numbers, measure_outcome}
use Rattle.tally.specs.Test.{test_reason_numbers, test_outcome}
use Rattle.tally.specs.Write.{write_reason_numbers, write_outcome, write_result}
use Rattle.tally.specs.Run.{BoardCall, run_result, run_reason_numbers}
use Rattle.tally.specs.Hiding.{closing_bytes, RunTellsNoMore}

-- Demand 1 for the five entry points. Measure, test and count are lent no table to write to.
pub record TallyMemory : Type 0 where
  pub measure : (s : Shape) → KeepsMemory measure_reason_numbers (measure_outcome s) [] []
  pub write : (s : Shape) (table : List ℕ)
      → KeepsMemory write_reason_numbers (write_outcome s table)
      (record { before = table; after = write_result s table } ∷ []) []
  pub test : (s : Shape) (table : List ℕ) → KeepsMemory test_reason_numbers (test_outcome s table) [] []
  pub run : (s : Shape) (table ballots tape wires board : List ℕ)
      → BoardKeepsMemory run_reason_numbers wires board
      (run_result s table ballots tape wires board)
  pub count : (s : Shape) (ballots : List ℕ)
      → KeepsMemory count_reason_numbers (count_outcome s ballots) [] []

-- The list that an accepted write left: the first 4G numbers of the table. `size` is the answer of the write.
unfoldable pub list_in : Shape → Size → List ℕ → List ℕ
list_in s size table = take (4 * size.gates) (write_result s table)

-- Demand 2 for one kind of call, on the list that a write left in a table with any old contents. `size` is the
-- answer of the write, `ballots_of` has the ballots in the call's inputs, and `Good` says which inputs have to be
-- accepted.
pub record Accuracy {Inputs : Type 0} (call : Shape → List ℕ → Inputs → BoardCall)
    (ballots_of : Shape → Inputs → List ℕ)
    (Good : Shape → Inputs → Type 0) (s : Shape) (table : List ℕ) (size : Size) : Type 0 where
  -- no call with that list is refused for reason 2 or 3
  pub never_2_or_3 : (x : Inputs) (tape wires board : List ℕ) (r : Reason)
      → (call s (list_in s size table) x tape wires board).answer ≡ refused r → (r.number ≢ 2) × (r.number ≢ 3)
  -- with good inputs, a mask tape and buffers of the right lengths, the call is accepted and answers the same G and
  -- C
  pub runs : (x : Inputs) (tape wires board : List ℕ) → Good s x → MaskTape (gates_of (list_in s size table)) tape
      → length wires ≡ ballot_bytes s + size.gates → length board ≡ size.conditional + s.candidates
      → (call s (list_in s size table) x tape wires board).answer ≡ accepted size
  -- if the call is accepted, its k closing bytes are those of the plain count, and say who wins
  pub plain : (x : Inputs) (tape wires board : List ℕ) (answer : Size)
      → (call s (list_in s size table) x tape wires board).answer ≡ accepted answer
      → closing_bytes s (call s (list_in s size table) x tape wires board).board
      ≡ take s.candidates (plain_closing s (ballots_of s x))
  pub says_who_wins : (x : Inputs) (tape wires board : List ℕ) (answer : Size)
      → (call s (list_in s size table) x tape wires board).answer ≡ accepted answer
      → SaysWhoWins s (ballots_of s x) (closing_bytes s (call s (list_in s size table) x tape wires board).board)

-- Demand 2 for a run, whose inputs are the ballots.
abbrev pub RunAccuracy : (s : Shape) (table : List ℕ) (size : Size) → Type 0
RunAccuracy = Accuracy run_result (λ s ballots. ballots) AcceptedBallots

-- Demand 2 for the plain count: it accepts exactly the ballots of `AcceptedBallots`, and if it does, its bytes say
-- who wins. There are always eight.
pub record CountAccuracy : Type 0 where
  pub accepts : (s : Shape) (ballots : List ℕ) → (count_reason s ballots ≡ none) ↔ AcceptedBallots s ballots
  pub says_who_wins : (s : Shape) (ballots : List ℕ) → count_reason s ballots ≡ none
      → SaysWhoWins s ballots (plain_closing s ballots)
  pub eight_bytes : (s : Shape) (ballots : List ℕ) → length (plain_closing s ballots) ≡ most_candidates

pub record ThreeDemands : Type 0 where
  pub memory : TallyMemory
  pub accuracy : (s : Shape) (table : List ℕ) (size : Size) → write_outcome s table ≡ accepted size
      → RunAccuracy s table size
  pub counting : CountAccuracy
  pub hiding : RunTellsNoMore
