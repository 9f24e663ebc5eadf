-- The reasons for which a call is refused, by their numbers, and the order of tests [order].
use Rattle.std.specs.Prelude.{Bool, true, false, List, [], ◌∷◌, ℕ, Some, None, Result, Ok, Err}
use Rattle.std.specs.Prelude as prelude
use Rattle.std.proofs.Math.Option.{Option, none, some}
use Rattle.gates.specs.declared.list.ListSize.{ListSize}
use Rattle.gates.specs.declared.list.ListFault.{ListFault}
use Rattle.gates.specs.declared.list.ListFault.TheVariants.{PartOfAGate, TooFewGates, TooManyGates, BadGate}
use Rattle.jury.specs.declared.reason.Refusal.{Refusal}
use Rattle.jury.specs.declared.reason.Refusal.TheVariants.{Shape, Table, Gate, BallotsLength, BallotByte, BallotRow, NotAsymmetric, NotWeakOrder, TapeLength, TapeByte, WiresLength, BoardLength, Urn, Juror, FullUrn, Trustees, PartTables, Dealing, Juries, GatesPerRound}
use Rattle.jury.specs.declared.shape.Shape as shape

-- A reason: its number and its place.
pub record Reason : Type 0 where
  pub number : ℕ
  pub place : ℕ

-- A reason from its number and its place.
unfoldable pub reason_at : ℕ → ℕ → Reason
reason_at number place = record { number = number; place = place }

-- The number and the place [order] of each case of the program's enum.
unfoldable pub reason_of : Refusal → Reason
reason_of Shape = reason_at 1 0
reason_of Table = reason_at 2 0
reason_of (Gate g) = reason_at 3 g
reason_of BallotsLength = reason_at 4 0
reason_of (BallotByte i) = reason_at 5 i
reason_of (BallotRow r) = reason_at 6 r
reason_of (NotAsymmetric i) = reason_at 11 i
reason_of (NotWeakOrder b) = reason_at 12 b
reason_of TapeLength = reason_at 7 0
reason_of (TapeByte i) = reason_at 8 i
reason_of WiresLength = reason_at 9 0
reason_of BoardLength = reason_at 10 0
reason_of Urn = reason_at 13 0
reason_of Juror = reason_at 14 0
reason_of FullUrn = reason_at 15 0
reason_of Trustees = reason_at 16 0
reason_of PartTables = reason_at 17 0
reason_of Dealing = reason_at 18 0
reason_of Juries = reason_at 19 0
reason_of GatesPerRound = reason_at 20 0

-- The reason of a test's outcome, if it is a refusal.
unfoldable pub refused_for : Result (Unit {0}) Refusal → Option Reason
refused_for (Ok u) = none
refused_for (Err r) = some (reason_of r)

-- The reason for which the constructor of shapes refuses, or none if it does not refuse.
unfoldable pub shaped_for : Result shape.Shape Refusal → Option Reason
shaped_for (Ok s) = none
shaped_for (Err r) = some (reason_of r)

-- No reason if the test passes; else the reason with this number. It has no place, so its place is 0.
unfoldable pub unless : Bool → ℕ → Option Reason
unless true number = none
unless false number = some (reason_at number 0)

-- No reason if a search found nothing; else the reason with this number, at the place that was found.
unfoldable pub found_at : ℕ → prelude.Option ℕ → Option Reason
found_at number None = none
found_at number (Some place) = some (reason_at number place)

-- The refusal for each thing that can be wrong with a gate list.
unfoldable pub refusal_of : ListFault → Refusal
refusal_of PartOfAGate = Table
refusal_of TooFewGates = Table
refusal_of TooManyGates = Table
refusal_of (BadGate g) = Gate g

-- The reason [order] for each answer of the gate layer's test: 2 if the table has no whole number of gates, or too
-- few or too many gates; 3 at the first bad gate.
unfoldable pub list_reason : Result ListSize ListFault → Option Reason
list_reason (Ok size) = none
list_reason (Err fault) = some (reason_of (refusal_of fault))

-- The first reason that applies, from the outcomes of the tests in their order.
unfoldable pub first_of : List (Option Reason) → Option Reason
first_of [] = none
first_of (none ∷ rest) = first_of rest
first_of (some r ∷ rest) = some r
