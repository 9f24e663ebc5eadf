-- The entry point [trustee-finish].
use Rattle.std.proofs.Math.Option.{Option}
use Rattle.std.specs.Prelude.{List, [], ◌∷◌, ◌++◌, ℕ, ◌+◌, eqb, length, replicate}
use Rattle.gates.specs.Gate.{gates_of}
use Rattle.jury.specs.declared.shape.Shape.{Shape}
use Rattle.jury.specs.Shape.{ballot_bytes}
use Rattle.jury.specs.Reason.{Reason, unless, first_of}
use Rattle.tally.specs.Answer.{Outcome, outcome, Size, size_of, afterwards}
use Rattle.tally.specs.Test.{test_reasons, test_reason_numbers}

-- The reasons, in the order of their tests: 1, 2 and 3 of the list, then 17 if the wire parts have the wrong
-- length.
unfoldable pub finish_reasons : Shape → List ℕ → List ℕ → List (Option Reason)
finish_reasons s table wire_parts =
    test_reasons s table ++ unless (eqb (length wire_parts) (ballot_bytes s + length (gates_of table))) 17 ∷ []

abbrev pub finish_reason_numbers : List ℕ
finish_reason_numbers = test_reason_numbers ++ 17 ∷ []

-- The answer: the first reason, or G and C.
unfoldable pub finish_outcome : Shape → List ℕ → List ℕ → Outcome Size
finish_outcome s table wire_parts = outcome (first_of (finish_reasons s table wire_parts)) (size_of (gates_of table))

-- The wire parts after the call: zeros, or on a refusal no change.
unfoldable pub finished_wires : Shape → List ℕ → List ℕ → List ℕ
finished_wires s table wire_parts =
    afterwards (first_of (finish_reasons s table wire_parts)) (replicate (length wire_parts) 0) wire_parts

-- What a call leaves: its answer and the wire parts.
pub record FinishResult : Type 0 where
  pub answer : Outcome Size
  pub wires : List ℕ

-- The contract of `finish` is an equation with this.
abbrev pub finish_result : Shape → List ℕ → List ℕ → FinishResult
finish_result s table wire_parts =
    record { answer = finish_outcome s table wire_parts; wires = finished_wires s table wire_parts }
