-- The entry point [test].
use Rattle.std.proofs.Math.Option.{Option}
use Rattle.std.specs.Prelude.{List, [], ◌∷◌, ℕ}
use Rattle.gates.specs.Gate.{gates_of}
use Rattle.gates.specs.Test.{tested}
use Rattle.jury.specs.declared.shape.Shape.{Shape}
use Rattle.jury.specs.Shape.{within_limits, ballot_bytes}
use Rattle.jury.specs.Reason.{Reason, unless, list_reason, first_of}
use Rattle.tally.specs.Answer.{Outcome, outcome, Size, size_of}

-- The reasons of a test, in the order 1, 2, 3. The list's inputs are the ballot bytes, and its outputs are the k
-- closing bytes.
unfoldable pub test_reasons : Shape → List ℕ → List (Option Reason)
test_reasons s table = unless (within_limits s) 1 ∷ list_reason (tested (ballot_bytes s) s.candidates table) ∷ []

abbrev pub test_reason_numbers : List ℕ
test_reason_numbers = 1 ∷ 2 ∷ 3 ∷ []

-- The answer of a test: the first reason, or the list's own G and C.
unfoldable pub test_outcome : Shape → List ℕ → Outcome Size
test_outcome s table = outcome (first_of (test_reasons s table)) (size_of (gates_of table))
