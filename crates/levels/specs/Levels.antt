-- The entry point [levels].
use Rattle.std.proofs.Math.Option.{Option}
use Rattle.std.specs.Prelude.{List, [], ◌∷◌, ◌++◌, ℕ, eqb, length}
use Rattle.gates.specs.Gate.{gates_of}
use Rattle.gate_levels.specs.Levels.{levels_of}
use Rattle.jury.specs.declared.shape.Shape.{Shape}
use Rattle.jury.specs.Shape.{ballot_bytes}
use Rattle.jury.specs.Reason.{Reason, unless, first_of}
use Rattle.tally.specs.Answer.{Outcome, outcome, afterwards}
use Rattle.tally.specs.Test.{test_reasons, test_reason_numbers}
use Rattle.levels.specs.Answer.{Depths, depths_of}

-- The reasons, in the order of their tests: 1, 2 and 3 as in the test of a list, then 200 if the level table has
-- not exactly one number for each gate.
unfoldable pub levels_reasons : Shape → List ℕ → List ℕ → List (Option Reason)
levels_reasons s table levels = test_reasons s table ++ unless (eqb (length levels) (length (gates_of table))) 200 ∷ []

abbrev pub levels_reason_numbers : List ℕ
levels_reason_numbers = test_reason_numbers ++ 200 ∷ []

-- The answer: the first reason, or G, C and R.
unfoldable pub levels_outcome : Shape → List ℕ → List ℕ → Outcome Depths
levels_outcome s table levels =
    outcome (first_of (levels_reasons s table levels)) (depths_of (ballot_bytes s) (gates_of table))

-- The level table after the call: the gates' levels, or on a refusal its old contents.
unfoldable pub levels_written : Shape → List ℕ → List ℕ → List ℕ
levels_written s table levels =
    afterwards (first_of (levels_reasons s table levels)) (levels_of (ballot_bytes s) (gates_of table)) levels

-- What a call leaves: its answer and the level table.
pub record LevelsResult : Type 0 where
  pub answer : Outcome Depths
  pub levels : List ℕ

-- The contract of `write` is an equation with this.
abbrev pub levels_result : Shape → List ℕ → List ℕ → LevelsResult
levels_result s table levels =
    record { answer = levels_outcome s table levels; levels = levels_written s table levels }
