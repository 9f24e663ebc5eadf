-- Writing a list as text.
use Rattle.std.proofs.Math.Option.{Option}
use Rattle.std.specs.Prelude.{List, [], ◌∷◌, ◌++◌, ℕ, leb, length}
use Rattle.gates.specs.Gate.{gates_of}
use Rattle.jury.specs.declared.shape.Shape.{Shape}
use Rattle.jury.specs.Reason.{Reason, unless, first_of}
use Rattle.tally.specs.Answer.{Outcome, outcome, overwritten}
use Rattle.tally.specs.Test.{test_reasons, test_reason_numbers}
use Rattle.text.specs.Answer.{TextResult}
use Rattle.text.specs.Text.{text_of}

-- The reasons of writing, in the order of their tests: 1, 2 and 3 as in the test of a list, then 24 if the output
-- is too short.
unfoldable pub text_reasons : Shape → List ℕ → List ℕ → List (Option Reason)
text_reasons s table output =
    test_reasons s table ++ unless (leb (length (text_of (gates_of table))) (length output)) 24 ∷ []

abbrev pub text_reason_numbers : List ℕ
text_reason_numbers = test_reason_numbers ++ 24 ∷ []

-- An accepted call answers how many characters it wrote.
unfoldable pub text_outcome : Shape → List ℕ → List ℕ → Outcome ℕ
text_outcome s table output = outcome (first_of (text_reasons s table output)) (length (text_of (gates_of table)))

-- The output after writing: the text, then its old contents; on a refusal only the old contents.
unfoldable pub text_written : Shape → List ℕ → List ℕ → List ℕ
text_written s table output = overwritten (first_of (text_reasons s table output)) (text_of (gates_of table)) output

-- What writing leaves: the contract of `write` is an equation with this.
abbrev pub write_text_result : Shape → (table output : List ℕ) → TextResult
write_text_result s table output = record { answer = text_outcome s table output; output = text_written s table output }
