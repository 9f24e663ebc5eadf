-- Reading a list from its text.
use Rattle.std.specs.Prelude.{◌&&◌, List, [], ◌∷◌, ℕ, ◌*◌, leb, length}
use Rattle.std.proofs.Math.Option.{Option}
use Rattle.gates.specs.Gate.{numbers_of}
use Rattle.gates.specs.Test.{first_bad, most_gates}
use Rattle.jury.specs.declared.shape.Shape.{Shape}
use Rattle.jury.specs.Shape.{within_limits, ballot_bytes}
use Rattle.jury.specs.Reason.{Reason, unless, found_at, first_of}
use Rattle.tally.specs.Answer.{Outcome, outcome, overwritten}
use Rattle.text.specs.Answer.{TextResult}
use Rattle.text.specs.Text.{lines_of, first_malformed, gates_in}

-- The reasons of reading, in the order of their tests: 1; 2 unless there are k to 1,048,576 lines; 23 at the first
-- malformed line; 3 at the first bad gate; 24 if the output has fewer than four numbers for each line.
unfoldable pub read_reasons : Shape → List ℕ → List ℕ → List (Option Reason)
read_reasons s text output =
    unless (within_limits s) 1
    ∷ unless (leb s.candidates (length (lines_of text)) && leb (length (lines_of text)) most_gates) 2
    ∷ found_at 23 (first_malformed 0 (lines_of text))
    ∷ found_at 3 (first_bad (ballot_bytes s) 0 (gates_in (lines_of text)))
    ∷ unless (leb (4 * length (lines_of text)) (length output)) 24
    ∷ []

abbrev pub read_reason_numbers : List ℕ
read_reason_numbers = 1 ∷ 2 ∷ 23 ∷ 3 ∷ 24 ∷ []

-- An accepted call answers how many numbers it wrote.
unfoldable pub read_outcome : Shape → List ℕ → List ℕ → Outcome ℕ
read_outcome s text output = outcome (first_of (read_reasons s text output)) (4 * length (lines_of text))

-- The output after reading: the numbers of the gates, then its old contents; on a refusal only the old contents.
unfoldable pub numbers_read : Shape → List ℕ → List ℕ → List ℕ
numbers_read s text output =
    overwritten (first_of (read_reasons s text output)) (numbers_of (gates_in (lines_of text))) output

-- What reading leaves: the contract of `read` is an equation with this.
abbrev pub read_text_result : Shape → (text output : List ℕ) → TextResult
read_text_result s text output = record { answer = read_outcome s text output; output = numbers_read s text output }
