-- The demand [memory] for writing and reading a text: each is lent an output.
use Rattle.std.specs.Prelude.{◌≡◌, List, [], ◌∷◌, ◌++◌, ℕ, length, drop}
use Rattle.gates.specs.Gate.{gates_of, numbers_of}
use Rattle.jury.specs.declared.shape.Shape.{Shape}
use Rattle.tally.specs.Answer.{accepted}
use Rattle.tally.specs.Memory.{KeepsMemory}
use Rattle.text.specs.Text.{text_of, lines_of, gates_in}
use Rattle.text.specs.Write.{text_reason_numbers, text_outcome, text_written}
use Rattle.text.specs.Read.{read_reason_numbers, read_outcome, numbers_read}

pub record TextMemory : Type 0 where
  pub write : (s : Shape) (table output : List ℕ)
      → KeepsMemory text_reason_numbers (text_outcome s table output)
      (record { before = output; after = text_written s table output } ∷ []) []
  pub read : (s : Shape) (text output : List ℕ)
      → KeepsMemory read_reason_numbers (read_outcome s text output)
      (record { before = output; after = numbers_read s text output } ∷ []) []
  -- an accepted call says how much it wrote, and what comes after that is unchanged
  pub writes_its_length : (s : Shape) (table output : List ℕ) (n : ℕ) → text_outcome s table output ≡ accepted n
      → (length (text_of (gates_of table)) ≡ n)
      × (text_written s table output ≡ text_of (gates_of table) ++ drop n output)
  pub reads_its_length : (s : Shape) (text output : List ℕ) (n : ℕ) → read_outcome s text output ≡ accepted n
      → let numbers = numbers_of (gates_in (lines_of text)) in
      (length numbers ≡ n) × (numbers_read s text output ≡ numbers ++ drop n output)
