-- Writing and reading undo each other.
use Rattle.std.specs.Prelude.{◌≡◌, List, ◌++◌, ℕ, ◌≤◌, length, take, drop}
use Rattle.jury.specs.declared.shape.Shape.{Shape}
use Rattle.tally.specs.Answer.{accepted}
use Rattle.text.specs.Write.{text_outcome, text_written}
use Rattle.text.specs.Read.{read_outcome, numbers_read}

-- [text]: if the output has room, reading accepts exactly the texts of lists for the shape, and gives their numbers
-- back.
pub record RoundTrip : Type 0 where
  -- a text that was written is accepted, and reading gives the list that was written
  pub back : (s : Shape) (table output numbers : List ℕ) (n : ℕ)
      → text_outcome s table output ≡ accepted n → length table ≤ length numbers
      → (read_outcome s (take n (text_written s table output)) numbers ≡ accepted (length table))
      × (numbers_read s (take n (text_written s table output)) numbers ≡ table ++ drop (length table) numbers)
  -- a text that reading accepts is the text that writing produces from the numbers that were read
  pub forth : (s : Shape) (text numbers output : List ℕ) (n : ℕ)
      → read_outcome s text numbers ≡ accepted n → length text ≤ length output
      → (text_outcome s (take n (numbers_read s text numbers)) output ≡ accepted (length text))
      × (text_written s (take n (numbers_read s text numbers)) output ≡ text ++ drop (length text) output)
