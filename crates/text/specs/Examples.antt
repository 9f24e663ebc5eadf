-- Examples of numbers and lines as characters.
use Rattle.std.specs.Prelude.{◌≡◌, List, [], ◌∷◌, ℕ, Some}
use Rattle.std.proofs.Math.Option.{none, some}
use Rattle.text_lines.specs.Decimal.{decimal, taken, number_in}
use Rattle.text_lines.specs.Line.{gate_of}
use Rattle.text.specs.Text.{lines_of, first_malformed}

-- The characters of 4294967295, the largest number, and of 4294967296.
abbrev pub largest_text : List ℕ
largest_text = 52 ∷ 50 ∷ 57 ∷ 52 ∷ 57 ∷ 54 ∷ 55 ∷ 50 ∷ 57 ∷ 53 ∷ []

abbrev pub too_large_text : List ℕ
too_large_text = 52 ∷ 50 ∷ 57 ∷ 52 ∷ 57 ∷ 54 ∷ 55 ∷ 50 ∷ 57 ∷ 54 ∷ []

-- `2 1` and a line feed: kind 2 with wire 1.
abbrev pub copy_line : List ℕ
copy_line = 50 ∷ 32 ∷ 49 ∷ 10 ∷ []

-- `02 1` and a line feed: malformed, because of the leading zero.
abbrev pub zero_first : List ℕ
zero_first = 48 ∷ 50 ∷ 32 ∷ 49 ∷ 10 ∷ []

-- `2 1` in two lines, the second one without its line feed.
abbrev pub open_end : List ℕ
open_end = 50 ∷ 32 ∷ 49 ∷ 10 ∷ 50 ∷ 32 ∷ 49 ∷ []

pub record TextExamples : Type 0 where
  pub zero_is : decimal 0 ≡ 48 ∷ []
  pub largest_is : decimal 4294967295 ≡ largest_text
  pub largest_read : number_in largest_text ≡ taken 4294967295 []
  pub too_large : number_in too_large_text ≡ none
  pub copy_gate : gate_of copy_line ≡ some (record { kind = 2; a = 1; b = 0; c = 0 })
  pub leading_zero : gate_of zero_first ≡ none
  pub open_line : first_malformed 0 (lines_of open_end) ≡ Some 1
