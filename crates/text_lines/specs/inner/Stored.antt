-- Characters stored in a text from a place on, and the length of a line.
use Rattle.std.specs.Prelude.{◌≡◌, List, ℕ, ◌+◌, ◌≤◌, length}
use Rattle.std.proofs.lemmas.List.Edits.{sets}
use Rattle.gates.specs.Gate.{Gate}
use Rattle.text_lines.specs.Line.{line_of}

-- r is the text l after the characters xs were stored from place `at` on; e is the place after them.
pub record Stored (l : List ℕ) (at : ℕ) (xs r : List ℕ) (e : ℕ) : Type 0 where
  pub next : e ≡ at + length xs
  pub is : r ≡ sets l at xs

-- r is the length of the gate's line: at most four numbers of ten digits, three spaces and a line feed.
pub record LineLength (g : Gate) (r : ℕ) : Type 0 where
  pub is : r ≡ length (line_of g)
  pub short : r ≤ 44
