-- A list of gates as text, and the lines of a text.
use Rattle.std.specs.Prelude.{cond, List, [], ◌∷◌, ◌++◌, ℕ, suc, eqb, Some, None}
use Rattle.std.specs.Prelude as rust
use Rattle.std.proofs.Math.Option.{Option, none, some}
use Rattle.gates.specs.Gate.{Gate}
use Rattle.text_lines.specs.Line.{line_feed, line_of, gate_of}

-- The text of a list: one line for each gate.
unfoldable pub text_of : List Gate → List ℕ
text_of [] = []
text_of (g ∷ gs) = line_of g ++ text_of gs

-- Puts a character at the start of the first line. If there is no line, the character becomes one.
unfoldable pub in_front : ℕ → List (List ℕ) → List (List ℕ)
in_front c [] = (c ∷ []) ∷ []
in_front c (line ∷ lines) = (c ∷ line) ∷ lines

-- The lines of a text. A line feed ends its line and belongs to it; characters after the last one are a line too.
unfoldable pub lines_of : List ℕ → List (List ℕ)
lines_of [] = []
lines_of (c ∷ cs) = cond (eqb c line_feed) ((c ∷ []) ∷ lines_of cs) (in_front c (lines_of cs))

-- Place i if line i has no gate; else what was found in later lines.
unfoldable pub malformed_at : Option Gate → ℕ → rust.Option ℕ → rust.Option ℕ
malformed_at none i later = Some i
malformed_at (some g) i later = later

-- The first malformed line. The first of these lines is line i.
unfoldable pub first_malformed : ℕ → List (List ℕ) → rust.Option ℕ
first_malformed i [] = None
first_malformed i (line ∷ lines) = malformed_at (gate_of line) i (first_malformed (suc i) lines)

-- Puts the gate of a line, if it has one, before the gates of later lines.
unfoldable pub gate_before : Option Gate → List Gate → List Gate
gate_before none gs = gs
gate_before (some g) gs = g ∷ gs

-- The gates of the lines. A malformed line gives no gate.
unfoldable pub gates_in : List (List ℕ) → List Gate
gates_in [] = []
gates_in (line ∷ lines) = gate_before (gate_of line) (gates_in lines)
