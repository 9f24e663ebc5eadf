-- The answers of the functions that read from a place on, in terms of the definitions. No entry point's contract
-- needs them.
use Rattle.std.specs.Prelude.{◌≡◌, List, ℕ, ◌≤◌, length, drop, Some, None}
use Rattle.std.specs.Prelude as rust
use Rattle.std.proofs.Math.Option.{Option, none}
use Rattle.gates.specs.Gate.{Gate}
use Rattle.text_lines.specs.Decimal.{Taken, taken}
use Rattle.text_lines.specs.declared.decimal.Found.{Found}
use Rattle.text_lines.specs.declared.line.Line.{Line}

unfoldable pub number_found : List ℕ → rust.Option Found → Option (Taken ℕ)
number_found text (Some n) = taken n.value (drop n.next text)
number_found text None = none

abbrev pub NumberWithin : List ℕ → rust.Option Found → Type 0
NumberWithin text (Some n) = n.next ≤ length text
NumberWithin text None = Unit {0}

unfoldable pub line_found : List ℕ → rust.Option Line → Option (Taken Gate)
line_found text (Some l) = taken l.gate (drop l.next text)
line_found text None = none

abbrev pub LineWithin : List ℕ → rust.Option Line → Type 0
LineWithin text (Some l) = l.next ≤ length text
LineWithin text None = Unit {0}

-- The answer r is the wanted one, and the place after it is within the text.
pub record NumberRead (text : List ℕ) (wanted : Option (Taken ℕ)) (r : rust.Option Found) : Type 0 where
  pub found : number_found text r ≡ wanted
  pub within : NumberWithin text r

pub record LineRead (text : List ℕ) (wanted : Option (Taken Gate)) (r : rust.Option Line) : Type 0 where
  pub found : line_found text r ≡ wanted
  pub within : LineWithin text r
