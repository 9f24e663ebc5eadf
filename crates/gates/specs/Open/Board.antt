-- The board: what a run publishes.
use Rattle.std.specs.Prelude.{◌≡◌, cond, ℕ, ◌+◌, ◌%◌, ◌≤◌, length, get_or}
use mathlib.Core.List.{List, [], ◌∷◌, ◌++◌, zip_with}
use Rattle.gates.specs.Open.Kind.{conditional_of}
use Rattle.gates.specs.Open.Gate.{Gate}
use Rattle.gates.specs.Open.Wires.{wire, outputs_of}

-- The conditional gates of a list, in order.
unfoldable pub conditionals : List Gate → List Gate
conditionals [] = []
conditionals (g ∷ gs) = cond (conditional_of g.kind) (g ∷ conditionals gs) (conditionals gs)

-- C of a list: how many of its gates are conditional.
unfoldable pub conditional_count : List Gate → ℕ
conditional_count gs = length (conditionals gs)

-- What a conditional gate shows: its wire a under the mask m, as a sum modulo 2. A wire never changes its value, so
-- ws may be the wires of the whole list.
unfoldable pub shown_bit : List ℕ → Gate → ℕ → ℕ
shown_bit ws g m = (wire ws g.a + m) % 2

-- The shown bits in order: tape byte i masks conditional gate i.
unfoldable pub shown_bits : List ℕ → List Gate → List ℕ → List ℕ
shown_bits ws gs tape = zip_with (shown_bit ws) (conditionals gs) tape

-- The whole board: the shown bits, then the outputs.
unfoldable pub board_of : List ℕ → List Gate → ℕ → List ℕ → List ℕ
board_of ws gs k tape = shown_bits ws gs tape ++ outputs_of k ws

-- Each of these bytes is 0 or 1.
abbrev pub Bits : List ℕ → Type 0
Bits xs = (i : ℕ) → get_or xs i 0 ≤ 1

-- A mask tape of a list [tape]: C bytes, each of them 0 or 1.
pub record MaskTape (gs : List Gate) (tape : List ℕ) : Type 0 where
  pub size : length tape ≡ conditional_count gs
  pub bits : Bits tape
