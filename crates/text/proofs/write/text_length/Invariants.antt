-- `text::write::text_length` meets its contract: the total so far plus the length of the rest is the whole length.
-- Assumes nothing.
use mathlib.Core.Path.{◌≡◌}
use Prim.Native.Nat.{◌+◌, ◌*◌, ◌≤◌}
use lib.ListN.{length, drop}
use Rattle.gates.specs.Gate.{gates_of}
use Rattle.text.specs.Text.{text_of}
use Rattle.text.proofs.write.text_length.Given as goal

abbrev pub invariant-loop-g : goal.invariant-loop-g
invariant-loop-g l = (l.total ≤ 44 * l.g) × (l.total + length (text_of (drop l.g (gates_of l.table))) ≡ length (text_of (gates_of l.table)))
