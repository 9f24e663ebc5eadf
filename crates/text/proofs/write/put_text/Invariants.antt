-- `text::write::put_text` meets its contract: storing the rest from here on gives what storing all from the start
-- gives.
-- Assumes nothing.
use mathlib.Core.Path.{◌≡◌}
use Prim.Native.Nat.{◌+◌, ◌≤◌}
use lib.ListN.{length, drop}
use lib.Seq.{sets}
use Rattle.gates.specs.Gate.{gates_of}
use Rattle.text.specs.Text.{text_of}
use Rattle.text.proofs.write.put_text.Given as goal

abbrev pub invariant-loop-g : goal.invariant-loop-g
invariant-loop-g l = (l.place + length (text_of (drop l.g (gates_of l.table))) ≤ length l.output) × (length l.output ≡ length l.initial.output)
    × (sets l.output l.place (text_of (drop l.g (gates_of l.table))) ≡ sets l.initial.output 0 (text_of (gates_of l.table)))
