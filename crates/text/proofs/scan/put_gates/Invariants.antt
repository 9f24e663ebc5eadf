-- `text::scan::put_gates` meets its contract: storing the rest from here on gives what storing all from the start
-- gives.
-- Assumes nothing.
use mathlib.Core.Path.{◌≡◌}
use Prim.Native.Nat.{◌+◌, ◌-◌, ◌*◌, ◌≤◌}
use lib.ListN.{length, drop}
use lib.Seq.{sets}
use Rattle.gates.specs.Gate.{numbers_of}
use Rattle.std.specs.Prelude.{None}
use Rattle.text.specs.Text.{lines_of, first_malformed, gates_in}
use Rattle.text.proofs.scan.put_gates.Given as goal

abbrev pub invariant-loop-at : goal.invariant-loop-at
invariant-loop-at l = (l.at ≤ length l.text) × (first_malformed 0 (lines_of (drop l.at l.text)) ≡ None)
    × (l.i + 4 * length (lines_of (drop l.at l.text)) ≤ length l.output)
    × (length l.output ≡ length l.initial.output)
    × (sets l.output l.i (numbers_of (gates_in (lines_of (drop l.at l.text))))
    ≡ sets l.initial.output 0 (numbers_of (gates_in (lines_of l.text))))

abbrev pub decreases-loop-at : goal.decreases-loop-at
decreases-loop-at l = length l.text - l.at
