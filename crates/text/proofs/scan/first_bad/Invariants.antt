-- `text::scan::first_bad` meets its contract: the first bad gate of the rest is the first bad gate of all.
-- Assumes nothing.
use mathlib.Core.Path.{◌≡◌}
use Prim.Native.Nat.{◌-◌, ◌≤◌}
use lib.ListN.{length, drop}
use Rattle.gates.specs.Test.{first_bad}
use Rattle.std.specs.Prelude.{None}
use Rattle.text.specs.Text.{lines_of, first_malformed, gates_in}
use Rattle.text.proofs.scan.first_bad.Given as goal

abbrev pub invariant-loop-at : goal.invariant-loop-at
invariant-loop-at l = (l.at ≤ length l.text) × (l.i ≤ l.at) × (first_malformed 0 (lines_of (drop l.at l.text)) ≡ None)
    × (first_bad l.inputs l.i (gates_in (lines_of (drop l.at l.text))) ≡ first_bad l.inputs 0 (gates_in (lines_of l.text)))

abbrev pub decreases-loop-at : goal.decreases-loop-at
decreases-loop-at l = length l.text - l.at
