-- `text::scan::first_malformed` meets its contract: the first malformed line of the rest is the first one of all.
-- Assumes nothing.
use mathlib.Core.Path.{◌≡◌}
use Prim.Native.Nat.{◌-◌, ◌≤◌}
use lib.ListN.{length, drop}
use Rattle.text.specs.Text.{lines_of, first_malformed}
use Rattle.text.proofs.scan.first_malformed.Given as goal

abbrev pub invariant-loop-at : goal.invariant-loop-at
invariant-loop-at l = (l.at ≤ length l.text) × (l.i ≤ l.at) × (first_malformed l.i (lines_of (drop l.at l.text)) ≡ first_malformed 0 (lines_of l.text))

abbrev pub decreases-loop-at : goal.decreases-loop-at
decreases-loop-at l = length l.text - l.at
