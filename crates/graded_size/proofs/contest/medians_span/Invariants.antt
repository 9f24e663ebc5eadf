-- `graded_size::contest::medians_span` meets its contract: the gates counted so far and those of the digits left add
-- up to all.
-- Assumes nothing.
use mathlib.Core.Path.{◌≡◌}
use Prim.Native.Nat.{◌+◌, ◌-◌}
use Rattle.graded_circuit.specs.Median.{Fits, later_span, ones_span}
use Rattle.graded_size.proofs.contest.medians_span.Given as goal

abbrev pub invariant-loop : goal.invariant-loop
invariant-loop l =
    Fits l.many (l.above - l.counter) × (l.gates + later_span l.many (l.above - l.counter) ≡ ones_span l.count l.above)
