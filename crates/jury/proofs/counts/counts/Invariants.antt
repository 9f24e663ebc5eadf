-- `jury::counts::counts` meets its contract: after b turns the array holds the counts of the first b ballots.
-- Assumes nothing.
use mathlib.Core.Path.{◌≡◌}
use Rattle.jury.proofs.CountLaws.{array_after}
use Rattle.jury.proofs.counts.counts.Given as goal

abbrev pub invariant-loop-b : goal.invariant-loop-b
invariant-loop-b l = l.counts ≡ array_after l.shape l.ballots l.b
