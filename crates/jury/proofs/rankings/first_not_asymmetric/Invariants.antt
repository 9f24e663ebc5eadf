-- `jury::rankings::first_not_asymmetric` meets its contract: the ballots so far are asymmetric.
-- Assumes nothing.
use mathlib.Core.Path.{◌≡◌}
use Rattle.std.specs.Prelude.{None}
use Rattle.jury.specs.Rankings.{first_over, not_asymmetric_in_ballot}
use Rattle.jury.proofs.rankings.first_not_asymmetric.Given as goal

abbrev pub invariant-loop-ballot : goal.invariant-loop-ballot
invariant-loop-ballot l = first_over l.ballot (not_asymmetric_in_ballot l.k l.ballots) ≡ None
