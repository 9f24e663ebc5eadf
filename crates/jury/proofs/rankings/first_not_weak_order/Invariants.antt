-- `jury::rankings::first_not_weak_order` meets its contract: the ballots so far are weak orders.
-- Assumes nothing.
use mathlib.Core.Path.{◌≡◌}
use mathlib.Core.Bool.{cond}
use Rattle.std.specs.Prelude.{Some, None}
use Rattle.jury.specs.Rankings.{first_over, not_weak_order}
use Rattle.jury.proofs.rankings.first_not_weak_order.Given as goal

abbrev pub invariant-loop-ballot : goal.invariant-loop-ballot
invariant-loop-ballot l = first_over l.ballot (λ b. cond (not_weak_order l.k l.ballots b) (Some b) None) ≡ None
