-- `jury::rankings::first_not_weak_order` meets its contract: the ballots so far are weak orders.
-- Assumes nothing.
use mathlib.Core.Path.{◌∙◌, sym}
use native.Mathlib.Omega.{arith}
use Rattle.jury.proofs.Searches.{faulty_here}
use Rattle.jury.proofs.rankings.first_not_weak_order.Goals as goal

pub returns-then-is_not_weak_order : goal.returns-then-is_not_weak_order
returns-then-is_not_weak_order c =
    sym (faulty_here c.args.k c.args.n c.args.ballots.now c.loop-ballot.ballot (omega arith) c.loop-ballot.invariant
    (sym c.is_not_weak_order.ensures ∙ c.if-is_not_weak_order.true))
