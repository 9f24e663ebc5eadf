-- `jury::rankings::Ranking::is_not_weak_order` meets its contract: no candidate before i shows a fault.
-- Assumes nothing.
use mathlib.Core.Path.{◌≡◌}
use mathlib.Core.Bool.{false}
use Rattle.basics.specs.Below.{some_below}
use Rattle.jury.specs.Rankings.{not_weak_order_after}
use Rattle.jury.proofs.rankings.Ranking.is_not_weak_order.Given as goal

abbrev pub invariant-loop-i : goal.invariant-loop-i
invariant-loop-i l = some_below l.i (not_weak_order_after l.self.candidates l.self.ballots.now l.self.ballot) ≡ false
