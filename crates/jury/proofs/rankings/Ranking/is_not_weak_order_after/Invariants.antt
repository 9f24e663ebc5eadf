-- `jury::rankings::Ranking::is_not_weak_order_after` meets its contract: no candidate before j shows
-- a fault.
-- Assumes nothing.
use mathlib.Core.Path.{◌≡◌}
use mathlib.Core.Bool.{false, ◌&&◌}
use Rattle.basics.specs.Below.{some_below}
use Rattle.jury.specs.Rankings.{before, neither_after_nor_before}
use Rattle.jury.proofs.rankings.Ranking.is_not_weak_order_after.Given as goal

abbrev pub invariant-loop-j : goal.invariant-loop-j
invariant-loop-j l =
    let is = before l.self.candidates l.self.ballots.now l.self.ballot l.i in
    let apart = neither_after_nor_before l.self.candidates l.self.ballots.now l.self.ballot l.i in
    some_below l.j (λ j. is j && apart j) ≡ false
