-- `jury::rankings::Ranking::neither_after_nor_before` meets its contract: no candidate before l
-- is the one.
-- Assumes nothing.
use mathlib.Core.Path.{◌≡◌}
use mathlib.Core.Bool.{false, not, ◌&&◌}
use Rattle.basics.specs.Below.{some_below}
use Rattle.jury.specs.Rankings.{before}
use Rattle.jury.proofs.rankings.Ranking.neither_after_nor_before.Given as goal

abbrev pub invariant-loop-l : goal.invariant-loop-l
invariant-loop-l l =
    let is = before l.self.candidates l.self.ballots.now l.self.ballot in
    some_below l.l (λ m. not (is l.i m) && not (is m l.j)) ≡ false
