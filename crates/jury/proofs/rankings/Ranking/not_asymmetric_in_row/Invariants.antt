-- `jury::rankings::Ranking::not_asymmetric_in_row` meets its contract: before column j, no byte of the
-- row and its opposite are both 1.
-- Assumes nothing.
use mathlib.Core.Path.{◌≡◌}
use Rattle.std.specs.Prelude.{None}
use Rattle.jury.specs.Rankings.{first_over, not_asymmetric_at}
use Rattle.jury.proofs.rankings.Ranking.not_asymmetric_in_row.Given as goal

abbrev pub invariant-loop-j : goal.invariant-loop-j
invariant-loop-j l = first_over l.j (not_asymmetric_at l.self.candidates l.self.ballots.now l.self.ballot l.i) ≡ None
