-- `jury::rankings::Ranking::not_asymmetric` meets its contract: in the rows before i no byte and its
-- opposite are both 1.
-- Assumes nothing.
use mathlib.Core.Path.{◌≡◌}
use Rattle.std.specs.Prelude.{None}
use Rattle.jury.specs.Rankings.{first_over, not_asymmetric_in_row}
use Rattle.jury.proofs.rankings.Ranking.not_asymmetric.Given as goal

abbrev pub invariant-loop-i : goal.invariant-loop-i
invariant-loop-i l = first_over l.i (not_asymmetric_in_row l.self.candidates l.self.ballots.now l.self.ballot) ≡ None
