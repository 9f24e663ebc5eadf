-- `rule_schulze::votes::matrix` meets its contract: the rows below i have the votes.
-- Assumes nothing.
use mathlib.Core.Path.{◌≡◌}
use Prim.Native.Nat.{ℕ, ◌<◌}
use lib.ListN.{length}
use Rattle.jury.specs.Shape.{most_candidates}
use Rattle.rule_schulze.specs.inner.Tables.{entry}
use Rattle.rule_schulze.specs.Votes.{votes}
use Rattle.rule_schulze.proofs.votes.matrix.Given as goal

abbrev pub invariant-loop-i : goal.invariant-loop-i
invariant-loop-i l = (length l.table ≡ most_candidates)
    × ((a m : ℕ) → a < l.i → m < l.k → entry l.table a m ≡ votes l.k l.n l.ballots a m)
