-- `rule_schulze::votes::row_of` meets its contract: below j the row has the votes.
-- Assumes nothing.
use mathlib.Core.Path.{◌≡◌}
use Prim.Native.Nat.{ℕ, ◌<◌}
use lib.ListN.{length, get_or}
use Rattle.jury.specs.Shape.{most_candidates}
use Rattle.rule_schulze.specs.Votes.{votes}
use Rattle.rule_schulze.proofs.votes.row_of.Given as goal

abbrev pub invariant-loop-j : goal.invariant-loop-j
invariant-loop-j l = (length l.row ≡ most_candidates) × ((m : ℕ) → m < l.j → get_or l.row m 0 ≡ votes l.k l.n l.ballots l.i m)
