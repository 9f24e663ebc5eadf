-- `rule_schulze::rule::links` meets its contract: the rows below i are those of the links.
-- Assumes nothing.
use mathlib.Core.Path.{◌≡◌}
use Prim.Native.Nat.{ℕ, ◌<◌}
use lib.ListN.{length}
use Rattle.jury.specs.Shape.{most_candidates}
use Rattle.rule_schulze.specs.inner.Tables.{entry}
use Rattle.rule_schulze.specs.Schulze.{link}
use Rattle.rule_schulze.proofs.rule.links.Given as goal

abbrev pub invariant-loop-i : goal.invariant-loop-i
invariant-loop-i l = (length l.links ≡ most_candidates) × ((a m : ℕ) → a < l.i → m < l.k → entry l.links a m ≡ link (entry l.votes) a m)
