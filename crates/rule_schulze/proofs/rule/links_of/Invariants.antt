-- `rule_schulze::rule::links_of` meets its contract: below j the row has the strengths of the links.
-- Assumes nothing.
use mathlib.Core.Path.{◌≡◌}
use Prim.Native.Nat.{ℕ, ◌<◌}
use lib.ListN.{length, get_or}
use Rattle.jury.specs.Shape.{most_candidates}
use Rattle.rule_schulze.specs.inner.Tables.{entry}
use Rattle.rule_schulze.specs.Schulze.{link}
use Rattle.rule_schulze.proofs.rule.links_of.Given as goal

abbrev pub invariant-loop-j : goal.invariant-loop-j
invariant-loop-j l = (length l.row ≡ most_candidates) × ((m : ℕ) → m < l.j → get_or l.row m 0 ≡ link (entry l.votes) l.i m)
