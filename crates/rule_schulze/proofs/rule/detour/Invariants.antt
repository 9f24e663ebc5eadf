-- `rule_schulze::rule::detour` meets its contract: the rows below i allow paths over l. Off the diagonal they are
-- the definition's.
-- Assumes nothing.
use mathlib.Core.Path.{◌≡◌}
use Prim.Native.Nat.{ℕ, min, max, ◌<◌}
use lib.ListN.{length}
use Rattle.jury.specs.Shape.{most_candidates}
use Rattle.rule_schulze.specs.inner.Tables.{entry}
use Rattle.rule_schulze.proofs.rule.detour.Given as goal

abbrev pub invariant-loop-i : goal.invariant-loop-i
invariant-loop-i l = (length l.after ≡ most_candidates)
    × ((a m : ℕ) → a < l.i → m < l.k → entry l.after a m ≡ max (entry l.paths a m) (min (entry l.paths a l.l) (entry l.paths l.l m)))
