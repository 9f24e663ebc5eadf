-- `rule_schulze::rule::detour_from` meets its contract: below j the row has the larger of the strength so far and
-- that of the path over l.
-- Assumes nothing.
use mathlib.Core.Path.{◌≡◌}
use Prim.Native.Nat.{ℕ, min, max, ◌<◌}
use lib.ListN.{length, get_or}
use Rattle.jury.specs.Shape.{most_candidates}
use Rattle.rule_schulze.specs.inner.Tables.{entry}
use Rattle.rule_schulze.proofs.rule.detour_from.Given as goal

abbrev pub invariant-loop-j : goal.invariant-loop-j
invariant-loop-j l = (length l.row ≡ most_candidates)
    × ((m : ℕ) → m < l.j → get_or l.row m 0 ≡ max (entry l.paths l.i m) (min (entry l.paths l.i l.l) (entry l.paths l.l m)))
