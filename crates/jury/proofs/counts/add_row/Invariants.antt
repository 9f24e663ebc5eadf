-- `jury::counts::add_row` meets its contract: the counts below g have their bytes added, the others are unchanged.
-- Assumes nothing.
use mathlib.Core.Path.{◌≡◌}
use Prim.Native.Nat.{◌+◌}
use lib.ListN.{get_or}
use Rattle.basics.specs.Lists.{tabulate}
use Rattle.basics.proofs.Tabulate.{up_to}
use Rattle.jury.proofs.counts.add_row.Given as goal

abbrev pub invariant-loop-g : goal.invariant-loop-g
invariant-loop-g l =
    l.counts ≡ tabulate 7 (up_to l.g (λ g. get_or l.initial.counts g 0 + get_or l.row g 0) (λ g. get_or l.initial.counts g 0))
