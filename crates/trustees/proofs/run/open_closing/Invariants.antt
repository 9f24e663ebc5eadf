-- `trustees::run::open_closing` meets its contract: below j the bytes are the opened bits, and from j on they are 0.
-- Assumes nothing.
use mathlib.Core.Path.{◌≡◌}
use Prim.Native.Nat.{◌+◌}
use Rattle.jury.specs.Shape.{most_candidates}
use Rattle.basics.specs.Lists.{tabulate}
use Rattle.basics.proofs.Tabulate.{up_to}
use Rattle.trustee_shares.specs.Shares.{opened, part}
use Rattle.trustee_shares.specs.Views.{piece}
use Rattle.trustees.proofs.run.open_closing.Given as goal

abbrev pub invariant-loop-j : goal.invariant-loop-j
invariant-loop-j l = l.closing ≡ tabulate most_candidates
    (up_to l.j (λ i. opened l.t (λ p. part (piece l.size l.published p) (l.first + i))) (λ i. 0))
