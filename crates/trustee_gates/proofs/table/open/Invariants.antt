-- `trustee_gates::table::open` meets its contract: after p turns the entries of the first p trustees are added.
-- Assumes nothing.
use mathlib.Core.Path.{◌≡◌}
use Rattle.trustee_shares.specs.Shares.{opened, part}
use Rattle.trustee_shares.specs.Views.{piece}
use Rattle.trustee_gates.proofs.table.open.Given as goal

abbrev pub invariant-loop-p : goal.invariant-loop-p
invariant-loop-p l = l.sum ≡ opened l.p (λ q. part (piece l.size l.table q) l.index)
