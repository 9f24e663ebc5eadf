-- `trustee_gates::table::copy_pieces` meets its contract: the entries of the first p trustees are copied.
-- Assumes nothing.
use mathlib.Core.Path.{◌≡◌}
use lib.ListN.{take, drop}
use Rattle.trustee_shares.specs.Views.{piece}
use Rattle.trustee_gates.specs.inner.Tables.{each_puts}
use Rattle.trustee_gates.proofs.table.copy_pieces.Given as goal

abbrev pub invariant-loop-p : goal.invariant-loop-p
invariant-loop-p l = l.to ≡ each_puts l.p l.room l.into (λ q. take l.count (drop l.at (piece l.size l.from q))) l.initial.to
