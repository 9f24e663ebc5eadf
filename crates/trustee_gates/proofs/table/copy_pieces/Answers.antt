-- `trustee_gates::table::copy_pieces` meets its contract: the entries of the first p trustees are copied.
-- Assumes nothing.
use mathlib.Core.Path.{refl}
use Prim.Native.Nat.{◌+◌, ◌*◌}
use lib.ListN.{take, drop}
use Rattle.trustee_shares.specs.Views.{piece}
use Rattle.trustee_gates.specs.inner.Tables.{each_puts}
use Rattle.trustee_gates.proofs.Puts.{puts_many, piece_part}
use Rattle.trustee_gates.proofs.table.copy_pieces.Goals as goal

pub loop-p-init : goal.loop-p-init
unfolding each_puts
loop-p-init c = refl

pub loop-p-preserved : goal.loop-p-preserved
loop-p-preserved c =
    let a = c.args in
    let p = c.loop-p.p in
    puts_many (λ q. take a.count (drop a.at (piece a.size a.from.now q))) c.loop-p.to a.to.now _ p a.room a.into
    (take a.count (drop (p * a.size + a.at) a.from.now)) c.loop-p.invariant c.copy_part.ensures
    (piece_part a.size a.from.now p a.at a.count c.requires.source_fits)
