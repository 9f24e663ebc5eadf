-- `gate_adders::adder::increment` meets its contract: its three gates are the block's.
-- Assumes nothing.
use Rattle.gate_words.specs.Adder.{increment}
use Rattle.gate_words.proofs.Emitting.{copy_wrote, not_wrote, wrote_three, room_second, room_third}
use Rattle.gate_adders.proofs.adder.increment.Goals as goal

pub emit-second-requires : goal.emit-second-requires
emit-second-requires c = room_second _ _ _ _ _ c.emit-first.ensures c.requires

pub emit-requires : goal.emit-requires
emit-requires c = room_third _ _ _ _ _ _ _ _ c.emit-first.ensures c.emit-second.ensures c.requires

pub returns : goal.returns
unfolding increment
returns c =
    let e1 = c.emit-first in
    let e2 = c.emit-second in
    let e3 = c.emit in
    wrote_three _ _ _ _ _ _ _ _ _ _ _
    (not_wrote _ _ _ _ _ _ _ e1.ensures)
    (copy_wrote _ _ _ _ _ _ _ e2.ensures)
    (copy_wrote _ _ _ _ _ _ _ e3.ensures)
