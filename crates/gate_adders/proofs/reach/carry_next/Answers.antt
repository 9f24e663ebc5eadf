-- `gate_adders::reach::carry_next` meets its contract: two gates.
-- Assumes nothing.
use mathlib.Core.Path.{refl}
use native.Mathlib.Omega.{arith}
use Rattle.gate_words.specs.Reach.{carries}
use Rattle.gate_words.proofs.Writing.{wrote_both}
use Rattle.gate_words.proofs.Emitting.{xor_wrote, mux_wrote}
use Rattle.gate_words.proofs.Standing.{stands, stands_after}
use Rattle.gate_adders.proofs.reach.carry_next.Goals as goal

pub emit-requires : goal.emit-requires
emit-requires c = (stands_after c.args.w c.args.table.now _
    c.emit-differ.new.table c.emit-differ.result _ 1 1
    c.emit-differ.ensures refl
    (stands c.args.w c.args.w.wire _ _ refl (omega arith)
    c.requires)).left

pub returns : goal.returns
unfolding carries
returns c =
    let a = c.args in
    wrote_both a.w a.table.now _ c.emit-differ.new.table c.emit-differ.result _ _ _
    (xor_wrote a.w a.table.now c.emit-differ.new.table
    c.emit-differ.result a.x a.y 0 c.emit-differ.ensures)
    (mux_wrote c.emit-differ.result c.emit-differ.new.table
    c.emit.new.table c.emit.result a.w.wire a.carry a.x
    c.emit.ensures)
