-- `graded_writer::merge::select_flags` meets its contract: three gates.
-- Assumes nothing.
use mathlib.Core.Path.{refl}
use Prim.Native.Nat.{◌+◌}
use native.Mathlib.Omega.{arith}
use Rattle.gate_words.proofs.Emitting.{and_wrote, xor_wrote, not_wrote, wrote_three}
use Rattle.graded_circuit.specs.Merge.{select_flags}
use Rattle.gate_words.proofs.Standing.{Stands, stands, stands_after, room_of}
use Rattle.graded_writer.proofs.merge.select_flags.Goals as goal
use Rattle.graded_writer.proofs.merge.select_flags.Goals.{After-emit-first, After-emit-right}

one : (c : After-emit-first) → Stands c.emit-first.result (c.args.w.wire + 1) 2
one c =
    stands_after c.args.w c.args.table.now _
    c.emit-first.new.table c.emit-first.result _ 1 2 c.emit-first.ensures refl
    (stands c.args.w c.args.w.wire _ _ refl
    (omega arith) c.requires.room)

pub emit-right-requires : goal.emit-right-requires
emit-right-requires c = room_of c.emit-first.result _ _ _ (one (goal.at.emit-right-requires c).After-emit-first) (omega arith)

two : (c : After-emit-right) → Stands c.emit-right.result (c.args.w.wire + 1 + 1) 1
two c =
    stands_after c.emit-first.result
    c.emit-first.new.table _ c.emit-right.new.table c.emit-right.result _ 1 1
    c.emit-right.ensures refl (one c.before.before.before.before)

pub emit-requires : goal.emit-requires
emit-requires c = (two (goal.at.emit-requires c).After-emit-right).left

pub returns : goal.returns
unfolding select_flags
returns c = let a = c.args in
    let q = a.q in
    wrote_three a.w a.table.now _ c.emit-first.new.table c.emit-first.result _
    c.emit-right.new.table c.emit-right.result _ c.emit.new.table c.emit.result
    (and_wrote a.w a.table.now c.emit-first.new.table c.emit-first.result q (q + 1) 0 c.emit-first.ensures)
    (not_wrote c.emit-first.result c.emit-first.new.table c.emit-right.new.table c.emit-right.result
    (q + 2) 0 0 c.emit-right.ensures)
    (xor_wrote c.emit-right.result c.emit-right.new.table c.emit.new.table c.emit.result
    q (q + 3) 0 c.emit.ensures)
