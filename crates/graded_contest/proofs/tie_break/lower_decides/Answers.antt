-- `graded_contest::tie_break::lower_decides` meets its contract: four gates.
-- Assumes nothing.
use mathlib.Core.Path.{refl}
use Prim.Native.Nat.{◌+◌}
use native.Mathlib.Omega.{arith}
use Rattle.gate_words.proofs.Writing.{wrote_both}
use Rattle.gate_words.proofs.Emitting.{not_wrote, and_wrote}
use Rattle.gate_words.proofs.Standing.{Stands, stands, stands_after, room_of}
use Rattle.graded_contest.proofs.tie_break.lower_decides.Goals as goal
use Rattle.graded_contest.proofs.tie_break.lower_decides.Goals.{After-emit-against, After-emit-clash, After-emit-equal}

after1 : (c : After-emit-equal) → Stands c.emit-equal.result (c.args.w.wire + 1) 3
after1 c =
    stands_after c.args.w c.args.table.now _
    c.emit-equal.new.table c.emit-equal.result _ 1 3 c.emit-equal.ensures refl
    (stands c.args.w c.args.w.wire _ _ refl
    (omega arith) c.requires.room)

pub emit-against-requires : goal.emit-against-requires
emit-against-requires c = room_of c.emit-equal.result _ _ _ (after1 (goal.at.emit-against-requires c).After-emit-equal) (omega arith)

after2 : (c : After-emit-against) → Stands c.emit-against.result (c.args.w.wire + 1 + 1) 2
after2 c =
    stands_after c.emit-equal.result
    c.emit-equal.new.table _ c.emit-against.new.table c.emit-against.result _ 1 2
    c.emit-against.ensures refl (after1 c.before.before.before.before)

pub emit-clash-requires : goal.emit-clash-requires
emit-clash-requires c = room_of c.emit-against.result _ _ _ (after2 (goal.at.emit-clash-requires c).After-emit-against) (omega arith)

after3 : (c : After-emit-clash) → Stands c.emit-clash.result (c.args.w.wire + 1 + 1 + 1) 1
after3 c =
    stands_after c.emit-against.result
    c.emit-against.new.table _ c.emit-clash.new.table c.emit-clash.result _ 1 1
    c.emit-clash.ensures refl (after2 c.before.before.before.before)

pub emit-requires : goal.emit-requires
emit-requires c = room_of c.emit-clash.result _ _ _ (after3 (goal.at.emit-requires c).After-emit-clash) (omega arith)

pub returns : goal.returns
returns c = let a = c.args in
    (wrote_both a.w a.table.now _ c.emit-equal.new.table
    c.emit-equal.result _ _ _
    (not_wrote a.w a.table.now c.emit-equal.new.table
    c.emit-equal.result a.e 0 0
    c.emit-equal.ensures)
    (wrote_both c.emit-equal.result
    c.emit-equal.new.table _
    c.emit-against.new.table
    c.emit-against.result _ _ _
    (and_wrote c.emit-equal.result
    c.emit-equal.new.table
    c.emit-against.new.table
    c.emit-against.result (a.q + 8) (a.q + 9) 0
    c.emit-against.ensures)
    (wrote_both c.emit-against.result
    c.emit-against.new.table _
    c.emit-clash.new.table c.emit-clash.result _ _ _
    (and_wrote c.emit-against.result
    c.emit-against.new.table c.emit-clash.new.table
    c.emit-clash.result (a.q + 4) (a.q + 10) 0
    c.emit-clash.ensures)
    (and_wrote c.emit-clash.result c.emit-clash.new.table
    c.emit.new.table c.emit.result (a.q + 11) (a.q + 3) 0
    c.emit.ensures))))
