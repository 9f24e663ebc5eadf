-- `graded_contest::tie_break::lower_first` meets its contract: four gates.
-- Assumes nothing.
use mathlib.Core.Path.{refl}
use Prim.Native.Nat.{◌+◌}
use native.Mathlib.Omega.{arith}
use Rattle.gate_words.proofs.Writing.{wrote_both}
use Rattle.gate_words.proofs.Emitting.{not_wrote, xor_wrote, mux_wrote}
use Rattle.gate_words.proofs.Standing.{Stands, stands, stands_after, room_of}
use Rattle.graded_contest.proofs.tie_break.lower_first.Goals as goal
use Rattle.graded_contest.proofs.tie_break.lower_first.Goals.{After-emit-apart, After-emit-reaches, After-emit-worse}

after1 : (c : After-emit-reaches) → Stands c.emit-reaches.result (c.args.w.wire + 1) 3
after1 c =
    stands_after c.args.w c.args.table.now _
    c.emit-reaches.new.table c.emit-reaches.result _ 1 3 c.emit-reaches.ensures refl
    (stands c.args.w c.args.w.wire _ _ refl
    (omega arith) c.requires.room)

pub emit-worse-requires : goal.emit-worse-requires
emit-worse-requires c = room_of c.emit-reaches.result _ _ _ (after1 (goal.at.emit-worse-requires c).After-emit-reaches) (omega arith)

after2 : (c : After-emit-worse) → Stands c.emit-worse.result (c.args.w.wire + 1 + 1) 2
after2 c =
    stands_after c.emit-reaches.result
    c.emit-reaches.new.table _ c.emit-worse.new.table c.emit-worse.result _ 1 2
    c.emit-worse.ensures refl (after1 c.before.before.before.before)

pub emit-apart-requires : goal.emit-apart-requires
emit-apart-requires c = room_of c.emit-worse.result _ _ _ (after2 (goal.at.emit-apart-requires c).After-emit-worse) (omega arith)

after3 : (c : After-emit-apart) → Stands c.emit-apart.result (c.args.w.wire + 1 + 1 + 1) 1
after3 c =
    stands_after c.emit-worse.result
    c.emit-worse.new.table _ c.emit-apart.new.table c.emit-apart.result _ 1 1
    c.emit-apart.ensures refl (after2 c.before.before.before.before)

pub emit-requires : goal.emit-requires
emit-requires c = room_of c.emit-apart.result _ _ _ (after3 (goal.at.emit-requires c).After-emit-apart) (omega arith)

pub returns : goal.returns
returns c = let a = c.args in
    (wrote_both a.w a.table.now _ c.emit-reaches.new.table
    c.emit-reaches.result _ _ _
    (mux_wrote a.w a.table.now c.emit-reaches.new.table
    c.emit-reaches.result a.s a.j a.k
    c.emit-reaches.ensures)
    (wrote_both c.emit-reaches.result
    c.emit-reaches.new.table _
    c.emit-worse.new.table
    c.emit-worse.result _ _ _
    (not_wrote c.emit-reaches.result
    c.emit-reaches.new.table
    c.emit-worse.new.table
    c.emit-worse.result a.f 0 0
    c.emit-worse.ensures)
    (wrote_both c.emit-worse.result
    c.emit-worse.new.table _
    c.emit-apart.new.table c.emit-apart.result _ _ _
    (xor_wrote c.emit-worse.result
    c.emit-worse.new.table c.emit-apart.new.table
    c.emit-apart.result a.f a.g 0 c.emit-apart.ensures)
    (mux_wrote c.emit-apart.result c.emit-apart.new.table
    c.emit.new.table c.emit.result (a.q + 2) a.q (a.q + 1)
    c.emit.ensures))))
