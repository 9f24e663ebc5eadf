-- `graded_contest::tie_break::both_say` meets its contract: five gates.
-- Assumes nothing.
use mathlib.Core.Path.{refl}
use Prim.Native.Nat.{◌+◌}
use native.Mathlib.Omega.{arith}
use Rattle.gate_words.proofs.Writing.{wrote_both}
use Rattle.gate_words.proofs.Emitting.{and_wrote, xor_wrote, mux_wrote}
use Rattle.gate_words.proofs.Standing.{Stands, stands, stands_after, room_of}
use Rattle.graded_contest.proofs.tie_break.both_say.Goals as goal
use Rattle.graded_contest.proofs.tie_break.both_say.Goals.{After-emit-both, After-emit-one, After-emit-some, After-emit-upper}

after1 : (c : After-emit-both) → Stands c.emit-both.result (c.args.w.wire + 1) 4
after1 c =
    stands_after c.args.w c.args.table.now _
    c.emit-both.new.table c.emit-both.result _ 1 4 c.emit-both.ensures refl
    (stands c.args.w c.args.w.wire _ _ refl
    (omega arith) c.requires.room)

pub emit-one-requires : goal.emit-one-requires
emit-one-requires c = room_of c.emit-both.result _ _ _ (after1 (goal.at.emit-one-requires c).After-emit-both) (omega arith)

after2 : (c : After-emit-one) → Stands c.emit-one.result (c.args.w.wire + 1 + 1) 3
after2 c =
    stands_after c.emit-both.result
    c.emit-both.new.table _ c.emit-one.new.table c.emit-one.result _ 1 3
    c.emit-one.ensures refl (after1 c.before.before.before.before)

pub emit-some-requires : goal.emit-some-requires
emit-some-requires c = room_of c.emit-one.result _ _ _ (after2 (goal.at.emit-some-requires c).After-emit-one) (omega arith)

after3 : (c : After-emit-some) → Stands c.emit-some.result (c.args.w.wire + 1 + 1 + 1) 2
after3 c =
    stands_after c.emit-one.result
    c.emit-one.new.table _ c.emit-some.new.table c.emit-some.result _ 1 2
    c.emit-some.ensures refl (after2 c.before.before.before.before)

pub emit-upper-requires : goal.emit-upper-requires
emit-upper-requires c = room_of c.emit-some.result _ _ _ (after3 (goal.at.emit-upper-requires c).After-emit-some) (omega arith)

after4 : (c : After-emit-upper) → Stands c.emit-upper.result (c.args.w.wire + 1 + 1 + 1 + 1) 1
after4 c =
    stands_after c.emit-some.result
    c.emit-some.new.table _ c.emit-upper.new.table c.emit-upper.result _ 1 1
    c.emit-upper.ensures refl (after3 c.before.before.before.before)

pub emit-requires : goal.emit-requires
emit-requires c = room_of c.emit-upper.result _ _ _ (after4 (goal.at.emit-requires c).After-emit-upper) (omega arith)

pub returns : goal.returns
returns c = let a = c.args in
    (wrote_both a.w a.table.now _ c.emit-both.new.table
    c.emit-both.result _ _ _
    (and_wrote a.w a.table.now c.emit-both.new.table
    c.emit-both.result a.e1 a.e2 0
    c.emit-both.ensures)
    (wrote_both c.emit-both.result
    c.emit-both.new.table _
    c.emit-one.new.table
    c.emit-one.result _ _ _
    (xor_wrote c.emit-both.result
    c.emit-both.new.table
    c.emit-one.new.table
    c.emit-one.result a.e1 a.e2 0
    c.emit-one.ensures)
    (wrote_both c.emit-one.result
    c.emit-one.new.table _
    c.emit-some.new.table
    c.emit-some.result _ _ _
    (xor_wrote c.emit-one.result
    c.emit-one.new.table
    c.emit-some.new.table
    c.emit-some.result (a.q + 5) (a.q + 4) 0
    c.emit-some.ensures)
    (wrote_both c.emit-some.result
    c.emit-some.new.table _
    c.emit-upper.new.table c.emit-upper.result _ _ _
    (mux_wrote c.emit-some.result
    c.emit-some.new.table c.emit-upper.new.table
    c.emit-upper.result a.e2 a.s2 a.s1
    c.emit-upper.ensures)
    (xor_wrote c.emit-upper.result c.emit-upper.new.table
    c.emit.new.table c.emit.result a.s1 a.s2 0
    c.emit.ensures)))))
