-- `graded_contest::tie_break::answer` meets its contract: three gates.
-- Assumes nothing.
use mathlib.Core.Path.{refl}
use Prim.Native.Nat.{◌+◌}
use native.Mathlib.Omega.{arith}
use Rattle.gate_words.proofs.Writing.{wrote_both}
use Rattle.gate_words.proofs.Emitting.{or_wrote, xor_wrote, mux_wrote}
use Rattle.gate_words.proofs.Standing.{Stands, stands, stands_after, room_of}
use Rattle.graded_contest.proofs.tie_break.answer.Goals as goal
use Rattle.graded_contest.proofs.tie_break.answer.Goals.{After-emit-differ, After-emit-upper}

after1 : (c : After-emit-upper) → Stands c.emit-upper.result (c.args.w.wire + 1) 2
after1 c =
    stands_after c.args.w c.args.table.now _
    c.emit-upper.new.table c.emit-upper.result _ 1 2 c.emit-upper.ensures refl
    (stands c.args.w c.args.w.wire _ _ refl
    (omega arith) c.requires.room)

pub emit-differ-requires : goal.emit-differ-requires
emit-differ-requires c = room_of c.emit-upper.result _ _ _ (after1 (goal.at.emit-differ-requires c).After-emit-upper) (omega arith)

after2 : (c : After-emit-differ) → Stands c.emit-differ.result (c.args.w.wire + 1 + 1) 1
after2 c =
    stands_after c.emit-upper.result
    c.emit-upper.new.table _ c.emit-differ.new.table c.emit-differ.result _ 1 1
    c.emit-differ.ensures refl (after1 c.before.before.before.before)

pub emit-requires : goal.emit-requires
emit-requires c = room_of c.emit-differ.result _ _ _ (after2 (goal.at.emit-requires c).After-emit-differ) (omega arith)

pub returns : goal.returns
returns c = let a = c.args in
    (wrote_both a.w a.table.now _ c.emit-upper.new.table
    c.emit-upper.result _ _ _
    (mux_wrote a.w a.table.now c.emit-upper.new.table
    c.emit-upper.result a.e a.s (a.q + 7)
    c.emit-upper.ensures)
    (wrote_both c.emit-upper.result
    c.emit-upper.new.table _ c.emit-differ.new.table
    c.emit-differ.result _ _ _
    (or_wrote c.emit-upper.result
    c.emit-upper.new.table c.emit-differ.new.table
    c.emit-differ.result a.e (a.q + 6) 0 c.emit-differ.ensures)
    (xor_wrote c.emit-differ.result c.emit-differ.new.table
    c.emit.new.table c.emit.result (a.q + 13) (a.q + 12) 0
    c.emit.ensures)))
