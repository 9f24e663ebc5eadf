-- `ranked_words::meeting::decide` meets its contract: four gates.
-- Assumes nothing.
use mathlib.Core.Path.{refl}
use Prim.Native.Nat.{◌+◌, ◌-◌}
use native.Mathlib.Omega.{arith}
use Rattle.gate_words.proofs.Emitting.{and_wrote, mux_wrote, wrote_four}
use Rattle.gate_words.proofs.Standing.{Stands, stands, stands_after, room_of}
use Rattle.ranked_words.proofs.meeting.decide.Goals as goal
use Rattle.ranked_words.proofs.meeting.decide.Goals.{After-emit-back, After-emit-forth}

one : (c : After-emit-forth) → Stands c.emit-forth.result (c.args.w.wire + 1) 3
one c =
    let a = c.args in
    stands_after a.w a.table.now _ c.emit-forth.new.table c.emit-forth.result _ 1 3 c.emit-forth.ensures refl
    (stands a.w a.w.wire _ _ refl (omega arith) c.requires.room)

pub emit-back-requires : goal.emit-back-requires
emit-back-requires c = room_of c.emit-forth.result _ _ _ (one (goal.at.emit-back-requires c).After-emit-forth) (omega arith)

two : (c : After-emit-back) → Stands c.emit-back.result (c.args.w.wire + 1 + 1) 2
two c =
    stands_after c.emit-forth.result c.emit-forth.new.table _ c.emit-back.new.table c.emit-back.result _ 1 2 c.emit-back.ensures refl
    (one c.before.before.before.before)

pub emit-up-requires : goal.emit-up-requires
emit-up-requires c = room_of c.emit-back.result _ _ _ (two (goal.at.emit-up-requires c).After-emit-back) (omega arith)

pub emit-requires : goal.emit-requires
emit-requires c = (stands_after c.emit-back.result c.emit-back.new.table _ c.emit-up.new.table c.emit-up.result _ 1 1
    c.emit-up.ensures refl (two (goal.at.emit-requires c).After-emit-back)).left

pub returns : goal.returns
returns c = let p₃ = c in
    let p₂ = p₃ in
    let p₁ = p₂ in
    let a = p₁.args in
    let n = a.w.wire in
    wrote_four a.w a.table.now _ p₁.emit-forth.new.table p₁.emit-forth.result _ p₂.emit-back.new.table
    p₂.emit-back.result _ p₃.emit-up.new.table p₃.emit-up.result _ c.emit.new.table c.emit.result
    (and_wrote a.w a.table.now p₁.emit-forth.new.table p₁.emit-forth.result (a.b - 2) (a.s - 1) 0 p₁.emit-forth.ensures)
    (and_wrote p₁.emit-forth.result p₁.emit-forth.new.table p₂.emit-back.new.table p₂.emit-back.result (a.b - 1)
    (n - 1) 0 p₂.emit-back.ensures)
    (mux_wrote p₂.emit-back.result p₂.emit-back.new.table p₃.emit-up.new.table p₃.emit-up.result (a.a - 1)
    a.mi n p₃.emit-up.ensures)
    (mux_wrote p₃.emit-up.result p₃.emit-up.new.table c.emit.new.table c.emit.result (a.a - 2)
    a.mj (n + 1) c.emit.ensures)
