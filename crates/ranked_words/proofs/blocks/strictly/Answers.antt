-- `ranked_words::blocks::strictly` meets its contract: the lowest digits, the differences of the others, then the
-- comparison.
-- Assumes nothing.
use mathlib.Core.Path.{◌≡◌, refl, ap}
use mathlib.Core.List.{[], ◌∷◌}
use Prim.Native.Nat.{ℕ, ◌+◌, ◌*◌}
use native.Mathlib.Omega.{arith}
use Rattle.gate_words.specs.Comparison.{differences, above}
use Rattle.gate_words.specs.Gates.{and_of, xor_of}
use Rattle.gate_words.proofs.Laws.{length_differences}
use Rattle.gate_words.proofs.Emitting.{and_wrote, xor_wrote}
use Rattle.gate_words.proofs.Writing.{wrote_both}
use Rattle.gate_words.proofs.Standing.{Stands, stands, stands_after, room_of, wrote_then}
use Rattle.ranked_circuit.specs.Blocks.{strictly}
use Rattle.ranked_words.proofs.blocks.strictly.Goals as goal
use Rattle.ranked_words.proofs.blocks.strictly.Goals.{After-differences-differ, After-emit-first, After-emit-lowest}

one : (c : After-emit-lowest) → Stands c.emit-lowest.result (c.args.w.wire + 1) (1 + 2 * c.args.digits)
one c =
    let a = c.args in
    stands_after a.w a.table.now _ c.emit-lowest.new.table c.emit-lowest.result _ 1 (1 + 2 * a.digits) c.emit-lowest.ensures refl
    (stands a.w a.w.wire _ _ refl (omega arith) c.requires.room)

pub emit-first-requires : goal.emit-first-requires
emit-first-requires c = room_of c.emit-lowest.result _ _ _ (one (goal.at.emit-first-requires c).After-emit-lowest) (omega arith)

two : (c : After-emit-first) → Stands c.emit-first.result (c.args.w.wire + 1 + 1) (2 * c.args.digits)
two c =
    stands_after c.emit-lowest.result c.emit-lowest.new.table _ c.emit-first.new.table c.emit-first.result _ 1
    (2 * c.args.digits) c.emit-first.ensures refl (one c.before.before.before.before)

pub differences-differ-requires : goal.differences-differ-requires
differences-differ-requires c = record {
  room = room_of c.emit-first.result _ _ _ (two (goal.at.differences-differ-requires c).After-emit-first) (omega arith);
  first_below = omega (arith, c.requires.first_below, (two (goal.at.differences-differ-requires c).After-emit-first).place);
  second_below = omega (arith, c.requires.second_below, (two (goal.at.differences-differ-requires c).After-emit-first).place);
}

three : (c : After-differences-differ)
    → Stands c.differences-differ.result
    (c.args.w.wire + 1 + 1 + c.args.digits)
    c.args.digits
three c =
    let a = c.args in
    let t = two c.before.before.before.before in
    stands_after c.emit-first.result c.emit-first.new.table _ c.differences-differ.new.table c.differences-differ.result _
    a.digits a.digits c.differences-differ.ensures
    (length_differences (a.x + 1) (a.y + 1) a.digits)
    (stands c.emit-first.result (a.w.wire + 1 + 1) _ _ t.place (omega arith) t.left)

pub above-requires : goal.above-requires
above-requires c = record {
  room = (three (goal.at.above-requires c).After-differences-differ).left;
  first_below = omega (arith, (three (goal.at.above-requires c).After-differences-differ).place);
  second_below = omega (arith, c.requires.first_below, (three (goal.at.above-requires c).After-differences-differ).place);
}

pub returns : goal.returns
unfolding strictly
returns c = let a = c.args in
    let n = a.w.wire in
    let e : c.differences-differ.result.wire ≡ n + 2 + a.digits = omega (arith, (three (goal.at.returns c).After-differences-differ).place) in
    wrote_both a.w a.table.now (xor_of a.x a.y ∷ []) c.emit-lowest.new.table c.emit-lowest.result _
    c.above.new.table c.above.result
    (xor_wrote a.w a.table.now c.emit-lowest.new.table c.emit-lowest.result a.x a.y 0 c.emit-lowest.ensures)
    (wrote_both c.emit-lowest.result c.emit-lowest.new.table (and_of a.x n ∷ []) c.emit-first.new.table
    c.emit-first.result _ c.above.new.table c.above.result
    (and_wrote c.emit-lowest.result c.emit-lowest.new.table c.emit-first.new.table c.emit-first.result a.x n 0 c.emit-first.ensures)
    (wrote_then c.emit-first.result c.emit-first.new.table (differences (a.x + 1) (a.y + 1) a.digits)
    c.differences-differ.new.table c.differences-differ.result _ _ c.above.new.table c.above.result
    c.differences-differ.ensures c.above.ensures
    (ap (λ (m : ℕ). above m (n + 2) (a.x + 1) (n + 1) a.digits) e)))
