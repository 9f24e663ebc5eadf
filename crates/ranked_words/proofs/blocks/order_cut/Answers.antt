-- `ranked_words::blocks::order_cut` meets its contract: one chain, or the low digits, the high ones, and the gate
-- that decides.
-- Assumes nothing.
use mathlib.Core.Path.{◌≡◌, ◌∙◌, refl, ap}
use mathlib.Core.List.{◌++◌}
use Prim.Native.Nat.{ℕ, suc, ◌+◌, ◌-◌, ◌*◌}
use native.Mathlib.Omega.{arith}
use Rattle.gate_words.specs.Choice.{chain_end}
use Rattle.gate_words.specs.Halves.{compare_halves, unequal_at, above_at}
use Rattle.gate_words.proofs.Laws.{length_compare_halves}
use Rattle.gate_words.proofs.Emitting.{mux_wrote}
use Rattle.gate_words.proofs.Writing.{room_less, wrote_as}
use Rattle.gate_words.proofs.Standing.{Stands, stands, stands_after, wrote_then, one_gate}
use Rattle.ranked_circuit.specs.Blocks.{order, order_end}
use Rattle.ranked_circuit.proofs.BlockLaws.{length_order}
use Rattle.ranked_words.proofs.Cutting.{cut_zero, cut_some}
use Rattle.ranked_words.proofs.blocks.order_cut.Goals as goal
use Rattle.ranked_words.proofs.blocks.order_cut.Goals.{After-compare_halves-compared, After-order-told, Else-cut-eq0}

pub returns-then-cut-eq0 : goal.returns-then-cut-eq0
returns-then-cut-eq0 c = let a = c.args in
    wrote_as a.w a.table.now _ _ c.order.new.table c.order.result
    (cut_zero a.w.wire a.x a.y a.digits a.cut c.if-cut-eq0.true) c.order.ensures

some : (c : Else-cut-eq0) → c.args.cut ≡ suc (c.args.cut - 1)
some c = let n = c.if-cut-eq0.false in omega arith

one : (c : After-order-told) → Stands c.order-told.result
    (c.args.w.wire + 2 * (c.args.digits - c.args.cut)) (3 * (c.args.cut - 1) + 2)
one c =
    let a = c.args in
    let no = c.if-cut-eq0.false in
    let q = c.requires.within in
    stands_after a.w a.table.now _ c.order-told.new.table c.order-told.result _ (2 * (c.args.digits - c.args.cut))
    (3 * (a.cut - 1) + 2) c.order-told.ensures (length_order a.w.wire a.x a.y ((c.args.digits - c.args.cut)))
    (stands a.w a.w.wire _ _ refl (omega arith) c.requires.room)

pub unequal_at-differ-requires : goal.unequal_at-differ-requires
unequal_at-differ-requires c = omega (arith, (one (goal.at.unequal_at-differ-requires c).After-order-told).left.small)

pub above_at-over-requires : goal.above_at-over-requires
above_at-over-requires c = omega (arith, (one (goal.at.above_at-over-requires c).After-order-told).left.small)

pub compare_halves-compared-requires : goal.compare_halves-compared-requires
compare_halves-compared-requires c = let e = some (goal.at.compare_halves-compared-requires c).Else-cut-eq0 in
    let w = c.requires.within in
    let p = (one (goal.at.compare_halves-compared-requires c).After-order-told).place in
    record {
      room = room_less c.order-told.result _ _ (omega arith) (one (goal.at.compare_halves-compared-requires c).After-order-told).left;
      first_below = omega (arith, c.requires.first_below);
      second_below = omega (arith, c.requires.second_below);
    }

two : (c : After-compare_halves-compared)
    → Stands c.compare_halves-compared.result
    (c.args.w.wire + 2 * (c.args.digits - c.args.cut)
    + (3 * (c.args.cut - 1) + 1)) 1
two c =
    let a = c.args in
    let h = a.cut - 1 in
    let t = one c.before.before.before.before.before.before in
    stands_after c.order-told.result c.order-told.new.table _ c.compare_halves-compared.new.table
    c.compare_halves-compared.result _ (3 * h + 1) 1 c.compare_halves-compared.ensures
    (length_compare_halves c.order-told.result.wire (a.x + (c.args.digits - c.args.cut) + 1)
    (a.y + (c.args.digits - c.args.cut) + 1) h 0 ∙ omega arith)
    (stands c.order-told.result _ _ _ t.place (omega arith) t.left)

pub emit-requires : goal.emit-requires
emit-requires c = (two (goal.at.emit-requires c).After-compare_halves-compared).left

same_high : (n x y h n₁ x₁ y₁ : ℕ) → n ≡ n₁ → x ≡ x₁ → y ≡ y₁ → compare_halves n x y h 0 ≡ compare_halves n₁ x₁ y₁ h 0
same_high n x y h n₁ x₁ y₁ en ex ey = rw (en, ex, ey)

end_is : (n x w end : ℕ) → end ≡ chain_end (n + w) x w → end ≡ order_end n x w
end_is n x w end e = unfold order_end in e

pub returns : goal.returns
returns c = let a = c.args in
    let n = a.w.wire in
    let l = a.digits - a.cut in
    let h = a.cut - 1 in
    let N = c.order-told.result.wire in
    let p = (one (goal.at.returns c).After-order-told).place in
    let X : a.x + l + 1 ≡ a.x + suc l = omega arith in
    let Y : a.y + l + 1 ≡ a.y + suc l = omega arith in
    wrote_as a.w a.table.now _ _ c.emit.new.table c.emit.result
    (cut_some n a.x a.y a.digits a.cut l h
    (some (goal.at.returns c).Else-cut-eq0) refl)
    (wrote_then a.w a.table.now
    (order n a.x a.y l ++ compare_halves (n + 2 * l) (a.x + suc l) (a.y + suc l) h 0)
    c.compare_halves-compared.new.table c.compare_halves-compared.result _ _ c.emit.new.table c.emit.result
    (wrote_then a.w a.table.now (order n a.x a.y l) c.order-told.new.table c.order-told.result _ _
    c.compare_halves-compared.new.table c.compare_halves-compared.result c.order-told.ensures c.compare_halves-compared.ensures
    (same_high N (a.x + l + 1) (a.y + l + 1) h (n + 2 * l) (a.x + suc l) (a.y + suc l) p X Y))
    (mux_wrote c.compare_halves-compared.result c.compare_halves-compared.new.table c.emit.new.table c.emit.result
    c.unequal_at-differ.result c.above_at-over.result c.chain_end-end.result c.emit.ensures)
    (one_gate 7 (c.unequal_at-differ.ensures ∙ ap (λ (m : ℕ). unequal_at m h) p)
    (c.above_at-over.ensures ∙ ap (λ (m : ℕ). above_at m (a.x + l + 1) h) p
    ∙ ap (λ (m : ℕ). above_at (n + 2 * l) m h) X)
    (end_is n a.x l c.chain_end-end.result c.chain_end-end.ensures)))
