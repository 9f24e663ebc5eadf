-- `ranked_words::blocks::larger_if` meets its contract: an order, the "and" of both conditions, then a choice.
-- Assumes nothing.
use mathlib.Core.Path.{◌≡◌, ◌∙◌, refl, ap}
use mathlib.Core.List.{[], ◌∷◌}
use Prim.Native.Nat.{ℕ, suc, ◌+◌}
use native.Mathlib.Numerals.{add-one}
use native.Mathlib.Omega.{arith}
use Rattle.gate_words.specs.Gates.{and_of}
use Rattle.gate_words.specs.Choice.{choose}
use Rattle.gate_words.proofs.Emitting.{and_wrote}
use Rattle.gate_words.proofs.Writing.{room_less, wrote_both}
use Rattle.gate_words.proofs.Standing.{Stands, stands, stands_after, room_of, wrote_then}
use Rattle.ranked_circuit.specs.Blocks.{order_cut, order_size, cut_end, larger_if}
use Rattle.ranked_circuit.proofs.BlockLaws.{length_cut}
use Rattle.ranked_words.proofs.Cutting.{cut_end_lem}
use Rattle.ranked_words.proofs.blocks.larger_if.Goals as goal
use Rattle.ranked_words.proofs.blocks.larger_if.Goals.{After-emit-both, After-order_cut-told}

one : (c : After-order_cut-told)
    → Stands c.order_cut-told.result
    (c.args.w.wire + order_size c.args.digits c.args.cut) (1 + suc c.args.digits)
one c =
    let a = c.args in
    stands_after a.w a.table.now _ c.order_cut-told.new.table c.order_cut-told.result _
    (order_size a.digits a.cut) (1 + suc a.digits) c.order_cut-told.ensures
    (length_cut a.w.wire a.x a.y a.digits a.cut c.requires.within)
    (stands a.w a.w.wire _ _ refl (omega arith) c.requires.room)

pub chain_end-end-requires : goal.chain_end-end-requires
chain_end-end-requires c = let s = one (goal.at.chain_end-end-requires c).After-order_cut-told in
    omega (arith, s.place, s.left.small)

pub emit-both-requires : goal.emit-both-requires
emit-both-requires c = room_of c.order_cut-told.result _ _ _ (one (goal.at.emit-both-requires c).After-order_cut-told) (omega arith)

two : (c : After-emit-both) → Stands c.emit-both.result
    (c.args.w.wire
    + order_size c.args.digits c.args.cut + 1)
    (suc c.args.digits)
two c =
    stands_after c.order_cut-told.result c.order_cut-told.new.table _ c.emit-both.new.table c.emit-both.result _ 1
    (suc c.args.digits) c.emit-both.ensures refl (one c.before.before.before.before.before.before)

pub choose-requires : goal.choose-requires
choose-requires c = record {
  room = room_less c.emit-both.result _ _ (omega arith) (two (goal.at.choose-requires c).After-emit-both).left;
  first_below = omega (arith, c.requires.first_below, (two (goal.at.choose-requires c).After-emit-both).place);
  second_below = omega (arith, c.requires.second_below, (two (goal.at.choose-requires c).After-emit-both).place);
}

pub returns : goal.returns
unfolding larger_if
returns c = let a = c.args in
    let n = a.w.wire in
    let p = (one (goal.at.returns c).After-order_cut-told).place in
    let end : c.chain_end-end.result ≡ cut_end n a.x a.digits a.cut = c.chain_end-end.ensures
    ∙ cut_end_lem n a.x a.y a.digits a.cut c.order_cut-told.result.wire p in
    wrote_then a.w a.table.now (order_cut n a.x a.y a.digits a.cut) c.order_cut-told.new.table c.order_cut-told.result
    (and_of a.f c.chain_end-end.result ∷ choose c.order_cut-told.result.wire a.x a.y (a.digits + 1)) _
    c.choose.new.table c.choose.result c.order_cut-told.ensures
    (wrote_both c.order_cut-told.result c.order_cut-told.new.table (and_of a.f c.chain_end-end.result ∷ [])
    c.emit-both.new.table c.emit-both.result _ c.choose.new.table c.choose.result
    (and_wrote c.order_cut-told.result c.order_cut-told.new.table c.emit-both.new.table c.emit-both.result a.f
    c.chain_end-end.result 0 c.emit-both.ensures) c.choose.ensures)
    (ap (λ (m : ℕ). and_of a.f m ∷ choose c.order_cut-told.result.wire a.x a.y (a.digits + 1)) end
    ∙ ap (λ (m : ℕ). and_of a.f (cut_end n a.x a.digits a.cut) ∷ choose m a.x a.y (a.digits + 1)) p
    ∙ ap (λ (m : ℕ). and_of a.f (cut_end n a.x a.digits a.cut) ∷ choose
    (n + order_size a.digits a.cut) a.x a.y m) (add-one a.digits))
