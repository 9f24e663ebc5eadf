-- `ranked_words::blocks::one_of` meets its contract: an order, then a choice by its last wire.
-- Assumes nothing.
use mathlib.Core.Path.{◌≡◌, ◌∙◌, refl, ap}
use Prim.Native.Nat.{ℕ, suc, ◌+◌}
use native.Mathlib.Numerals.{add-one}
use native.Mathlib.Omega.{arith}
use Rattle.gate_words.specs.Choice.{choose}
use Rattle.gate_words.proofs.Writing.{room_less}
use Rattle.gate_words.proofs.Standing.{Stands, stands, stands_after, wrote_then}
use Rattle.ranked_circuit.specs.Blocks.{order_cut, order_size, cut_end}
use Rattle.ranked_circuit.proofs.BlockLaws.{length_cut}
use Rattle.ranked_words.proofs.Cutting.{cut_end_lem}
use Rattle.ranked_words.proofs.blocks.one_of.Goals as goal
use Rattle.ranked_words.proofs.blocks.one_of.Goals.{After-order_cut-told}

one : (c : After-order_cut-told)
    → Stands c.order_cut-told.result
    (c.args.w.wire + order_size c.args.digits c.args.cut) (suc c.args.digits)
one c =
    let a = c.args in
    stands_after a.w a.table.now _ c.order_cut-told.new.table c.order_cut-told.result _
    (order_size a.digits a.cut) (suc a.digits) c.order_cut-told.ensures
    (length_cut a.w.wire a.x a.y a.digits a.cut c.requires.order.within)
    (stands a.w a.w.wire _ _ refl (omega arith) c.requires.order.room)

pub chain_end-end-requires : goal.chain_end-end-requires
chain_end-end-requires c = let s = one (goal.at.chain_end-end-requires c).After-order_cut-told in
    omega (arith, s.place, s.left.small)

pub choose-requires : goal.choose-requires
choose-requires c = record {
  room = room_less c.order_cut-told.result _ _ (omega arith) (one (goal.at.choose-requires c).After-order_cut-told).left;
  first_below = omega (arith, c.requires.more_below, (one (goal.at.choose-requires c).After-order_cut-told).place);
  second_below = omega (arith, c.requires.less_below, (one (goal.at.choose-requires c).After-order_cut-told).place);
}

pub returns : goal.returns
returns c = let a = c.args in
    let n = a.w.wire in
    let end : c.chain_end-end.result ≡ cut_end n a.x a.digits a.cut = c.chain_end-end.ensures
    ∙ cut_end_lem n a.x a.y a.digits a.cut c.order_cut-told.result.wire (one (goal.at.returns c).After-order_cut-told).place in
    wrote_then a.w a.table.now (order_cut n a.x a.y a.digits a.cut) c.order_cut-told.new.table
    c.order_cut-told.result _ _ c.choose.new.table c.choose.result c.order_cut-told.ensures c.choose.ensures
    (ap (λ (m : ℕ). choose m a.more a.less (a.digits + 1)) end
    ∙ ap (choose (cut_end n a.x a.digits a.cut) a.more a.less) (add-one a.digits))
