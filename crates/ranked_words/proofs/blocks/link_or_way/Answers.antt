-- `ranked_words::blocks::link_or_way` meets its contract: the weaker part of the way, then the stronger of two.
-- Assumes nothing.
use mathlib.Core.Path.{◌≡◌, ◌∙◌, refl, ap}
use Prim.Native.Nat.{ℕ, suc, ◌+◌, ◌-◌}
use native.Mathlib.Omega.{arith}
use Rattle.gate_words.proofs.Writing.{wrote_as}
use Rattle.gate_words.proofs.Standing.{Stands, stands, stands_after, wrote_then}
use Rattle.ranked_circuit.specs.Blocks.{order_size, smaller, larger_if}
use Rattle.ranked_words.proofs.Cutting.{smaller_is, smaller_long}
use Rattle.ranked_words.proofs.blocks.link_or_way.Goals as goal
use Rattle.ranked_words.proofs.blocks.link_or_way.Goals.{After-one_of-weaker}

one : (c : After-one_of-weaker) → Stands c.one_of-weaker.result
    (c.args.w.wire + (order_size c.args.digits c.args.cut
    + suc c.args.digits))
    (order_size c.args.digits c.args.cut + 1 + suc c.args.digits)
one c =
    let a = c.args in
    stands_after a.w a.table.now _ c.one_of-weaker.new.table c.one_of-weaker.result _
    (order_size a.digits a.cut + suc a.digits) _ c.one_of-weaker.ensures
    (smaller_long a.w.wire a.x a.y a.digits a.cut c.requires.within)
    (stands a.w a.w.wire _ _ refl (omega arith) c.requires.room)

pub larger_if-requires : goal.larger_if-requires
larger_if-requires c = let t = one (goal.at.larger_if-requires c).After-one_of-weaker in
    record {
      room = t.left;
      first_below = omega (arith, c.requires.word_below, t.place);
      second_below =
          omega (arith, t.place);
      within = c.requires.within;
    }

pub returns : goal.returns
returns c = let a = c.args in
    let n = a.w.wire in
    let f = c.larger_if in
    let W = c.one_of-weaker.result.wire in
    let place : W ≡ n + order_size a.digits a.cut + suc a.digits = omega (arith, (one (goal.at.returns c).After-one_of-weaker).place) in
    let way : W - a.digits - 1 ≡ n + order_size a.digits a.cut = omega (arith, (one (goal.at.returns c).After-one_of-weaker).place) in
    wrote_then a.w a.table.now (smaller n a.x a.y a.digits a.cut) c.one_of-weaker.new.table
    c.one_of-weaker.result _ _ f.new.table f.result
    (wrote_as a.w a.table.now _ (smaller n a.x a.y a.digits a.cut) c.one_of-weaker.new.table
    c.one_of-weaker.result (smaller_is n a.x a.y a.digits a.cut) c.one_of-weaker.ensures)
    f.ensures (ap (λ (m : ℕ). larger_if m a.f a.v (W - a.digits - 1) a.digits a.cut) place
    ∙ ap (λ (m : ℕ). larger_if (n + order_size a.digits a.cut + suc a.digits) a.f a.v m a.digits
    a.cut) way)
