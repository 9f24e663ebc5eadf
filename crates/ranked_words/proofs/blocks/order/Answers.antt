-- `ranked_words::blocks::order` meets its contract: the differences, then the comparison.
-- Assumes nothing.
use mathlib.Core.Path.{◌≡◌, ap}
use Prim.Native.Nat.{ℕ, ◌+◌}
use native.Mathlib.Omega.{arith}
use Rattle.gate_words.specs.Comparison.{above}
use Rattle.gate_words.proofs.Laws.{length_differences}
use Rattle.ranked_circuit.specs.Blocks.{order}
use Rattle.ranked_words.proofs.Behind.{behind, room_behind}
use Rattle.gate_words.proofs.Standing.{wrote_then}
use Rattle.ranked_words.proofs.blocks.order.Goals as goal
use Rattle.ranked_words.proofs.blocks.order.Goals.{After-differences-differ}

-- the writer after the differences
differ : (c : After-differences-differ) → c.differences-differ.result.wire ≡ c.args.w.wire
    + c.args.digits
differ c = behind c.args.w c.args.table.now _
    c.differences-differ.new.table c.differences-differ.result c.args.digits
    c.differences-differ.ensures (length_differences (c.args.x + 1)
    (c.args.y + 1) c.args.digits)

pub above-requires : goal.above-requires
above-requires c = let a = c.args in
    let e = differ (goal.at.above-requires c).After-differences-differ in
    record {
      room = room_behind a.w a.table.now _ c.differences-differ.new.table
          c.differences-differ.result a.digits a.digits _
          c.differences-differ.ensures (length_differences (a.x + 1) (a.y + 1) a.digits)
          (omega arith) c.requires.room;
      first_below = omega arith;
      second_below = omega (arith, c.requires.first_below);
    }

pub returns : goal.returns
unfolding order
returns c = let a = c.args in
    wrote_then a.w a.table.now _
    c.differences-differ.new.table
    c.differences-differ.result _ _
    c.above.new.table c.above.result
    c.differences-differ.ensures c.above.ensures
    (ap (λ (n : ℕ). above n a.w.wire (a.x + 1) a.x a.digits) (differ (goal.at.returns c).After-differences-differ))
