-- `gate_words::writer::Writer::compare_halves` meets its contract: whether the words differ, then which is above.
-- Assumes nothing.
use mathlib.Core.Path.{◌∙◌, refl, ap}
use Prim.Native.Nat.{ℕ, ◌+◌}
use native.Mathlib.Omega.{arith}
use Rattle.gate_words.specs.Halves.{unequal_span, above_halves, compare_halves}
use Rattle.gate_words.proofs.HalvesLaws.{length_unequal_halves}
use Rattle.gate_words.proofs.Standing.{Stands, stands, stands_after, wrote_then}
use Rattle.gate_words.proofs.writer.Writer.compare_halves.Goals as goal
use Rattle.gate_words.proofs.writer.Writer.compare_halves.Goals.{After-unequal_halves-differ}

-- after the part that says whether the words differ
differ : (c : After-unequal_halves-differ)
    → Stands c.unequal_halves-differ.result
    (c.args.self.wire
    + unequal_span (c.args.low
    + c.args.high))
    (c.args.low + c.args.high)
differ c =
    let a = c.args in
    stands_after a.self a.table.now _ c.unequal_halves-differ.new.table c.unequal_halves-differ.result _ _ _
    c.unequal_halves-differ.ensures (length_unequal_halves a.self.wire a.x a.y a.low a.high)
    (stands a.self a.self.wire _ _ refl (omega arith) c.requires.room)

pub above_halves-requires : goal.above_halves-requires
above_halves-requires c =
    let d = differ (goal.at.above_halves-requires c).After-unequal_halves-differ in
    record {
      room = d.left;
      first_below = omega (arith, d.place);
      second_below = omega (arith, d.place, c.requires);
    }

pub returns : goal.returns
unfolding compare_halves
returns c =
    let a = c.args in
    wrote_then a.self a.table.now _ c.unequal_halves-differ.new.table
    c.unequal_halves-differ.result _ _ _ _
    c.unequal_halves-differ.ensures c.above_halves.ensures
    (ap (λ (k : ℕ). above_halves k a.self.wire a.x
    c.high_unequal_at-e.result a.low a.high)
    (differ (goal.at.returns c).After-unequal_halves-differ).place
    ∙ ap (λ (k : ℕ). above_halves (a.self.wire + unequal_span (a.low + a.high)) a.self.wire a.x k a.low
    a.high) c.high_unequal_at-e.ensures)
