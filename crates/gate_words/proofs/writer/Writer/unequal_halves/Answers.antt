-- `gate_words::writer::Writer::unequal_halves` meets its contract: the differences, and whether one of them is 1.
-- Assumes nothing.
use mathlib.Core.Path.{◌≡◌, refl, ap}
use Prim.Native.Nat.{ℕ, suc, ◌+◌}
use native.Mathlib.Omega.{arith}
use native.Mathlib.Numerals.{add-one}
use Rattle.gate_words.specs.Comparison.{differences}
use Rattle.gate_words.specs.Halves.{any_of_halves, unequal_halves}
use Rattle.gate_words.proofs.WordSteps.{length_differences}
use Rattle.gate_words.proofs.Writing.{wrote_as}
use Rattle.gate_words.proofs.Standing.{Stands, stands, stands_after, wrote_then}
use Rattle.gate_words.proofs.writer.Writer.unequal_halves.Goals as goal
use Rattle.gate_words.proofs.writer.Writer.unequal_halves.Goals.{After-differences-differ}

-- after the differences
differ : (c : After-differences-differ)
    → Stands c.differences-differ.result
    (c.args.self.wire
    + (c.args.low + c.args.high + 1))
    (c.args.low + c.args.high)
differ c =
    let a = c.args in
    stands_after a.self a.table.now _ c.differences-differ.new.table c.differences-differ.result _ _ _
    c.differences-differ.ensures (length_differences a.x a.y (a.low + a.high + 1))
    (stands a.self a.self.wire _ _ refl (omega arith) c.requires.room)

pub any_of_halves-requires : goal.any_of_halves-requires
any_of_halves-requires c =
    let d = differ (goal.at.any_of_halves-requires c).After-differences-differ in
    record { room = d.left; below = omega (arith, d.place) }

pub returns : goal.returns
unfolding unequal_halves
returns c =
    let a = c.args in
    let e : c.differences-differ.result.wire ≡ a.self.wire
    + suc (a.low + a.high) = omega (arith, (differ (goal.at.returns c).After-differences-differ).place) in
    wrote_then a.self a.table.now _ c.differences-differ.new.table
    c.differences-differ.result _ _ _ _
    (wrote_as a.self a.table.now _ _ _ _ (ap (differences a.x a.y) (add-one (a.low + a.high)))
    c.differences-differ.ensures)
    c.any_of_halves.ensures (ap (λ (k : ℕ). any_of_halves k a.self.wire (a.self.wire + 1) a.low a.high) e)
