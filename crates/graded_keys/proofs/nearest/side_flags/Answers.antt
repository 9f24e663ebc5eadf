-- `graded_keys::nearest::side_flags` meets its contract: whether the words differ, then on which side of the median.
-- Assumes nothing.
use mathlib.Core.Path.{◌≡◌, refl}
use Prim.Native.Nat.{suc, ◌+◌}
use native.Mathlib.Omega.{arith}
use Rattle.gate_words.specs.Halves.{unequal_span}
use Rattle.gate_words.proofs.Writing.{wrote_as}
use Rattle.gate_words.proofs.Emitting.{and_wrote, xor_wrote}
use Rattle.gate_words.proofs.HalvesLaws.{length_unequal_cut}
use Rattle.gate_words.proofs.Standing.{Stands, stands, stands_after, room_of, wrote_then, one_gate}
use Rattle.graded_circuit.specs.Nearest.{side_flags}
use Rattle.graded_keys.proofs.nearest.side_flags.Goals as goal
use Rattle.graded_keys.proofs.nearest.side_flags.Goals.{After-unequal_halves-compared}

-- after the comparison
differ : (c : After-unequal_halves-compared)
    → Stands c.unequal_halves-compared.result
    (c.args.w.wire
    + unequal_span c.args.above) 2
differ c =
    let a = c.args in
    stands_after a.w a.table.now _ c.unequal_halves-compared.new.table c.unequal_halves-compared.result _ _ _
    c.unequal_halves-compared.ensures (length_unequal_cut a.w.wire a.x a.y a.above a.high c.requires.cut)
    (stands a.w a.w.wire _ _ refl (omega arith) c.requires.room)

pub emit-below-requires : goal.emit-below-requires
emit-below-requires c = room_of c.unequal_halves-compared.result _ _ _ (differ (goal.at.emit-below-requires c).After-unequal_halves-compared) (omega arith)

pub emit-requires : goal.emit-requires
emit-requires c = (stands_after c.unequal_halves-compared.result
    c.unequal_halves-compared.new.table _
    c.emit-below.new.table c.emit-below.result _ 1 1
    c.emit-below.ensures refl (differ (goal.at.emit-requires c).After-unequal_halves-compared)).left

pub returns : goal.returns
unfolding side_flags
returns c = let a = c.args in
    let e = c.unequal_at-differ.ensures in
    let f : a.x + a.above + 1 ≡ a.x + suc a.above = omega arith in
    let w₁ = c.unequal_halves-compared.result in
    let t₁ = c.unequal_halves-compared.new.table in
    let w₂ = c.emit-below.result in
    let t₂ = c.emit-below.new.table in
    wrote_then a.w a.table.now _ t₁ w₁ _ _ _ _ c.unequal_halves-compared.ensures
    (wrote_then w₁ t₁ _ t₂ w₂ _ _ _ _
    (wrote_as w₁ t₁ _ _ t₂ w₂ (one_gate 4 e f refl)
    (and_wrote w₁ t₁ t₂ w₂ c.unequal_at-differ.result (a.x + a.above + 1)
    0 c.emit-below.ensures))
    (xor_wrote w₂ t₂ c.emit.new.table c.emit.result
    c.unequal_at-differ.result w₁.wire 0
    c.emit.ensures)
    (one_gate 6 e (differ (goal.at.returns c).After-unequal_halves-compared).place refl)) refl
