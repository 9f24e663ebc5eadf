-- `graded_contest::contest::one_sum` meets its contract: a comparison, then two gates.
-- Assumes nothing.
use mathlib.Core.Path.{refl}
use Prim.Native.Nat.{◌+◌}
use native.Mathlib.Omega.{arith}
use Rattle.gate_words.specs.Halves.{compare_span}
use Rattle.gate_words.proofs.Writing.{wrote_as}
use Rattle.gate_words.proofs.Emitting.{or_wrote, mux_wrote}
use Rattle.gate_words.proofs.HalvesLaws.{length_compare_cut}
use Rattle.gate_words.proofs.Standing.{Stands, stands, stands_after, room_of, wrote_then, one_gate}
use Rattle.graded_contest.proofs.contest.one_sum.Goals as goal
use Rattle.graded_contest.proofs.contest.one_sum.Goals.{After-compare_halves-compared}

compared : (c : After-compare_halves-compared)
    → Stands c.compare_halves-compared.result
    (c.args.w.wire + compare_span c.args.above) 2
compared c =
    let a = c.args in
    stands_after a.w a.table.now _ c.compare_halves-compared.new.table c.compare_halves-compared.result _ _ _
    c.compare_halves-compared.ensures (length_compare_cut a.w.wire a.x a.y a.above a.high c.requires.cut)
    (stands a.w a.w.wire _ _ refl (omega arith) c.requires.room)

pub emit-either-requires : goal.emit-either-requires
emit-either-requires c = room_of c.compare_halves-compared.result _ _ _ (compared (goal.at.emit-either-requires c).After-compare_halves-compared) (omega arith)

pub emit-requires : goal.emit-requires
emit-requires c = (stands_after c.compare_halves-compared.result
    c.compare_halves-compared.new.table _
    c.emit-either.new.table c.emit-either.result _ 1 1
    c.emit-either.ensures refl (compared (goal.at.emit-requires c).After-compare_halves-compared)).left

pub returns : goal.returns
returns c = let a = c.args in
    let w₁ = c.compare_halves-compared.result in
    let t₁ = c.compare_halves-compared.new.table in
    let w₂ = c.emit-either.result in
    let t₂ = c.emit-either.new.table in
    wrote_then a.w a.table.now _ t₁ w₁ _ _ _ _ c.compare_halves-compared.ensures
    (wrote_then w₁ t₁ _ t₂ w₂ _ _ _ _
    (wrote_as w₁ t₁ _ _ t₂ w₂ (one_gate 5 refl c.unequal_at-differ.ensures
    refl) (or_wrote w₁ t₁ t₂ w₂ a.e c.unequal_at-differ.result 0
    c.emit-either.ensures))
    (mux_wrote w₂ t₂ c.emit.new.table c.emit.result a.e a.s
    c.above_at-first.result c.emit.ensures)
    (one_gate 7 refl refl c.above_at-first.ensures)) refl
