-- `graded_keys::median::next_digit` meets its contract: the digit's difference, then two more gates.
-- Assumes nothing.
use mathlib.Core.Path.{◌≡◌, ◌∙◌, refl, ap}
use mathlib.Core.List.{[], ◌∷◌}
use Prim.Native.Nat.{ℕ, ◌+◌, ◌-◌}
use native.Mathlib.Omega.{arith}
use Rattle.gate_words.specs.Gates.{or_of, mux_of}
use Rattle.gate_words.proofs.Writing.{wrote_both}
use Rattle.gate_words.proofs.Emitting.{or_wrote, mux_wrote}
use Rattle.gate_words.proofs.Standing.{Stands, stands, stands_after, room_of, wrote_then}
use Rattle.graded_circuit.specs.Median.{next_digit, differ_at, difference_span}
use Rattle.graded_circuit.proofs.MedianLaws.{length_difference}
use Rattle.graded_keys.proofs.median.next_digit.Goals as goal
use Rattle.graded_keys.proofs.median.next_digit.Goals.{After-digit_difference-differ}

difference : (c : After-digit_difference-differ) → let s = c in
    Stands c.digit_difference-differ.result (s.args.w.wire + difference_span s.args.many) 2
difference c =
    let a = c.args in
    stands_after a.w a.table.now _ c.digit_difference-differ.new.table c.digit_difference-differ.result _ _ _
    c.digit_difference-differ.ensures (length_difference a.w.wire a.x a.y a.step a.many)
    (stands a.w a.w.wire _ _ refl (omega arith) c.requires.ones.room)

pub emit-either-requires : goal.emit-either-requires
emit-either-requires c =
    room_of c.digit_difference-differ.result _ _ _
    (difference (goal.at.emit-either-requires c).After-digit_difference-differ) (omega arith)

pub emit-requires : goal.emit-requires
emit-requires c = (stands_after c.digit_difference-differ.result c.digit_difference-differ.new.table _ c.emit-either.new.table
    c.emit-either.result _ _ _ c.emit-either.ensures refl
    (difference (goal.at.emit-requires c).After-digit_difference-differ)).left

pub returns : goal.returns
unfolding next_digit
returns c = let v = c.emit in
    let u = c.emit-either in
    let a = c.args in
    let n = a.w.wire in
    let m = a.many in
    let d = c.digit_difference-differ in
    let left = c.chain_end-left in
    let q = d.result.wire - 1 in
    let at : q ≡ differ_at n m = omega (arith, (difference (goal.at.returns c).After-digit_difference-differ).place) in
    wrote_then a.w a.table.now _ d.new.table d.result _ _ v.new.table v.result
    d.ensures
    (wrote_both d.result d.new.table (or_of a.e q ∷ []) u.new.table u.result
    (mux_of q left.result a.s ∷ []) v.new.table v.result
    (or_wrote d.result d.new.table u.new.table u.result a.e q 0 u.ensures)
    (mux_wrote u.result u.new.table v.new.table v.result q left.result a.s v.ensures))
    (ap (λ (i : ℕ). or_of a.e i ∷ mux_of i left.result a.s ∷ []) at ∙
    ap (λ (i : ℕ). or_of a.e (differ_at n m) ∷ mux_of (differ_at n m) i a.s ∷ []) left.ensures)
