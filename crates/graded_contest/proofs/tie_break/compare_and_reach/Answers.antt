-- `graded_contest::tie_break::compare_and_reach` meets its contract: two comparisons, then two carries.
-- Assumes nothing.
use mathlib.Core.Path.{◌≡◌, refl, ap}
use Prim.Native.Nat.{ℕ, ◌+◌, ◌*◌}
use native.Mathlib.Omega.{arith}
use Rattle.gate_words.specs.Halves.{compare_cut, compare_span}
use Rattle.gate_words.specs.Reach.{reach, reach_span}
use Rattle.gate_words.proofs.HalvesLaws.{length_compare_cut}
use Rattle.gate_words.proofs.ReachLaws.{length_reach}
use Rattle.gate_words.proofs.Standing.{Stands, stands, stands_after, room_of, wrote_then}
use Rattle.graded_circuit.specs.TieBreak.{compare_and_reach}
use Rattle.graded_contest.proofs.tie_break.compare_and_reach.Goals as goal
use Rattle.graded_contest.proofs.tie_break.compare_and_reach.Goals.{After-compare_halves-down, After-compare_halves-up, After-reach-left}

-- after each of these parts
down : (c : After-compare_halves-down)
    → Stands c.compare_halves-down.result
    (c.args.w.wire + compare_span c.args.above)
    (compare_span c.args.above
    + (reach_span c.args.above + reach_span c.args.above))
down c =
    let a = c.args in
    stands_after a.w a.table.now _ c.compare_halves-down.new.table c.compare_halves-down.result _ _ _
    c.compare_halves-down.ensures (length_compare_cut a.w.wire a.a a.c a.above a.high c.requires.cut)
    (stands a.w a.w.wire _ _ refl (omega arith) c.requires.room)

pub compare_halves-up-requires : goal.compare_halves-up-requires
compare_halves-up-requires c = let q = c.requires in
    let d = down (goal.at.compare_halves-up-requires c).After-compare_halves-down in
    record {
      room = room_of c.compare_halves-down.result _ _ _ d (omega (arith, q.cut));
      first_below = omega (arith, d.place, q.u_below, q.cut);
      second_below = omega (arith, d.place, q.v_below, q.cut);
    }

up : (c : After-compare_halves-up)
    → Stands c.compare_halves-up.result
    (c.args.w.wire + compare_span c.args.above
    + compare_span c.args.above)
    (reach_span c.args.above + reach_span c.args.above)
up c =
    let a = c.args in
    stands_after c.compare_halves-down.result
    c.compare_halves-down.new.table _ c.compare_halves-up.new.table
    c.compare_halves-up.result _ _ _ c.compare_halves-up.ensures
    (length_compare_cut c.compare_halves-down.result.wire a.u a.v a.above
    a.high c.requires.cut)
    (down c.before.before.before.before)

pub reach-left-requires : goal.reach-left-requires
reach-left-requires c = let q = c.requires in
    let d = up (goal.at.reach-left-requires c).After-compare_halves-up in
    record {
      room = room_of c.compare_halves-up.result _ _ _ d (omega arith);
      first_below = omega (arith, d.place, q.a_below);
      second_below = omega (arith, d.place, q.u_below);
    }

left : (c : After-reach-left) → Stands c.reach-left.result
    (c.args.w.wire + compare_span c.args.above
    + compare_span c.args.above + reach_span c.args.above)
    (reach_span c.args.above)
left c =
    let a = c.args in
    stands_after c.compare_halves-up.result
    c.compare_halves-up.new.table _ c.reach-left.new.table c.reach-left.result _
    _ _ c.reach-left.ensures (length_reach c.compare_halves-up.result.wire
    a.a a.u a.bit a.above)
    (up c.before.before.before.before)

pub reach-requires : goal.reach-requires
reach-requires c = let q = c.requires in
    let d = left (goal.at.reach-requires c).After-reach-left in
    record { room = d.left; first_below = omega (arith, d.place, q.c_below); second_below = omega (arith, d.place, q.v_below) }

pub returns : goal.returns
unfolding compare_and_reach
returns c = let a = c.args in
    let r = a.above in
    let n = a.w.wire in
    let w₁ = c.compare_halves-down.result in
    let t₁ = c.compare_halves-down.new.table in
    let w₂ = c.compare_halves-up.result in
    let t₂ = c.compare_halves-up.new.table in
    let w₃ = c.reach-left.result in
    let t₃ = c.reach-left.new.table in
    let e₂ : w₂.wire ≡ n + 2 * compare_span r = omega (arith, (up (goal.at.returns c).After-compare_halves-up).place) in
    let e₃ : w₃.wire ≡ n + 2 * compare_span r + reach_span r = omega (arith, (left (goal.at.returns c).After-reach-left).place) in
    wrote_then a.w a.table.now _ t₃ w₃ _ _ _ _
    (wrote_then a.w a.table.now _ t₂ w₂ _ _ _ _
    (wrote_then a.w a.table.now _ t₁ w₁ _ _ _ _ c.compare_halves-down.ensures
    c.compare_halves-up.ensures
    (ap (λ (k : ℕ). compare_cut k a.u a.v r a.high)
    (down (goal.at.returns c).After-compare_halves-down).place))
    c.reach-left.ensures (ap (λ (k : ℕ). reach k a.a a.u a.bit r) e₂))
    c.reach.ensures (ap (λ (k : ℕ). reach k a.c a.v a.bit r) e₃)
