-- `gate_adders::reach::reach_halves` meets its contract: first the low half, then the high one.
-- Assumes nothing.
use mathlib.Core.Path.{refl, ap}
use Prim.Native.Nat.{ℕ, ◌+◌, ◌*◌}
use native.Mathlib.Omega.{arith}
use Rattle.gate_words.specs.Reach.{carries, high_reach, reach_halves}
use Rattle.gate_words.proofs.ReachLaws.{length_carry_bit, length_carries}
use Rattle.gate_words.proofs.Standing.{Stands, stands, stands_after, room_of, wrote_then}
use Rattle.gate_adders.proofs.reach.reach_halves.Goals as goal
use Rattle.gate_adders.proofs.reach.reach_halves.Goals.{After-carries-lower, After-carry_bit-first}

-- after the lowest digit, and after the low half
first : (c : After-carry_bit-first)
    → Stands c.carry_bit-first.result (c.args.w.wire + 1)
    (2 * c.args.low + (3 * c.args.high + 2))
first c =
    let a = c.args in
    stands_after a.w a.table.now _ c.carry_bit-first.new.table c.carry_bit-first.result _ 1 _
    c.carry_bit-first.ensures (length_carry_bit a.x a.y a.bit)
    (stands a.w a.w.wire _ _ refl (omega arith) c.requires.room)

pub carries-lower-requires : goal.carries-lower-requires
carries-lower-requires c =
    let f = first (goal.at.carries-lower-requires c).After-carry_bit-first in
    record {
      room = room_of c.carry_bit-first.result _ _ _ f (omega arith);
      first_below = omega (arith, f.place, c.requires);
      second_below = omega (arith, f.place, c.requires);
    }

lower : (c : After-carries-lower)
    → Stands c.carry_bit-first.result (c.args.w.wire + 1) (2 * c.args.low + (3 * c.args.high + 2))
    → Stands c.carries-lower.result (c.args.w.wire + 1 + 2
    * c.args.low) (3 * c.args.high + 2)
lower c f =
    let a = c.args in
    stands_after c.carry_bit-first.result
    c.carry_bit-first.new.table _ c.carries-lower.new.table c.carries-lower.result _ _
    _ c.carries-lower.ensures (length_carries c.carry_bit-first.result.wire
    (a.x + 1) (a.y + 1) a.w.wire a.low)
    (stands c.carry_bit-first.result _ _ _ f.place (omega arith) f.left)

pub high_reach-requires : goal.high_reach-requires
high_reach-requires c =
    let at = goal.at.high_reach-requires c in
    let l = lower at.After-carries-lower (first at.After-carry_bit-first) in
    record {
      room = l.left;
      first_below = omega (arith, l.place, c.requires);
      second_below = omega (arith, l.place, c.requires);
    }

pub returns : goal.returns
unfolding reach_halves
returns c =
    let a = c.args in
    let at = goal.at.returns c in
    let w₁ = c.carry_bit-first.result in
    let t₁ = c.carry_bit-first.new.table in
    let w₂ = c.carries-lower.result in
    let t₂ = c.carries-lower.new.table in
    wrote_then a.w a.table.now _ t₂ w₂ _ _ _ _
    (wrote_then a.w a.table.now _ t₁ w₁ _ _ t₂ w₂ c.carry_bit-first.ensures
    c.carries-lower.ensures
    (ap (λ (k : ℕ). carries k (a.x + 1) (a.y + 1) a.w.wire a.low)
    (first at.After-carry_bit-first).place))
    c.high_reach.ensures
    (ap (λ (k : ℕ). high_reach k (a.x + 1 + a.low) (a.y + 1 + a.low) (a.w.wire + 2 * a.low) a.high)
    (lower at.After-carries-lower (first at.After-carry_bit-first)).place)
