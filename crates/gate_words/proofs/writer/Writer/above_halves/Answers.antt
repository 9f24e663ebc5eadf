-- `gate_words::writer::Writer::above_halves` meets its contract: two chains, and the gate that joins them.
-- Assumes nothing.
use mathlib.Core.Path.{refl, ap}
use Prim.Native.Nat.{ℕ, ◌+◌, ◌-◌}
use native.Mathlib.Omega.{arith}
use Rattle.gate_words.specs.Comparison.{above}
use Rattle.gate_words.proofs.WordSteps.{length_above}
use Rattle.gate_words.proofs.Writing.{wrote_as}
use Rattle.gate_words.proofs.Emitting.{mux_wrote}
use Rattle.gate_words.proofs.Standing.{Stands, stands, stands_after, room_of, wrote_then, one_gate}
use Rattle.gate_words.proofs.HalvesLaws.{above_halves_none, above_halves_some}
use Rattle.gate_words.proofs.writer.Writer.above_halves.Goals as goal
use Rattle.gate_words.proofs.writer.Writer.above_halves.Goals.{After-above-lower, After-above-upper}

-- after the low half
lower : (c : After-above-lower) → Stands c.above-lower.result
    (c.args.self.wire + c.args.low)
    c.args.high
lower c =
    let a = c.args in
    stands_after a.self a.table.now _ c.above-lower.new.table c.above-lower.result _ _ _ c.above-lower.ensures
    (length_above a.self.wire (a.f + 1) (a.x + 1) a.x a.low)
    (stands a.self a.self.wire _ _ refl (omega arith) c.requires.room)

pub returns-then-high-eq0 : goal.returns-then-high-eq0
returns-then-high-eq0 c =
    let a = c.args in
    wrote_as a.self a.table.now _ _ _ _
    (above_halves_none a.self.wire a.f a.x a.e a.low a.high c.if-high-eq0.true)
    c.above-lower.ensures

pub above-upper-requires : goal.above-upper-requires
above-upper-requires c =
    let more = c.if-high-eq0.false in
    let l = lower (goal.at.above-upper-requires c).After-above-lower in
    record {
      room = room_of c.above-lower.result _ _ _ l (omega arith);
      first_below = omega (arith, l.place, c.requires);
      second_below = omega (arith, l.place, c.requires);
    }

-- after the high half
upper : (c : After-above-upper) → Stands c.above-lower.result (c.args.self.wire + c.args.low) c.args.high
    → Stands c.above-upper.result (c.args.self.wire + c.args.low
    + (c.args.high - 1)) 1
upper c l =
    let a = c.args in
    let more = c.if-high-eq0.false in
    stands_after c.above-lower.result c.above-lower.new.table _
    c.above-upper.new.table c.above-upper.result _ _ _ c.above-upper.ensures
    (length_above c.above-lower.result.wire (a.f + 1 + a.low + 1) (a.x + 1 + a.low + 1)
    (a.x + 1 + a.low) (a.high - 1))
    (stands c.above-lower.result (a.self.wire + a.low) _ _ l.place (omega arith) l.left)

pub emit-requires : goal.emit-requires
emit-requires c =
    let at = goal.at.emit-requires c in
    (upper at.After-above-upper (lower at.After-above-lower)).left

pub returns : goal.returns
returns c =
    let a = c.args in
    let more = c.if-high-eq0.false in
    let w₁ = c.above-lower.result in
    let t₁ = c.above-lower.new.table in
    let w₂ = c.above-upper.result in
    let t₂ = c.above-upper.new.table in
    wrote_as a.self a.table.now _ _ _ _ (above_halves_some a.self.wire a.f a.x a.e a.low a.high (omega arith))
    (wrote_then a.self a.table.now _ t₂ w₂ _ _ _ _
    (wrote_then a.self a.table.now _ t₁ w₁ _ _ t₂ w₂
    c.above-lower.ensures
    c.above-upper.ensures
    (ap (λ (k : ℕ). above k (a.f + 1 + a.low + 1) (a.x + 1 + a.low + 1) (a.x + 1 + a.low) (a.high - 1))
    (lower (goal.at.returns c).After-above-lower).place))
    (mux_wrote w₂ t₂ c.emit.new.table c.emit.result a.e
    c.chain_end-end.result
    c.chain_end.result c.emit.ensures)
    (one_gate 7 refl c.chain_end-end.ensures c.chain_end.ensures))
