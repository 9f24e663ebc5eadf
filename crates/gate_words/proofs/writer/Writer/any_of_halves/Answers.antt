-- `gate_words::writer::Writer::any_of_halves` meets its contract: two chains, and the gate that joins them.
-- Assumes nothing.
use mathlib.Core.Path.{refl, ap}
use Prim.Native.Nat.{ℕ, ◌+◌, ◌-◌}
use native.Mathlib.Omega.{arith}
use Rattle.gate_words.specs.Choice.{any_of}
use Rattle.gate_words.proofs.ChoiceSteps.{length_chain}
use Rattle.gate_words.proofs.Writing.{wrote_as, room_less}
use Rattle.gate_words.proofs.Emitting.{or_wrote}
use Rattle.gate_words.proofs.Standing.{Stands, stands, stands_after, room_of, wrote_then, one_gate}
use Rattle.gate_words.proofs.HalvesLaws.{beside, any_halves_none, any_halves_some}
use Rattle.gate_words.proofs.writer.Writer.any_of_halves.Goals as goal
use Rattle.gate_words.proofs.writer.Writer.any_of_halves.Goals.{After-any_of-lower, After-any_of-upper}

pub any_of-lower-requires : goal.any_of-lower-requires
any_of-lower-requires c =
    let a = c.args in
    record {
      room = room_less a.self _ _ (omega arith) c.requires.room;
      below = beside a.self.wire a.first a.low (omega (arith, c.requires.below));
      near = omega arith;
    }

-- after the low half
lower : (c : After-any_of-lower)
    → Stands c.any_of-lower.result (c.args.self.wire
    + c.args.low) c.args.high
lower c =
    let a = c.args in
    stands_after a.self a.table.now _ c.any_of-lower.new.table c.any_of-lower.result _ _ _ c.any_of-lower.ensures
    (length_chain 5 a.self.wire a.s a.first 1 a.low)
    (stands a.self a.self.wire _ _ refl (omega arith) c.requires.room)

pub returns-then-high-eq0 : goal.returns-then-high-eq0
returns-then-high-eq0 c =
    let a = c.args in
    wrote_as a.self a.table.now _ _ _ _
    (any_halves_none a.self.wire a.s a.first a.low a.high c.if-high-eq0.true)
    c.any_of-lower.ensures

pub any_of-upper-requires : goal.any_of-upper-requires
any_of-upper-requires c =
    let a = c.args in
    let more = c.if-high-eq0.false in
    let l = lower (goal.at.any_of-upper-requires c).After-any_of-lower in
    record {
      room = room_of c.any_of-lower.result _ _ _ l (omega arith);
      below = beside c.any_of-lower.result.wire (a.first + a.low + 1) (a.high - 1)
          (omega (arith, l.place, c.requires.below));
      near = omega arith;
    }

-- after the high half
upper : (c : After-any_of-upper) → Stands c.any_of-lower.result (c.args.self.wire + c.args.low) c.args.high
    → Stands c.any_of-upper.result (c.args.self.wire + c.args.low
    + (c.args.high - 1)) 1
upper c l =
    let a = c.args in
    let more = c.if-high-eq0.false in
    stands_after c.any_of-lower.result c.any_of-lower.new.table _
    c.any_of-upper.new.table c.any_of-upper.result _ _ _ c.any_of-upper.ensures
    (length_chain 5 c.any_of-lower.result.wire (a.first + a.low) (a.first + a.low + 1) 1
    (a.high - 1))
    (stands c.any_of-lower.result (a.self.wire + a.low) _ _ l.place (omega arith) l.left)

pub emit-requires : goal.emit-requires
emit-requires c =
    let at = goal.at.emit-requires c in
    (upper at.After-any_of-upper (lower at.After-any_of-lower)).left

pub returns : goal.returns
returns c =
    let a = c.args in
    let more = c.if-high-eq0.false in
    let w₁ = c.any_of-lower.result in
    let t₁ = c.any_of-lower.new.table in
    let w₂ = c.any_of-upper.result in
    let t₂ = c.any_of-upper.new.table in
    wrote_as a.self a.table.now _ _ _ _ (any_halves_some a.self.wire a.s a.first a.low a.high (omega arith))
    (wrote_then a.self a.table.now _ t₂ w₂ _ _ _ _
    (wrote_then a.self a.table.now _ t₁ w₁ _ _ t₂ w₂
    c.any_of-lower.ensures
    c.any_of-upper.ensures
    (ap (λ (k : ℕ). any_of k (a.first + a.low) (a.first + a.low + 1) 1 (a.high - 1))
    (lower (goal.at.returns c).After-any_of-lower).place))
    (or_wrote w₂ t₂ c.emit.new.table c.emit.result
    c.chain_end-end.result
    c.chain_end.result 0 c.emit.ensures)
    (one_gate 5 c.chain_end-end.ensures c.chain_end.ensures refl))
