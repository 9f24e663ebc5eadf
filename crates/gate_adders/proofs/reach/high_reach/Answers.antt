-- `gate_adders::reach::high_reach` meets its contract: its parts, one after the other.
-- Assumes nothing.
use mathlib.Core.Path.{◌≡◌, ◌∙◌, refl, ap}
use Prim.Native.Nat.{ℕ, suc, ◌+◌, ◌*◌}
use native.Mathlib.Omega.{arith}
use native.Mathlib.Numerals.{add-one}
use Rattle.gate_words.specs.Choice.{all_of, chain_end}
use Rattle.gate_words.specs.Comparison.{differences}
use Rattle.gate_words.specs.Reach.{carries_by, high_reach}
use Rattle.gate_words.proofs.ChoiceSteps.{length_chain}
use Rattle.gate_words.proofs.WordSteps.{length_differences}
use Rattle.gate_words.proofs.Writing.{wrote_as}
use Rattle.gate_words.proofs.Emitting.{mux_wrote}
use Rattle.gate_words.proofs.HalvesLaws.{beside}
use Rattle.gate_words.proofs.ReachLaws.{length_carries_by}
use Rattle.gate_words.proofs.Standing.{Stands, stands, stands_after, room_of, wrote_then, one_gate}
use Rattle.gate_adders.proofs.reach.high_reach.Goals as goal
use Rattle.gate_adders.proofs.reach.high_reach.Goals.{After-all_of-every, After-carries_by-free, After-differences-differ}

-- after the differences, after the carries, and after the chain that says whether all digits differ
differ : (c : After-differences-differ)
    → Stands c.differences-differ.result
    (c.args.w.wire + (c.args.high + 1))
    (2 * c.args.high + 1)
differ c =
    let a = c.args in
    stands_after a.w a.table.now _ c.differences-differ.new.table c.differences-differ.result _ _ _
    c.differences-differ.ensures (length_differences a.x a.y (a.high + 1))
    (stands a.w a.w.wire _ _ refl (omega arith) c.requires.room)

pub carries_by-free-requires : goal.carries_by-free-requires
carries_by-free-requires c =
    let d = differ (goal.at.carries_by-free-requires c).After-differences-differ in
    record {
      room = room_of c.differences-differ.result _ _ _ d (omega arith);
      first_below = omega (arith, d.place);
      second_below = omega (arith, d.place, c.requires);
    }

free : (c : After-carries_by-free)
    → Stands c.differences-differ.result (c.args.w.wire + (c.args.high + 1)) (2 * c.args.high + 1)
    → Stands c.carries_by-free.result
    (c.args.w.wire + (c.args.high + 1)
    + c.args.high) (c.args.high + 1)
free c d =
    let a = c.args in
    stands_after c.differences-differ.result
    c.differences-differ.new.table _ c.carries_by-free.new.table
    c.carries_by-free.result _ _ _ c.carries_by-free.ensures
    (length_carries_by c.differences-differ.result.wire (a.w.wire + 1) (a.x + 1)
    a.x a.high)
    (stands c.differences-differ.result _ _ _ d.place (omega arith) d.left)

pub all_of-every-requires : goal.all_of-every-requires
all_of-every-requires c =
    let a = c.args in
    let at = goal.at.all_of-every-requires c in
    let f = free at.After-carries_by-free (differ at.After-differences-differ) in
    record {
      room = room_of c.carries_by-free.result _ _ _ f (omega arith);
      below = beside c.carries_by-free.result.wire (a.w.wire + 1) a.high (omega (arith, f.place));
      near = omega arith;
    }

every : (c : After-all_of-every)
    → Stands c.carries_by-free.result (c.args.w.wire + (c.args.high + 1) + c.args.high) (c.args.high + 1)
    → Stands c.all_of-every.result (c.args.w.wire + (c.args.high + 1)
    + c.args.high + c.args.high) 1
every c f =
    let a = c.args in
    stands_after c.carries_by-free.result
    c.carries_by-free.new.table _ c.all_of-every.new.table c.all_of-every.result _ _
    _ c.all_of-every.ensures (length_chain 4 c.carries_by-free.result.wire
    a.w.wire (a.w.wire + 1) 1 a.high)
    (stands c.carries_by-free.result _ _ _ f.place (omega arith) f.left)

pub chain_end-all-requires : goal.chain_end-all-requires
chain_end-all-requires c =
    let at = goal.at.chain_end-all-requires c in
    omega (arith, (free at.After-carries_by-free (differ at.After-differences-differ)).place)

pub chain_end-own-requires : goal.chain_end-own-requires
chain_end-own-requires c = omega (arith, c.requires.room.small, (differ (goal.at.chain_end-own-requires c).After-differences-differ).place)

pub emit-requires : goal.emit-requires
emit-requires c =
    let at = goal.at.emit-requires c in
    (every at.After-all_of-every (free at.After-carries_by-free (differ at.After-differences-differ))).left

pub returns : goal.returns
unfolding high_reach
returns c =
    let a = c.args in
    let at = goal.at.returns c in
    let w₁ = c.differences-differ.result in
    let t₁ = c.differences-differ.new.table in
    let w₂ = c.carries_by-free.result in
    let t₂ = c.carries_by-free.new.table in
    let w₃ = c.all_of-every.result in
    let t₃ = c.all_of-every.new.table in
    let p₁ : w₁.wire ≡ a.w.wire + suc a.high =
    omega (arith, (differ at.After-differences-differ).place) in
    let p₂ : w₂.wire ≡ a.w.wire + suc a.high + a.high =
    omega (arith, (free at.After-carries_by-free (differ at.After-differences-differ)).place) in
    wrote_then a.w a.table.now _ t₃ w₃ _ _ _ _
    (wrote_then a.w a.table.now _ t₂ w₂ _ _ t₃ w₃
    (wrote_then a.w a.table.now _ t₁ w₁ _ _ t₂ w₂
    (wrote_as a.w a.table.now _ _ _ _ (ap (differences a.x a.y) (add-one a.high))
    c.differences-differ.ensures)
    c.carries_by-free.ensures
    (ap (λ (k : ℕ). carries_by k (a.w.wire + 1) (a.x + 1) a.x a.high) p₁))
    c.all_of-every.ensures (ap (λ (k : ℕ). all_of k a.w.wire (a.w.wire + 1) 1 a.high) p₂))
    (mux_wrote w₃ t₃ c.emit.new.table c.emit.result
    c.chain_end-all.result a.carry
    c.chain_end-own.result c.emit.ensures)
    (one_gate 7 (c.chain_end-all.ensures
    ∙ ap (λ (k : ℕ). chain_end k a.w.wire a.high) p₂) refl
    (c.chain_end-own.ensures ∙ ap (λ (k : ℕ). chain_end k a.x a.high) p₁))
