-- `graded_keys::median::digit_difference` meets its contract: two sums modulo 2, and whether they differ.
-- Assumes nothing.
use mathlib.Core.Path.{◌≡◌, ◌∙◌, refl, ap}
use Prim.Native.Nat.{ℕ, ◌+◌, ◌-◌, ◌*◌, ◌≤◌, ◌<◌}
use native.Mathlib.Omega.{arith}
use Rattle.gate_words.specs.Choice.{parity, chain_end}
use Rattle.gate_words.proofs.Writing.{room_less}
use Rattle.gate_words.proofs.Emitting.{xor_wrote}
use Rattle.gate_words.proofs.ChoiceSteps.{length_chain}
use Rattle.gate_words.proofs.Standing.{Stands, stands, stands_after, room_of, wrote_then, one_gate}
use Rattle.graded_circuit.specs.Median.{digit_difference, differ_at, difference_span}
use Rattle.gate_words.proofs.CounterSteps.{below_stride}
use Rattle.graded_circuit.proofs.MedianLaws.{first_of}
use Rattle.graded_keys.proofs.Steps.{stride_most}
use Rattle.graded_keys.proofs.median.digit_difference.Goals as goal
use Rattle.graded_keys.proofs.median.digit_difference.Goals.{After-parity-first, Start}

-- for each number: its first wire and the others are written, and its stride is small
x_there : (s : Start) → (s.args.x < s.args.w.wire)
    × (s.args.x + s.args.step + (s.args.many - 1) * s.args.step < s.args.w.wire + s.args.step)
x_there s = let a = s.args in first_of a.x a.step a.many a.w.wire s.requires.some s.requires.ones.first_below

y_there : (s : Start) → (s.args.y < s.args.w.wire)
    × (s.args.y + s.args.step + (s.args.many - 1) * s.args.step < s.args.w.wire + s.args.step)
y_there s = let a = s.args in first_of a.y a.step a.many a.w.wire s.requires.some s.requires.ones.second_below

near : (s : Start) → s.args.step ≤ 2000
near s = stride_most s.args.many s.args.step s.requires.some s.requires.ones.short

pub parity-first-requires : goal.parity-first-requires
parity-first-requires c = let a = c.args in
    record {
      room = room_less a.w _ (difference_span a.many) (omega arith) c.requires.ones.room;
      below = below_stride a.w.wire (a.x + a.step) a.step (a.many - 1) (x_there (goal.at.parity-first-requires c).Start).1;
      near = omega (arith, near (goal.at.parity-first-requires c).Start);
    }

first : (c : After-parity-first) → let s = c in
    Stands c.parity-first.result (s.args.w.wire + (s.args.many - 1)) (s.args.many - 1 + 1)
first c =
    let a = c.args in
    stands_after a.w a.table.now _ c.parity-first.new.table c.parity-first.result _ _ _ c.parity-first.ensures
    (length_chain 6 a.w.wire a.x (a.x + a.step) a.step (a.many - 1))
    (stands a.w a.w.wire _ _ refl (omega arith) c.requires.ones.room)

pub chain_end-right-requires : goal.chain_end-right-requires
chain_end-right-requires c = omega (arith, (first (goal.at.chain_end-right-requires c).After-parity-first).left.small)

pub parity-second-requires : goal.parity-second-requires
parity-second-requires c = let a = c.args in
    record {
      room = room_of c.parity-first.result _ _ _ (first (goal.at.parity-second-requires c).After-parity-first) (omega arith);
      below = below_stride c.parity-first.result.wire (a.y + a.step) a.step (a.many - 1)
          (omega (arith, (y_there (goal.at.parity-second-requires c).Start).1, (first (goal.at.parity-second-requires c).After-parity-first).place));
      near = omega (arith, near (goal.at.parity-second-requires c).Start);
    }

pub emit-requires : goal.emit-requires
emit-requires c =
    let a = c.args in
    let second : Stands c.parity-second.result (differ_at a.w.wire a.many) 1 =
    stands_after c.parity-first.result c.parity-first.new.table _ c.parity-second.new.table c.parity-second.result _ _ _
    c.parity-second.ensures (length_chain 6 c.parity-first.result.wire a.y (a.y + a.step) a.step (a.many - 1))
    (first (goal.at.emit-requires c).After-parity-first) in
    second.left

pub returns : goal.returns
unfolding digit_difference
returns c = let e = c.emit in
    let a = c.args in
    let n = a.w.wire in
    let m = a.many in
    let left = c.chain_end-left in
    let right = c.chain_end-right in
    let place : c.parity-first.result.wire ≡ n + (m - 1) = (first (goal.at.returns c).After-parity-first).place in
    wrote_then a.w a.table.now _ c.parity-second.new.table c.parity-second.result _ _ e.new.table e.result
    (wrote_then a.w a.table.now _ c.parity-first.new.table c.parity-first.result _ _ c.parity-second.new.table c.parity-second.result
    c.parity-first.ensures c.parity-second.ensures (ap (λ (i : ℕ). parity i a.y (a.y + a.step) a.step (m - 1)) place))
    (xor_wrote c.parity-second.result c.parity-second.new.table e.new.table e.result left.result right.result 0 e.ensures)
    (one_gate 6 left.ensures (right.ensures ∙ ap (λ (i : ℕ). chain_end i a.y (m - 1)) place) refl)
