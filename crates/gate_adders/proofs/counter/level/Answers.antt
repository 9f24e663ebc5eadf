-- `gate_adders::counter::level` meets its contract: after each adder, writing the level from its sum on completes
-- the block.
-- Assumes nothing.
use mathlib.Core.Path.{◌∙◌, refl, sym, ap}
use mathlib.Core.List.{[]}
use Prim.Native.Nat.{ℕ, ◌+◌, ◌-◌, ◌*◌, ◌/◌, ◌<◌, ◌≤◌}
use native.Mathlib.Omega.{arith}
use lib.ListN.{length, length-append}
use Rattle.gate_words.specs.Adder.{full_adder, half_adder, increment}
use Rattle.gate_words.specs.Counter.{level}
use Rattle.gate_words.proofs.Places.{below_two}
use Rattle.gate_words.proofs.WordSteps.{length_full, length_half, length_increment}
use Rattle.gate_words.proofs.CounterSteps.{level_two, level_one, level_none, level_bit}
use Rattle.gate_words.proofs.Going.{goes_turn, goes_turn_as, goes_room_for, goes_done}
use Rattle.gate_adders.proofs.counter.level.Goals as goal

-- a level of two or more bits has at least three gates
long : (n s at d e i m : ℕ) → i < m / 2 → 3 ≤ length (level n s at d e (m - 2 * i))
long n s at d e i m h =
    omega (
      arith,
      ap length (level_two n s at d e i m h),
      length-append (full_adder n s at (at + d)) (level (n + 3) (n + 1) (at + d + d) d e (m - 2 * (i + 1))),
      length_full n s at (at + d),
    )

pub overflow_add-at : goal.overflow_add-at
overflow_add-at c =
    let l = c.loop in
    omega (arith, (below_two c.args.start.wire l.at c.args.stride l.counter c.args.count c.loop-test.true l.invariant.0).0)

pub full_adder-w-requires : goal.full_adder-w-requires
full_adder-w-requires c =
    let a = c.args in
    let l = c.loop in
    goes_room_for l.invariant.1 (long l.w.wire l.s l.at a.stride a.e l.counter a.count c.loop-test.true)
    (omega arith) c.requires.room

pub overflow_add-at-in-loop : goal.overflow_add-at-in-loop
overflow_add-at-in-loop c =
    let l = c.loop in
    omega (arith, (below_two c.args.start.wire l.at c.args.stride l.counter c.args.count c.loop-test.true l.invariant.0).0)

pub overflow_add-at-in-loop-2 : goal.overflow_add-at-in-loop-2
overflow_add-at-in-loop-2 c =
    let l = c.loop in
    omega (arith, (below_two c.args.start.wire l.at c.args.stride l.counter c.args.count c.loop-test.true l.invariant.0).0)

pub loop-preserved : goal.loop-preserved
loop-preserved c =
    let a = c.args in
    let l = c.loop in
    let e = c.full_adder-w in
    let t = c.loop-test.true in (
      (below_two a.start.wire l.at a.stride l.counter a.count t l.invariant.0).1,
      goes_turn_as (level_two l.w.wire l.s l.at a.stride a.e l.counter a.count t) l.invariant.1 e.ensures
          (ap (λ (n : ℕ). level n (l.w.wire + 1) (l.at + a.stride + a.stride) a.stride a.e (a.count - 2 * (l.counter + 1)))
          (sym (e.ensures.wires ∙ ap (λ (n : ℕ). l.w.wire + n) (length_full l.w.wire l.s l.at (l.at + a.stride))))),
    )

pub half_adder-requires : goal.half_adder-requires
half_adder-requires c =
    let a = c.args in
    let l = c.loop in
    goes_room_for l.invariant.1
    (omega (
      arith,
      ap length (level_one l.w.wire l.s l.at a.stride a.e (a.count - 2 * l.counter) (omega arith)),
      length-append (half_adder l.w.wire l.s l.at a.e) [],
      length_half l.w.wire l.s l.at a.e,
    )) (omega arith) c.requires.room

pub returns-then-count-eq1 : goal.returns-then-count-eq1
returns-then-count-eq1 c =
    let a = c.args in
    let l = c.loop in
    goes_done
    (goes_turn (level_one l.w.wire l.s l.at a.stride a.e (a.count - 2 * l.counter) (omega arith)) l.invariant.1
    c.half_adder.ensures) refl

pub returns-then-e-eq0 : goal.returns-then-e-eq0
returns-then-e-eq0 c =
    let a = c.args in
    let l = c.loop in
    goes_done l.invariant.1
    (level_none l.w.wire l.s l.at a.stride a.e (a.count - 2 * l.counter) (omega arith) (λ p. omega arith) c.if-e-eq0.true)

pub increment-requires : goal.increment-requires
increment-requires c =
    let a = c.args in
    let l = c.loop in
    let left = a.count - 2 * l.counter in
    goes_room_for l.invariant.1
    (omega (
      arith,
      ap length (level_bit l.w.wire l.s l.at a.stride a.e left (omega arith) (λ p. omega arith) c.if-e-eq0.false),
      length-append (increment l.w.wire l.s) [],
      length_increment l.w.wire l.s,
    )) (omega arith) c.requires.room

pub returns : goal.returns
returns c =
    let a = c.args in
    let l = c.loop in
    goes_done
    (goes_turn (level_bit l.w.wire l.s l.at a.stride a.e (a.count - 2 * l.counter) (omega arith) (λ p. omega arith)
    c.if-e-eq0.false) l.invariant.1 c.increment.ensures) refl
