-- `gate_adders::counter::count_digits` meets its contract: after each digit, writing the digits left completes the
-- block.
-- Assumes nothing.
use mathlib.Core.Path.{◌≡◌, refl, sym, ap, subst}
use Prim.Native.Nat.{ℕ, ◌+◌, ◌-◌, ◌*◌, ◌/◌, ◌%◌, ◌<◌, ◌≤◌}
use native.Mathlib.Omega.{arith}
use Rattle.gate_words.specs.Counter.{adders, level_sum, count_digits_as, count_size, Countable}
use Rattle.gate_words.proofs.Emitting.{one_wrote}
use Rattle.gate_words.proofs.Going.{goes_turn, goes_turn_as, goes_room_for, goes_done}
use Rattle.gate_words.proofs.CounterSteps.{count_size_step, countable_step, digits_step, digits_last, length_digits, few_adders}
use Rattle.gate_adders.proofs.counter.count_digits.Goals as goal

-- in a turn the level's wires exist already
level_fits : (n m x i r q : ℕ) → i < r → n + count_size m x (r - i) ≤ q
    → n + 3 * adders (m - 1) (x % 2) + count_size (adders (m - 1) (x % 2)) (x / 2) (r - (i + 1)) ≤ q
level_fits n m x i r q h f = omega (arith, count_size_step m x i r h)

pub level_sum-requires : goal.level_sum-requires
level_sum-requires c =
    let l = c.loop in
    omega (
      arith,
      level_fits l.n l.m l.rest l.counter c.args.levels c.args.start.wire c.loop-test.true l.invariant.0,
    )

pub emit-w-requires : goal.emit-w-requires
emit-w-requires c =
    goes_room_for c.loop.invariant.3 (omega (arith, length_digits)) (omega (arith, length_digits)) c.requires.room

pub overflow_mul-n : goal.overflow_mul-n
overflow_mul-n c =
    let l = c.loop in
    omega (
      arith,
      c.adders_of-m.ensures,
      level_fits l.n l.m l.rest l.counter c.args.levels c.args.start.wire c.loop-test.true l.invariant.0,
    )

pub overflow_add-n : goal.overflow_add-n
overflow_add-n c =
    let l = c.loop in
    omega (
      arith,
      c.adders_of-m.ensures,
      level_fits l.n l.m l.rest l.counter c.args.levels c.args.start.wire c.loop-test.true l.invariant.0,
    )

pub loop-preserved : goal.loop-preserved
loop-preserved c =
    let a = c.args in
    let l = c.loop in
    let e = c.emit-w in
    let t = c.loop-test.true in
    let k = adders (l.m - 1) (l.rest % 2) in
    let some = countable_step l.m l.rest l.counter a.levels t l.invariant.2 in
    let q : c.adders_of-m.result ≡ k = c.adders_of-m.ensures in
    let v : c.level_sum.result ≡ level_sum l.n l.at (l.m - 1) (l.rest % 2) = c.level_sum.ensures in (
      subst (λ (x : ℕ). l.n + 3 * x + count_size x (l.rest / 2) (a.levels - (l.counter + 1)) ≤ a.start.wire) (sym q)
          (level_fits l.n l.m l.rest l.counter a.levels a.start.wire t l.invariant.0),
      omega (arith, few_adders (l.m - 1) (l.rest % 2) (omega arith), l.invariant.1, some.0),
      subst (λ (x : ℕ). Countable x (l.rest / 2) (a.levels - (l.counter + 1))) (sym q) some.1,
      goes_turn_as (digits_step a.low a.top l.n l.at l.m l.rest l.counter a.levels t) l.invariant.3
          (one_wrote l.w l.table e.new.table e.result
          (level_sum l.n l.at (l.m - 1) (l.rest % 2)) 0 0 a.low c.requires.low_one (rw v at e.ensures))
          (ap (λ (x : ℕ). count_digits_as a.low a.top (l.n + 3 * x) (l.n + 2) x (l.rest / 2) (a.levels - (l.counter + 1)))
          (sym q)),
    )

pub emit-requires : goal.emit-requires
emit-requires c =
    goes_room_for c.loop.invariant.3 (omega (arith, length_digits)) (omega (arith, length_digits)) c.requires.room

pub returns : goal.returns
returns c =
    let a = c.args in
    let l = c.loop in
    goes_done
    (goes_turn (digits_last a.low a.top l.n l.at l.m l.rest l.counter a.levels c.loop-test.false) l.invariant.3
    (one_wrote _ _ _ _ _ _ _ a.top c.requires.top_one c.emit.ensures)) refl
