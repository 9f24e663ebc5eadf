-- `gate_adders::counter::count_levels` meets its contract: after each level, writing the levels left completes the
-- block.
-- Assumes nothing.
use mathlib.Core.Path.{◌≡◌, ◌∙◌, sym, ap, subst, subst₂}
use Prim.Native.Nat.{ℕ, ◌+◌, ◌-◌, ◌*◌, ◌/◌, ◌%◌}
use native.Mathlib.Omega.{arith}
use lib.ListN.{length, length-append}
use Rattle.gate_words.specs.Word.{Below}
use Rattle.gate_words.specs.Counter.{level, adders, count_levels, Countable}
use Rattle.gate_words.proofs.Places.{below_first, below_rest}
use Rattle.gate_words.proofs.CounterSteps.{length_level, count_step, count_none, countable_step, length_count, below_carries, few_adders}
use Rattle.gate_words.proofs.Going.{goes_turn_as, goes_room_for, goes_done}
use Rattle.gate_adders.proofs.counter.count_levels.Goals as goal

pub overflow_add-at : goal.overflow_add-at
overflow_add-at c =
    let l = c.loop in
    let some = countable_step l.m l.rest l.counter c.args.levels c.loop-test.true l.invariant.3 in
    omega (
      arith,
      l.invariant.4.wire_left,
      below_first l.w.wire l.at l.d l.m some.0 l.invariant.0,
      length_count c.args.start.wire c.args.first c.args.stride c.args.count c.args.extra c.args.levels,
    )

pub level-w-requires : goal.level-w-requires
level-w-requires c =
    let a = c.args in
    let l = c.loop in
    record {
      room = goes_room_for l.invariant.4
          (omega (
            arith,
            ap length (count_step l.w.wire l.at l.d l.m l.rest l.counter a.levels
                c.loop-test.true),
            length-append (level l.w.wire l.at (l.at + l.d) l.d (l.rest % 2) (l.m - 1))
                (count_levels (l.w.wire + 3 * adders (l.m - 1) (l.rest % 2)) (l.w.wire + 2) 3
                (adders (l.m - 1) (l.rest % 2)) (l.rest / 2) (a.levels - (l.counter + 1))),
          ))
          (omega (arith, length_count))
          c.requires.room;
      below = below_rest l.w.wire l.at l.d l.m (countable_step l.m l.rest l.counter c.args.levels c.loop-test.true l.invariant.3).0 l.invariant.0;
    }

pub overflow_add-at-in-loop : goal.overflow_add-at-in-loop
overflow_add-at-in-loop c =
    omega (
      arith,
      c.loop.invariant.4.wire_left,
      length_count c.args.start.wire c.args.first c.args.stride c.args.count c.args.extra c.args.levels,
    )

pub loop-preserved : goal.loop-preserved
loop-preserved c =
    let a = c.args in
    let l = c.loop in
    let e = c.level-w in
    let t = c.loop-test.true in
    let some = countable_step l.m l.rest l.counter a.levels t l.invariant.3 in
    let k = adders (l.m - 1) (l.rest % 2) in
    let n : e.result.wire ≡ l.w.wire + 3 * k = e.ensures.wires
    ∙ ap (λ (n : ℕ). l.w.wire + n)
    (length_level l.w.wire l.at (l.at + l.d) l.d (l.rest % 2) (l.m - 1) (omega arith)) in
    let q : c.adders_of-m.result ≡ k = c.adders_of-m.ensures in (
      subst₂ (λ (x y : ℕ). Below x (l.w.wire + 2) 3 y) (sym n) (sym q) (below_carries l.w.wire k),
      omega arith,
      omega (arith, few_adders (l.m - 1) (l.rest % 2) (omega arith), l.invariant.2, some.0),
      subst (λ (x : ℕ). Countable x (l.rest / 2) (a.levels - (l.counter + 1))) (sym q) some.1,
      goes_turn_as (count_step l.w.wire l.at l.d l.m l.rest l.counter a.levels t) l.invariant.4 e.ensures
          (ap (λ (x : ℕ). count_levels x (l.w.wire + 2) 3 k (l.rest / 2) (a.levels - (l.counter + 1))) (sym n)
          ∙ ap (λ (x : ℕ). count_levels e.result.wire (l.w.wire + 2) 3 x (l.rest / 2) (a.levels - (l.counter + 1))) (sym q)),
    )

pub returns : goal.returns
returns c =
    let a = c.args in
    let l = c.loop in
    goes_done l.invariant.4 (count_none l.w.wire l.at l.d l.m l.rest l.counter a.levels c.loop-test.false)
