-- `graded_keys::median::later_digits` meets its contract: after each digit, writing the digits left completes the
-- block.
-- Assumes nothing.
use mathlib.Core.Path.{◌≡◌, ◌∙◌, ap, subst}
use Prim.Native.Nat.{ℕ, ◌+◌, ◌-◌, ◌/◌, ◌≤◌, ◌<◌}
use native.Mathlib.Omega.{arith}
use native.Mathlib.Numerals.{unary_clauses}
use Rattle.gate_words.specs.Limits.{writer_limit}
use Rattle.gate_words.proofs.Going.{goes_start, goes_as, goes_on, goes_room, goes_end}
use Rattle.graded_circuit.specs.Median.{Fits, differ_at, difference_span, later_digits, later_span}
use Rattle.graded_circuit.proofs.MedianLaws.{half_apart, first_of, length_next, length_later}
use Rattle.graded_keys.proofs.Steps.{fits_step, stride_most, later_step, later_none, later_span_step}
use Rattle.graded_keys.proofs.median.later_digits.Goals as goal
use Rattle.graded_keys.proofs.median.later_digits.Goals.{In-loop}

pub loop-init : goal.loop-init
loop-init c = let a = c.args in
    let q = c.requires in
    let whole = later_digits a.w.wire a.x a.y a.stride a.count a.e a.s a.digits in
    simp unary_clauses (
      q.fits,
      q.ones.first_below,
      q.ones.second_below,
      q.ones.short,
      goes_start a.w a.table.now whole (later_span a.count a.digits) q.ones.room,
    )

-- In a turn there are wires, they are written already, and there is room for the digit.

record Turn (wire first second step many left : ℕ) : Type 0 where
  some : 0 < many
  half : Fits (many / 2) (left - 1)
  first_there : first < wire
  second_there : second < wire
  near : step ≤ 2000
  few : wire + difference_span many + 2 < writer_limit

in_turn : (c : In-loop) → let l = c.loop in
    Turn l.next.wire l.first l.second l.step l.many (c.args.digits - l.counter)
in_turn c =
    let l = c.loop in
    let a = c.args in
    let left = a.digits - l.counter in
    let t : 0 < left = omega arith in
    let f = fits_step l.many left t l.invariant.0 in
    record {
      some = f.0;
      half = f.1;
      first_there = (first_of l.first l.step l.many l.next.wire f.0 l.invariant.1).0;
      second_there = (first_of l.second l.step l.many l.next.wire f.0 l.invariant.2).0;
      near = stride_most l.many l.step f.0 l.invariant.3;
      few = omega (
        arith,
        l.invariant.4.wire_left,
        length_later l.next.wire l.first l.second l.step l.many l.differ l.larger left,
        length_later a.w.wire a.x a.y a.stride a.count a.e a.s a.digits,
        later_span_step l.many left t,
        c.requires.ones.room.small,
      );
    }

pub next_digit-next-requires : goal.next_digit-next-requires
next_digit-next-requires c = let l = c.loop in
    let a = c.args in
    let left = a.digits - l.counter in
    let t : 0 < left = omega arith in
    record {
      ones = record {
        room = goes_room a.w a.table.now
            (later_digits a.w.wire a.x a.y a.stride a.count a.e a.s a.digits) l.next
            l.table
            (later_digits l.next.wire l.first l.second l.step l.many l.differ l.larger
            left) _ (later_span a.count a.digits) l.invariant.4
            (omega (
              arith,
              length_later l.next.wire l.first l.second l.step l.many l.differ
                  l.larger left,
              later_span_step l.many left t,
            ))
            (omega (arith, length_later a.w.wire a.x a.y a.stride a.count a.e a.s a.digits)) c.requires.ones.room;
        first_below = l.invariant.1;
        second_below = l.invariant.2;
        short = l.invariant.3;
      };
      some = (in_turn (goal.at.next_digit-next-requires c).In-loop).some;
    }

pub overflow_add-first : goal.overflow_add-first
overflow_add-first c = let q = in_turn (goal.at.overflow_add-first c).In-loop in omega (arith, q.first_there, q.near, q.few)

pub overflow_add-second : goal.overflow_add-second
overflow_add-second c = let q = in_turn (goal.at.overflow_add-second c).In-loop in omega (arith, q.second_there, q.near, q.few)

pub overflow_add-step : goal.overflow_add-step
overflow_add-step c = omega (arith, (in_turn (goal.at.overflow_add-step c).In-loop).near)

pub overflow_sub-differ : goal.overflow_sub-differ
overflow_sub-differ c = let l = c.loop in
    omega (arith, c.next_digit-next.ensures.wires, length_next l.next.wire l.first l.second l.step l.many l.differ l.larger)

pub overflow_sub-larger : goal.overflow_sub-larger
overflow_sub-larger c = let l = c.loop in
    omega (arith, c.next_digit-next.ensures.wires, length_next l.next.wire l.first l.second l.step l.many l.differ l.larger)

pub loop-preserved : goal.loop-preserved
loop-preserved c = let l = c.loop in
    let a = c.args in
    let h = c.next_digit-next in
    let q = in_turn (goal.at.loop-preserved c).In-loop in
    let n = differ_at l.next.wire l.many in
    let e₁ : n + 3 ≡ h.result.wire = omega (arith, h.ensures.wires, length_next l.next.wire l.first l.second l.step l.many l.differ l.larger) in
    let e₂ : n + 1 ≡ h.result.wire - 2 = omega (arith, h.ensures.wires, length_next l.next.wire l.first l.second l.step l.many l.differ l.larger) in
    let e₃ : n + 2 ≡ h.result.wire - 1 = omega (arith, h.ensures.wires, length_next l.next.wire l.first l.second l.step l.many l.differ l.larger) in
    let x = l.first + l.step in
    let y = l.second + l.step in
    let d = l.step + l.step in
    let m = l.many / 2 in
    let left = a.digits - l.counter in
    let t : 0 < left = omega arith in
    let e₄ : left - 1 ≡ a.digits - (l.counter + 1) = omega arith in
    let whole = later_digits a.w.wire a.x a.y a.stride a.count a.e a.s a.digits in (
      subst (Fits m) e₄ q.half,
      omega (arith, l.invariant.1, half_apart l.many l.step, e₁),
      omega (arith, l.invariant.2, half_apart l.many l.step, e₁),
      omega (arith, l.invariant.3, half_apart l.many l.step),
      goes_as a.w a.table.now whole h.result h.new.table _ _
          (ap (λ (k : ℕ). later_digits k x y d m (n + 1) (n + 2) (left - 1)) e₁
          ∙ ap (λ (k : ℕ). later_digits h.result.wire x y d m k (n + 2) (left - 1)) e₂
          ∙ ap (λ (k : ℕ). later_digits h.result.wire x y d m (h.result.wire - 2) k (left - 1)) e₃
          ∙ ap (later_digits h.result.wire x y d m (h.result.wire - 2) (h.result.wire - 1)) e₄)
          (goes_on a.w a.table.now whole l.next l.table _ _ h.new.table h.result
          (goes_as a.w a.table.now whole l.next l.table _ _
          (later_step l.next.wire l.first l.second l.step l.many l.differ l.larger left
          t) l.invariant.4)
          h.ensures),
    )

pub returns : goal.returns
returns c = let l = c.loop in
    let a = c.args in
    goes_end a.w a.table.now
    (later_digits a.w.wire a.x a.y a.stride a.count a.e a.s a.digits) l.next l.table _
    (later_none l.next.wire l.first l.second l.step l.many l.differ l.larger (a.digits - l.counter)
    (omega arith)) l.invariant.4
