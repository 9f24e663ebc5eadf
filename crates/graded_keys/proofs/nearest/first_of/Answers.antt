-- `graded_keys::nearest::first_of` meets its contract: after each grade, writing the grades left completes the block.
-- Assumes nothing.
use mathlib.Core.Path.{◌≡◌, ◌∙◌, sym, ap}
use mathlib.Core.List.{◌++◌}
use Prim.Native.Nat.{ℕ, suc, ◌+◌, ◌-◌, ◌*◌, ◌≤◌, ◌<◌}
use native.Mathlib.Omega.{arith}
use lib.ListN.{length}
use Rattle.gate_words.proofs.Going.{goes_start, goes_as, goes_on, goes_room, goes_end}
use Rattle.graded_circuit.specs.Nearest.{stride, side_span, either, either_span, first_words}
use Rattle.graded_circuit.proofs.NearestLaws.{either_block, first_of_block}
use Rattle.graded_keys.proofs.Steps.{product_most, fewer, first_step, first_none}
use Rattle.basics.proofs.Arithmetic.{one_less}
use Rattle.graded_keys.proofs.nearest.first_of.Goals as goal
use Rattle.graded_keys.proofs.nearest.first_of.Goals.{In-loop-i}

pub loop-i-init : goal.loop-i-init
loop-i-init c = let q = c.requires in (
  omega arith,
  q.u_below,
  q.v_below,
  goes_start c.args.w c.args.table.now
      (first_words c.args.w.wire c.args.f c.args.x c.args.y
      c.args.u c.args.v c.args.above c.args.count)
      (c.args.count * either_span c.args.above) c.requires.room,
)

-- the next words are before the writer's wire
there : (c : In-loop-i)
    → (c.args.f + (c.loop-i.i - 1)
    * side_span c.args.above < c.loop-i.next.wire)
    × (c.args.x + (c.loop-i.i - 1)
    * stride c.args.above + stride c.args.above
    ≤ c.loop-i.next.wire)
    × (c.args.y + (c.loop-i.i - 1)
    * stride c.args.above + stride c.args.above
    ≤ c.loop-i.next.wire)
there c =
    let l = c.loop-i in
    let a = c.args in
    let q = c.requires in
    let e = one_less l.i (stride a.above) c.loop-i-test.true in
    let e' = one_less l.i (side_span a.above) c.loop-i-test.true in
    let h = fewer l.i a.count (stride a.above) l.auto.i in
    let h' = fewer l.i a.count (side_span a.above) l.auto.i in
    (omega (arith, q.sides_below, l.invariant.0), omega (arith, q.x_below, l.invariant.0), omega (arith, q.y_below, l.invariant.0))

small : (c : In-loop-i)
    → ((c.loop-i.i - 1) * (c.args.above + 2) ≤ 45)
    × ((c.loop-i.i - 1) * (2 * c.args.above + 3) ≤ 85)
small c =
    let q = c.requires in
    let h : c.loop-i.i - 1 ≤ 5 = omega (arith, c.loop-i.auto.i, q.few) in
    let p : (c.loop-i.i - 1) * (c.args.above + 2) ≤ 5 * 9 =
    product_most (c.loop-i.i - 1) (c.args.above + 2) 5 9 h
    (omega (arith, q.narrow)) in
    let p' : (c.loop-i.i - 1) * (2 * c.args.above + 3) ≤ 5 * 17 =
    product_most (c.loop-i.i - 1) (2 * c.args.above + 3) 5 17 h
    (omega (arith, q.narrow)) in
    (omega arith, omega arith)

all_long : (c : In-loop-i)
    → length (first_words c.args.w.wire c.args.f
    c.args.x c.args.y
    c.args.u c.args.v
    c.args.above c.args.count)
    ≡ c.args.count * either_span c.args.above
all_long c =
    let a = c.args in
    let q = c.requires in
    (first_of_block a.w.wire a.f a.x a.y a.u a.v a.above a.count q.sides_below q.x_below
    q.y_below q.u_below q.v_below).long

left_long : (c : In-loop-i)
    → length (first_words c.loop-i.next.wire c.args.f
    c.args.x c.args.y c.loop-i.first
    c.loop-i.second c.args.above c.loop-i.i)
    ≡ c.loop-i.i * either_span c.args.above
left_long c =
    let l = c.loop-i in
    let a = c.args in
    let i = l.invariant in
    let q = c.requires in
    let h = fewer l.i a.count (stride a.above) l.auto.i in
    let h' = fewer l.i a.count (side_span a.above) l.auto.i in
    (first_of_block l.next.wire a.f a.x a.y l.first l.second a.above l.i
    (omega (arith, q.sides_below, i.0)) (omega (arith, q.x_below, i.0)) (omega (arith, q.y_below, i.0)) i.1
    i.2).long

near_limit : (c : In-loop-i) → c.loop-i.next.wire + c.loop-i.i
    * either_span c.args.above ≡ c.args.w.wire
    + c.args.count * either_span c.args.above
near_limit c =
    omega (arith, c.loop-i.invariant.3.wire_left, all_long c, left_long c)

pub overflow_add-f : goal.overflow_add-f
overflow_add-f c = let i = (goal.at.overflow_add-f c).In-loop-i in
    omega (arith, small i, there i, near_limit i, c.requires.room.small)

pub overflow_add-x : goal.overflow_add-x
overflow_add-x c = let i = (goal.at.overflow_add-x c).In-loop-i in
    omega (arith, small i, there i, near_limit i, c.requires.room.small)

pub overflow_add-y : goal.overflow_add-y
overflow_add-y c = let i = (goal.at.overflow_add-y c).In-loop-i in
    omega (arith, small i, there i, near_limit i, c.requires.room.small)

pub either-next-requires : goal.either-next-requires
either-next-requires c = let a = c.args in
    let l = c.loop-i in
    let q = there (goal.at.either-next-requires c).In-loop-i in
    record {
      room = goes_room a.w a.table.now
          (first_words a.w.wire a.f a.x a.y a.u a.v a.above a.count) l.next l.table
          (first_words l.next.wire a.f a.x a.y l.first l.second a.above l.i) _
          (a.count * either_span a.above) l.invariant.3
          (omega (arith, left_long (goal.at.either-next-requires c).In-loop-i, one_less l.i (either_span a.above) c.loop-i-test.true))
          (omega (arith, all_long (goal.at.either-next-requires c).In-loop-i)) c.requires.room;
      x_below = omega (arith, q.1);
      y_below = omega (arith, q.2);
      u_below = l.invariant.1;
      v_below = l.invariant.2;
    }

pub overflow_add-second : goal.overflow_add-second
overflow_add-second c = omega (arith, near_limit (goal.at.overflow_add-second c).In-loop-i, c.requires)

pub overflow_add-second-in-loop-i : goal.overflow_add-second-in-loop-i
overflow_add-second-in-loop-i c = omega (arith, near_limit (goal.at.overflow_add-second-in-loop-i c).In-loop-i, c.requires)

pub loop-i-preserved : goal.loop-i-preserved
loop-i-preserved c = let a = c.args in
    let l = c.loop-i in
    let t = c.loop-i-test.true in
    let h = c.either-next in
    let r = a.above in
    let n = l.next.wire in
    let i = l.i - 1 in
    let whole = first_words a.w.wire a.f a.x a.y a.u a.v r a.count in
    let e₁ : side_span r ≡ 2 * r + 3 = omega arith in
    let e₂ : n + suc r ≡ n + r + 1 = omega arith in
    let q = there (goal.at.loop-i-preserved c).In-loop-i in
    let k : i * (2 * r + 3) ≡ i * side_span r = ap (λ (j : ℕ). i * j) (sym e₁) in
    let e₅ : h.result.wire ≡ n + either_span r =
    omega (
      arith,
      h.ensures.wires,
      (either_block n (a.f + i * (2 * r + 3)) (a.x + i * (r + 2)) (a.y + i * (r + 2)) l.first l.second r
          (omega (arith, q.0)) (omega (arith, q.1)) (omega (arith, q.2)) l.invariant.1 l.invariant.2).long,
    ) in
    let rest = first_words (n + either_span r) a.f a.x a.y n (n + suc r) r i in (
      omega (arith, l.invariant.0),
      omega arith,
      omega arith,
      goes_as a.w a.table.now whole h.result h.new.table _ _
          (ap (λ (k : ℕ). first_words k a.f a.x a.y n (n + suc r) r i) (sym e₅)
          ∙ ap (λ (k : ℕ). first_words h.result.wire a.f a.x a.y n k r i) e₂)
          (goes_on a.w a.table.now whole l.next l.table _ _ h.new.table h.result
          (goes_as a.w a.table.now whole l.next l.table _ _
          (first_step n a.f a.x a.y l.first l.second r l.i t
          ∙ ap (λ (k : ℕ). either (a.f + i * k) (a.x + i * (r + 2)) (a.y + i * (r + 2)) l.first
          l.second r ++ rest) e₁) l.invariant.3)
          h.ensures),
    )

pub returns : goal.returns
returns c = let a = c.args in
    let l = c.loop-i in
    goes_end a.w a.table.now (first_words a.w.wire a.f a.x a.y a.u a.v a.above a.count)
    l.next l.table _ (first_none l.next.wire a.f a.x a.y l.first l.second a.above
    l.i c.loop-i-test.false) l.invariant.3
