-- `graded_keys::nearest::last_of` meets its contract: after each grade, writing the grades left completes the block.
-- Assumes nothing.
use mathlib.Core.Path.{◌≡◌, ◌∙◌, sym, ap, subst}
use Prim.Native.Nat.{ℕ, suc, ◌+◌, ◌-◌, ◌*◌, ◌≤◌, ◌<◌}
use native.Mathlib.Omega.{arith}
use lib.ListN.{length}
use Rattle.gate_words.proofs.Going.{goes_start, goes_as, goes_on, goes_room, goes_end}
use Rattle.graded_circuit.specs.Nearest.{stride, side_span, either_span, last_words}
use Rattle.graded_circuit.proofs.NearestLaws.{either_block, last_of_block}
use Rattle.graded_keys.proofs.Steps.{last_step, last_none}
use Rattle.basics.proofs.Arithmetic.{one_less}
use Rattle.graded_keys.proofs.nearest.last_of.Goals as goal
use Rattle.graded_keys.proofs.nearest.last_of.Goals.{In-loop}

pub loop-init : goal.loop-init
loop-init c = let q = c.requires in
    let a = c.args in
    let e : a.count ≡ a.count - 0 = omega arith in (
      subst (λ (k : ℕ). a.f + k * side_span a.above < a.w.wire + side_span a.above) e q.sides_below,
      subst (λ (k : ℕ). a.x + k * stride a.above ≤ a.w.wire) e q.x_below,
      subst (λ (k : ℕ). a.y + k * stride a.above ≤ a.w.wire) e q.y_below,
      q.u_below,
      q.v_below,
      goes_as a.w a.table.now _ a.w a.table.now _ _ (ap (last_words a.w.wire a.f a.x a.y a.u a.v a.above) e) (goes_start c.args.w c.args.table.now
          (last_words c.args.w.wire c.args.f c.args.x c.args.y
          c.args.u c.args.v c.args.above c.args.count)
          (c.args.count * either_span c.args.above) c.requires.room),
    )

-- the next words are before the writer's wire
there : (c : In-loop) → (c.loop.flag < c.loop.next.wire)
    × (c.loop.left + stride c.args.above ≤ c.loop.next.wire)
    × (c.loop.right + stride c.args.above ≤ c.loop.next.wire)
there c =
    let e = one_less (c.args.count - c.loop.counter) (stride c.args.above) (omega arith) in
    let e' = one_less (c.args.count - c.loop.counter) (side_span c.args.above) (omega arith) in
    (omega (arith, c.loop.invariant.0), omega (arith, c.loop.invariant.1), omega (arith, c.loop.invariant.2))

all_long : (c : In-loop)
    → length (last_words c.args.w.wire c.args.f
    c.args.x c.args.y
    c.args.u c.args.v
    c.args.above c.args.count)
    ≡ c.args.count * either_span c.args.above
all_long c =
    let a = c.args in
    let q = c.requires in
    (last_of_block a.w.wire a.f a.x a.y a.u a.v a.above a.count q.sides_below q.x_below
    q.y_below q.u_below q.v_below).long

left_long : (c : In-loop)
    → length (last_words c.loop.next.wire c.loop.flag c.loop.left
    c.loop.right c.loop.first c.loop.second
    c.args.above (c.args.count - c.loop.counter)) ≡ (c.args.count - c.loop.counter)
    * either_span c.args.above
left_long c =
    let l = c.loop in
    let i = l.invariant in
    (last_of_block l.next.wire l.flag l.left l.right l.first l.second
    c.args.above (c.args.count - l.counter) i.0 i.1 i.2 i.3 i.4).long

near_limit : (c : In-loop) → c.loop.next.wire + (c.args.count - c.loop.counter)
    * either_span c.args.above ≡ c.args.w.wire
    + c.args.count * either_span c.args.above
near_limit c =
    omega (arith, c.loop.invariant.5.wire_left, all_long c, left_long c)

pub either-next-requires : goal.either-next-requires
either-next-requires c = let a = c.args in
    let l = c.loop in
    let q = there (goal.at.either-next-requires c).In-loop in
    record {
      room = goes_room a.w a.table.now
          (last_words a.w.wire a.f a.x a.y a.u a.v a.above a.count) l.next l.table
          (last_words l.next.wire l.flag l.left l.right l.first l.second a.above (a.count - l.counter)) _
          (a.count * either_span a.above) l.invariant.5
          (omega (arith, left_long (goal.at.either-next-requires c).In-loop, one_less (a.count - l.counter) (either_span a.above) (omega arith)))
          (omega (arith, all_long (goal.at.either-next-requires c).In-loop)) c.requires.room;
      x_below = omega (arith, q.1);
      y_below = omega (arith, q.2);
      u_below = l.invariant.3;
      v_below = l.invariant.4;
    }

pub overflow_add-flag-in-loop : goal.overflow_add-flag-in-loop
overflow_add-flag-in-loop c = omega (
  arith,
  there (goal.at.overflow_add-flag-in-loop c).In-loop,
  near_limit (goal.at.overflow_add-flag-in-loop c).In-loop,
  c.requires,
)

pub overflow_add-left-in-loop : goal.overflow_add-left-in-loop
overflow_add-left-in-loop c = omega (
  arith,
  there (goal.at.overflow_add-left-in-loop c).In-loop,
  near_limit (goal.at.overflow_add-left-in-loop c).In-loop,
  c.requires.room.small,
)

pub overflow_add-right-in-loop : goal.overflow_add-right-in-loop
overflow_add-right-in-loop c = omega (
  arith,
  there (goal.at.overflow_add-right-in-loop c).In-loop,
  near_limit (goal.at.overflow_add-right-in-loop c).In-loop,
  c.requires.room.small,
)

pub overflow_add-second : goal.overflow_add-second
overflow_add-second c = omega (arith, near_limit (goal.at.overflow_add-second c).In-loop, c.requires)

pub overflow_add-second-in-loop : goal.overflow_add-second-in-loop
overflow_add-second-in-loop c = omega (arith, near_limit (goal.at.overflow_add-second-in-loop c).In-loop, c.requires)

pub loop-preserved : goal.loop-preserved
loop-preserved c = let a = c.args in
    let l = c.loop in
    let more = a.count - l.counter in
    let t : 0 < more = omega arith in
    let less : more - 1 ≡ a.count - (l.counter + 1) = omega arith in
    let h = c.either-next in
    let r = a.above in
    let n = l.next.wire in
    let whole = last_words a.w.wire a.f a.x a.y a.u a.v r a.count in
    let e₁ : l.flag + side_span r ≡ l.flag + (2 * r + 3) = omega arith in
    let e₂ : n + suc r ≡ n + r + 1 = omega arith in
    let e₃ = one_less more (stride r) t in
    let e₄ = one_less more (side_span r) t in
    let q = there (goal.at.loop-preserved c).In-loop in
    let e₅ : h.result.wire ≡ n + either_span r =
    omega (
      arith,
      h.ensures.wires,
      (either_block n l.flag l.left l.right l.first l.second r q.0 (omega (arith, q.1)) (omega (arith, q.2))
          l.invariant.3 l.invariant.4).long,
    ) in
    let e₆ = ap (λ (k : ℕ). k * stride r) less in
    let e₇ = ap (λ (k : ℕ). k * side_span r) less in (
      omega (arith, l.invariant.0),
      omega (arith, l.invariant.1),
      omega (arith, l.invariant.2),
      omega arith,
      omega arith,
      goes_as a.w a.table.now whole h.result h.new.table _ _
          (ap (λ (k : ℕ). last_words k (l.flag + side_span r) (l.left + stride r) (l.right + stride r) n (n + suc r) r (more - 1)) (sym e₅)
          ∙ ap (λ (k : ℕ). last_words h.result.wire k (l.left + stride r) (l.right + stride r) n (n + suc r) r (more - 1)) e₁
          ∙ ap (λ (k : ℕ). last_words h.result.wire (l.flag + (2 * r + 3)) (l.left + stride r)
          (l.right + stride r) n k r (more - 1)) e₂
          ∙ ap (last_words h.result.wire (l.flag + (2 * r + 3)) (l.left + stride r) (l.right + stride r) n (n + r + 1) r) less)
          (goes_on a.w a.table.now whole l.next l.table _ _ h.new.table h.result
          (goes_as a.w a.table.now whole l.next l.table _ _
          (last_step n l.flag l.left l.right l.first l.second r more t) l.invariant.5)
          h.ensures),
    )

pub returns : goal.returns
returns c = let a = c.args in
    let l = c.loop in
    goes_end a.w a.table.now (last_words a.w.wire a.f a.x a.y a.u a.v a.above a.count)
    l.next l.table _ (last_none l.next.wire l.flag l.left l.right l.first l.second
    a.above (a.count - l.counter) (omega arith)) l.invariant.5
