-- `graded_keys::nearest::sides` meets its contract: after each grade, writing the grades left completes the block.
-- Assumes nothing.
use mathlib.Core.Path.{◌≡◌, ◌∙◌, refl, sym, ap, subst}
use Prim.Native.Nat.{ℕ, ◌+◌, ◌-◌, ◌*◌, ◌≤◌, ◌<◌}
use native.Mathlib.Omega.{arith}
use Rattle.gate_words.proofs.Going.{goes_start, goes_as, goes_on, goes_room, goes_end}
use Rattle.graded_circuit.specs.Nearest.{stride, side_span, sides}
use Rattle.graded_circuit.proofs.NearestLaws.{side_flags_block, sides_block}
use Rattle.graded_keys.proofs.Steps.{sides_step, sides_none}
use Rattle.basics.proofs.Arithmetic.{one_less}
use Rattle.graded_keys.proofs.nearest.sides.Goals as goal
use Rattle.graded_keys.proofs.nearest.sides.Goals.{In-loop}

pub loop-init : goal.loop-init
loop-init c = let q = c.requires in
    let e : c.args.count ≡ c.args.count - 0 = omega arith in (
      subst (λ (k : ℕ). c.args.x + k * stride c.args.above ≤ c.args.w.wire) e q.first_below,
      subst (λ (k : ℕ). c.args.y + k * stride c.args.above ≤ c.args.w.wire) e q.second_below,
      goes_as c.args.w c.args.table.now _ c.args.w c.args.table.now _ _
          (ap (sides c.args.w.wire c.args.x c.args.y c.args.above c.args.high) e) (goes_start c.args.w c.args.table.now
          (sides c.args.w.wire c.args.x c.args.y c.args.above
          c.args.high c.args.count)
          (c.args.count * side_span c.args.above) c.requires.room),
    )

-- the next words are before the writer's wire
there : (c : In-loop)
    → (c.loop.left + stride c.args.above ≤ c.loop.next.wire)
    × (c.loop.right + stride c.args.above ≤ c.loop.next.wire)
there c =
    let e = one_less (c.args.count - c.loop.counter) (stride c.args.above) (omega arith) in
    (omega (arith, c.loop.invariant.0), omega (arith, c.loop.invariant.1))

wires_left : (c : In-loop) → c.loop.next.wire + (c.args.count - c.loop.counter)
    * side_span c.args.above ≡ c.args.w.wire
    + c.args.count * side_span c.args.above
wires_left c =
    let l = c.loop in
    let a = c.args in
    omega (
      arith,
      l.invariant.2.wire_left,
      (sides_block l.next.wire l.left l.right a.above a.high (a.count - l.counter)
          c.requires.cut l.invariant.0 l.invariant.1).long,
      (sides_block a.w.wire a.x a.y a.above a.high a.count c.requires.cut
          c.requires.first_below c.requires.second_below).long,
    )

pub side_flags-next-requires : goal.side_flags-next-requires
side_flags-next-requires c = let a = c.args in
    let l = c.loop in
    record {
      room = goes_room a.w a.table.now (sides a.w.wire a.x a.y a.above a.high a.count)
          l.next l.table (sides l.next.wire l.left l.right a.above a.high (a.count - l.counter)) _
          (a.count * side_span a.above) l.invariant.2
          (omega (
            arith,
            (sides_block l.next.wire l.left l.right a.above a.high (a.count - l.counter)
                c.requires.cut l.invariant.0 l.invariant.1).long,
            one_less (a.count - l.counter) (side_span a.above) (omega arith),
          ))
          (omega (
            arith,
            (sides_block a.w.wire a.x a.y a.above a.high a.count
                c.requires.cut c.requires.first_below
                c.requires.second_below).long,
          ))
          c.requires.room;
      first_below = (there (goal.at.side_flags-next-requires c).In-loop).0;
      second_below = (there (goal.at.side_flags-next-requires c).In-loop).1;
      cut = c.requires.cut;
    }

pub overflow_add-left-in-loop : goal.overflow_add-left-in-loop
overflow_add-left-in-loop c = omega (
  arith,
  there (goal.at.overflow_add-left-in-loop c).In-loop,
  wires_left (goal.at.overflow_add-left-in-loop c).In-loop,
  c.requires.room.small,
)

pub overflow_add-right-in-loop : goal.overflow_add-right-in-loop
overflow_add-right-in-loop c = omega (
  arith,
  there (goal.at.overflow_add-right-in-loop c).In-loop,
  wires_left (goal.at.overflow_add-right-in-loop c).In-loop,
  c.requires.room.small,
)

pub loop-preserved : goal.loop-preserved
loop-preserved c = let a = c.args in
    let l = c.loop in
    let more = a.count - l.counter in
    let t : 0 < more = omega arith in
    let less : more - 1 ≡ a.count - (l.counter + 1) = omega arith in
    let h = c.side_flags-next in
    let ends : h.result.wire ≡ l.next.wire + side_span a.above =
    omega (
      arith,
      h.ensures.wires,
      (side_flags_block l.next.wire l.left l.right a.above a.high
          c.requires.cut
          (omega (arith, there (goal.at.loop-preserved c).In-loop))
          (omega (arith, there (goal.at.loop-preserved c).In-loop))).long,
    ) in
    let e : stride a.above ≡ a.above + 2 = refl in (
      omega (arith, l.invariant.0, one_less more (stride a.above) t, ap (λ (k : ℕ). k * stride a.above) less),
      omega (arith, l.invariant.1, one_less more (stride a.above) t, ap (λ (k : ℕ). k * stride a.above) less),
      goes_as a.w a.table.now (sides a.w.wire a.x a.y a.above a.high a.count) h.result
          h.new.table _ _
          (ap (λ (k : ℕ). sides k (l.left + (a.above + 2)) (l.right + (a.above + 2)) a.above a.high
          (more - 1)) (sym ends)
          ∙ ap (sides h.result.wire (l.left + (a.above + 2)) (l.right + (a.above + 2)) a.above a.high) less)
          (goes_on a.w a.table.now (sides a.w.wire a.x a.y a.above a.high a.count)
          l.next l.table _ _ h.new.table h.result
          (goes_as a.w a.table.now (sides a.w.wire a.x a.y a.above a.high a.count)
          l.next l.table _ _ (sides_step l.next.wire l.left l.right a.above a.high more
          t) l.invariant.2)
          h.ensures),
    )

pub returns : goal.returns
returns c = let a = c.args in
    let l = c.loop in
    goes_end a.w a.table.now (sides a.w.wire a.x a.y a.above a.high a.count) l.next
    l.table _ (sides_none l.next.wire l.left l.right a.above a.high (a.count - l.counter)
    (omega arith)) l.invariant.2
