-- `graded_writer::list::two_to_four` meets its contract: both halves, their merge and the better key.
-- Assumes nothing.
use mathlib.Core.Path.{◌≡◌, ◌∙◌, refl, sym, ap}
use mathlib.Core.Bool.{cond}
use Prim.Native.Nat.{ℕ, ◌+◌, ◌-◌, ◌/◌}
use native.Mathlib.Omega.{arith}
use lib.Dec.{leb}
use lib.ListN.{length}
use Rattle.gate_words.specs.Choice.{choose}
use Rattle.gate_words.proofs.Writing.{wrote_as, room_less}
use Rattle.graded_circuit.specs.Key.{key_span}
use Rattle.graded_circuit.specs.Contest.{result_at}
use Rattle.graded_circuit.specs.Merge.{merge, merge_span}
use Rattle.graded_circuit.specs.OwnList.{key_at, levels_span, merge_at, halves_merge, levels}
use Rattle.graded_circuit.proofs.LevelsLaws.{span_more, levels_more, levels_block, halves_merge_block}
use Rattle.gate_words.proofs.Standing.{Stands, stands, stands_after, room_of, wrote_then}
use Rattle.graded_writer.proofs.ListWriters.{span_least, key_below, merge_same, better_same}
use Rattle.graded_writer.proofs.list.two_to_four.Goals as goal
use Rattle.graded_writer.proofs.list.two_to_four.Goals.{After-halves-met, After-pair-high, After-pair-low}

pub pair-low-requires : goal.pair-low-requires
pair-low-requires c = let q = c.requires in
    let t = c.requires.some in
    record {
      plan = c.requires.plan;
      room = room_less c.args.w _ _ (omega (arith, span_more c.args.p 1 c.args.count c.requires.some)) c.requires.room;
      span_is = q.span_is;
      levels_below = q.levels_below;
      some = omega (arith, t);
      few = omega (arith, q.few);
      inside = omega (arith, q.inside);
    }

low : (c : After-pair-low) → Stands c.pair-low.result
    (c.args.w.wire
    + levels_span c.args.p 1 (c.args.count / 2))
    (levels_span c.args.p 1
    (c.args.count - c.args.count / 2)
    + (merge_span c.args.p (c.args.count / 2)
    (c.args.count - c.args.count / 2)
    + key_span c.args.p))
low c =
    let a = c.args in
    let q = c.requires in
    let t = c.requires.some in
    stands_after a.w a.table.now _ c.pair-low.new.table c.pair-low.result _ _ _ c.pair-low.ensures
    (levels_block a.p c.requires.plan 1 a.w.wire a.c (a.count / 2)
    q.levels_below (omega (arith, t)) (omega (arith, q.few)) (omega (arith, q.inside))).long
    (stands a.w a.w.wire _ _ refl (omega (arith, span_more c.args.p 1 c.args.count c.requires.some)) c.requires.room)

pub pair-high-requires : goal.pair-high-requires
pair-high-requires c = let q = c.requires in
    let t = c.requires.some in
    record {
      plan = c.requires.plan;
      room = room_of c.pair-low.result _ _ _ (low (goal.at.pair-high-requires c).After-pair-low) (omega arith);
      span_is = q.span_is;
      levels_below = omega (arith, q.levels_below, (low (goal.at.pair-high-requires c).After-pair-low).place);
      some = omega (arith, t);
      few = omega (arith, q.few);
      inside = omega (arith, q.inside);
    }

high : (c : After-pair-high) → Stands c.pair-high.result
    (c.args.w.wire
    + levels_span c.args.p 1 (c.args.count / 2)
    + levels_span c.args.p 1
    (c.args.count - c.args.count / 2))
    (merge_span c.args.p (c.args.count / 2)
    (c.args.count - c.args.count / 2)
    + key_span c.args.p)
high c =
    let a = c.args in
    let q = c.requires in
    let t = c.requires.some in
    stands_after c.pair-low.result
    c.pair-low.new.table _ c.pair-high.new.table c.pair-high.result _ _ _
    c.pair-high.ensures
    (levels_block a.p c.requires.plan 1
    c.pair-low.result.wire (a.c + a.count / 2) (a.count - a.count / 2)
    (omega (arith, q.levels_below, (low c.before.before.before.before).place)) (omega (arith, t))
    (omega (arith, q.few)) (omega (arith, q.inside))).long (low c.before.before.before.before)

pub halves-met-requires : goal.halves-met-requires
halves-met-requires c = let a = c.args in
    let q = c.requires in
    let t = c.requires.some in
    let e = (low (goal.at.halves-met-requires c).After-pair-low).place in
    let e' = (high (goal.at.halves-met-requires c).After-pair-high).place in
    record {
      plan = c.requires.plan;
      room = room_of c.pair-high.result _ _ _ (high (goal.at.halves-met-requires c).After-pair-high) (omega arith);
      span_is = q.span_is;
      levels_below = omega (arith, q.levels_below, e);
      middle_below = omega (arith, e, e');
      first_some = omega (arith, t);
      second_some = omega (arith, t);
      inside = omega (arith, q.inside);
      first_below = λ z. omega (arith, q.levels_below, e, span_least a.p 0 (a.count / 2) z);
      second_below = λ z. omega (arith, e, e', span_least a.p 0 (a.count - a.count / 2) z);
    }

merge_wrote : (c : After-halves-met)
    → halves_merge c.args.p 1 c.args.w.wire
    c.args.c c.args.count
    ≡ merge c.args.p c.pair-high.result.wire
    (cond (leb (c.args.count / 2) 1)
    (key_at c.args.p c.args.c)
    (c.pair-low.result.wire - key_span c.args.p))
    (cond (leb (c.args.count - c.args.count / 2) 1)
    (key_at c.args.p
    (c.args.c + c.args.count / 2))
    (c.pair-high.result.wire - key_span c.args.p))
    (cond (leb (c.args.count / 2) 1) 0
    (c.pair-low.result.wire - key_span c.args.p
    - c.args.count / 2))
    (cond (leb (c.args.count - c.args.count / 2) 1) 0
    (c.pair-high.result.wire - key_span c.args.p
    - (c.args.count - c.args.count / 2)))
    (c.args.count / 2)
    (c.args.count - c.args.count / 2)
merge_wrote c =
    sym (merge_same c.args.p 0 c.args.w.wire
    c.args.c c.args.count
    c.pair-high.result.wire c.pair-low.result.wire
    c.pair-high.result.wire (high c.before.before.before.before).place
    (low c.before.before.before.before.before.before.before.before).place (high c.before.before.before.before).place)

met : (c : After-halves-met) → Stands c.halves-met.result
    (c.args.w.wire
    + levels_span c.args.p 1 (c.args.count / 2)
    + levels_span c.args.p 1
    (c.args.count - c.args.count / 2)
    + merge_span c.args.p (c.args.count / 2)
    (c.args.count - c.args.count / 2))
    (key_span c.args.p)
met c =
    let a = c.args in
    let q = c.requires in
    stands_after c.pair-high.result
    c.pair-high.new.table _ c.halves-met.new.table c.halves-met.result _ _ _
    c.halves-met.ensures
    (sym (ap length (merge_wrote c))
    ∙ (halves_merge_block a.p c.requires.plan 1 a.w.wire a.c a.count q.levels_below
    c.requires.some q.few q.inside).long) (high c.before.before.before.before)

pub best_key-x-requires : goal.best_key-x-requires
best_key-x-requires c = let q = c.requires in
    let t = c.requires.some in
    record {
      plan = c.requires.plan;
      span_is = q.span_is;
      inside = omega (arith, q.inside, t);
      small = omega (arith, q.levels_below, c.requires.room.small);
      key_below = λ z. omega (
        arith,
        (low (goal.at.best_key-x-requires c).After-pair-low).place,
        span_least c.args.p 0
            (c.args.count / 2) z,
      );
    }

pub best_key-y-requires : goal.best_key-y-requires
best_key-y-requires c = let q = c.requires in
    let t = c.requires.some in
    record {
      plan = c.requires.plan;
      span_is = q.span_is;
      inside = omega (arith, q.inside, t);
      small = omega (arith, q.levels_below, c.requires.room.small);
      key_below = λ z. omega (
        arith,
        (high (goal.at.best_key-y-requires c).After-pair-high).place,
        span_least c.args.p 0
            (c.args.count - c.args.count / 2) z,
      );
    }

pub overflow_sub-met-2 : goal.overflow_sub-met-2
overflow_sub-met-2 c = omega (arith, (met (goal.at.overflow_sub-met-2 c).After-halves-met).place)

pub better-requires : goal.better-requires
better-requires c = let a = c.args in
    let f = c.requires.plan in
    let q = c.requires in
    let t = c.requires.some in
    let e = (met (goal.at.better-requires c).After-halves-met).place in
    let e₁ = (low (goal.at.better-requires c).After-pair-low).place in
    let e₂ = (high (goal.at.better-requires c).After-pair-high).place in
    let n = c.halves-met.result.wire in
    record {
      plan = f;
      room = (met (goal.at.better-requires c).After-halves-met).left;
      first_below = omega (
        arith,
        c.best_key-x.ensures,
        key_below a.p f a.c (a.count / 2) c.pair-low.result.wire
            n (omega (arith, q.inside, t)) (omega (arith, q.levels_below, e)) (omega (arith, e, e₁))
            (λ z. omega (arith, e₁, span_least a.p 0 (a.count / 2) z)),
      );
      second_below = omega (
        arith,
        c.best_key-y.ensures,
        key_below a.p f (a.c + a.count / 2) (a.count - a.count / 2)
            c.pair-high.result.wire n (omega (arith, q.inside, t))
            (omega (arith, q.levels_below, e)) (omega (arith, e, e₂))
            (λ z. omega (arith, e₂, span_least a.p 0 (a.count - a.count / 2) z)),
      );
      told = omega (arith, e);
    }

pub returns : goal.returns
returns c = let a = c.args in
    let p = a.p in
    let n = a.w.wire in
    let m = a.count in
    let x = cond (leb (m / 2) 1) (key_at p a.c) (c.pair-low.result.wire - key_span p) in
    let e : c.halves-met.result.wire - m - 5 + 1
    ≡ result_at p (merge_at p 1 n m) + 1 = omega (arith, (met (goal.at.returns c).After-halves-met).place) in
    wrote_as a.w a.table.now _ _ _ _ (sym (levels_more p 1 m n a.c c.requires.some))
    (wrote_then a.w a.table.now _ c.halves-met.new.table
    c.halves-met.result _ _ _ _
    (wrote_then a.w a.table.now _ c.pair-high.new.table
    c.pair-high.result _ _ _ _
    (wrote_then a.w a.table.now _ c.pair-low.new.table
    c.pair-low.result _ _ _ _
    c.pair-low.ensures
    c.pair-high.ensures
    (ap (λ (k : ℕ). levels p 1 k (a.c + m / 2) (m - m / 2))
    (low (goal.at.returns c).After-pair-low).place))
    c.halves-met.ensures (sym (merge_wrote (goal.at.returns c).After-halves-met)))
    c.better.ensures
    (ap (λ (k : ℕ). choose (c.halves-met.result.wire - m - 5 + 1) k
    c.best_key-y.result (key_span p))
    c.best_key-x.ensures
    ∙ ap (λ (k : ℕ). choose (c.halves-met.result.wire - m - 5 + 1) x k
    (key_span p)) c.best_key-y.ensures
    ∙ better_same p 0 n a.c m (c.halves-met.result.wire - m - 5 + 1)
    c.pair-low.result.wire
    c.pair-high.result.wire e
    (low (goal.at.returns c).After-pair-low).place
    (high (goal.at.returns c).After-pair-high).place))
