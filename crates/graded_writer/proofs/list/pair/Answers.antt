-- `graded_writer::list::pair` meets its contract: nothing for one candidate; for two, their merge and the better key.
-- Assumes nothing.
use mathlib.Core.Path.{◌≡◌, ◌∙◌, refl, sym, ap}
use mathlib.Core.List.{[]}
use Prim.Native.Nat.{ℕ, ◌+◌, ◌-◌, ◌≤◌}
use native.Mathlib.Omega.{arith}
use Rattle.gate_words.specs.Choice.{choose}
use Rattle.gate_words.proofs.Writing.{wrote_nothing, wrote_as, room_less}
use Rattle.graded_circuit.specs.Key.{key_span}
use Rattle.graded_circuit.specs.Contest.{result_at}
use Rattle.graded_circuit.specs.Merge.{merge, merge_span}
use Rattle.graded_circuit.specs.OwnList.{key_at, levels_span, levels}
use Rattle.graded_circuit.proofs.MergeLaws.{merge_block}
use Rattle.graded_circuit.proofs.LevelsLaws.{key_before, levels_one}
use Rattle.gate_words.proofs.Standing.{Stands, stands, stands_after, wrote_then}
use Rattle.graded_writer.proofs.ListWriters.{pair_is, pair_span}
use Rattle.graded_writer.proofs.list.pair.Goals as goal
use Rattle.graded_writer.proofs.list.pair.Goals.{After-merge-met, Else-count-le1}

pub returns-then-count-le1 : goal.returns-then-count-le1
returns-then-count-le1 c = let a = c.args in
    wrote_as a.w a.table.now [] _ a.table.now a.w
    (sym (levels_one a.p 0 a.count a.w.wire a.c c.if-count-le1.true)) (wrote_nothing a.w a.table.now)

two : (c : Else-count-le1) → c.args.count ≡ 2
two c =
    omega (arith, c.if-count-le1.false, c.requires)

spans : (c : Else-count-le1) → levels_span c.args.p 1 c.args.count
    ≡ merge_span c.args.p 1 1 + key_span c.args.p
spans c =
    ap (levels_span c.args.p 1) (two c) ∙ pair_span c.args.p

keys : (c : Else-count-le1) → (key_at c.args.p c.args.c
    + key_span c.args.p ≤ c.args.w.wire)
    × (key_at c.args.p (c.args.c + 1)
    + key_span c.args.p ≤ c.args.w.wire)
keys c =
    let q = c.requires in (
      omega (
        arith,
        key_before c.args.p c.requires.plan
            c.args.c (omega (arith, q, two c)),
        q.levels_below,
      ),
      omega (
        arith,
        key_before c.args.p c.requires.plan
            (c.args.c + 1) (omega (arith, q, two c)),
        q.levels_below,
      ),
    )

pub merge-met-requires : goal.merge-met-requires
merge-met-requires c = let k = keys (goal.at.merge-met-requires c).Else-count-le1 in
    record {
      plan = c.requires.plan;
      room = room_less c.args.w _ _ (omega (arith, spans (goal.at.merge-met-requires c).Else-count-le1))
          c.requires.room;
      first_below = omega (arith, k.0, c.key_at-x.ensures);
      second_below = omega (arith, k.1, c.key_at-y.ensures);
      first_some = omega arith;
      second_some = omega arith;
      first_won = λ z. absurd (omega arith);
      second_won = λ z. absurd (omega arith);
    }

met : (c : After-merge-met)
    → (key_at c.args.p c.args.c + key_span c.args.p ≤ c.args.w.wire)
    × (key_at c.args.p (c.args.c + 1) + key_span c.args.p ≤ c.args.w.wire)
    → levels_span c.args.p 1 c.args.count ≡ merge_span c.args.p 1 1 + key_span c.args.p
    → Stands c.merge-met.result (c.args.w.wire + merge_span c.args.p 1 1) (key_span c.args.p)
met c k e =
    stands_after c.args.w c.args.table.now _
    c.merge-met.new.table c.merge-met.result _ _ _ c.merge-met.ensures
    (merge_block c.args.p c.requires.plan
    c.args.w.wire c.key_at-x.result
    c.key_at-y.result 0 0 1 1
    (omega (arith, k.0, c.key_at-x.ensures))
    (omega (arith, k.1, c.key_at-y.ensures)) (λ z. absurd (omega arith))
    (λ z. absurd (omega arith))).long
    (stands c.args.w c.args.w.wire _ _ refl
    (omega (arith, e)) c.requires.room)

pub overflow_sub-met : goal.overflow_sub-met
overflow_sub-met c = omega (
  arith,
  (met (goal.at.overflow_sub-met c).After-merge-met (keys (goal.at.overflow_sub-met c).Else-count-le1)
      (spans (goal.at.overflow_sub-met c).Else-count-le1)).place,
)

pub better-requires : goal.better-requires
better-requires c = let k = keys (goal.at.better-requires c).Else-count-le1 in
    let e = (met (goal.at.better-requires c).After-merge-met (keys (goal.at.better-requires c).Else-count-le1)
    (spans (goal.at.better-requires c).Else-count-le1)).place in
    record {
      plan = c.requires.plan;
      room = (met (goal.at.better-requires c).After-merge-met (keys (goal.at.better-requires c).Else-count-le1)
          (spans (goal.at.better-requires c).Else-count-le1)).left;
      first_below = omega (arith, e, k.0, c.key_at-x.ensures);
      second_below = omega (arith, e, k.1, c.key_at-y.ensures);
      told = omega (arith, e);
    }

pub returns : goal.returns
returns c = let a = c.args in
    let p = a.p in
    let n = a.w.wire in
    let x = key_at p a.c in
    let y = key_at p (a.c + 1) in
    let e : c.merge-met.result.wire - 7 + 1 ≡ result_at p n + 1 =
    omega (
      arith,
      (met (goal.at.returns c).After-merge-met (keys (goal.at.returns c).Else-count-le1)
          (spans (goal.at.returns c).Else-count-le1)).place,
    ) in
    wrote_as a.w a.table.now _ _ _ _
    (sym (ap (levels p 1 n a.c) (two (goal.at.returns c).Else-count-le1) ∙ pair_is p n a.c))
    (wrote_then a.w a.table.now _ c.merge-met.new.table
    c.merge-met.result _ _ _ _
    (wrote_as a.w a.table.now _ _ _ _
    (ap (λ (k : ℕ). merge p n k c.key_at-y.result 0 0 1 1)
    c.key_at-x.ensures
    ∙ ap (λ (k : ℕ). merge p n x k 0 0 1 1) c.key_at-y.ensures)
    c.merge-met.ensures)
    c.better.ensures
    (ap (λ (k : ℕ). choose k c.key_at-x.result
    c.key_at-y.result (key_span p)) e
    ∙ ap (λ (k : ℕ). choose (result_at p n + 1) k c.key_at-y.result
    (key_span p)) c.key_at-x.ensures
    ∙ ap (λ (k : ℕ). choose (result_at p n + 1) x k (key_span p))
    c.key_at-y.ensures))
