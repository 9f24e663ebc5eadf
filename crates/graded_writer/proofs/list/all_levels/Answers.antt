-- `graded_writer::list::all_levels` meets its contract: three levels of merges after the candidates.
-- Assumes nothing.
use mathlib.Core.Path.{ap}
use Prim.Native.Nat.{ℕ, ◌+◌, ◌-◌, ◌/◌}
use native.Mathlib.Omega.{arith}
use Rattle.gate_words.proofs.Writing.{wrote_as}
use Rattle.graded_circuit.specs.declared.plan.Plan.{Plan}
use Rattle.graded_circuit.specs.Merge.{merge_span}
use Rattle.graded_circuit.specs.OwnList.{levels_span, levels, levels_at}
use Rattle.graded_circuit.proofs.LevelsLaws.{levels_block}
use Rattle.gate_words.proofs.Standing.{Stands, stands, stands_after, room_of, wrote_then}
use Rattle.graded_writer.proofs.ListWriters.{span_least, merge_same, all_levels_span}
use Rattle.graded_writer.proofs.list.all_levels.Goals as goal
use Rattle.graded_writer.proofs.list.all_levels.Goals.{After-best_of_four-high, After-best_of_four-low, Start}

abbrev low_span : Plan → ℕ
low_span p = levels_span p 2 (p.candidates / 2)

abbrev high_span : Plan → ℕ
high_span p = levels_span p 2 (p.candidates - p.candidates / 2)

abbrev last_span : Plan → ℕ
last_span p = merge_span p (p.candidates / 2) (p.candidates - p.candidates / 2)

all : (c : Start) → Stands c.args.all (levels_at c.args.p) (all_levels_span c.args.p)
all c = stands c.args.all (levels_at c.args.p) (all_levels_span c.args.p) (all_levels_span c.args.p)
    c.requires.place (omega arith) c.requires.room

low : (c : After-best_of_four-low) → let p = c.args.p in
    Stands c.best_of_four-low.result (levels_at p + low_span p) (high_span p + last_span p)
low c =
    let a = c.args in
    let q = c.requires in
    stands_after a.all a.table.now _ c.best_of_four-low.new.table c.best_of_four-low.result _ _ _ c.best_of_four-low.ensures
    (levels_block a.p c.requires.plan 2 a.all.wire 0 (a.p.candidates / 2) (omega (arith, q.place))
    (omega (arith, q.several)) (omega (arith, c.requires.plan.k_most)) (omega arith)).long
    (all c.before.before.before.before.before)

pub best_of_four-high-requires : goal.best_of_four-high-requires
best_of_four-high-requires c = let q = c.requires in
    let l = low (goal.at.best_of_four-high-requires c).After-best_of_four-low in
    record {
      plan = c.requires.plan;
      room = room_of c.best_of_four-low.result _ _ _ l (omega arith);
      span_is = q.span_is;
      levels_below = omega (arith, l.place);
      some = omega (arith, q.several);
      few = omega (arith, c.requires.plan.k_most);
      inside = omega arith;
    }

high : (c : After-best_of_four-high) → let p = c.args.p in
    Stands c.best_of_four-high.result (levels_at p + low_span p + high_span p) (last_span p)
high c =
    let a = c.args in
    let q = c.requires in
    let f = c.best_of_four-low in
    let l = low c.before.before.before.before in
    stands_after f.result f.new.table _ c.best_of_four-high.new.table c.best_of_four-high.result _ _ _ c.best_of_four-high.ensures
    (levels_block a.p c.requires.plan 2 f.result.wire (a.p.candidates / 2)
    (a.p.candidates - a.p.candidates / 2) (omega (arith, l.place)) (omega (arith, q.several))
    (omega (arith, c.requires.plan.k_most)) (omega arith)).long
    l

pub halves-requires : goal.halves-requires
halves-requires c = let p = c.args.p in
    let q = c.requires in
    let e = (low (goal.at.halves-requires c).After-best_of_four-low).place in
    let h = high (goal.at.halves-requires c).After-best_of_four-high in
    let e' = h.place in
    record {
      plan = c.requires.plan;
      room = h.left;
      span_is = q.span_is;
      levels_below = omega (arith, e);
      middle_below = omega (arith, e, e');
      first_some = omega (arith, q.several);
      second_some = omega (arith, q.several);
      inside = omega arith;
      first_below = λ z. omega (arith, e, span_least p 1 (p.candidates / 2) z);
      second_below = λ z. omega (arith, e, e', span_least p 1 (p.candidates - p.candidates / 2) z);
    }

pub returns : goal.returns
returns c = let a = c.args in
    let p = a.p in
    let k = p.candidates in
    let f = c.best_of_four-low in
    let g = c.best_of_four-high in
    let l = low (goal.at.returns c).After-best_of_four-low in
    let h = high (goal.at.returns c).After-best_of_four-high in
    wrote_then a.all a.table.now _ g.new.table g.result _ _ _ _
    (wrote_then a.all a.table.now _ f.new.table f.result _ _ _ _
    (wrote_as a.all a.table.now _ _ _ _ (ap (λ (i : ℕ). levels p 2 i 0 (k / 2)) c.requires.place) f.ensures)
    g.ensures (ap (λ (i : ℕ). levels p 2 i (k / 2) (k - k / 2)) l.place))
    c.halves.ensures
    (merge_same p 1 (levels_at p) 0 k g.result.wire f.result.wire g.result.wire h.place l.place
    h.place)
