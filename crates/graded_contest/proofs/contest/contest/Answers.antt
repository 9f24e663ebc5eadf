-- `graded_contest::contest::contest` meets its contract: first the comparison of the medians, then that of the sums.
-- Assumes nothing.
use mathlib.Core.Path.{◌∙◌, refl, ap}
use Prim.Native.Nat.{ℕ, ◌+◌, ◌-◌}
use native.Mathlib.Omega.{arith}
use Rattle.gate_words.proofs.Standing.{Stands, stands, stands_after, wrote_then}
use Rattle.graded_circuit.specs.RunningSums.{word_span}
use Rattle.graded_circuit.specs.Median.{ones_differ}
use Rattle.graded_circuit.specs.Contest.{tie_break_below, tie_break_below_span, tie_break_below_at, contest}
use Rattle.graded_circuit.proofs.MedianLaws.{ones_block}
use Rattle.graded_circuit.proofs.ContestLaws.{grade_fits, flags_end}
use Rattle.graded_contest.proofs.contest.contest.Goals as goal
use Rattle.graded_contest.proofs.contest.contest.Goals.{After-compare_medians-compared}

-- after the comparison of the medians
compared : (c : After-compare_medians-compared) → let s = c in
    Stands c.compare_medians-compared.result (tie_break_below_at s.args.p s.args.w.wire)
    (tie_break_below_span s.args.p.digits (s.args.p.grades - 2) + 2)
compared c =
    let a = c.args in
    let p = a.p in
    let f = c.requires.plan in
    stands_after a.w a.table.now _ c.compare_medians-compared.new.table c.compare_medians-compared.result _ _ _ c.compare_medians-compared.ensures
    (ones_block a.w.wire (a.y + p.digits) (a.x + p.digits) (word_span p) (p.grades - 1) p.places
    (grade_fits p f) (flags_end p f a.y a.w.wire c.requires.second_below)
    (flags_end p f a.x a.w.wire c.requires.first_below)).long
    (stands a.w a.w.wire _ _ refl (omega arith) c.requires.room)

pub ones_differ-e-requires : goal.ones_differ-e-requires
ones_differ-e-requires c = record {
  some = omega (arith, c.requires.plan.d_least);
  span = (compared (goal.at.ones_differ-e-requires c).After-compare_medians-compared).place;
  small =
      omega (arith, (compared (goal.at.ones_differ-e-requires c).After-compare_medians-compared).left.small);
}

pub ones_larger-s-requires : goal.ones_larger-s-requires
ones_larger-s-requires c = record {
  some = omega (arith, c.requires.plan.d_least);
  span = (compared (goal.at.ones_larger-s-requires c).After-compare_medians-compared).place;
  small =
      omega (arith, (compared (goal.at.ones_larger-s-requires c).After-compare_medians-compared).left.small);
}

pub tie_break_below-requires : goal.tie_break_below-requires
tie_break_below-requires c = let q = compared (goal.at.tie_break_below-requires c).After-compare_medians-compared in
    record {
      plan = c.requires.plan;
      room = q.left;
      first_below = omega (arith, q.place, c.requires.first_below);
      second_below = omega (arith, q.place, c.requires.second_below);
      cut = c.requires.cut;
    }

pub returns : goal.returns
unfolding contest
returns c = let v = c.tie_break_below in
    let a = c.args in
    let p = a.p in
    let n = a.w.wire in
    let d = c.compare_medians-compared in
    let e = c.ones_differ-e in
    let s = c.ones_larger-s in
    let at = tie_break_below_at p n in
    wrote_then a.w a.table.now _ d.new.table d.result _ _ v.new.table v.result d.ensures v.ensures
    (ap (λ (i : ℕ). tie_break_below p i a.x a.y e.result s.result p.digits a.high (p.grades - 2))
    (compared (goal.at.returns c).After-compare_medians-compared).place
    ∙ ap (λ (i : ℕ). tie_break_below p at a.x a.y i s.result p.digits a.high (p.grades - 2)) e.ensures
    ∙ ap (λ (i : ℕ). tie_break_below p at a.x a.y (ones_differ n (p.grades - 1) p.places) i p.digits
    a.high (p.grades - 2)) s.ensures)
