-- `graded_size::contest::contest_span` meets its contract: it adds up the parts.
-- Assumes nothing.
use mathlib.Core.Path.{◌≡◌}
use Prim.Native.Nat.{◌+◌}
use native.Mathlib.Omega.{arith}
use Rattle.graded_circuit.specs.Contest.{contest_span}
use Rattle.graded_circuit.proofs.ContestLaws.{grade_fits}
use Rattle.graded_circuit.proofs.BoundLaws.{digits_most, places_most}
use Rattle.graded_size.proofs.Spans.{contest_small}
use Rattle.graded_size.proofs.contest.contest_span.Goals as goal
use Rattle.graded_size.proofs.contest.contest_span.Goals.{After-tie_break_below_span-lower}

pub medians_span-medians-requires : goal.medians_span-medians-requires
medians_span-medians-requires c =
    let p = c.args.p in
    let f = c.requires in
    record {
      fits = grade_fits p f;
      few = omega (arith, f.d_most);
      narrow = places_most p f;
    }

pub tie_break_below_span-lower-requires : goal.tie_break_below_span-lower-requires
tie_break_below_span-lower-requires c =
    let p = c.args.p in
    let f = c.requires in
    record {
      narrow = digits_most p f;
      several = f.d_least;
      few = f.d_most;
    }

whole : (c : After-tie_break_below_span-lower) → c.medians_span-medians.result + c.tie_break_below_span-lower.result + 2
    ≡ contest_span c.args.p
whole c = omega (arith, c.medians_span-medians.ensures, c.tie_break_below_span-lower.ensures)

pub overflow_add-result : goal.overflow_add-result
overflow_add-result c = omega (arith, whole (goal.at.overflow_add-result c).After-tie_break_below_span-lower, contest_small c.args.p c.requires)

pub overflow_add-result-2 : goal.overflow_add-result-2
overflow_add-result-2 c = omega (arith, whole (goal.at.overflow_add-result-2 c).After-tie_break_below_span-lower, contest_small c.args.p c.requires)
