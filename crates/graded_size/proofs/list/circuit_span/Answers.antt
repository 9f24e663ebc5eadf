-- `graded_size::list::circuit_span` meets its contract: it adds up the parts.
-- Assumes nothing.
use mathlib.Core.Path.{◌≡◌, ap}
use Prim.Native.Nat.{ℕ, ◌-◌, ◌*◌, ◌/◌, ◌≤◌}
use native.Mathlib.Omega.{arith}
use Rattle.graded_circuit.specs.declared.plan.Plan.{Plan}
use Rattle.graded_circuit.specs.Key.{candidate_span}
use Rattle.graded_circuit.specs.Contest.{contest_span}
use Rattle.graded_circuit.specs.OwnList.{levels_span}
use Rattle.graded_circuit.proofs.BoundLaws.{digits_most}
use Rattle.graded_circuit.proofs.CircuitLaws.{circuit_block}
use Rattle.graded_size.proofs.Spans.{contest_small, four_small, all_small}
use Rattle.graded_size.proofs.list.circuit_span.Goals as goal
use Rattle.graded_size.proofs.list.circuit_span.Goals.{After-best_of_four_span-high}

-- The numbers that are added up, and that they are small.

record Whole (p : Plan) (each contest low high : ℕ) : Type 0 where
  all : p.candidates * each ≡ p.candidates * candidate_span p
  all_few : p.candidates * each ≤ 280000
  contest_is : contest ≡ contest_span p
  contest_few : contest ≤ 500
  low_is : low ≡ levels_span p 2 (p.candidates / 2)
  low_few : low ≤ 1500
  high_is : high ≡ levels_span p 2 (p.candidates - p.candidates / 2)
  high_few : high ≤ 1500
  few : p.candidates ≤ 8

whole : (c : After-best_of_four_span-high)
    → Whole c.args.p
    c.candidate_span-each.result
    c.contest_span-contest.result c.best_of_four_span-low.result c.best_of_four_span-high.result
whole c =
    let p = c.args.p in
    let f = c.requires.plan in
    let k = p.candidates in
    let e = ap (λ (x : ℕ). k * x) c.candidate_span-each.ensures in
    record {
      all = e;
      all_few = omega (arith, e, all_small p f);
      contest_is = c.contest_span-contest.ensures;
      contest_few = omega (arith, c.contest_span-contest.ensures, contest_small p f);
      low_is = c.best_of_four_span-low.ensures;
      low_few = omega (arith, c.best_of_four_span-low.ensures, four_small p f (k / 2) (omega (arith, f.k_most)));
      high_is = c.best_of_four_span-high.ensures;
      high_few = omega (arith, c.best_of_four_span-high.ensures, four_small p f (k - k / 2) (omega (arith, f.k_most)));
      few = f.k_most;
    }

pub overflow_add-key : goal.overflow_add-key
overflow_add-key c = omega (arith, digits_most c.args.p c.requires.plan)

pub overflow_mul-key : goal.overflow_mul-key
overflow_mul-key c = omega (arith, contest_small c.args.p c.requires.plan)

pub overflow_mul-result : goal.overflow_mul-result
overflow_mul-result c = omega (arith, whole (goal.at.overflow_mul-result c).After-best_of_four_span-high)

pub overflow_add-result : goal.overflow_add-result
overflow_add-result c = omega (arith, whole (goal.at.overflow_add-result c).After-best_of_four_span-high)

pub overflow_add-result-2 : goal.overflow_add-result-2
overflow_add-result-2 c = omega (arith, whole (goal.at.overflow_add-result-2 c).After-best_of_four_span-high)

pub overflow_add-result-3 : goal.overflow_add-result-3
overflow_add-result-3 c = omega (arith, whole (goal.at.overflow_add-result-3 c).After-best_of_four_span-high)

pub overflow_add-result-4 : goal.overflow_add-result-4
overflow_add-result-4 c = omega (arith, whole (goal.at.overflow_add-result-4 c).After-best_of_four_span-high)

pub overflow_add-result-5 : goal.overflow_add-result-5
overflow_add-result-5 c = omega (arith, whole (goal.at.overflow_add-result-5 c).After-best_of_four_span-high)

pub returns : goal.returns
returns c = omega (
  arith,
  whole (goal.at.returns c).After-best_of_four_span-high,
  (circuit_block c.args.p
      c.requires.plan
      c.requires.several).long,
)
