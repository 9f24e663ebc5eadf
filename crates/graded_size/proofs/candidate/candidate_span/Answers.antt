-- `graded_size::candidate::candidate_span` meets its contract: it adds up the parts.
-- Assumes nothing.
use mathlib.Core.Path.{◌≡◌, ap}
use Prim.Native.Nat.{ℕ, ◌+◌, ◌-◌, ◌*◌, ◌≤◌}
use native.Mathlib.Omega.{arith}
use Rattle.graded_circuit.specs.declared.plan.Plan.{Plan}
use Rattle.graded_circuit.specs.RunningSums.{sum_size, worst_size}
use Rattle.graded_circuit.specs.Key.{key_span}
use Rattle.graded_circuit.proofs.PlanFacts.{first_countable, worst_countable}
use Rattle.graded_circuit.proofs.CandidateBlocks.{candidate_span_lem}
use Rattle.graded_circuit.proofs.BoundLaws.{digits_most, sum_small, worst_small}
use Rattle.graded_size.proofs.Spans.{parts_small}
use Rattle.graded_size.proofs.candidate.candidate_span.Goals as goal
use Rattle.graded_size.proofs.candidate.candidate_span.Goals.{After-count_size-worst}

-- The numbers that are added up, and that they are small.

record Parts (p : Plan) (rows sum worst : ℕ) : Type 0 where
  rows_are : rows ≡ (p.grades - 3) * p.ballots
  sums_are : (p.grades - 2) * sum ≡ (p.grades - 2) * sum_size p
  worst_is : worst ≡ worst_size p
  few : (p.grades - 3) * p.ballots + (p.grades - 2) * sum_size p + worst_size p + key_span p ≤ 35000
  narrow : p.digits ≤ 7
  some : 2 ≤ p.grades

pub count_size-sum-requires : goal.count_size-sum-requires
count_size-sum-requires c =
    let p = c.args.p in
    let f = c.requires in
    record { few = omega (arith, f.n_most); small = omega (arith, sum_small p f); countable = first_countable p f }

pub count_size-worst-requires : goal.count_size-worst-requires
count_size-worst-requires c =
    let p = c.args.p in
    let f = c.requires in
    record { few = omega (arith, f.n_most); small = omega (arith, worst_small p f); countable = worst_countable p f }

parts : (c : After-count_size-worst)
    → Parts c.args.p c.rows_span-rows.result
    c.count_size-sum.result c.count_size-worst.result
parts c =
    let p = c.args.p in
    let f = c.requires in
    record {
      rows_are = c.rows_span-rows.ensures;
      sums_are = ap (λ (k : ℕ). (p.grades - 2) * k) c.count_size-sum.ensures;
      worst_is = c.count_size-worst.ensures;
      few = parts_small p f;
      narrow = digits_most p f;
      some = f.d_least;
    }

pub overflow_mul-result : goal.overflow_mul-result
overflow_mul-result c =
    let q = parts (goal.at.overflow_mul-result c).After-count_size-worst in omega (arith, q.sums_are, q.few)

pub overflow_add-result : goal.overflow_add-result
overflow_add-result c =
    let q = parts (goal.at.overflow_add-result c).After-count_size-worst in omega (arith, q.rows_are, q.sums_are, q.few)

pub overflow_add-result-2 : goal.overflow_add-result-2
overflow_add-result-2 c =
    let q = parts (goal.at.overflow_add-result-2 c).After-count_size-worst in omega (arith, q.rows_are, q.sums_are, q.worst_is, q.few)

pub overflow_add-result-3 : goal.overflow_add-result-3
overflow_add-result-3 c = omega (arith, (parts (goal.at.overflow_add-result-3 c).After-count_size-worst).narrow)

pub overflow_mul-result-2 : goal.overflow_mul-result-2
overflow_mul-result-2 c = omega (arith, (parts (goal.at.overflow_mul-result-2 c).After-count_size-worst).few)

pub overflow_add-result-4 : goal.overflow_add-result-4
overflow_add-result-4 c =
    let q = parts (goal.at.overflow_add-result-4 c).After-count_size-worst in omega (arith, q.rows_are, q.sums_are, q.worst_is, q.few)

pub returns : goal.returns
returns c =
    let q = parts (goal.at.returns c).After-count_size-worst in
    omega (arith, q.rows_are, q.sums_are, q.worst_is, candidate_span_lem c.args.p)
