-- `graded_size::list::best_of_four_span` meets its contract: both halves, their merge and a key.
-- Assumes nothing.
use mathlib.Core.Path.{◌≡◌}
use Prim.Native.Nat.{◌-◌, ◌/◌, ◌≤◌}
use native.Mathlib.Omega.{arith}
use Rattle.graded_circuit.specs.OwnList.{levels_span}
use Rattle.graded_size.proofs.Spans.{four_one, four_more, pair_small, contest_small}
use Rattle.graded_size.proofs.list.best_of_four_span.Goals as goal
use Rattle.graded_size.proofs.list.best_of_four_span.Goals.{After-pair_span-high}

pub returns-then-count-le1 : goal.returns-then-count-le1
returns-then-count-le1 c =
    let a = c.args in omega (arith, four_one a.p a.count c.if-count-le1.true)

-- both halves
parts : (c : After-pair_span-high) → let a = c.args in
    (c.pair_span-low.result ≡ levels_span a.p 1 (a.count / 2))
    × (c.pair_span-high.result ≡ levels_span a.p 1 (a.count - a.count / 2))
    × (c.pair_span-low.result ≤ 500) × (c.pair_span-high.result ≤ 500)
parts c =
    let a = c.args in
    let h = c.requires in
    let x = c.pair_span-low.ensures in
    let y = c.pair_span-high.ensures in (
      x,
      y,
      omega (arith, x, h, pair_small a.p h.plan (a.count / 2) (omega (arith, h))),
      omega (arith, y, h, pair_small a.p h.plan (a.count - a.count / 2) (omega (arith, h))),
    )

pub overflow_add-result : goal.overflow_add-result
overflow_add-result c =
    let h = c.requires in let q = parts (goal.at.overflow_add-result c).After-pair_span-high in
    omega (arith, q.2, q.3, h, contest_small c.args.p h.plan)

pub overflow_add-result-2 : goal.overflow_add-result-2
overflow_add-result-2 c =
    let h = c.requires in let q = parts (goal.at.overflow_add-result-2 c).After-pair_span-high in
    omega (arith, q.2, q.3, h, contest_small c.args.p h.plan)

pub overflow_add-result-3 : goal.overflow_add-result-3
overflow_add-result-3 c =
    let h = c.requires in let q = parts (goal.at.overflow_add-result-3 c).After-pair_span-high in
    omega (arith, q.2, q.3, h, contest_small c.args.p h.plan)

pub overflow_add-result-4 : goal.overflow_add-result-4
overflow_add-result-4 c =
    let h = c.requires in let q = parts (goal.at.overflow_add-result-4 c).After-pair_span-high in
    omega (arith, q.2, q.3, h, contest_small c.args.p h.plan)

pub overflow_add-result-5 : goal.overflow_add-result-5
overflow_add-result-5 c =
    let h = c.requires in let q = parts (goal.at.overflow_add-result-5 c).After-pair_span-high in
    omega (arith, q.2, q.3, h, contest_small c.args.p h.plan)

pub returns : goal.returns
returns c =
    let a = c.args in
    omega (
      arith,
      (parts (goal.at.returns c).After-pair_span-high).0,
      (parts (goal.at.returns c).After-pair_span-high).1,
      c.requires,
      four_more a.p a.count (omega (arith, c.if-count-le1.false)),
    )
