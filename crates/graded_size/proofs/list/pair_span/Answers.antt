-- `graded_size::list::pair_span` meets its contract: nothing for one candidate, else a merge and a key.
-- Assumes nothing.
use native.Mathlib.Omega.{arith}
use Rattle.graded_size.proofs.Spans.{pair_one, pair_two, contest_small}
use Rattle.graded_size.proofs.list.pair_span.Goals as goal

pub returns-then-count-le1 : goal.returns-then-count-le1
returns-then-count-le1 c =
    let a = c.args in omega (arith, pair_one a.p a.count c.if-count-le1.true)

pub overflow_add-result : goal.overflow_add-result
overflow_add-result c =
    let a = c.args in let h = c.requires in omega (arith, h, contest_small a.p h.plan)

pub overflow_add-result-2 : goal.overflow_add-result-2
overflow_add-result-2 c =
    let a = c.args in let h = c.requires in omega (arith, h, contest_small a.p h.plan)

pub overflow_add-result-3 : goal.overflow_add-result-3
overflow_add-result-3 c =
    let a = c.args in let h = c.requires in omega (arith, h, contest_small a.p h.plan)

pub returns : goal.returns
returns c =
    let a = c.args in omega (arith, c.requires, pair_two a.p a.count (omega (arith, c.if-count-le1.false)))
