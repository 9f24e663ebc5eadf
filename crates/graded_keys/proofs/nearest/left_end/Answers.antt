-- `graded_keys::nearest::left_end` meets its contract: the last choice, or u if there is none.
-- Assumes nothing.
use native.Mathlib.Omega.{arith}
use Rattle.graded_keys.proofs.Steps.{choices_before, left_some, left_none}
use Rattle.graded_keys.proofs.nearest.left_end.Goals as goal

pub returns-then-count-eq0 : goal.returns-then-count-eq0
returns-then-count-eq0 c = left_none c.args.n c.args.u c.args.above c.args.count c.if-count-eq0.true

pub returns : goal.returns
returns c =
    let a = c.args in
    let before = choices_before a.count a.above (omega (arith, c.requires)) (omega (arith, c.requires)) in
    omega (arith, before.1, left_some a.n a.u a.above a.count (omega (arith, c.if-count-eq0.false)))
