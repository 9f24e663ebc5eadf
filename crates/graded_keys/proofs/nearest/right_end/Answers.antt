-- `graded_keys::nearest::right_end` meets its contract: the last choice, or v if there is none.
-- Assumes nothing.
use native.Mathlib.Omega.{arith}
use Rattle.graded_keys.proofs.Steps.{choices_before, right_some, right_none}
use Rattle.graded_keys.proofs.nearest.right_end.Goals as goal

pub returns-then-count-eq0 : goal.returns-then-count-eq0
returns-then-count-eq0 c = right_none c.args.n c.args.v c.args.above c.args.count c.if-count-eq0.true

pub returns : goal.returns
returns c =
    let a = c.args in
    let before = choices_before a.count a.above (omega (arith, c.requires)) (omega (arith, c.requires)) in
    omega (arith, before.1, right_some a.n a.v a.above a.count (omega (arith, c.if-count-eq0.false)))
