-- `rule_judgment::rule::comes_before` meets its contract: the loop keeps the last difference below half, and
-- returns at the first difference from half on.
-- Assumes nothing.
use mathlib.Core.List.{[]}
use lib.ListN.{take, get_or}
use Rattle.rule_judgment.proofs.Walking.{Walk}
use Rattle.rule_judgment.proofs.rule.comes_before.Given as goal

abbrev pub invariant-loop-g : goal.invariant-loop-g
invariant-loop-g l = Walk l.shape.ballots (take l.shape.grades (get_or l.counts l.a [])) (take l.shape.grades (get_or l.counts l.b [])) l.lower l.sums l.g
