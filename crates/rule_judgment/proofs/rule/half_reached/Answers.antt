-- `rule_judgment::rule::half_reached` meets its contract.
-- Assumes nothing.
use native.Mathlib.Omega.{arith}
use Rattle.rule_judgment.proofs.Deciding.{half_first, half_second}
use Rattle.rule_judgment.proofs.rule.half_reached.Goals as goal

pub returns-then-n-sums : goal.returns-then-n-sums
returns-then-n-sums c = half_first c.args.n c.args.sums (omega arith)

pub returns-else-n-sums : goal.returns-else-n-sums
returns-else-n-sums c = half_second c.args.n c.args.sums (omega arith)
