-- `rule_judgment::rule::decided` meets its contract, one branch after another.
-- Assumes nothing.
use native.Mathlib.Omega.{arith}
use Rattle.rule_judgment.proofs.Deciding.{first_not_smaller, first_smaller, second_smaller, second_not_smaller, neither_larger}
use Rattle.rule_judgment.proofs.rule.decided.Goals as goal

pub returns-then-upper : goal.returns-then-upper
returns-then-upper c = let x = c.args in
    first_not_smaller x.n x.lower x.upper (omega arith) (omega arith)

pub returns-else-upper : goal.returns-else-upper
returns-else-upper c = let x = c.args in
    first_smaller x.n x.lower x.upper (omega arith) (omega arith)

pub returns-then-upper-2 : goal.returns-then-upper-2
returns-then-upper-2 c = let x = c.args in
    second_smaller x.n x.lower x.upper (omega arith) (omega arith)

pub returns-else-upper-2 : goal.returns-else-upper-2
returns-else-upper-2 c = let x = c.args in
    second_not_smaller x.n x.lower x.upper (omega arith) (omega arith)

pub returns : goal.returns
returns c = let x = c.args in
    neither_larger x.n x.lower x.upper (omega arith) (omega arith)
