-- `dispatch::tests::numbers_fitting` meets its contract: four numbers for each gate fit if the gates are at most a
-- quarter of what is left.
use Rattle.std.proofs.Common.{◌*◌, arith}
use borrow.Author.Tests.{le-leb, lt-leb}
use Rattle.dispatch_rounds.specs.Tables.{fitting}
use Rattle.dispatch.proofs.tests.numbers_fitting.Goals as goal

pub returns-then-gates-left : goal.returns-then-gates-left
unfolding fitting
returns-then-gates-left c = simp (le-leb (4 * c.args.gates) c.args.left (omega arith))

pub returns-else-gates-left : goal.returns-else-gates-left
unfolding fitting
returns-else-gates-left c = simp (lt-leb (4 * c.args.gates) c.args.left (omega arith))
