-- `dispatch::tests::bytes_fitting` meets its contract, by the outcomes of the tests.
use Rattle.std.proofs.Common.{◌+◌, arith}
use borrow.Author.Tests.{le-leb, lt-leb}
use Rattle.dispatch_rounds.specs.Tables.{fitting}
use Rattle.dispatch.proofs.tests.bytes_fitting.Goals as goal

pub returns-then-left-first : goal.returns-then-left-first
unfolding fitting
returns-then-left-first c = simp (lt-leb (c.args.first + c.args.second) c.args.left (omega arith))

pub returns-then-left-first-2 : goal.returns-then-left-first-2
unfolding fitting
returns-then-left-first-2 c = simp (lt-leb (c.args.first + c.args.second) c.args.left (omega arith))

pub returns : goal.returns
unfolding fitting
returns c = simp (le-leb (c.args.first + c.args.second) c.args.left (omega arith))
