-- `gates::list::test` meets its contract: its tests are those of the definition, in the same order.
-- Assumes nothing.
use Prim.Native.Nat.{◌/◌, ◌%◌}
use lib.ListN.{length}
use borrow.Author.Tests.{eq-eqb, ne_eqb, lt-ltb, le-ltb}
use Rattle.gates.specs.Open.Test.{tested}
use Rattle.gates.proofs.list.test.Goals as goal

pub returns-then-table-ne0 : goal.returns-then-table-ne0
unfolding tested
returns-then-table-ne0 c = let t = c.args.table.now in rw (ne_eqb (length t % 4) 0 c.if-table-ne0.true)

pub returns-then-gates-outputs : goal.returns-then-gates-outputs
unfolding tested
returns-then-gates-outputs c = let a = c.args in
    let n = length a.table.now in
    rw (eq-eqb (n % 4) 0 c.if-table-ne0.false, lt-ltb (n / 4) a.outputs c.if-gates-outputs.true)

pub returns-then-gates-gt-MOST_GATES : goal.returns-then-gates-gt-MOST_GATES
unfolding tested
returns-then-gates-gt-MOST_GATES c = let a = c.args in
    let n = length a.table.now in
    rw (
      eq-eqb (n % 4) 0 c.if-table-ne0.false,
      le-ltb (n / 4) a.outputs c.if-gates-outputs.false,
      lt-ltb 1048576 (n / 4) c.if-gates-gt-MOST_GATES.true,
    )

pub returns : goal.returns
unfolding tested
returns c = let a = c.args in
    let n = length a.table.now in
    rw (
      eq-eqb (n % 4) 0 c.if-table-ne0.false,
      le-ltb (n / 4) a.outputs c.if-gates-outputs.false,
      le-ltb 1048576 (n / 4) c.if-gates-gt-MOST_GATES.false,
    )
    c.test_gates.ensures
