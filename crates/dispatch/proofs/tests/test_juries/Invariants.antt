-- `dispatch::tests::test_juries`: the juries before j have passed.
use Rattle.std.proofs.Common.{drop}
use Rattle.dispatch_rounds.specs.Tables.{tables_of}
use Rattle.dispatch.proofs.JuryTests.{TestedSoFar}
use Rattle.dispatch.proofs.tests.test_juries.Given as goal

abbrev pub invariant-loop-j : goal.invariant-loop-j
invariant-loop-j l =
    TestedSoFar l.headers (tables_of l.lists l.ballots l.tapes l.wires l.boards) l.j (drop l.j l.headers) l.at l.conditional
