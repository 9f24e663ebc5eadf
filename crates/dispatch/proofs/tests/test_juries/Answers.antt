-- `dispatch::tests::test_juries` meets its contract: as long as all juries pass, the first reason is that of the
-- rest.
use Rattle.std.proofs.Common.{◌≡◌, subst, List, [], drop, drop_of_length-le, arith}
use Rattle.dispatch_rounds.specs.declared.header.JuryHeader.{JuryHeader}
use Rattle.dispatch_rounds.specs.Tables.{tables_of}
use Rattle.dispatch.specs.Reasons.{jury_reason_of, verdict_reason}
use Rattle.dispatch.proofs.JuryTests.{TestedSoFar, tested_start, tested_end, jury_refused, jury_within, jury_inside, jury_accepted}
use Rattle.dispatch.proofs.tests.test_juries.Goals as goal

pub loop-j-init : goal.loop-j-init
loop-j-init c = tested_start c.args.headers.now _ _ _ _ _ c.requires

pub offset_bounds-lists-at : goal.offset_bounds-lists-at
offset_bounds-lists-at c = omega (arith, c.loop-j.invariant.inside.lists)

pub slice_bounds-test_jury-count : goal.slice_bounds-test_jury-count
slice_bounds-test_jury-count c = omega (arith, c.loop-j.invariant.inside.lists)

pub slice_bounds-test_jury-start : goal.slice_bounds-test_jury-start
slice_bounds-test_jury-start c = omega (arith, c.loop-j.invariant.inside.lists)

pub slice_bounds-test_jury-count-in-loop-j : goal.slice_bounds-test_jury-count-in-loop-j
slice_bounds-test_jury-count-in-loop-j c = omega (arith, c.loop-j.invariant.inside.ballots)

pub slice_bounds-test_jury-start-in-loop-j : goal.slice_bounds-test_jury-start-in-loop-j
slice_bounds-test_jury-start-in-loop-j c = omega (arith, c.loop-j.invariant.inside.ballots)

pub slice_bounds-test_jury-count-in-loop-j-2 : goal.slice_bounds-test_jury-count-in-loop-j-2
slice_bounds-test_jury-count-in-loop-j-2 c = omega (arith, c.loop-j.invariant.inside.tapes)

pub slice_bounds-test_jury-start-in-loop-j-2 : goal.slice_bounds-test_jury-start-in-loop-j-2
slice_bounds-test_jury-start-in-loop-j-2 c = omega (arith, c.loop-j.invariant.inside.tapes)

pub slice_bounds-test_jury-count-in-loop-j-3 : goal.slice_bounds-test_jury-count-in-loop-j-3
slice_bounds-test_jury-count-in-loop-j-3 c = omega (arith, c.loop-j.invariant.inside.wires)

pub slice_bounds-test_jury-start-in-loop-j-3 : goal.slice_bounds-test_jury-start-in-loop-j-3
slice_bounds-test_jury-start-in-loop-j-3 c = omega (arith, c.loop-j.invariant.inside.wires)

pub slice_bounds-test_jury-count-in-loop-j-4 : goal.slice_bounds-test_jury-count-in-loop-j-4
slice_bounds-test_jury-count-in-loop-j-4 c = omega (arith, c.loop-j.invariant.inside.boards)

pub slice_bounds-test_jury-start-in-loop-j-4 : goal.slice_bounds-test_jury-start-in-loop-j-4
slice_bounds-test_jury-start-in-loop-j-4 c = omega (arith, c.loop-j.invariant.inside.boards)

pub returns-in-Err : goal.returns-in-Err
unfolding verdict_reason jury_reason_of
returns-in-Err c =
    record {
      reason = jury_refused c.args.headers.now _ _ _ _ _ c.loop-j.j c.loop-j.at c.loop-j.conditional c.loop-j-test.true
          c.loop-j.invariant c.in-Err.reason c.in-Err.ensures;
      found = tt;
    }

pub after-at-requires : goal.after-at-requires
after-at-requires c =
    let ss = c.args.headers.now in
    let i = jury_inside ss _ _ _ _ _ c.loop-j.j c.loop-j.at c.loop-j.conditional c.loop-j-test.true c.loop-j.invariant c.in-Ok.size c.in-Ok.ensures in
    record {
      within = jury_within ss _ _ _ _ _ c.loop-j.j c.loop-j.at c.loop-j.conditional c.loop-j-test.true c.loop-j.invariant c.in-Ok.size c.in-Ok.ensures;
      lists = omega (arith, i.lists);
      ballots = omega (arith, i.ballots);
      tapes = omega (arith, i.tapes);
      wires = omega (arith, i.wires);
      boards = omega (arith, i.boards);
    }

pub loop-j-preserved : goal.loop-j-preserved
loop-j-preserved c =
    jury_accepted c.args.headers.now _ _ _ _ _ c.loop-j.j c.loop-j.at c.loop-j.conditional c.loop-j-test.true
    c.loop-j.invariant c.in-Ok.size c.in-Ok.ensures c.after-at.result c.after-at.ensures

pub returns : goal.returns
unfolding verdict_reason
returns c =
    let ss = c.args.headers.now in
    let t = tables_of c.args.lists.now c.args.ballots.now c.args.tapes.now c.args.wires.now c.args.boards.now in
    let none_left : drop c.loop-j.j ss ≡ [] = drop_of_length-le ss {i = c.loop-j.j} (omega arith) in
    let e = tested_end ss t c.loop-j.j c.loop-j.at c.loop-j.conditional
    (subst (λ (left : List JuryHeader). TestedSoFar ss t c.loop-j.j left c.loop-j.at c.loop-j.conditional) none_left c.loop-j.invariant) in
    record { reason = e.0; found = record { conditional = e.1; wires = e.2 } }
