-- `dispatch::dispatch::dispatch` meets its contract: the first reason decides; if there is none, the rounds finish
-- every jury, and then the wires are emptied.
use Rattle.std.proofs.Common.{◌≡◌, ◌∙◌, sym, ap, true, ◌&&◌, List, ℕ, ◌*◌, ◌≤◌, leb, length, length-take, arith}
use Rattle.std.proofs.Math.Option.{Option, none, some}
use Rattle.std.proofs.Math.Seq.{length-take-le}
use borrow.Author.Tests.{leb-true}
use Rattle.basics.proofs.Flags.{and_first, and_second}
use Rattle.jury.specs.Reason.{Reason, reason_at, reason_of, first_of}
use Rattle.tally.proofs.Exits.{exit}
use Rattle.dispatch_rounds.specs.Tables.{tables_of}
use Rattle.dispatch_rounds.specs.Reasons.{jury_reasons}
use Rattle.dispatch.specs.Call.{Call, juries_in}
use Rattle.dispatch.specs.Reasons.{jury_reason_of, verdict_reason, rounds_in}
use Rattle.dispatch.specs.Result.{DispatchResult, dispatch_result_after, dispatch_result}
use Rattle.dispatch.specs.inner.Rounds.{wire_bytes, RoundsFinished}
use Rattle.dispatch.proofs.Whole.{bad_count, bad_per_round, by_juries, result_by, same_result, wires_room, boards_end, emptied}
use Rattle.dispatch.proofs.dispatch.dispatch.Goals as goal
use Rattle.dispatch.proofs.dispatch.dispatch.Goals.{Start}

-- This call, from its arguments at the start.
abbrev call : Start → Call
call c =
    let a = c.args in
    record {
      count = a.count;
      headers = a.headers;
      gates_per_round = a.gates_per_round;
      tables = tables_of a.lists.now a.ballots.now a.tapes.now a.wires.now a.boards.now;
    }

few : (n : ℕ) → (leb 1 n && leb n 8) ≡ true → n ≤ 8
few n e = leb-true n 8 (and_second (leb 1 n) (leb n 8) e)

least : (n : ℕ) → (leb 1 n && leb n 65536) ≡ true → 1 ≤ n
least n e = leb-true 1 n (and_first (leb 1 n) (leb n 65536) e)

most : (n : ℕ) → (leb 1 n && leb n 65536) ≡ true → n ≤ 65536
most n e = leb-true n 65536 (and_second (leb 1 n) (leb n 65536) e)

-- the reason that the tests found is the call's
by_tests : (of : Call) (o : Option Reason) → (leb 1 of.count && leb of.count 8) ≡ true
    → (leb 1 of.gates_per_round && leb of.gates_per_round 65536) ≡ true → o ≡ first_of (jury_reasons 0 (juries_in of) of.tables)
    → dispatch_result of ≡ dispatch_result_after o of
by_tests of o h g e = result_by of o (by_juries of h g ∙ sym e)

pub returns-then-not-is_between : goal.returns-then-not-is_between
unfolding verdict_reason rounds_in jury_reason_of reason_of reason_at dispatch_result_after
returns-then-not-is_between c =
    let of = call (goal.at.returns-then-not-is_between c).Start in
    sym (result_by of (some (reason_at 19 0)) (bad_count of (sym c.is_between.ensures ∙ c.if-not-is_between.true)))

pub returns-then-not-is_between-2 : goal.returns-then-not-is_between-2
unfolding verdict_reason rounds_in jury_reason_of reason_of reason_at dispatch_result_after
returns-then-not-is_between-2 c =
    let of = call (goal.at.returns-then-not-is_between-2 c).Start in
    sym (result_by of (some (reason_at 20 0)) (bad_per_round of (sym c.is_between.ensures ∙ c.if-not-is_between.false)
    (sym c.is_between-2.ensures ∙ c.if-not-is_between-2.true)))

pub slice_bounds-juries-end : goal.slice_bounds-juries-end
slice_bounds-juries-end c =
    sym (length-take-le c.args.count c.args.headers
    (omega (arith, few c.args.count (sym c.is_between.ensures ∙ c.if-not-is_between.false), c.well_formed.1.0.1.0.1)))

pub test_juries-requires : goal.test_juries-requires
test_juries-requires c =
    omega (arith, length-take c.args.count c.args.headers, few c.args.count (sym c.is_between.ensures ∙ c.if-not-is_between.false))

pub returns-in_err-tested : goal.returns-in_err-tested
unfolding verdict_reason rounds_in dispatch_result_after
returns-in_err-tested c =
    let of = call (goal.at.returns-in_err-tested c).Start in
    let q = c.in_err-tested.field-0.0 in
    let p = exit c.from_residual.result c.from_residual.ensures in
    rw (p.1, p.2) (sym (by_tests of (some (jury_reason_of q)) (sym c.is_between.ensures ∙ c.if-not-is_between.false)
    (sym c.is_between-2.ensures ∙ c.if-not-is_between-2.false) c.in_err-tested.ensures.reason))

pub run_rounds-requires : goal.run_rounds-requires
unfolding verdict_reason
run_rounds-requires c =
    record {
      few = omega (arith, length-take c.args.count c.args.headers, few c.args.count (sym c.is_between.ensures ∙ c.if-not-is_between.false));
      per_round_least = least c.args.gates_per_round (sym c.is_between-2.ensures ∙ c.if-not-is_between-2.false);
      per_round_most = most c.args.gates_per_round (sym c.is_between-2.ensures ∙ c.if-not-is_between-2.false);
      accepted = sym c.in_ok-tested.ensures.reason;
      conditional_are = c.in_ok-tested.ensures.found.conditional;
    }

-- the wires of all juries fit into the table
room : (of : Call) (conditional wires boards : List ℕ) (n : ℕ) → first_of (jury_reasons 0 (juries_in of) of.tables) ≡ none
    → n ≡ wire_bytes (juries_in of) → RoundsFinished (juries_in of) of.gates_per_round of.tables conditional wires boards → n ≤ length wires
room of conditional wires boards n e h fin =
    omega (arith, h, ap length fin.state.wires_are, wires_room (fin.done * of.gates_per_round) 0 (juries_in of) of.tables e)

pub slice_bounds-fill-end : goal.slice_bounds-fill-end
unfolding verdict_reason
slice_bounds-fill-end c =
    omega (
      arith,
      room (call (goal.at.slice_bounds-fill-end c).Start) _ _ _ c.in_ok-tested.tested.wires (sym c.in_ok-tested.ensures.reason)
          c.in_ok-tested.ensures.found.wires c.run_rounds.ensures,
    )

pub slice_bounds-fill-end-2 : goal.slice_bounds-fill-end-2
unfolding verdict_reason
slice_bounds-fill-end-2 c =
    sym (length-take-le c.in_ok-tested.tested.wires c.run_rounds.new.wires
    (room (call (goal.at.slice_bounds-fill-end-2 c).Start) _ _ _ c.in_ok-tested.tested.wires (sym c.in_ok-tested.ensures.reason)
    c.in_ok-tested.ensures.found.wires c.run_rounds.ensures))

pub rounds_of-requires : goal.rounds_of-requires
rounds_of-requires c =
    record {
      few = omega (arith, length-take c.args.count c.args.headers, few c.args.count (sym c.is_between.ensures ∙ c.if-not-is_between.false));
      per_round_least = least c.args.gates_per_round (sym c.is_between-2.ensures ∙ c.if-not-is_between-2.false);
    }

pub returns : goal.returns
unfolding verdict_reason rounds_in dispatch_result_after
returns c =
    let of = call (goal.at.returns c).Start in
    let fin = c.run_rounds.ensures in
    let given = fin.done * of.gates_per_round in
    let n = sym c.in_ok-tested.ensures.reason in
    let e = by_tests of none (sym c.is_between.ensures ∙ c.if-not-is_between.false) (sym c.is_between-2.ensures ∙ c.if-not-is_between-2.false)
    c.in_ok-tested.ensures.reason in
    same_result _ _ (sym (ap (λ (d : DispatchResult). d.reason) e))
    (c.rounds_of.ensures of.tables ∙ sym (ap (λ (d : DispatchResult). d.rounds) e))
    (emptied given (juries_in of) of.tables n c.in_ok-tested.tested.wires
    c.run_rounds.new.wires c.fill.new.self c.in_ok-tested.ensures.found.wires
    fin.state.wires_are (c.fill.ensures.after (λ y e. e)) ∙ sym (ap (λ (d : DispatchResult). d.wires) e))
    (fin.state.boards_are ∙ boards_end given 0 (juries_in of) of.tables n fin.all
    ∙ sym (ap (λ (d : DispatchResult). d.boards) e))
