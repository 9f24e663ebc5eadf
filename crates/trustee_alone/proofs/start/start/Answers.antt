-- Nothing is touched before all tests have passed.
use Rattle.std.proofs.Common.{◌≡◌, ◌∙◌, sym, ap, ℕ, ◌+◌, ◌-◌, List, ◌++◌, length, eqb, arith, drop}
use mathlib.Core.Option.{none}
use lib.Seq.{length-take-le}
use borrow.Author.Tests.{eqb-true}
use Rattle.gates.specs.Gate.{gates_of}
use Rattle.gates.specs.Board.{conditional_count}
use Rattle.jury.specs.Shape.{within_limits, ballot_bytes}
use Rattle.jury.specs.Reason.{reason_of, refused_for, first_of}
use Rattle.basics.proofs.Flags.{true_T, and_first, and_second}
use Rattle.tally.specs.Answer.{Size, outcome_of, size_of, size_in}
use Rattle.tally.specs.Test.{test_reasons, test_outcome}
use Rattle.tally.proofs.Exits.{exit}
use Rattle.tally.proofs.TestReasons.{test_passed}
use Rattle.tally.proofs.RunReasons.{outcome_refused}
use Rattle.levels.proofs.Reasons.{ListFacts, list_facts}
use Rattle.trustee_rounds.specs.Rounds.{start_wires, start_published}
use Rattle.trustee_alone.specs.Own.{own_tables_fit}
use Rattle.trustee_alone.specs.Start.{own_reasons, start_reasons, start_outcome, started_wires, started_published}
use Rattle.trustee_alone.proofs.Tests.{passed, before, behind, both_passed, outcome_some, outcome_none, left_old, left_new, same_own}
use Rattle.trustee_alone.proofs.Sizes.{tables_ready, small_sizes, size_is, Fit, fit, started, started_published_lem}
use Rattle.trustee_alone.proofs.start.start.Goals as goal
use Rattle.trustee_alone.proofs.start.start.Goals.{In_ok-size, After-test_own, In_ok-test_own}

-- the list has passed its test
facts : (c : In_ok-size) → let z = c.in_ok-size.size in ListFacts c.args.shape c.args.table.now z.gates z.conditional
unfolding outcome_of
facts c =
    list_facts c.args.shape c.args.table.now _ _
    (test_passed c.args.shape c.args.table.now (size_in c.in_ok-size.size) (sym c.in_ok-size.ensures))

-- if the list has passed its test, the tests 16 to 18 decide
own_answer : (c : After-test_own) → let a = c.args in let z = c.in_ok-size.size in
    ListFacts a.shape a.table.now z.gates z.conditional
    → first_of (start_reasons a.shape a.table.now a.t a.p a.shares.now a.triples.now a.wires.now a.published.now)
    ≡ refused_for c.test_own.result
unfolding start_reasons
own_answer c known =
    let a = c.args in
    behind (test_reasons a.shape a.table.now)
    (own_reasons (ballot_bytes a.shape) a.shape.candidates (size_of (gates_of a.table.now)) a.t a.p
    a.shares.now a.triples.now a.wires.now a.published.now) known.reasons
    ∙ sym (c.test_own.ensures ∙ ap (λ (n : ℕ). first_of
    (own_reasons n a.shape.candidates (size_in c.in_ok-size.size) a.t a.p a.shares.now a.triples.now a.wires.now
    a.published.now)) c.ballot_bytes-inputs.ensures
    ∙ ap (λ (z : Size). first_of (own_reasons (ballot_bytes a.shape) a.shape.candidates z a.t a.p a.shares.now
    a.triples.now a.wires.now a.published.now))
    (size_is _ _ a.table.now known.gates_are known.conditional_are))

-- no reason applies, so the tables have the right lengths
none_applies : (c : In_ok-test_own) → let a = c.args in
    first_of (start_reasons a.shape a.table.now a.t a.p a.shares.now a.triples.now a.wires.now a.published.now)
    ≡ refused_for c.test_own.result
    → first_of (start_reasons a.shape a.table.now a.t a.p a.shares.now a.triples.now a.wires.now a.published.now) ≡ none
unfolding refused_for
none_applies c e = e ∙ ap refused_for c.in_ok-test_own.was

lengths : (c : In_ok-test_own) → let a = c.args in
    first_of (start_reasons a.shape a.table.now a.t a.p a.shares.now a.triples.now a.wires.now a.published.now) ≡ none
    → (length a.shares.now ≡ ballot_bytes a.shape)
    × Fit (ballot_bytes a.shape) a.shape.candidates (gates_of a.table.now) a.triples.now a.wires.now a.published.now
unfolding start_reasons own_reasons
lengths c e =
    let a = c.args in
    let own = (both_passed (test_reasons a.shape a.table.now) _ e).1 in
    let two = (passed _ 17 _ (passed _ 16 _ own).1).0 in
    let l = eqb (length a.shares.now) (ballot_bytes a.shape) in
    let t = own_tables_fit (ballot_bytes a.shape) a.shape.candidates (size_of (gates_of a.table.now))
    a.triples.now a.wires.now a.published.now in (
      eqb-true (length a.shares.now) (ballot_bytes a.shape) (and_first l t two),
      fit (ballot_bytes a.shape) a.shape.candidates (gates_of a.table.now) a.triples.now a.wires.now a.published.now
          (and_second l t two),
    )

pub returns-in_err-size : goal.returns-in_err-size
unfolding outcome_of start_reasons start_outcome started_wires started_published test_outcome
returns-in_err-size c =
    let a = c.args in
    let r = reason_of c.in_err-size.field-0.0 in
    let p = exit c.from_residual.result c.from_residual.ensures in
    let o = first_of (start_reasons a.shape a.table.now a.t a.p a.shares.now a.triples.now a.wires.now a.published.now) in
    let why = before (test_reasons a.shape a.table.now)
    (own_reasons (ballot_bytes a.shape) a.shape.candidates (size_of (gates_of a.table.now)) a.t a.p
    a.shares.now a.triples.now a.wires.now a.published.now) r
    (outcome_refused (first_of (test_reasons a.shape a.table.now)) (size_of (gates_of a.table.now)) r
    (sym c.in_err-size.ensures)) in
    rw (p.1, p.2) (same_own (outcome_some o (size_of (gates_of a.table.now)) r why)
    (left_old o (start_wires (length (gates_of a.table.now)) a.shares.now) a.wires.now r why)
    (left_old o (start_published (conditional_count (gates_of a.table.now)) a.shape.candidates) a.published.now r why))

pub ballot_bytes-inputs-requires : goal.ballot_bytes-inputs-requires
ballot_bytes-inputs-requires c =
    true_T (within_limits c.args.shape) (facts (goal.at.ballot_bytes-inputs-requires c).In_ok-size).within

pub test_own-requires : goal.test_own-requires
test_own-requires c =
    let a = c.args in
    let e = c.ballot_bytes-inputs.ensures in
    rw e (small_sizes (ballot_bytes a.shape) a.shape.candidates _ _ a.table.now
    (tables_ready a.shape a.table.now _ _ (facts (goal.at.test_own-requires c).In_ok-size)))

pub returns-in_err-test_own : goal.returns-in_err-test_own
unfolding outcome_of refused_for start_outcome started_wires started_published
returns-in_err-test_own c =
    let a = c.args in
    let at = goal.at.returns-in_err-test_own c in
    let r = reason_of c.in_err-test_own.field-0.0 in
    let p = exit c.from_residual-in_err-test_own.result c.from_residual-in_err-test_own.ensures in
    let o = first_of (start_reasons a.shape a.table.now a.t a.p a.shares.now a.triples.now a.wires.now a.published.now) in
    let why = own_answer at.After-test_own (facts at.In_ok-size) ∙ ap refused_for c.in_err-test_own.was in
    rw (p.1, p.2) (same_own (outcome_some o (size_of (gates_of a.table.now)) r why)
    (left_old o (start_wires (length (gates_of a.table.now)) a.shares.now) a.wires.now r why)
    (left_old o (start_published (conditional_count (gates_of a.table.now)) a.shape.candidates) a.published.now r why))

pub slice_bounds-copy-end : goal.slice_bounds-copy-end
slice_bounds-copy-end c =
    let at = goal.at.slice_bounds-copy-end c in
    let l = lengths at.In_ok-test_own (none_applies at.In_ok-test_own (own_answer at.After-test_own (facts at.In_ok-size))) in
    omega (arith, l.0, l.1.wires_length, c.fill.ensures.len)

pub slice_bounds-copy-end-2 : goal.slice_bounds-copy-end-2
slice_bounds-copy-end-2 c =
    let at = goal.at.slice_bounds-copy-end-2 c in
    let l = lengths at.In_ok-test_own (none_applies at.In_ok-test_own (own_answer at.After-test_own (facts at.In_ok-size))) in
    sym (length-take-le (length c.args.shares.now) c.fill.new.self (omega (arith, l.0, l.1.wires_length, c.fill.ensures.len)))

pub copy-requires : goal.copy-requires
copy-requires c =
    let at = goal.at.copy-requires c in
    let l = lengths at.In_ok-test_own (none_applies at.In_ok-test_own (own_answer at.After-test_own (facts at.In_ok-size))) in
    length-take-le (length c.args.shares.now) c.fill.new.self (omega (arith, l.0, l.1.wires_length, c.fill.ensures.len))

pub returns : goal.returns
unfolding outcome_of start_outcome started_wires started_published
returns c =
    let a = c.args in
    let at = goal.at.returns c in
    let f = facts at.In_ok-size in
    let why = none_applies at.In_ok-test_own (own_answer at.After-test_own f) in
    let l = lengths at.In_ok-test_own why in
    let o = first_of (start_reasons a.shape a.table.now a.t a.p a.shares.now a.triples.now a.wires.now a.published.now) in
    same_own (outcome_none o (size_of (gates_of a.table.now)) _ why (size_is _ _ a.table.now f.gates_are f.conditional_are))
    (ap (λ (xs : List ℕ). xs ++ drop (length a.shares.now) c.fill.new.self) c.copy.ensures
    ∙ ap (λ (xs : List ℕ). a.shares.now ++ drop (length a.shares.now) xs) (c.fill.ensures.after (λ y e. e))
    ∙ started a.shares.now a.wires.now (ballot_bytes a.shape) (length (gates_of a.table.now)) l.0 l.1.wires_length
    ∙ left_new o (start_wires (length (gates_of a.table.now)) a.shares.now) a.wires.now why)
    (c.fill-2.ensures.after (λ y e. e)
    ∙ started_published_lem a.published.now (conditional_count (gates_of a.table.now)) a.shape.candidates
    l.1.published_length ∙ left_new o
    (start_published (conditional_count (gates_of a.table.now)) a.shape.candidates) a.published.now why)
