-- It tests the list, then the length, and empties the table only after that.
use Rattle.std.proofs.Common.{◌≡◌, ◌∙◌, sym, ap, ℕ, ◌+◌, [], length, eqb, replicate}
use Rattle.gates.specs.Gate.{gates_of}
use Rattle.jury.specs.Shape.{within_limits, ballot_bytes}
use Rattle.jury.specs.Reason.{reason_at, reason_of, first_of}
use Rattle.basics.proofs.Flags.{true_T}
use Rattle.tally.specs.Answer.{outcome_of, size_of, size_in}
use Rattle.tally.specs.Test.{test_reasons, test_outcome}
use Rattle.tally.proofs.Exits.{exit}
use Rattle.tally.proofs.TestReasons.{test_passed}
use Rattle.tally.proofs.RunReasons.{outcome_refused}
use Rattle.levels.proofs.Reasons.{ListFacts, list_facts}
use Rattle.trustee_alone.specs.Finish.{finish_reasons, finish_outcome, finished_wires}
use Rattle.trustee_alone.proofs.Tests.{pass, fail, end, before, behind, outcome_some, outcome_none, left_old, left_new, same_finish}
use Rattle.trustee_alone.proofs.Sizes.{size_is}
use Rattle.trustee_alone.proofs.finish.finish.Goals as goal
use Rattle.trustee_alone.proofs.finish.finish.Goals.{In_ok-size, After-has_length}

-- the list has passed its test
facts : (c : In_ok-size) → let z = c.in_ok-size.size in ListFacts c.args.shape c.args.table.now z.gates z.conditional
unfolding outcome_of
facts c =
    list_facts c.args.shape c.args.table.now _ _
    (test_passed c.args.shape c.args.table.now (size_in c.in_ok-size.size) (sym c.in_ok-size.ensures))

length_is : (c : After-has_length) → let a = c.args in c.in_ok-size.size.gates ≡ length (gates_of a.table.now)
    → c.has_length.result ≡ eqb (length a.wires.now) (ballot_bytes a.shape + length (gates_of a.table.now))
length_is c e =
    c.has_length.ensures
    ∙ ap (λ (n : ℕ). eqb (length c.args.wires.now) (n + c.in_ok-size.size.gates)) c.ballot_bytes-inputs.ensures
    ∙ ap (λ (n : ℕ). eqb (length c.args.wires.now) (ballot_bytes c.args.shape + n)) e

pub returns-in_err-size : goal.returns-in_err-size
unfolding outcome_of finish_reasons finish_outcome finished_wires test_outcome
returns-in_err-size c =
    let a = c.args in
    let r = reason_of c.in_err-size.field-0.0 in
    let p = exit c.from_residual.result c.from_residual.ensures in
    let o = first_of (finish_reasons a.shape a.table.now a.wires.now) in
    let why = before (test_reasons a.shape a.table.now) _ r
    (outcome_refused (first_of (test_reasons a.shape a.table.now)) (size_of (gates_of a.table.now)) r
    (sym c.in_err-size.ensures)) in
    rw (p.1, p.2) (same_finish (outcome_some o (size_of (gates_of a.table.now)) r why)
    (left_old o (replicate (length a.wires.now) 0) a.wires.now r why))

pub ballot_bytes-inputs-requires : goal.ballot_bytes-inputs-requires
ballot_bytes-inputs-requires c =
    true_T (within_limits c.args.shape) (facts (goal.at.ballot_bytes-inputs-requires c).In_ok-size).within

pub returns-then-not-has_length : goal.returns-then-not-has_length
unfolding outcome_of reason_of finish_reasons finish_outcome finished_wires
returns-then-not-has_length c =
    let a = c.args in
    let at = goal.at.returns-then-not-has_length c in
    let f = facts at.In_ok-size in
    let o = first_of (finish_reasons a.shape a.table.now a.wires.now) in
    let why = behind (test_reasons a.shape a.table.now) _ f.reasons
    ∙ fail _ 17 [] (sym (length_is at.After-has_length f.gates_are) ∙ c.if-not-has_length.true) in
    same_finish (outcome_some o (size_of (gates_of a.table.now)) (reason_at 17 0) why)
    (left_old o (replicate (length a.wires.now) 0) a.wires.now (reason_at 17 0) why)

pub returns : goal.returns
unfolding outcome_of finish_reasons finish_outcome finished_wires
returns c =
    let a = c.args in
    let at = goal.at.returns c in
    let f = facts at.In_ok-size in
    let o = first_of (finish_reasons a.shape a.table.now a.wires.now) in
    let why = behind (test_reasons a.shape a.table.now) _ f.reasons
    ∙ pass _ 17 [] (sym (length_is at.After-has_length f.gates_are) ∙ c.if-not-has_length.false) ∙ end in
    same_finish
    (outcome_none o (size_of (gates_of a.table.now)) _ why (size_is _ _ a.table.now f.gates_are f.conditional_are))
    (c.fill.ensures.after (λ y e. e) ∙ left_new o (replicate (length a.wires.now) 0) a.wires.now why)
