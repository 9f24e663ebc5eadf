-- The list is tested first.
use Rattle.std.proofs.Common.{◌∙◌, sym, ap, ℕ}
use mathlib.Core.Option.{Option}
use Rattle.gates.specs.Gate.{gates_of}
use Rattle.jury.specs.Shape.{within_limits, ballot_bytes}
use Rattle.jury.specs.Reason.{Reason, reason_of, first_of}
use Rattle.basics.proofs.Flags.{true_T}
use Rattle.tally.specs.Answer.{outcome, outcome_of, size_of, size_in}
use Rattle.tally.specs.Test.{test_reasons, test_outcome}
use Rattle.tally.proofs.Exits.{exit}
use Rattle.tally.proofs.TestReasons.{test_passed}
use Rattle.tally.proofs.RunReasons.{outcome_refused}
use Rattle.levels.specs.Answer.{depths_of, depths_outcome, level_reason_of}
use Rattle.levels.proofs.Reasons.{ListFacts, list_facts}
use Rattle.trustee_alone.specs.Rounds.{table_reasons, round_reasons}
use Rattle.trustee_alone.proofs.Tests.{before, behind, outcome_some}
use Rattle.trustee_alone.proofs.Sizes.{tables_ready}
use Rattle.trustee_alone.proofs.round.test_round.Goals as goal
use Rattle.trustee_alone.proofs.round.test_round.Goals.{In_ok-size}

-- the list has passed its test
facts : (c : In_ok-size) → let z = c.in_ok-size.size in ListFacts c.args.shape c.args.table.now z.gates z.conditional
unfolding outcome_of
facts c =
    list_facts c.args.shape c.args.table.now _ _
    (test_passed c.args.shape c.args.table.now (size_in c.in_ok-size.size) (sym c.in_ok-size.ensures))

pub returns-in_err-size : goal.returns-in_err-size
unfolding depths_outcome level_reason_of outcome_of round_reasons test_outcome
returns-in_err-size c =
    let a = c.args in
    let r = reason_of c.in_err-size.field-0.0 in
    let p = exit c.from_residual.result c.from_residual.ensures in
    rw (p.1, p.2) (outcome_some _ _ r
    (before (test_reasons a.shape a.table.now)
    (table_reasons (ballot_bytes a.shape) a.shape.candidates (gates_of a.table.now) a.t a.p a.round a.levels.now
    a.own.triples.now a.heard.now a.own.wires.now a.own.published.now) r
    (outcome_refused (first_of (test_reasons a.shape a.table.now)) (size_of (gates_of a.table.now)) r
    (sym c.in_err-size.ensures))))

pub ballot_bytes-inputs-requires : goal.ballot_bytes-inputs-requires
ballot_bytes-inputs-requires c =
    true_T (within_limits c.args.shape) (facts (goal.at.ballot_bytes-inputs-requires c).In_ok-size).within

pub test_tables-requires : goal.test_tables-requires
test_tables-requires c =
    let a = c.args in
    let e = c.ballot_bytes-inputs.ensures in
    rw e (tables_ready a.shape a.table.now _ _ (facts (goal.at.test_tables-requires c).In_ok-size))

pub returns : goal.returns
unfolding round_reasons
returns c =
    let a = c.args in
    c.test_tables.ensures ∙ ap (λ (n : ℕ). outcome
    (first_of (table_reasons n a.shape.candidates (gates_of a.table.now) a.t a.p a.round a.levels.now
    a.own.triples.now a.heard.now a.own.wires.now a.own.published.now))
    (depths_of n (gates_of a.table.now))) c.ballot_bytes-inputs.ensures
    ∙ ap (λ (o : Option Reason). outcome o (depths_of (ballot_bytes a.shape) (gates_of a.table.now)))
    (sym (behind (test_reasons a.shape a.table.now)
    (table_reasons (ballot_bytes a.shape) a.shape.candidates (gates_of a.table.now) a.t a.p a.round a.levels.now
    a.own.triples.now a.heard.now a.own.wires.now a.own.published.now)
    (facts (goal.at.returns c).In_ok-size).reasons))
