-- `urn::admit::decide` meets its contract: each branch answers what the definition gives for the outcomes of the
-- tests.
-- Assumes nothing.
use mathlib.Core.Path.{◌∙◌, refl, sym, ap}
use mathlib.Core.Bool.{not}
use Rattle.std.specs.Prelude.{Some}
use Rattle.jury.specs.Reason.{reason_of, refused_for}
use Rattle.basics.proofs.Flags.{T_true}
use Rattle.jury.proofs.Limits.{graded_T}
use Rattle.urn_chains.specs.Sound.{jury_of_one, good_juror}
use Rattle.urn.specs.Facts.{counted_by}
use Rattle.urn.specs.Admit.{admit_outcome_by}
use Rattle.tally.proofs.Exits.{exit}
use Rattle.urn.proofs.Outcomes.{admit_first_lem, admit_14, admit_ballot, admit_15, admit_none, outcome_refused, outcome_accepted, juror_present, juror_absent}
use Rattle.basics.proofs.Flags.{and_first_fails}
use Rattle.urn.proofs.admit.decide.Goals as goal

pub returns-then-not-is_juror : goal.returns-then-not-is_juror
unfolding admit_outcome_by counted_by reason_of
returns-then-not-is_juror c = let a = c.args in
    outcome_refused _ _ _ (admit_first_lem a.k a.d (Some a.facts) a.juror a.ballot.now
    ∙ admit_14 _ _ _ _ _ (T_true _ c.requires.graded) refl
    (and_first_fails (good_juror a.juror) (not a.facts.present)
    (sym c.is_juror.ensures ∙ c.if-not-is_juror.true)))

pub returns-then-facts : goal.returns-then-facts
unfolding admit_outcome_by counted_by reason_of
returns-then-facts c = let a = c.args in
    outcome_refused _ _ _ (admit_first_lem a.k a.d (Some a.facts) a.juror a.ballot.now
    ∙ admit_14 _ _ _ _ _ (T_true _ c.requires.graded) refl
    (juror_present (good_juror a.juror) a.facts.present
    (sym c.is_juror.ensures ∙ c.if-not-is_juror.false) c.if-facts.true))

pub test-requires : goal.test-requires
unfolding jury_of_one
test-requires c = graded_T (jury_of_one c.args.k c.args.d) (c.requires.graded)

pub returns-in_err-test : goal.returns-in_err-test
unfolding admit_outcome_by counted_by jury_of_one refused_for
returns-in_err-test c =
    let a = c.args in
    let p = exit c.from_residual.result c.from_residual.ensures in
    rw (p.1, p.2) (outcome_refused _ _ _ (admit_first_lem a.k a.d (Some a.facts) a.juror a.ballot.now
    ∙ admit_ballot _ _ _ _ _ _ (T_true _ c.requires.graded) refl
    (juror_absent (good_juror a.juror) a.facts.present
    (sym c.is_juror.ensures ∙ c.if-not-is_juror.false) c.if-facts.false)
    (sym c.in_err-test.ensures)))

pub returns-then-facts-2 : goal.returns-then-facts-2
unfolding admit_outcome_by counted_by jury_of_one refused_for reason_of
returns-then-facts-2 c = let a = c.args in
    outcome_refused _ _ _ (admit_first_lem a.k a.d (Some a.facts) a.juror a.ballot.now
    ∙ admit_15 _ _ _ _ _ (T_true _ c.requires.graded) refl
    (juror_absent (good_juror a.juror) a.facts.present
    (sym c.is_juror.ensures ∙ c.if-not-is_juror.false) c.if-facts.false)
    (sym c.in_ok-test.ensures) (ap not c.if-facts-2.true))

pub returns : goal.returns
unfolding admit_outcome_by counted_by jury_of_one refused_for
returns c = let a = c.args in
    outcome_accepted _ _ (admit_first_lem a.k a.d (Some a.facts) a.juror a.ballot.now
    ∙ admit_none _ _ _ _ _ (T_true _ c.requires.graded) refl
    (juror_absent (good_juror a.juror) a.facts.present
    (sym c.is_juror.ensures ∙ c.if-not-is_juror.false) c.if-facts.false)
    (sym c.in_ok-test.ensures) (ap not c.if-facts-2.false))
