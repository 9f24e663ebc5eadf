-- `urn::withdraw::decide` meets its contract: each branch answers what the definition gives for the outcomes of the
-- tests.
-- Assumes nothing.
use mathlib.Core.Path.{◌∙◌, refl, sym, ap}
use borrow.Author.Tests.{not-true, not-false}
use Rattle.std.specs.Prelude.{Some}
use Rattle.jury.specs.Reason.{reason_of}
use Rattle.basics.proofs.Flags.{T_true, and_both}
use Rattle.tally.specs.Answer.{accepted}
use Rattle.urn_chains.specs.Sound.{good_juror}
use Rattle.urn.specs.Facts.{counted_by}
use Rattle.urn.specs.Withdraw.{withdraw_outcome_by}
use Rattle.urn.proofs.Outcomes.{withdraw_first_lem, withdraw_14, withdraw_none, outcome_refused, outcome_accepted, juror_gone}
use Rattle.basics.proofs.Flags.{and_first_fails}
use Rattle.urn.proofs.withdraw.decide.Goals as goal

pub returns-then-not-facts : goal.returns-then-not-facts
unfolding withdraw_outcome_by counted_by reason_of
returns-then-not-facts c = let a = c.args in
    outcome_refused _ _ _ (withdraw_first_lem a.k a.d (Some a.facts) a.juror
    ∙ withdraw_14 _ _ _ (T_true _ c.requires) refl
    (juror_gone (good_juror a.juror) a.facts.present
    (sym c.is_juror.ensures ∙ c.if-not-is_juror.false) (not-true _ c.if-not-facts.true)))

pub returns-then-not-is_juror : goal.returns-then-not-is_juror
unfolding withdraw_outcome_by counted_by reason_of
returns-then-not-is_juror c = let a = c.args in
    outcome_refused _ _ _ (withdraw_first_lem a.k a.d (Some a.facts) a.juror
    ∙ withdraw_14 _ _ _ (T_true _ c.requires) refl
    (and_first_fails (good_juror a.juror) a.facts.present
    (sym c.is_juror.ensures ∙ c.if-not-is_juror.true)))

pub returns : goal.returns
unfolding withdraw_outcome_by counted_by
returns c = let a = c.args in
    ap accepted c.saturating_sub.ensures
    ∙ outcome_accepted _ _ (withdraw_first_lem a.k a.d (Some a.facts) a.juror
    ∙ withdraw_none _ _ _ (T_true _ c.requires) refl
    (and_both (good_juror a.juror) a.facts.present
    (sym c.is_juror.ensures ∙ c.if-not-is_juror.false) (not-false _ c.if-not-facts.false)))
