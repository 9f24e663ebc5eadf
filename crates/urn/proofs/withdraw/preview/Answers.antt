-- `urn::withdraw::preview` meets its contract: it answers reason 1, or what the facts about the urn decide.
-- Assumes nothing.
use mathlib.Core.Path.{◌∙◌, sym, ap}
use Rattle.jury.specs.Reason.{reason_of}
use Rattle.urn.specs.Facts.{facts_of, sound_in, counted_by}
use Rattle.urn.specs.Withdraw.{withdraw_outcome_by}
use Rattle.tally.proofs.Exits.{exit}
use Rattle.urn.proofs.FactLaws.{not_looked}
use Rattle.urn.proofs.Outcomes.{withdraw_first_lem, withdraw_1, withdraw_13, outcome_refused}
use Rattle.urn.proofs.withdraw.preview.Goals as goal

pub returns-then-not-is_graded : goal.returns-then-not-is_graded
unfolding withdraw_outcome_by counted_by reason_of
returns-then-not-is_graded c = let a = c.args in
    outcome_refused _ _ _ (withdraw_first_lem a.k a.d (facts_of a.k a.d a.urn.now a.juror) a.juror
    ∙ withdraw_1 _ _ _ (sym c.is_graded.ensures ∙ c.if-not-is_graded.true))

pub returns-in_err-looked : goal.returns-in_err-looked
unfolding withdraw_outcome_by counted_by reason_of
returns-in_err-looked c =
    let a = c.args in
    let p = exit c.from_residual.result c.from_residual.ensures in
    let n = not_looked _ _ _ c.in_err-looked.ensures.value in
    let unsound = rw n.1 at c.check.ensures in
    rw (p.1, p.2, n.0) (outcome_refused _ _ _ (withdraw_first_lem a.k a.d (facts_of a.k a.d a.urn.now a.juror) a.juror
    ∙ withdraw_13 _ _ _ (sym c.is_graded.ensures ∙ c.if-not-is_graded.false) (ap sound_in unsound)))
