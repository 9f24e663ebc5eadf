-- Each answer is the definition's for what the searches found.
use Rattle.std.proofs.Common.{◌≡◌, ◌∙◌, sym, ap, [], ◌∷◌, ℕ}
use Rattle.std.specs.Prelude.{None}
use Rattle.std.specs.Prelude as prelude
use mathlib.Core.Option.{Option}
use Rattle.jury.specs.Reason.{Reason, reason_of, refused_for, found_at, first_of}
use Rattle.batch_lanes.specs.Lane.{lane_of}
use Rattle.batch.specs.Ballots.{first_jury, word_ranked_reasons}
use Rattle.batch.proofs.JuryLaws.{first_by_bits}
use Rattle.batch.proofs.Reasons.{clash, not_weak_order}
use Rattle.batch.proofs.ballots.test_rankings.Goals as goal
use Rattle.batch.proofs.ballots.test_rankings.Goals.{After-first_jury, After-first_jury-2}

-- the answer from what the two searches found
both : prelude.Option ℕ → prelude.Option ℕ → Option Reason
both clash not_weak_order = first_of (found_at 11 clash ∷ found_at 12 not_weak_order ∷ [])

-- what the searches for a jury answer
clash_found : (c : After-first_jury) → c.first_jury.result ≡ first_jury (clash c.args.shape) c.args.ballots.now
unfolding first_jury
clash_found c =
    let b = c.not_asymmetric-not_asymmetric in
    c.first_jury.ensures ∙ first_by_bits b.result (λ j. clash c.args.shape (lane_of j c.args.ballots.now)) b.ensures

gap_found : (c : After-first_jury-2) → c.first_jury-2.result ≡ first_jury (not_weak_order c.args.shape) c.args.ballots.now
unfolding first_jury
gap_found c =
    let b = c.not_weak_order-not_weak_order in
    c.first_jury-2.ensures ∙ first_by_bits b.result (λ j. not_weak_order c.args.shape (lane_of j c.args.ballots.now)) b.ensures

pub returns-in-Some : goal.returns-in-Some
unfolding refused_for word_ranked_reasons reason_of found_at first_of both
returns-in-Some c =
    let a = c.args in
    sym (ap (λ (p : prelude.Option ℕ). both p (first_jury (not_weak_order a.shape) a.ballots.now))
    (sym (clash_found (goal.at.returns-in-Some c).After-first_jury) ∙ c.in-Some.is))

pub returns-in-Some-first_jury : goal.returns-in-Some-first_jury
unfolding refused_for word_ranked_reasons reason_of found_at first_of both
returns-in-Some-first_jury c =
    let a = c.args in
    let at = goal.at.returns-in-Some-first_jury c in
    sym (ap (λ (p : prelude.Option ℕ). both p (first_jury (not_weak_order a.shape) a.ballots.now))
    (sym (clash_found at.After-first_jury) ∙ c.in_default.is)
    ∙ ap (both None) (sym (gap_found at.After-first_jury-2) ∙ c.in-Some-first_jury.is))

pub returns-in-None : goal.returns-in-None
unfolding refused_for word_ranked_reasons found_at first_of both
returns-in-None c =
    let a = c.args in
    let at = goal.at.returns-in-None c in
    sym (ap (λ (p : prelude.Option ℕ). both p (first_jury (not_weak_order a.shape) a.ballots.now))
    (sym (clash_found at.After-first_jury) ∙ c.in_default.is)
    ∙ ap (both None) (sym (gap_found at.After-first_jury-2) ∙ c.in-None.is))
