-- The answer is the definition's for what the search found.
use Rattle.std.proofs.Common.{◌≡◌, ◌∙◌, sym, ap, [], ◌∷◌, ℕ, arith, Option}
use Rattle.jury.specs.Reason.{reason_of, refused_for, found_at, first_of}
use Rattle.jury.proofs.Limits.{within_T, rows_bound}
use Rattle.batch_lanes.specs.Lane.{lane_of}
use Rattle.batch.specs.Ballots.{first_jury, word_graded_reasons}
use Rattle.batch.proofs.JuryLaws.{first_by_bits}
use Rattle.batch.proofs.Reasons.{bad_row}
use Rattle.batch.proofs.ballots.test_grades.Goals as goal
use Rattle.batch.proofs.ballots.test_grades.Goals.{After-first_jury}

pub overflow_mul-shape : goal.overflow_mul-shape
overflow_mul-shape c = omega (arith, rows_bound c.args.shape (within_T c.args.shape c.requires.within))

-- what the search for the first jury answers
found : (c : After-first_jury) → c.first_jury.result ≡ first_jury (bad_row c.args.shape) c.args.ballots.now
unfolding first_jury
found c =
    let b = c.bad_rows-faults in
    c.first_jury.ensures ∙ first_by_bits b.result (λ j. bad_row c.args.shape (lane_of j c.args.ballots.now)) b.ensures

pub returns-in-Some : goal.returns-in-Some
unfolding refused_for word_graded_reasons reason_of found_at first_of
returns-in-Some c =
    sym (ap (λ (p : Option ℕ). first_of (found_at 6 p ∷ [])) (sym (found (goal.at.returns-in-Some c).After-first_jury) ∙ c.in-Some.is))

pub returns-in-None : goal.returns-in-None
unfolding refused_for word_graded_reasons found_at first_of
returns-in-None c =
    sym (ap (λ (p : Option ℕ). first_of (found_at 6 p ∷ [])) (sym (found (goal.at.returns-in-None c).After-first_jury) ∙ c.in-None.is))
