-- What the dispatcher tells, as numbers.
-- Assumes nothing.
use Rattle.std.proofs.Common.{◌≡◌, refl, List, ℕ}
use Rattle.std.specs.Prelude.{Result, Ok, Err}
use Rattle.tally.specs.Answer.{outcome}
use Rattle.dispatch.specs.declared.refusal.JuryRefusal.{JuryRefusal}
use Rattle.dispatch.specs.Reasons.{jury_reason_of, verdict_reason, rounds_in}
use Rattle.c_answers.specs.Numbers.{answer_numbers, told_numbers, result_numbers}

pub rounds_as : (o : Result (List ℕ) JuryRefusal)
    → result_numbers jury_reason_of 8 o ≡ told_numbers (verdict_reason o) (rounds_in o)
unfolding result_numbers answer_numbers outcome verdict_reason rounds_in
rounds_as (Ok rounds) = refl
rounds_as (Err r) = refl
