-- What the tally by trustees tells, as numbers.
-- Assumes nothing.
use Rattle.std.proofs.Common.{◌≡◌, refl, ◌∷◌}
use Rattle.std.specs.Prelude.{Result, Ok, Err}
use Rattle.jury.specs.Reason.{reason_of}
use Rattle.jury.specs.ClosingBytes.{eight_bytes}
use Rattle.jury.specs.declared.reason.Refusal.{Refusal}
use Rattle.trustees.specs.declared.run.Tallied.{Tallied}
use Rattle.trustees.specs.Result.{tallied_outcome, tallied_closing}
use Rattle.c_answers.specs.Numbers.{answer_numbers, size_told, mapped, result_numbers}
use Rattle.c_trustees.specs.Numbers.{tally_numbers}

pub tally_as : (o : Result Tallied Refusal)
    → result_numbers reason_of 10 (mapped (λ (x : Tallied). x.size.gates ∷ x.size.conditional ∷ x.closing) o)
    ≡ tally_numbers (tallied_outcome o) (tallied_closing o)
unfolding result_numbers answer_numbers size_told tallied_outcome tallied_closing eight_bytes
tally_as (Ok x) = refl
tally_as (Err q) = refl
