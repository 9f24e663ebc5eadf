-- What a call that tells one number tells.
-- Assumes nothing.
use Rattle.std.proofs.Common.{◌≡◌, refl, [], ◌∷◌, ℕ}
use Rattle.std.specs.Prelude.{Result, Ok, Err}
use Rattle.jury.specs.declared.reason.Refusal.{Refusal}
use Rattle.jury.specs.Reason.{reason_of}
use Rattle.urn.specs.Facts.{counted_by}
use Rattle.c_answers.specs.Numbers.{answer_numbers, one_told, one_numbers, mapped, result_numbers}

pub one_as : (o : Result ℕ Refusal) → result_numbers reason_of 1 (mapped (λ (n : ℕ). n ∷ []) o) ≡ one_numbers (counted_by o)
unfolding result_numbers answer_numbers one_told counted_by
one_as (Ok n) = refl
one_as (Err q) = refl
