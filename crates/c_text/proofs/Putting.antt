-- What a call that tells one number tells.
-- Assumes nothing.
use Rattle.std.proofs.Common.{◌≡◌, refl, [], ◌∷◌, ℕ}
use Rattle.std.specs.Prelude.{Result, Ok, Err}
use Rattle.text.specs.declared.answer.TextRefusal.{TextRefusal}
use Rattle.text.specs.Answer.{length_outcome, text_reason_of}
use Rattle.c_answers.specs.Numbers.{answer_numbers, one_told, one_numbers, mapped, result_numbers}

pub one_as : (o : Result ℕ TextRefusal) → result_numbers text_reason_of 1 (mapped (λ (n : ℕ). n ∷ []) o) ≡ one_numbers (length_outcome o)
unfolding result_numbers answer_numbers one_told length_outcome
one_as (Ok n) = refl
one_as (Err q) = refl
