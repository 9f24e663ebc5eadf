-- What measure and count tell, as numbers.
-- Assumes nothing.
use Rattle.std.proofs.Common.{◌≡◌, refl, List, [], ◌∷◌, ℕ}
use Rattle.std.specs.Prelude.{Result, Ok, Err}
use Rattle.jury.specs.Reason.{reason_of}
use Rattle.jury.specs.ClosingBytes.{eight_bytes}
use Rattle.jury.specs.declared.reason.Refusal.{Refusal}
use Rattle.tally.specs.declared.measure.Measures.{Measures}
use Rattle.tally.specs.Measure.{measured_by}
use Rattle.tally.specs.Answer.{outcome}
use Rattle.tally.specs.Count.{count_refused, count_bytes}
use Rattle.c_answers.specs.Numbers.{answer_numbers, measure_told, measure_numbers, told_numbers, mapped, result_numbers}

pub measures_as : (o : Result Measures Refusal)
    → result_numbers reason_of 3 (mapped (λ (x : Measures). x.gates ∷ x.conditional ∷ x.inputs ∷ []) o) ≡ measure_numbers (measured_by o)
unfolding result_numbers answer_numbers measure_told measured_by
measures_as (Ok x) = refl
measures_as (Err q) = refl

pub count_as : (o : Result (List ℕ) Refusal)
    → result_numbers reason_of 8 (mapped (λ (closing : List ℕ). closing) o) ≡ told_numbers (count_refused o) (count_bytes o)
unfolding result_numbers answer_numbers outcome count_refused count_bytes eight_bytes
count_as (Ok x) = refl
count_as (Err q) = refl
