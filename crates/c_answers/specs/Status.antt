-- What a returned status means: 0 an accepted call, 255 an answer array that is too short, any other number a reason.
use Rattle.std.specs.Prelude.{◌≡◌, ◌↔◌, Bool, true, false, List, ℕ, ◌<◌, ◌≤◌, T, length}
use Rattle.std.proofs.Math.Option.{Option}
use Rattle.jury.specs.Reason.{Reason}
use Rattle.tally.specs.Answer.{Outcome, refused, accepted, outcome, has_number_in, Size}
use Rattle.tally.specs.Measure.{Measures}
use Rattle.c_answers.specs.Numbers.{one_answer, size_answer, three_answer, short_answer}
use Rattle.c_answers.specs.Numbers.{answer_numbers, one_told, size_told, measure_told, status}

-- Whether a call is accepted.
unfoldable pub is_accepted : {Values : Type 0} → Outcome Values → Bool
is_accepted (refused r) = false
is_accepted (accepted values) = true

-- The status of a call with an answer of this length: 255 exactly if the answer array is too short; else 0 exactly if
-- the call is accepted; else the number of its reason, which is one of `reasonNumbers`.
pub record StatusReads {Values : Type 0} (reason_numbers : List ℕ) (needed : ℕ) (o : Outcome Values)
    (told answer : List ℕ) : Type 0 where
  pub short : (status needed (answer_numbers o told) answer ≡ short_answer) ↔ (length answer < needed)
  pub zero_accepted : needed ≤ length answer → (status needed (answer_numbers o told) answer ≡ 0) ↔ T (is_accepted o)
  pub reason : needed ≤ length answer → (r : Reason) → o ≡ refused r
      → (status needed (answer_numbers o told) answer ≡ r.number) × T (has_number_in reason_numbers r)

-- For each kind of answer: the numbers of the call's reasons, the answer array, and the outcome of the call.
abbrev pub OneStatus : (reason_numbers answer : List ℕ) → Outcome ℕ → Type 0
OneStatus reason_numbers answer o = StatusReads reason_numbers one_answer o (one_told o) answer

abbrev pub SizeStatus : (reason_numbers answer : List ℕ) → Outcome Size → Type 0
SizeStatus reason_numbers answer o = StatusReads reason_numbers size_answer o (size_told o) answer

abbrev pub MeasureStatus : (reason_numbers answer : List ℕ) → Outcome Measures → Type 0
MeasureStatus reason_numbers answer o = StatusReads reason_numbers three_answer o (measure_told o) answer

-- The same for a call that gives its reason and what it tells separately.
abbrev pub ToldStatus : (reason_numbers : List ℕ) (needed : ℕ) (answer : List ℕ) → Option Reason → (told : List ℕ)
    → Type 0
ToldStatus reason_numbers needed answer reason told =
    StatusReads reason_numbers needed (outcome reason told) told answer
