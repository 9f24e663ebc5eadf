-- The numbers that a call leaves in its answer array, and the status that it returns.
use Rattle.std.proofs.Math.Option.{Option}
use Rattle.std.specs.Prelude.{cond, List, [], ◌∷◌, ◌++◌, ℕ, ◌+◌, ltb, length, get_or, drop, replicate, Result, Ok, Err}
use Rattle.jury.specs.declared.shape.Shape.{Shape}
use Rattle.jury.specs.Shape.{most_candidates}
use Rattle.jury.specs.Reason.{Reason}
use Rattle.tally.specs.Answer.{Outcome, refused, accepted, outcome, Size}
use Rattle.tally.specs.Measure.{Measures}
use Rattle.tally.specs.Run.{RunResult}

unfoldable pub shape_of : ℕ → ℕ → ℕ → Shape
shape_of candidates grades ballots = record { candidates = candidates; grades = grades; ballots = ballots }

-- Every answer has the reason, 0 if the call is accepted, and the place. Then comes what the call tells.
unfoldable pub answer_numbers : {Values : Type 0} → Outcome Values → (told : List ℕ) → List ℕ
answer_numbers (refused r) told = r.number ∷ r.place ∷ told
answer_numbers (accepted values) told = 0 ∷ 0 ∷ told

-- An outcome, with another value if it is accepted.
abbrev pub mapped : {Told Numbers Refusal : Type 0} → (Told → Numbers) → Result Told Refusal → Result Numbers Refusal
mapped f (Ok told) = Ok (f told)
mapped f (Err r) = Err r

-- The answer of a call whose outcome is `Ok` with the numbers that it tells, or `Err` with a reason. A refused call
-- tells n zeros.
unfoldable pub result_numbers : {Refusal : Type 0} → (Refusal → Reason) → (n : ℕ) → Result (List ℕ) Refusal → List ℕ
result_numbers reason_of n (Ok told) = 0 ∷ 0 ∷ told
result_numbers reason_of n (Err r) = (reason_of r).number ∷ (reason_of r).place ∷ replicate n 0

-- Some calls tell one number, such as the length of a text or the ballots in an urn. A refused call tells zeros.
unfoldable pub one_told : Outcome ℕ → List ℕ
one_told (refused r) = 0 ∷ []
one_told (accepted told) = told ∷ []

-- Write, test and run tell G and C.
unfoldable pub size_told : Outcome Size → List ℕ
size_told (refused r) = 0 ∷ 0 ∷ []
size_told (accepted size) = size.gates ∷ size.conditional ∷ []

-- Measure also tells I.
unfoldable pub measure_told : Outcome Measures → List ℕ
measure_told (refused r) = 0 ∷ 0 ∷ 0 ∷ []
measure_told (accepted m) = m.gates ∷ m.conditional ∷ m.inputs ∷ []

-- The answers with these numbers.
abbrev pub one_numbers : Outcome ℕ → List ℕ
one_numbers o = answer_numbers o (one_told o)

abbrev pub size_numbers : Outcome Size → List ℕ
size_numbers o = answer_numbers o (size_told o)

abbrev pub measure_numbers : Outcome Measures → List ℕ
measure_numbers o = answer_numbers o (measure_told o)

-- The whole answer of a count or of the dispatcher. They give their reason and what they tell separately; on a refusal
-- they tell zeros.
abbrev pub told_numbers : Option Reason → (told : List ℕ) → List ℕ
told_numbers reason told = answer_numbers (outcome reason told) told

-- How many numbers an answer has. Reason and place come first; after them one number, or G and C, or G, C and a
-- third, or `most_candidates` closing bytes, or G, C and `most_candidates` closing bytes.
abbrev pub one_answer : ℕ
one_answer = 3

abbrev pub size_answer : ℕ
size_answer = 4

abbrev pub three_answer : ℕ
three_answer = 5

abbrev pub count_answer : ℕ
count_answer = 2 + most_candidates

abbrev pub tally_answer : ℕ
tally_answer = size_answer + most_candidates

-- The first of the numbers: the reason, 0 if the call is accepted.
unfoldable pub status_of : List ℕ → ℕ
status_of numbers = get_or numbers 0 0

-- The status of a call whose answer array is too short. `Status` says that no reason has this number.
abbrev pub short_answer : ℕ
short_answer = 255

-- What a call returns: the reason, 0 if it is accepted, or 255 if the answer array is too short.
unfoldable pub status : ℕ → List ℕ → List ℕ → ℕ
status needed numbers answer = cond (ltb (length answer) needed) short_answer (status_of numbers)

-- The answer array afterwards: the numbers at its start, then the old contents. One that is too short is unchanged.
unfoldable pub answered : ℕ → List ℕ → List ℕ → List ℕ
answered needed numbers answer = cond (ltb (length answer) needed) answer (numbers ++ drop needed answer)

-- What an exported call leaves: what it returns, the answer array, and the other lent tables.
pub record CallResult : Type 0 where
  pub returned : ℕ
  pub answer : List ℕ
  pub lent : List (List ℕ)

-- What a call leaves, given the numbers of its answer, and the lent tables before the call and as the entry point
-- leaves them. If the answer array is too short, nothing changes.
unfoldable pub call_result : (needed : ℕ) (numbers answer : List ℕ) (before after : List (List ℕ)) → CallResult
call_result needed numbers answer before after =
    record {
      returned = status needed numbers answer;
      answer = answered needed numbers answer;
      lent = cond (ltb (length answer) needed) before after;
    }

-- What a call that fills a board leaves, from what its run leaves.
abbrev pub board_call : (r : RunResult) (wires board answer : List ℕ) → CallResult
board_call r wires board answer =
    call_result size_answer (size_numbers r.answer) answer (wires ∷ board ∷ []) (r.wires ∷ r.board ∷ [])
