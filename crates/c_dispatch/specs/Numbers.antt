-- The headers of up to eight juries, as a C program lends them, and the numbers of the answer.
use Rattle.std.specs.Prelude.{List, [], ◌∷◌, ℕ, ◌+◌, ◌*◌, get_or}
use Rattle.dispatch_rounds.specs.declared.header.JuryHeader.{JuryHeader}
use Rattle.dispatch_rounds.specs.Rounds.{most_juries}
use Rattle.dispatch.specs.Call.{Call}
use Rattle.dispatch.specs.Result.{DispatchResult, dispatch_result}
use Rattle.c_answers.specs.Numbers.{told_numbers, CallResult, call_result}

-- Four numbers for each jury: k, d, n and G. A number past the end of the array is 0; a header with k = 0 is refused
-- for reason 1.
unfoldable pub header_at : List ℕ → ℕ → JuryHeader
header_at numbers j =
    record {
      candidates = get_or numbers (4 * j) 0;
      grades = get_or numbers (4 * j + 1) 0;
      ballots = get_or numbers
          (4 * j + 2) 0;
      gates = get_or numbers (4 * j + 3) 0;
    }

unfoldable pub headers_in : List ℕ → List JuryHeader
headers_in numbers =
    header_at numbers 0 ∷ header_at numbers 1 ∷ header_at numbers 2 ∷ header_at numbers 3
    ∷ header_at numbers 4 ∷ header_at numbers 5 ∷ header_at numbers 6 ∷ header_at numbers 7 ∷ []

-- The reason, 0 if accepted; the place; then the juries' eight numbers of rounds, 0 on a refusal.
abbrev pub dispatch_numbers : DispatchResult → List ℕ
dispatch_numbers d = told_numbers d.reason d.rounds

-- How long an answer is: reason, place, and `most_juries` numbers of rounds.
abbrev pub dispatch_answer : ℕ
dispatch_answer = 2 + most_juries

-- What a call from C leaves: the entry point's result, if the answer array has room for it.
abbrev pub dispatch_call : Call → (answer : List ℕ) → CallResult
dispatch_call c answer =
    let r = dispatch_result c in
    call_result dispatch_answer (dispatch_numbers r) answer (c.tables.wires ∷ c.tables.boards ∷ [])
    (r.wires ∷ r.boards ∷ [])
