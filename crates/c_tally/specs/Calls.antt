-- What each exported call leaves, given the shape, what is lent, and the answer array.
use Rattle.std.specs.Prelude.{◌≡◌, List, [], ◌∷◌, ℕ}
use Rattle.jury.specs.declared.shape.Shape.{Shape}
use Rattle.tally.specs.Count.{count_reason, plain_closing}
use Rattle.tally.specs.Measure.{measure_outcome}
use Rattle.tally.specs.Run.{run_result}
use Rattle.tally.specs.Test.{test_outcome}
use Rattle.tally.specs.Write.{write_outcome, write_result, HoldsWithin}
use Rattle.c_answers.specs.Numbers.{size_answer, three_answer, count_answer, size_numbers, measure_numbers, told_numbers}
use Rattle.c_answers.specs.Numbers.{CallResult, call_result, board_call}

abbrev pub measure_call : (s : Shape) (answer : List ℕ) → CallResult
measure_call s answer = call_result three_answer (measure_numbers (measure_outcome s)) answer [] []

abbrev pub write_call : (s : Shape) (table answer : List ℕ) → CallResult
write_call s table answer =
    call_result size_answer (size_numbers (write_outcome s table)) answer (table ∷ []) (write_result s table ∷ [])

-- Writing also promises what holds for the own list of any shape within the limits.
pub record WriteLeaves (s : Shape) (table answer : List ℕ) (left : CallResult) : Type 0 where
  pub leaves : left ≡ write_call s table answer
  pub holds : HoldsWithin s

abbrev pub test_call : (s : Shape) (table answer : List ℕ) → CallResult
test_call s table answer = call_result size_answer (size_numbers (test_outcome s table)) answer [] []

abbrev pub run_call : (s : Shape) (table ballots tape wires board answer : List ℕ) → CallResult
run_call s table ballots tape wires board answer =
    board_call (run_result s table ballots tape wires board) wires board answer

abbrev pub count_call : (s : Shape) (ballots answer : List ℕ) → CallResult
count_call s ballots answer =
    call_result count_answer (told_numbers (count_reason s ballots) (plain_closing s ballots)) answer [] []
