-- What each exported call leaves, given the shape, what is lent, and the answer array.
use Rattle.std.specs.Prelude.{List, [], ◌∷◌, ℕ}
use Rattle.jury.specs.declared.shape.Shape.{Shape}
use Rattle.text.specs.Answer.{TextResult}
use Rattle.text.specs.Write.{write_text_result}
use Rattle.text.specs.Read.{read_text_result}
use Rattle.c_answers.specs.Numbers.{one_answer, one_numbers, CallResult, call_result}

-- What either call leaves, from what its entry point leaves.
abbrev pub text_call : (r : TextResult) (output answer : List ℕ) → CallResult
text_call r output answer = call_result one_answer (one_numbers r.answer) answer (output ∷ []) (r.output ∷ [])

abbrev pub write_text_call : (s : Shape) (table output answer : List ℕ) → CallResult
write_text_call s table output answer = text_call (write_text_result s table output) output answer

abbrev pub read_text_call : (s : Shape) (text output answer : List ℕ) → CallResult
read_text_call s text output answer = text_call (read_text_result s text output) output answer
