-- What each exported call leaves, given its arguments, what is lent, and the answer array.
use Rattle.std.specs.Prelude.{List, [], ◌∷◌, ℕ}
use Rattle.jury.specs.declared.shape.Shape.{Shape}
use Rattle.trustees.specs.Call.{Call}
use Rattle.trustees.specs.Result.{trustees_result}
use Rattle.trustee_alone.specs.Start.{start_outcome, started_wires, started_published}
use Rattle.trustee_alone.specs.Rounds.{round_outcome, rounded_wires, rounded_published}
use Rattle.trustee_alone.specs.Finish.{finish_outcome, finished_wires}
use Rattle.c_answers.specs.Numbers.{size_answer, three_answer, tally_answer, size_numbers, CallResult, call_result}
use Rattle.c_levels.specs.Numbers.{depth_numbers}
use Rattle.c_trustees.specs.Numbers.{tally_numbers}

-- The tally by all trustees together.
abbrev pub trustees_call : Call → (answer : List ℕ) → CallResult
trustees_call c answer =
    let r = trustees_result c in
    call_result tally_answer (tally_numbers r.answer r.closing) answer (c.lent.wire_parts ∷ c.lent.published ∷ [])
    (r.wire_parts ∷ r.published ∷ [])

-- Trustee p of t: its start, its round r, and its finish.
abbrev pub start_call : (s : Shape) (table : List ℕ) (t p : ℕ) (shares triples wires published answer : List ℕ)
    → CallResult
start_call s table t p shares triples wires published answer =
    call_result size_answer (size_numbers (start_outcome s table t p shares triples wires published)) answer
    (wires ∷ published ∷ [])
    (started_wires s table t p shares triples wires published
    ∷ started_published s table t p shares triples wires published
    ∷ [])

abbrev pub round_call : (s : Shape) (table : List ℕ) (t p r : ℕ) (levels triples heard wires published answer : List ℕ)
    → CallResult
round_call s table t p r levels triples heard wires published answer =
    call_result three_answer (depth_numbers (round_outcome s table t p r levels triples heard wires published)) answer
    (wires ∷ published ∷ [])
    (rounded_wires s table t p r levels triples heard wires published
    ∷ rounded_published s table t p r levels triples heard wires published ∷ [])

abbrev pub finish_call : (s : Shape) (table wires answer : List ℕ) → CallResult
finish_call s table wires answer =
    call_result size_answer (size_numbers (finish_outcome s table wires))
    answer (wires ∷ []) (finished_wires s table wires ∷ [])
