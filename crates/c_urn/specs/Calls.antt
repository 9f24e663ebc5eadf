-- What each exported call leaves, given its numbers, the lent tables, and the answer array.
use Rattle.std.specs.Prelude.{List, [], ◌∷◌, ℕ}
use Rattle.jury.specs.declared.shape.Shape.{Shape}
use Rattle.urn.specs.Facts.{UrnResult}
use Rattle.urn.specs.Empty.{emptying}
use Rattle.urn.specs.Admit.{admit_outcome, admission}
use Rattle.urn.specs.Withdraw.{withdraw_outcome, withdrawal}
use Rattle.urn_run.specs.Run.{urn_run_result}
use Rattle.c_answers.specs.Numbers.{one_answer, one_numbers, CallResult, call_result, board_call}

-- What a call that may change its urn leaves.
abbrev pub urn_call : (r : UrnResult) (urn answer : List ℕ) → CallResult
urn_call r urn answer = call_result one_answer (one_numbers r.answer) answer (urn ∷ []) (r.urn ∷ [])

abbrev pub empty_call : (k d : ℕ) (urn answer : List ℕ) → CallResult
empty_call k d urn answer = urn_call (emptying k d urn) urn answer

abbrev pub admit_call : (k d : ℕ) (urn : List ℕ) (juror : ℕ) (ballot answer : List ℕ) → CallResult
admit_call k d urn juror ballot answer = urn_call (admission k d urn juror ballot) urn answer

abbrev pub withdraw_call : (k d : ℕ) (urn : List ℕ) (juror : ℕ) (answer : List ℕ) → CallResult
withdraw_call k d urn juror answer = urn_call (withdrawal k d urn juror) urn answer

-- A preview can write only to the answer array.
abbrev pub preview_admit_call : (k d : ℕ) (urn : List ℕ) (juror : ℕ) (ballot answer : List ℕ) → CallResult
preview_admit_call k d urn juror ballot answer =
    call_result one_answer (one_numbers (admit_outcome k d urn juror ballot)) answer [] []

abbrev pub preview_withdraw_call : (k d : ℕ) (urn : List ℕ) (juror : ℕ) (answer : List ℕ) → CallResult
preview_withdraw_call k d urn juror answer =
    call_result one_answer (one_numbers (withdraw_outcome k d urn juror)) answer [] []

abbrev pub run_urn_call : (s : Shape) (table urn tape wires board answer : List ℕ) → CallResult
run_urn_call s table urn tape wires board answer =
    board_call (urn_run_result s table urn tape wires board) wires board answer
