-- The reasons of a run as one list, for grades and for rankings. `run_reasons` puts the same lists together from those
-- of the test, of the ballots and of the buffers, which other calls share.
use Rattle.std.specs.Prelude.{◌≡◌, true, false, List, [], ◌∷◌, ℕ, ◌+◌, ◌*◌, eqb, length}
use Rattle.std.proofs.Math.Option.{Option}
use Rattle.gates.specs.Gate.{gates_of}
use Rattle.gates.specs.Board.{conditional_count}
use Rattle.gates.specs.Test.{tested, first_above_one}
use Rattle.jury.specs.declared.shape.Shape.{Shape}
use Rattle.jury.specs.Shape.{is_ranking, within_limits, ballot_bytes}
use Rattle.jury.specs.Reason.{Reason, unless, found_at, list_reason}
use Rattle.jury.specs.Ballots.{rows_of, first_bad_row}
use Rattle.jury.specs.Rankings.{first_not_asymmetric, first_not_weak_order}
use Rattle.tally.specs.Run.{run_reasons}

-- Grades: 1; 2 and 3; 4; 5; 6; 7; 8; 9; 10.
unfoldable pub graded_run_reasons : Shape → List ℕ → List ℕ → List ℕ → List ℕ → List ℕ → List (Option Reason)
graded_run_reasons s table ballots tape wires board =
    unless (within_limits s) 1
    ∷ list_reason (tested (ballot_bytes s) s.candidates table)
    ∷ unless (eqb (length ballots) (ballot_bytes s)) 4
    ∷ found_at 5 (first_above_one 0 ballots)
    ∷ found_at 6 (first_bad_row 0 (rows_of s.grades (s.ballots * s.candidates) ballots))
    ∷ unless (eqb (length tape) (conditional_count (gates_of table))) 7
    ∷ found_at 8 (first_above_one 0 tape)
    ∷ unless (eqb (length wires) (ballot_bytes s + length (gates_of table))) 9
    ∷ unless (eqb (length board) (conditional_count (gates_of table) + s.candidates)) 10
    ∷ []

-- Rankings: 11 and 12 in place of 6.
unfoldable pub ranked_run_reasons : Shape → List ℕ → List ℕ → List ℕ → List ℕ → List ℕ → List (Option Reason)
ranked_run_reasons s table ballots tape wires board =
    unless (within_limits s) 1
    ∷ list_reason (tested (ballot_bytes s) s.candidates table)
    ∷ unless (eqb (length ballots) (ballot_bytes s)) 4
    ∷ found_at 5 (first_above_one 0 ballots)
    ∷ found_at 11 (first_not_asymmetric s.candidates s.ballots ballots)
    ∷ found_at 12 (first_not_weak_order s.candidates s.ballots ballots)
    ∷ unless (eqb (length tape) (conditional_count (gates_of table))) 7
    ∷ found_at 8 (first_above_one 0 tape)
    ∷ unless (eqb (length wires) (ballot_bytes s + length (gates_of table))) 9
    ∷ unless (eqb (length board) (conditional_count (gates_of table) + s.candidates)) 10
    ∷ []

pub record FlatReasons : Type 0 where
  pub graded : (s : Shape) (table ballots tape wires board : List ℕ) → is_ranking s ≡ false
      → run_reasons s table ballots tape wires board ≡ graded_run_reasons s table ballots tape wires board
  pub ranked : (s : Shape) (table ballots tape wires board : List ℕ) → is_ranking s ≡ true
      → run_reasons s table ballots tape wires board ≡ ranked_run_reasons s table ballots tape wires board
