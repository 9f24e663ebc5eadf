-- What each function of the rehearsal answers, and that the closing bytes lie on the board.
use Rattle.std.specs.Prelude.{◌≡◌, List, ℕ, ◌+◌, ◌≤◌, length, Result, Ok, Err}
use Rattle.jury.specs.declared.shape.Shape.{Shape}
use Rattle.jury.specs.Reason.{first_of}
use Rattle.jury.specs.Ballots.{ballot_reasons}
use Rattle.tally.specs.Answer.{Outcome, outcome}
use Rattle.rehearsal.specs.Rehearsal.{Printed, printed_of, outcome_on}
use Rattle.jury.specs.declared.reason.Refusal.{Refusal}
use Rattle.rehearsal.specs.declared.rehearse.Winners.{Winners}

-- The place on the board after the closing bytes; 0 on a refusal.
unfoldable pub end_on : Result Winners Refusal → ℕ
end_on (Ok w) = w.first + w.shape.candidates
end_on (Err r) = 0

-- r is the expected answer, and its closing bytes lie on the board.
pub record Rehearses (expected : Outcome Printed) (board : List ℕ) (r : Result Winners Refusal) : Type 0 where
  pub answers : outcome_on board r ≡ expected
  pub on_board : end_on r ≤ length board

-- The outcome of the run by itself, after the list was written.
unfoldable pub ballots_outcome : Shape → List ℕ → Outcome Printed
ballots_outcome s ballots = outcome (first_of (ballot_reasons s ballots)) (printed_of s ballots)
