-- What the rehearsal program answers for its input.
use Rattle.std.proofs.Math.Option.{Option}
use Rattle.std.specs.Prelude.{List, ◌++◌, ℕ, get_or, take, drop, Result, Ok, Err}
use Rattle.jury.specs.declared.shape.Shape.{Shape}
use Rattle.jury.specs.Reason.{Reason, reason_of, first_of}
use Rattle.jury.specs.Ballots.{ballot_reasons}
use Rattle.tally.specs.Rule.{closing_for}
use Rattle.tally.specs.Answer.{Outcome, refused, accepted, outcome}
use Rattle.tally.specs.Write.{write_reasons}
use Rattle.jury.specs.declared.reason.Refusal.{Refusal}
use Rattle.rehearsal.specs.declared.rehearse.Winners.{Winners}

-- The shape is in the first three bytes. A missing byte is 0.
unfoldable pub shape_of_input : List ℕ → Shape
shape_of_input input = record { candidates = get_or input 0 0; grades = get_or input 1 0; ballots = get_or input 2 0 }

-- The ballots are the other bytes.
unfoldable pub ballots_of_input : List ℕ → List ℕ
ballots_of_input input = drop 3 input

-- The list is written, then run, so the reasons of writing come first. The own list passes its test, and tape, wire
-- table and board are cut to their lengths, so the run is refused only because of the ballots.
unfoldable pub rehearsal_reasons : List ℕ → List ℕ → List (Option Reason)
rehearsal_reasons input table =
    write_reasons (shape_of_input input) table ++ ballot_reasons (shape_of_input input) (ballots_of_input input)

-- What the program prints for an accepted jury: its shape and its closing bytes.
pub record Printed : Type 0 where
  pub jury : Shape
  pub winners : List ℕ

-- What is printed for accepted ballots. The closing bytes are those of the rule of the shape's kind.
unfoldable pub printed_of : Shape → List ℕ → Printed
printed_of s ballots = record { jury = s; winners = closing_for s ballots }

-- What the program answers for an input, with a gate table of this length.
unfoldable pub rehearsal_outcome : List ℕ → List ℕ → Outcome Printed
rehearsal_outcome input table =
    outcome (first_of (rehearsal_reasons input table)) (printed_of (shape_of_input input) (ballots_of_input input))

-- What each case of the program's answer means: the k closing bytes are on the board, from place `first` on.
unfoldable pub outcome_on : List ℕ → Result Winners Refusal → Outcome Printed
outcome_on board (Ok w) =
    accepted (record { jury = w.shape; winners = take w.shape.candidates (drop w.first board) })
outcome_on board (Err r) = refused (reason_of r)
