-- The entry point [measure].
use Rattle.std.proofs.Math.Option.{Option}
use Rattle.std.specs.Prelude.{List, [], ◌∷◌, ℕ, length, Result, Ok, Err}
use Rattle.gates.specs.Board.{conditional_count}
use Rattle.jury.specs.declared.shape.Shape.{Shape}
use Rattle.jury.specs.Shape.{within_limits, ballot_bytes}
use Rattle.jury.specs.Reason.{Reason, reason_of, unless, first_of}
use Rattle.tally.specs.Answer.{Outcome, refused, accepted, outcome}
use Rattle.tally.specs.OwnList.{own_list}
use Rattle.jury.specs.declared.reason.Refusal.{Refusal}
use Rattle.tally.specs.declared.measure.Measures as program

-- G, C and I of a shape's own list.
pub record Measures : Type 0 where
  pub gates : ℕ
  pub conditional : ℕ
  pub inputs : ℕ

unfoldable pub measures_of : Shape → Measures
measures_of s =
    record { gates = length (own_list s); conditional = conditional_count (own_list s); inputs = ballot_bytes s }

-- Measuring is refused only for reason 1.
unfoldable pub measure_reasons : Shape → List (Option Reason)
measure_reasons s = unless (within_limits s) 1 ∷ []

abbrev pub measure_reason_numbers : List ℕ
measure_reason_numbers = 1 ∷ []

-- The answer of a measure: the reason, or the numbers.
unfoldable pub measure_outcome : Shape → Outcome Measures
measure_outcome s = outcome (first_of (measure_reasons s)) (measures_of s)

-- What each case of the program's answer means.
unfoldable pub measured_by : Result program.Measures Refusal → Outcome Measures
measured_by (Ok m) = accepted (record { gates = m.gates; conditional = m.conditional; inputs = m.inputs })
measured_by (Err r) = refused (reason_of r)
