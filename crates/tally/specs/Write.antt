-- The entry point [write].
use Rattle.std.specs.Prelude.{◌≡◌, List, [], ◌∷◌, ℕ, ◌*◌, ◌≤◌, T, leb, length}
use Rattle.std.proofs.Math.Option.{Option}
use Rattle.gates.specs.Gate.{numbers_of}
use Rattle.gates.specs.Wires.{wires_of, outputs_of}
use Rattle.jury.specs.declared.shape.Shape.{Shape}
use Rattle.jury.specs.Shape.{within_limits}
use Rattle.jury.specs.Reason.{Reason, unless, first_of}
use Rattle.jury.specs.Accepted.{AcceptedBallots}
use Rattle.tally.specs.Answer.{Outcome, accepted, outcome, Size, size_of, overwritten}
use Rattle.tally.specs.Rule.{closing_for}
use Rattle.tally.specs.OwnList.{own_list, gate_bound}
use Rattle.tally.specs.Test.{test_outcome}

-- The reasons of writing: 1, then 2 if the table has no room for the whole list.
unfoldable pub write_reasons : Shape → List ℕ → List (Option Reason)
write_reasons s table = unless (within_limits s) 1 ∷ unless (leb (4 * length (own_list s)) (length table)) 2 ∷ []

abbrev pub write_reason_numbers : List ℕ
write_reason_numbers = 1 ∷ 2 ∷ []

-- The answer of a write: the first reason, or G and C of the own list.
unfoldable pub write_outcome : Shape → List ℕ → Outcome Size
write_outcome s table = outcome (first_of (write_reasons s table)) (size_of (own_list s))

-- The table after a write: the list's numbers at the start and the old ones after them, or no change on a refusal.
unfoldable pub write_result : Shape → List ℕ → List ℕ
write_result s table = overwritten (first_of (write_reasons s table)) (numbers_of (own_list s)) table

-- What holds for the own list of a shape within its limits.
pub record OwnListHolds (s : Shape) : Type 0 where
  -- the test accepts the list for that shape, with its own G and C
  pub passes : test_outcome s (numbers_of (own_list s)) ≡ accepted (size_of (own_list s))
  -- G is within the bound: that of [bound] and [judgment-bound], or that of [ranking-bound]
  pub bounded : length (own_list s) ≤ gate_bound s
  -- for all accepted ballots, the closing bytes of the list are the rule's
  pub closing : (ballots : List ℕ) → AcceptedBallots s ballots
      → outputs_of s.candidates (wires_of ballots (own_list s)) ≡ closing_for s ballots

-- If the shape is within its limits, this holds for its own list.
abbrev pub HoldsWithin : Shape → Type 0
HoldsWithin s = T (within_limits s) → OwnListHolds s

-- What the entry point promises about its answer, about the table before and after, and about the own list.
pub record Writes (s : Shape) (before : List ℕ) (answer : Outcome Size) (after : List ℕ) : Type 0 where
  pub answers : answer ≡ write_outcome s before
  pub leaves : after ≡ write_result s before
  pub own_list : HoldsWithin s
