-- The entry point [count].
use Rattle.std.specs.Prelude.{◌≡◌, List, [], ◌∷◌, ℕ, Result, Ok, Err}
use Rattle.std.proofs.Math.Option.{Option, none, some}
use Rattle.jury.specs.declared.shape.Shape.{Shape}
use Rattle.jury.specs.Shape.{within_limits}
use Rattle.jury.specs.declared.reason.Refusal.{Refusal}
use Rattle.jury.specs.Reason.{Reason, reason_of, unless, first_of}
use Rattle.jury.specs.Ballots.{ballot_reasons, ballot_reason_numbers}
use Rattle.jury.specs.ClosingBytes.{eight_bytes}
use Rattle.tally.specs.Answer.{Outcome, outcome}
use Rattle.tally.specs.Rule.{closing_for}

-- The reasons of a count, in the order of their tests: 1, 4, 5, then 6 for grades or 11 and 12 for rankings.
unfoldable pub count_reasons : Shape → List ℕ → List (Option Reason)
count_reasons s xs = unless (within_limits s) 1 ∷ ballot_reasons s xs

abbrev pub count_reason_numbers : List ℕ
count_reason_numbers = 1 ∷ ballot_reason_numbers

-- The first of them that applies.
unfoldable pub count_reason : Shape → List ℕ → Option Reason
count_reason s xs = first_of (count_reasons s xs)

-- The closing bytes of an accepted count; eight zeros on a refusal.
unfoldable pub closing_after : Option Reason → List ℕ → List ℕ
closing_after none bytes = eight_bytes bytes
closing_after (some r) bytes = eight_bytes []

-- The eight bytes that a count answers.
unfoldable pub plain_closing : Shape → List ℕ → List ℕ
plain_closing s xs = closing_after (count_reason s xs) (closing_for s xs)

-- The program's answer as a reason and eight bytes. A refusal has no bytes of its own: they are eight zeros.
unfoldable pub count_refused : Result (List ℕ) Refusal → Option Reason
count_refused (Ok bytes) = none
count_refused (Err r) = some (reason_of r)

unfoldable pub count_bytes : Result (List ℕ) Refusal → List ℕ
count_bytes (Ok bytes) = bytes
count_bytes (Err r) = eight_bytes []

-- What the entry point promises: `reason` and `bytes` are its answer.
pub record Counts (s : Shape) (xs : List ℕ) (reason : Option Reason) (bytes : List ℕ) : Type 0 where
  pub verdict : reason ≡ count_reason s xs
  pub closing : bytes ≡ plain_closing s xs

-- The same answer as an outcome: the reason, or the eight bytes.
unfoldable pub count_outcome : Shape → List ℕ → Outcome (List ℕ)
count_outcome s xs = outcome (count_reason s xs) (plain_closing s xs)
