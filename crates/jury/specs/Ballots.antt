-- Ballots, and the tests that they have to pass.
use Rattle.std.specs.Prelude.{cond, List, [], ◌∷◌, ℕ, zero, suc, ◌*◌, eqb, length, take, drop, Some, None}
use Rattle.std.specs.Prelude as prelude
use Rattle.std.proofs.Math.Option.{Option}
use Rattle.gates.specs.Test.{first_above_one}
use Rattle.jury.specs.declared.shape.Shape.{Shape}
use Rattle.jury.specs.Shape.{is_ranking, ballot_bytes}
use Rattle.jury.specs.Reason.{Reason, unless, found_at}
use Rattle.jury.specs.Rankings.{first_not_asymmetric, first_not_weak_order}

-- How many of these bytes are 1.
unfoldable pub ones : List ℕ → ℕ
ones [] = 0
ones (x ∷ xs) = cond (eqb x 1) (suc (ones xs)) (ones xs)

-- `rows_of d rows xs`: the first `rows` rows of xs, each of d bytes. There are no gaps between rows, nor between
-- ballots.
unfoldable pub rows_of : ℕ → ℕ → List ℕ → List (List ℕ)
rows_of d zero xs = []
rows_of d (suc rows) xs = take d xs ∷ rows_of d rows (drop d xs)

-- The ballots of a graded jury's bytes.
abbrev pub ballots_in : Shape → List ℕ → List (List ℕ)
ballots_in s xs = rows_of (s.candidates * s.grades) s.ballots xs

-- The place of the first row that has no 1 or several. The first of these rows has place i.
unfoldable pub first_bad_row : ℕ → List (List ℕ) → prelude.Option ℕ
first_bad_row i [] = None
first_bad_row i (row ∷ rows) = cond (eqb (ones row) 1) (first_bad_row (suc i) rows) (Some i)

-- The reasons of graded ballots: only 6.
unfoldable pub graded_reasons : Shape → List ℕ → List (Option Reason)
graded_reasons s xs = found_at 6 (first_bad_row 0 (rows_of s.grades (s.ballots * s.candidates) xs)) ∷ []

-- The reasons of rankings: 11 over all ballots, then 12.
unfoldable pub ranked_reasons : Shape → List ℕ → List (Option Reason)
ranked_reasons s xs =
    found_at 11 (first_not_asymmetric s.candidates s.ballots xs)
    ∷ found_at 12 (first_not_weak_order s.candidates s.ballots xs) ∷ []

-- The reasons of the shape's kind of ballots. The numbers are those of both kinds: 6 for grades, 11 and 12 for
-- rankings.
unfoldable pub ballot_kind_reasons : Shape → List ℕ → List (Option Reason)
ballot_kind_reasons s xs = cond (is_ranking s) (ranked_reasons s xs) (graded_reasons s xs)

abbrev pub ballot_kind_reason_numbers : List ℕ
ballot_kind_reason_numbers = 6 ∷ 11 ∷ 12 ∷ []

-- The reasons of ballots, in the order of their tests: 4, then 5 over all bytes, then those of the shape's kind.
unfoldable pub ballot_reasons : Shape → List ℕ → List (Option Reason)
ballot_reasons s xs =
    unless (eqb (length xs) (ballot_bytes s)) 4 ∷ found_at 5 (first_above_one 0 xs) ∷ ballot_kind_reasons s xs

abbrev pub ballot_reason_numbers : List ℕ
ballot_reason_numbers = 4 ∷ 5 ∷ ballot_kind_reason_numbers
