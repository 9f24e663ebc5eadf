-- The tests of the ballots of 64 juries.
use Rattle.std.specs.Prelude.{cond, List, [], ◌∷◌, ℕ, ◌*◌, eqb, length, Some, None}
use Rattle.std.specs.Prelude as prelude
use Rattle.std.proofs.Math.Option.{Option}
use Rattle.jury.specs.declared.shape.Shape.{Shape}
use Rattle.jury.specs.Shape.{is_ranking, ballot_bytes}
use Rattle.jury.specs.Reason.{Reason, unless, found_at}
use Rattle.jury.specs.Ballots.{rows_of, first_bad_row}
use Rattle.jury.specs.Rankings.{first_over, first_not_asymmetric, first_not_weak_order}
use Rattle.batch_lanes.specs.Lane.{lane_count, lane_of}

-- What a search in jury j found: if anything, the jury is the place.
unfoldable pub in_jury : ℕ → prelude.Option ℕ → prelude.Option ℕ
in_jury j (Some place) = Some j
in_jury j None = None

-- The first jury in whose bytes the search finds something.
unfoldable pub first_jury : (List ℕ → prelude.Option ℕ) → List ℕ → prelude.Option ℕ
first_jury search words = first_over lane_count (λ j. in_jury j (search (lane_of j words)))

-- The reason of graded ballots, over all juries: 6.
unfoldable pub word_graded_reasons : Shape → List ℕ → List (Option Reason)
word_graded_reasons s words = found_at 6 (first_jury
    (λ xs. first_bad_row 0 (rows_of s.grades (s.ballots * s.candidates) xs)) words) ∷ []

-- The reasons of rankings: 11 over all juries, then 12.
unfoldable pub word_ranked_reasons : Shape → List ℕ → List (Option Reason)
word_ranked_reasons s words = found_at 11 (first_jury (first_not_asymmetric s.candidates s.ballots) words)
    ∷ found_at 12 (first_jury (first_not_weak_order s.candidates s.ballots) words) ∷ []

-- The reasons of the shape's kind of ballots.
unfoldable pub word_ballot_kind_reasons : Shape → List ℕ → List (Option Reason)
word_ballot_kind_reasons s words = cond (is_ranking s) (word_ranked_reasons s words) (word_graded_reasons s words)

-- The reasons of ballots, in the order of their tests: 4, which counts words, then those of the shape's kind. A bit
-- is never above 1, so 5 never applies (request 2.11).
unfoldable pub word_ballot_reasons : Shape → List ℕ → List (Option Reason)
word_ballot_reasons s words =
    unless (eqb (length words) (ballot_bytes s)) 4 ∷ word_ballot_kind_reasons s words
