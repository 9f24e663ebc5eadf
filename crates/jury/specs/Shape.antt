-- The shape of a jury, graded or ranked, and its limits.
use Rattle.std.specs.Prelude.{Bool, cond, ◌&&◌, ◌||◌, ℕ, ◌*◌, leb, eqb}
use Rattle.jury.specs.declared.shape.Shape.{Shape}

-- The most candidates, grades and ballots that a jury may have.
abbrev pub most_candidates : ℕ
most_candidates = 8

abbrev pub most_grades : ℕ
most_grades = 7

abbrev pub most_ballots : ℕ
most_ballots = 255

-- How many entries a table has that keeps one for each pair of candidates.
abbrev pub most_pairs : ℕ
most_pairs = most_candidates * most_candidates

-- With 0 grades, the jurors rank the candidates (request 2.2).
unfoldable pub is_ranking : Shape → Bool
is_ranking s = eqb s.grades 0

-- The limits of a graded jury: 1 to 8 candidates, 2 to 7 grades, 1 to 255 ballots.
unfoldable pub graded_limits : Shape → Bool
graded_limits s =
    leb 1 s.candidates && leb s.candidates most_candidates
    && leb 2 s.grades && leb s.grades most_grades
    && leb 1 s.ballots && leb s.ballots most_ballots

-- The limits of a ranked jury: 1 to 8 candidates, no grades, 1 to 255 ballots.
unfoldable pub ranked_limits : Shape → Bool
ranked_limits s =
    leb 1 s.candidates && leb s.candidates most_candidates
    && is_ranking s
    && leb 1 s.ballots && leb s.ballots most_ballots

-- Within the limits of either kind.
unfoldable pub within_limits : Shape → Bool
within_limits s = graded_limits s || ranked_limits s

-- How many bytes a row has: one for each grade or, in a ranking, one for each candidate.
unfoldable pub columns : Shape → ℕ
columns s = cond (is_ranking s) s.candidates s.grades

-- I, the number of ballot bytes: one for each ballot, candidate and column.
unfoldable pub ballot_bytes : Shape → ℕ
ballot_bytes s = s.ballots * s.candidates * columns s
