-- Definitions for inner functions and their proofs: no entry point's contract needs them.
use Rattle.std.specs.Prelude.{◌≡◌, cond, List, [], map, ℕ, ◌+◌, ◌*◌, ◌≤◌, ◌<◌, ltb, length, get_or, take, drop}
use Rattle.basics.specs.Lists.{tabulate}
use Rattle.jury.specs.Shape.{most_candidates, most_grades}
use Rattle.jury.specs.declared.shape.Shape.{Shape}
use Rattle.jury.specs.Counts.{count_array, AddUp}

-- The array of counts while it is filled: eight rows of seven counts, each so small that adding a byte does not
-- overflow.
pub record EightBySeven (counts : List (List ℕ)) : Type 0 where
  pub rows : length counts ≡ most_candidates
  pub columns : (c : ℕ) → c < most_candidates → length (get_or counts c []) ≡ most_grades
  pub small : (c g : ℕ) → get_or (get_or counts c []) g 0 < 256

-- A row of a ballot can be added to a row of counts.
pub record RowReady (counts row : List ℕ) : Type 0 where
  pub seven : length counts ≡ most_grades
  pub short : length row ≤ most_grades
  pub small : (g : ℕ) → get_or counts g 0 < 256

-- A ballot of this shape can be added to the array of counts.
pub record BallotReady (s : Shape) (counts : List (List ℕ)) (ballot : List ℕ) : Type 0 where
  pub few_rows : s.candidates ≤ most_candidates
  pub few_columns : s.grades ≤ most_grades
  pub size : length ballot ≡ s.candidates * s.grades
  pub array : EightBySeven counts

-- A row of counts with one row of a ballot added.
unfoldable pub plus_row : List ℕ → List ℕ → List ℕ
plus_row counts bytes = tabulate most_grades (λ g. get_or counts g 0 + get_or bytes g 0)

-- The array of counts with one ballot, k rows of d bytes, added.
unfoldable pub plus_ballot : ℕ → ℕ → List (List ℕ) → List ℕ → List (List ℕ)
plus_ballot k d counts ballot =
    tabulate most_candidates
    (λ c. cond (ltb c k) (plus_row (get_or counts c []) (take d (drop (c * d) ballot))) (get_or counts c []))

-- The first d counts of each of the first k rows.
unfoldable pub rows_in : ℕ → ℕ → List (List ℕ) → List (List ℕ)
rows_in k d counts = map (take d) (take k counts)

-- The array of counts at the end: the rows of the candidates add up to the number of ballots.
pub record Counted (s : Shape) (xs : List ℕ) (counts : List (List ℕ)) : Type 0 where
  pub array : counts ≡ count_array s xs
  pub add_up : AddUp s (rows_in s.candidates s.grades counts)
