-- What the test of rankings by scores requires and shows. r is the number of bytes that are astray.
use Rattle.std.specs.Prelude.{◌≡◌, List, ℕ, ◌+◌, ◌*◌, ◌≤◌, ◌<◌, eqb, ltb, length, get_or}
use Rattle.jury.specs.declared.shape.Shape.{Shape}
use Rattle.jury.specs.Shape.{most_candidates}
use Rattle.jury.specs.WeakOrder.{StrictWeakOrder}

-- There are candidates, not too many, and the ballots are as long as rankings of them.
pub record RankedSize (s : Shape) (xs : List ℕ) : Type 0 where
  pub some : 0 < s.candidates
  pub few : s.candidates ≤ most_candidates
  pub size : length xs ≡ s.ballots * s.candidates * s.candidates

-- A ballot of k candidates, some but not too many: a row of k bytes for each.
pub record RankedBallot (k : ℕ) (ballot : List ℕ) : Type 0 where
  pub some : 0 < k
  pub few : k ≤ most_candidates
  pub size : length ballot ≡ k * k

-- If none is astray in this row, a byte is 1 exactly if the own score is above the column's.
pub record AstrayInRow (row scores : List ℕ) (own r : ℕ) : Type 0 where
  pub most : r ≤ length row
  pub agrees : r ≡ 0 → (j : ℕ) → j < length row → eqb (get_or row j 0) 1 ≡ ltb (get_or scores j 0) own

-- If none is astray in this ballot, it is a strict weak order.
pub record AstrayInBallot (k : ℕ) (ballot : List ℕ) (r : ℕ) : Type 0 where
  pub most : r ≤ k * k
  pub ordered : r ≡ 0 → StrictWeakOrder k (λ i j. eqb (get_or ballot (i * k + j) 0) 1)
