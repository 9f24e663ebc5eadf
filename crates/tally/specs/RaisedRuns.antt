-- The request [monotone] on two concrete runs of an own list, so that `MonotoneOnGates` is not vacuous. One juror
-- grades two candidates; the first has the better grade and wins, and is then graded better still.
use Rattle.std.specs.Prelude.{◌≡◌, List, [], ◌∷◌, ℕ}
use Rattle.jury.specs.declared.shape.Shape.{Shape}
use Rattle.rule_judgment.specs.Raised.{Raised}
use Rattle.tally.specs.Answer.{Size}
use Rattle.tally.specs.Monotone.{TwoRuns, byte_in}

-- Two candidates, three grades, one ballot.
abbrev pub two_candidates : Shape
two_candidates = record { candidates = 2; grades = 3; ballots = 1 }

-- The second grade for the first candidate, the third for the other.
abbrev pub liked : List ℕ
liked = 0 ∷ 1 ∷ 0 ∷ 0 ∷ 0 ∷ 1 ∷ []

-- The first grade for the first candidate.
abbrev pub liked_more : List ℕ
liked_more = 1 ∷ 0 ∷ 0 ∷ 0 ∷ 0 ∷ 1 ∷ []

pub record RaisedRuns : Type 0 where
  pub table : List ℕ
  pub size : Size
  pub runs : TwoRuns two_candidates table size liked liked_more
  pub raised : Raised two_candidates 0 liked liked_more
  -- the closing bytes of both runs: 1 0, and 1 0 again
  pub wins : byte_in runs.before 0 ≡ 1
  pub loses : byte_in runs.before 1 ≡ 0
  pub still_wins : byte_in runs.after 0 ≡ 1
  pub still_loses : byte_in runs.after 1 ≡ 0
