-- What the tests of ballots require of each other.
use Rattle.std.specs.Prelude.{◌≡◌, List, ℕ, ◌*◌, ◌<◌, T, length}
use Rattle.gates.specs.Board.{Bits}
use Rattle.jury.specs.declared.shape.Shape.{Shape}
use Rattle.jury.specs.Shape.{graded_limits}

-- The shape is within the limits of graded juries, and the ballots are as long as it says.
pub record GradedSize (s : Shape) (xs : List ℕ) : Type 0 where
  pub within : T (graded_limits s)
  pub size : length xs ≡ s.ballots * s.candidates * s.grades

-- The same, so there are grades, and all bytes are 0 or 1.
pub record GradedBits (s : Shape) (xs : List ℕ) : Type 0 where
  pub sized : GradedSize s xs
  pub some : 0 < s.grades
  pub bits : Bits xs
