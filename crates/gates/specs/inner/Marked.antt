-- What a function asks if it is lent the marks of the kinds.
use Rattle.std.specs.Prelude.{◌≡◌, Bool, List}
use Rattle.gates.specs.Kind.{conditional_marks}

-- The lent marks are those of the kinds, and what the function asks of its gate holds.
pub record Marked (marks : List Bool) (Asked : Type 0) : Type 0 where
  pub marked : marks ≡ conditional_marks
  pub gate : Asked
