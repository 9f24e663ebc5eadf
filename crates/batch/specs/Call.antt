-- What the entry point [lanes] is given and lent. Bit j of each number of ballots, tape, wires and board is jury
-- j's (request 2.11).
use Rattle.std.specs.Prelude.{List, ℕ}
use Rattle.jury.specs.declared.shape.Shape.{Shape}

pub record Call : Type 0 where
  pub shape : Shape
  pub table : List ℕ
  pub ballots : List ℕ
  pub tape : List ℕ
  pub wires : List ℕ
  pub board : List ℕ
