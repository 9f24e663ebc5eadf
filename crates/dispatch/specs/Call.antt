-- What the dispatcher is given and lent (request 2.8).
use Rattle.std.specs.Prelude.{List, ℕ, take}
use Rattle.dispatch_rounds.specs.declared.header.JuryHeader.{JuryHeader}
use Rattle.dispatch_rounds.specs.Tables.{Tables}

-- `gates_per_round` is S, the most gates that a jury does in a round. Only the first `count` of the eight headers are
-- read.
pub record Call : Type 0 where
  pub count : ℕ
  pub headers : List JuryHeader
  pub gates_per_round : ℕ
  pub tables : Tables

-- The headers of the call's juries.
abbrev pub juries_in : Call → List JuryHeader
juries_in c = take c.count c.headers
