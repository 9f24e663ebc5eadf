-- What the entry points answer: a reason with its place [order], or the values of [accepted] and [measure].
use Rattle.std.proofs.Math.Option.{Option, none, some}
use Rattle.std.specs.Prelude.{Bool, List, ◌++◌, ℕ, length, drop, Result, Ok, Err}
use Rattle.basics.specs.Lists.{member}
use Rattle.gates.specs.Gate.{Gate}
use Rattle.gates.specs.Board.{conditional_count}
use Rattle.gates.specs.declared.list.ListSize.{ListSize}
use Rattle.jury.specs.Reason.{Reason, reason_of}
use Rattle.jury.specs.declared.reason.Refusal.{Refusal}

-- A call is refused for a reason, or accepted with its values.
pub data Outcome (Values : Type 0) : Type 0 where
  refused : Reason → Outcome Values
  accepted : Values → Outcome Values

-- A call is accepted exactly if no reason applies.
unfoldable pub outcome : {Values : Type 0} → Option Reason → Values → Outcome Values
outcome (some r) values = refused r
outcome none values = accepted values

-- A lent table after the call: `new` if the call is accepted, `old` if it is refused.
unfoldable pub afterwards : Option Reason → List ℕ → List ℕ → List ℕ
afterwards (some r) new old = old
afterwards none new old = new

-- The same if the new numbers fill only the start of the table. What comes after them is unchanged.
unfoldable pub overwritten : Option Reason → List ℕ → List ℕ → List ℕ
overwritten (some r) new old = old
overwritten none new old = new ++ drop (length new) old

-- Whether the reason's number is one of these.
abbrev pub has_number_in : List ℕ → Reason → Bool
has_number_in ns r = member r.number ns

-- What write, test and run answer if they are accepted.
pub record Size : Type 0 where
  pub gates : ℕ
  pub conditional : ℕ

-- G and C of a list of gates.
unfoldable pub size_of : List Gate → Size
size_of gs = record { gates = length gs; conditional = conditional_count gs }

-- G and C as the program holds them.
abbrev pub size_in : ListSize → Size
size_in s = record { gates = s.gates; conditional = s.conditional }

-- What each case of the program's answer means.
unfoldable pub outcome_of : Result ListSize Refusal → Outcome Size
outcome_of (Ok s) = accepted (size_in s)
outcome_of (Err r) = refused (reason_of r)
