-- The demand [memory], stated once for every call: about its answer, and about each lent table before and after it.
-- It is not stated here that a call ends and stays inside what it was lent: the checker asks that of every
-- function.
use Rattle.std.specs.Prelude.{◌≡◌, List, [], ◌∷◌, ℕ, T, length, replicate}
use Rattle.jury.specs.Reason.{Reason}
use Rattle.tally.specs.Answer.{Outcome, refused, accepted, has_number_in}
use Rattle.tally.specs.Run.{RunResult}

-- A table lent for writing: its contents before the call, and after it.
pub record Lent : Type 0 where
  pub before : List ℕ
  pub after : List ℕ

-- Every table of the list has the property `Is`.
unfoldable pub Each : (Lent → Type 0) → List Lent → Type 0
Each Is [] = Unit {0}
Each Is (t ∷ ts) = Is t × Each Is ts

abbrev pub Unaltered : Lent → Type 0
Unaltered t = t.after ≡ t.before

abbrev pub Emptied : Lent → Type 0
Emptied t = t.after ≡ replicate (length t.before) 0

abbrev pub SameLength : Lent → Type 0
SameLength t = length t.after ≡ length t.before

-- A call gives only reasons with these numbers, and a refusal changes nothing. `lent` has all tables that the call
-- may write to, `emptied` those of them that held secrets while it ran: an accepted call leaves zeros there.
pub record KeepsMemory {Values : Type 0} (numbers : List ℕ) (answer : Outcome Values) (lent emptied : List Lent)
    : Type 0 where
  pub number : (r : Reason) → answer ≡ refused r → T (has_number_in numbers r)
  pub refusal : (r : Reason) → answer ≡ refused r → Each Unaltered lent
  pub empties : (values : Values) → answer ≡ accepted values → Each Emptied emptied
  pub lengths : Each SameLength lent

-- A call that leaves a board is lent a wire table and a board, and empties the wire table.
abbrev pub BoardKeepsMemory : List ℕ → (wires board : List ℕ) → RunResult → Type 0
BoardKeepsMemory numbers wires board r =
    let wire_table : Lent = record { before = wires; after = r.wires } in
    let its_board : Lent = record { before = board; after = r.board } in
    KeepsMemory numbers r.answer (wire_table ∷ its_board ∷ []) (wire_table ∷ [])
