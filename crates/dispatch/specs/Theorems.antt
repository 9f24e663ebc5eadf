-- What holds for every call of the dispatcher (requests 2.8 and 2.13), stated about the definition that its
-- contract equates with the answer and with all that is lent.
use Rattle.std.specs.Prelude.{◌≡◌, ◌↔◌, ◌⊎◌, List, [], ◌∷◌, ℕ, zero, suc, ◌*◌, ◌≤◌, ◌<◌, min, length, get_or, replicate}
use Rattle.std.proofs.Math.Option.{none, some}
use Rattle.gates.specs.Gate.{gates_of}
use Rattle.jury.specs.Reason.{Reason, reason_at}
use Rattle.tally.specs.Answer.{refused, accepted, outcome, Size, size_of}
use Rattle.tally.specs.Write.{write_outcome}
use Rattle.tally.specs.Run.{RunResult, run_result}
use Rattle.tally.specs.Hiding.{closing_bytes, RunsHide}
use Rattle.tally.specs.SaysWhoWins.{SaysWhoWins}
use Rattle.tally.specs.Memory.{Lent, KeepsMemory}
use Rattle.tally.specs.Demands.{list_in}
use Rattle.dispatch_rounds.specs.declared.header.JuryHeader.{JuryHeader}
use Rattle.dispatch_rounds.specs.Tables.{Tables, tables_of, header_shape, pieces_of, remaining}
use Rattle.dispatch_rounds.specs.Rounds.{rounds_for, most_juries, most_gates_per_round}
use Rattle.dispatch.specs.Call.{Call, juries_in}
use Rattle.dispatch.specs.Reasons.{dispatch_reason_numbers}
use Rattle.dispatch.specs.Result.{run_board, dispatch_result}
use Rattle.dispatch.specs.NoIdleRound.{jury_at, AllDone, NoIdleRound}

-- The tables without the pieces of the first j juries.
unfoldable pub tables_from : ℕ → List JuryHeader → Tables → Tables
tables_from zero ss t = t
tables_from (suc j) [] t = t
tables_from (suc j) (s ∷ ss) t = tables_from j ss (remaining s t)

-- Jury j's pieces.
abbrev pub pieces_at : ℕ → List JuryHeader → Tables → Tables
pieces_at j ss t = pieces_of (jury_at j ss) (tables_from j ss t)

-- What an undivided run on jury j's pieces answers and leaves.
abbrev pub run_at : ℕ → List JuryHeader → Tables → RunResult
run_at j ss t =
    let p = pieces_at j ss t in
    run_result (header_shape (jury_at j ss)) p.lists p.ballots p.tapes p.wires p.boards

-- The undivided run on jury j's pieces is accepted.
abbrev pub RunsAt : ℕ → List JuryHeader → Tables → Type 0
RunsAt j ss t = (run_at j ss t).answer ≡ accepted (size_of (gates_of (pieces_at j ss t).lists))

-- The tables after a call: lists, ballots and tapes are only read.
abbrev pub tables_after : Call → Tables
tables_after c =
    let t = c.tables in
    tables_of t.lists t.ballots t.tapes (dispatch_result c).wires (dispatch_result c).boards

-- Jury j's header.
abbrev pub jury : Call → ℕ → JuryHeader
jury c j = jury_at j (juries_in c)

-- Jury j's pieces as they are lent.
abbrev pub pieces : Call → ℕ → Tables
pieces c j = pieces_at j (juries_in c) c.tables

-- Jury j's pieces after the call.
abbrev pub pieces_after : Call → ℕ → Tables
pieces_after c j = pieces_at j (juries_in c) (tables_after c)

-- `rounds_for` is the exact number of rounds: after r rounds a jury has done all its gates exactly if r is at least
-- that number, and the next round gives it a gate exactly if r is below that number.
pub record RoundsExact : Type 0 where
  pub finished : (gates gates_per_round r : ℕ) → 1 ≤ gates_per_round
      → (min (r * gates_per_round) gates ≡ gates) ↔ (rounds_for gates gates_per_round ≤ r)
  pub given : (gates gates_per_round r : ℕ) → 1 ≤ gates_per_round
      → (min (r * gates_per_round) gates < min (suc r * gates_per_round) gates) ↔ (r < rounds_for gates gates_per_round)

-- Jury j of an accepted call.
pub record AcceptedJury (c : Call) (j : ℕ) : Type 0 where
  pub accepts : (dispatch_result c).reason ≡ none
  pub among : j < length (juries_in c)

-- What holds for jury j of an accepted call, whatever the other juries are.
pub record EachJury (c : Call) (j : ℕ) : Type 0 where
  pub rounds : get_or (dispatch_result c).rounds j 0 ≡ rounds_for (jury c j).gates c.gates_per_round
  -- an undivided run on its pieces is accepted
  pub runs : RunsAt j (juries_in c) c.tables
  -- its wires are emptied
  pub emptied : (pieces_after c j).wires ≡ replicate (length (pieces c j).wires) 0
  -- its board is that of the undivided run
  pub board : (pieces_after c j).boards ≡ run_board (jury c j) (pieces c j)

-- An accepted call has as many rounds as the jury that needs the most. After them every jury has done all its
-- gates; in each of them some jury gets a gate; and no other number of rounds has both properties. So these are the
-- rounds in the contract of `run_rounds`.
pub record RoundsOfCall (c : Call) : Type 0 where
  pub longest : ℕ
  pub among : longest < length (juries_in c)
  pub most : (j : ℕ) → j < length (juries_in c)
      → get_or (dispatch_result c).rounds j 0 ≤ get_or (dispatch_result c).rounds longest 0
  pub all_done : AllDone c.gates_per_round (get_or (dispatch_result c).rounds longest 0) (juries_in c)
  pub none_idle : NoIdleRound c.gates_per_round (get_or (dispatch_result c).rounds longest 0) (juries_in c)
  pub no_other : (n : ℕ) → AllDone c.gates_per_round n (juries_in c) → NoIdleRound c.gates_per_round n (juries_in c)
      → n ≡ get_or (dispatch_result c).rounds longest 0

-- Jury j of one call and jury i of another agree in header, list, ballots and tape.
pub record SameInputs (c c' : Call) (j i : ℕ) : Type 0 where
  pub header : jury c j ≡ jury c' i
  pub list : (pieces c j).lists ≡ (pieces c' i).lists
  pub ballots : (pieces c j).ballots ≡ (pieces c' i).ballots
  pub tape : (pieces c j).tapes ≡ (pieces c' i).tapes

-- Such juries have the same board, whatever else the two calls are given, S included. If both calls have the same
-- S, the two juries take equally many rounds.
pub record SameJury (c c' : Call) (j i : ℕ) : Type 0 where
  pub board : (pieces_after c j).boards ≡ (pieces_after c' i).boards
  pub rounds : c.gates_per_round ≡ c'.gates_per_round
      → get_or (dispatch_result c).rounds j 0 ≡ get_or (dispatch_result c').rounds i 0

-- The reason r is that of the first jury that is refused: its place is that jury, runs on the pieces of all juries
-- before it are accepted, and a run on its own pieces is refused for a reason with the same number.
pub record FirstRefused (ss : List JuryHeader) (t : Tables) (r : Reason) : Type 0 where
  pub among : r.place < length ss
  pub before : (j : ℕ) → j < r.place → RunsAt j ss t
  pub its : Reason
  pub number : r.number ≡ its.number
  pub run : (run_at r.place ss t).answer ≡ refused its

-- There are one to eight juries.
abbrev pub JuriesFit : Call → Type 0
JuriesFit c = (1 ≤ c.count) × (c.count ≤ most_juries)

-- S is 1 to 65,536.
abbrev pub GatesPerRoundFit : Call → Type 0
GatesPerRoundFit c = (1 ≤ c.gates_per_round) × (c.gates_per_round ≤ most_gates_per_round)

-- A call is accepted iff both numbers fit and an undivided run on each jury's pieces is accepted.
abbrev pub AcceptedAsAll : Type 0
AcceptedAsAll =
    (c : Call) → ((dispatch_result c).reason ≡ none)
    ↔ (JuriesFit c × GatesPerRoundFit c × ((j : ℕ) → j < length (juries_in c) → RunsAt j (juries_in c) c.tables))

-- A refusal is 19 at place 0 if the number of juries does not fit, else 20 at place 0 if the gates per round do not
-- fit, else the reason of the first jury that is refused. It answers 0 rounds.
pub record Refusals : Type 0 where
  pub named : (c : Call) (r : Reason) → (dispatch_result c).reason ≡ some r
      → ((¬ JuriesFit c) × (r ≡ reason_at 19 0))
      ⊎ (JuriesFit c × (¬ GatesPerRoundFit c) × (r ≡ reason_at 20 0))
      ⊎ (JuriesFit c × GatesPerRoundFit c × FirstRefused (juries_in c) c.tables r)
  pub no_rounds : (c : Call) (r : Reason) → (dispatch_result c).reason ≡ some r
      → (dispatch_result c).rounds ≡ replicate most_juries 0

-- Demand 1. The call may write to two tables. It empties each jury's piece of the wires (`EachJury`), not the whole
-- table.
abbrev pub DispatchMemory : Call → Type 0
DispatchMemory c =
    let wires : Lent = record { before = c.tables.wires; after = (dispatch_result c).wires } in
    let boards : Lent = record { before = c.tables.boards; after = (dispatch_result c).boards } in
    KeepsMemory dispatch_reason_numbers (outcome (dispatch_result c).reason (dispatch_result c).rounds)
    (wires ∷ boards ∷ []) []

-- No call, accepted or refused, changes what follows the last jury's piece.
pub record Untouched (c : Call) : Type 0 where
  pub wires : (tables_from (length (juries_in c)) (juries_in c) (tables_after c)).wires
      ≡ (tables_from (length (juries_in c)) (juries_in c) c.tables).wires
  pub boards : (tables_from (length (juries_in c)) (juries_in c) (tables_after c)).boards
      ≡ (tables_from (length (juries_in c)) (juries_in c) c.tables).boards

pub record Dispatching : Type 0 where
  pub exact : RoundsExact
  pub rounds : (c : Call) (j : ℕ) → AcceptedJury c j → RoundsOfCall c
  pub memory : (c : Call) → DispatchMemory c
  pub untouched : (c : Call) → Untouched c
  pub accepted_as_all : AcceptedAsAll
  pub refusals : Refusals
  pub each : (c : Call) (j : ℕ) → AcceptedJury c j → EachJury c j
  pub same : (c c' : Call) (j i : ℕ) → AcceptedJury c j → AcceptedJury c' i → SameInputs c c' j i → SameJury c c' j i
  -- demand 2, for a jury whose list is the one that a write for its shape left in some table
  pub accuracy : (c : Call) (j : ℕ) (table : List ℕ) (size : Size) → AcceptedJury c j
      → write_outcome (header_shape (jury c j)) table ≡ accepted size
      → (pieces c j).lists ≡ list_in (header_shape (jury c j)) size table
      → let s = header_shape (jury c j) in
      SaysWhoWins s (pieces c j).ballots (closing_bytes s (pieces_after c j).boards)
  -- demand 3, for two juries with the same header and list whose boards end with the same closing bytes; it is
  -- stated for the undivided runs on their pieces, which by `EachJury` leave the same boards
  pub hiding : (c c' : Call) (j i : ℕ) → AcceptedJury c j → AcceptedJury c' i
      → jury c j ≡ jury c' i → (pieces c j).lists ≡ (pieces c' i).lists
      → let s = header_shape (jury c j) in closing_bytes s (pieces_after c j).boards
      ≡ closing_bytes s (pieces_after c' i).boards
      → let p = pieces c j in let q = pieces c' i in
      RunsHide s p.lists p.ballots q.ballots p.wires q.wires p.boards q.boards
