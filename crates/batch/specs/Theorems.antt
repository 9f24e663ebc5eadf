-- What holds for a run of 64 juries: each jury's bits are those of its single run, so the three demands hold for
-- each.
use Rattle.std.specs.Prelude.{◌≡◌, Bool, true, false, List, ℕ, ◌<◌, take}
use Rattle.jury.specs.Reason.{Reason, reason_at}
use Rattle.jury.specs.Ballots.{ballot_kind_reason_numbers}
use Rattle.tally.specs.Answer.{refused, accepted, has_number_in, Size}
use Rattle.tally.specs.SaysWhoWins.{SaysWhoWins}
use Rattle.tally.specs.Memory.{BoardKeepsMemory}
use Rattle.tally.specs.Count.{plain_closing}
use Rattle.tally.specs.Write.{write_outcome}
use Rattle.tally.specs.Run.{RunResult, run_result}
use Rattle.tally.specs.Hiding.{closing_bytes, RunsHide}
use Rattle.tally.specs.Demands.{list_in}
use Rattle.batch_lanes.specs.Lane.{lane_count, lane_of}
use Rattle.batch.specs.Call.{Call}
use Rattle.batch.specs.Run.{batch_reason_numbers, batch_result}

-- The single run of jury j: on its bits of the ballots, the tape, the wire table and the board.
abbrev pub run_alone : ℕ → Call → RunResult
run_alone j c =
    run_result c.shape c.table (lane_of j c.ballots) (lane_of j c.tape) (lane_of j c.wires)
    (lane_of j c.board)

-- Each jury of an accepted call has what its single run gives: the answer, and its bits of wire table and board.
-- Both wire tables are zeros by then. The contract of `batch_lanes::step::run` says that each jury's wires were
-- those of its single run before they were emptied.
abbrev pub EachAsAlone : Type 0
EachAsAlone =
    (c : Call) (size : Size) → (batch_result c).answer ≡ accepted size → (j : ℕ) → j < lane_count
    → ((run_alone j c).answer ≡ accepted size)
    × (lane_of j (batch_result c).wires ≡ (run_alone j c).wires)
    × (lane_of j (batch_result c).board ≡ (run_alone j c).board)

-- A call is accepted if all 64 single runs are.
abbrev pub AcceptedIfAll : Type 0
AcceptedIfAll =
    (c : Call) (size : Size) → ((j : ℕ) → j < lane_count → (run_alone j c).answer ≡ accepted size)
    → (batch_result c).answer ≡ accepted size

-- The reasons that are about the contents of ballots: their place is a jury.
unfoldable pub is_of_ballots : Reason → Bool
is_of_ballots = has_number_in ballot_kind_reason_numbers

-- If a call is refused for any other reason, every single run is refused for the same reason.
abbrev pub RefusedAsAlone : Type 0
RefusedAsAlone =
    (c : Call) (r : Reason) → (batch_result c).answer ≡ refused r → is_of_ballots r ≡ false
    → (j : ℕ) → j < lane_count → (run_alone j c).answer ≡ refused r

-- If a call is refused for 6, 11 or 12, its place is the first jury whose single run is refused for the same
-- number. 11 comes before 12 over all juries: if a call is refused for 12, no single run is refused for 11.
abbrev pub FaultAsAlone : Type 0
FaultAsAlone =
    (c : Call) (r : Reason) → (batch_result c).answer ≡ refused r → is_of_ballots r ≡ true
    → (r.place < lane_count)
    × ((place : ℕ) × ((run_alone r.place c).answer ≡ refused (reason_at r.number place)))
    × ((j place : ℕ) → j < r.place → (run_alone j c).answer ≡ refused (reason_at r.number place) → ⊥)
    × (r.number ≡ 12 → (j place : ℕ) → j < lane_count → (run_alone j c).answer ≡ refused (reason_at 11 place) → ⊥)

-- Demand 1, as for every call that leaves a board. 5 and 8 never apply.
abbrev pub BatchMemory : Type 0
BatchMemory =
    (c : Call) → BoardKeepsMemory batch_reason_numbers c.wires c.board (batch_result c)

-- Demand 2: with the own list of a shape, a jury's closing bytes are those of its plain count, and say who wins in
-- that jury.
abbrev pub BatchAccuracy : Type 0
BatchAccuracy =
    (c : Call) (table : List ℕ) (size answer : Size) → write_outcome c.shape table ≡ accepted size
    → c.table ≡ list_in c.shape size table → (batch_result c).answer ≡ accepted answer → (j : ℕ) → j < lane_count
    → let bytes = closing_bytes c.shape (lane_of j (batch_result c).board) in
    (bytes ≡ take c.shape.candidates (plain_closing c.shape (lane_of j c.ballots)))
    × SaysWhoWins c.shape (lane_of j c.ballots) bytes

-- Demand 3, for jury i of one accepted call and jury j of another, with the same shape and list and equal closing
-- bytes. The two calls may be the same. It is stated for the single runs, which by `EachAsAlone` have the same
-- boards.
abbrev pub BatchHiding : Type 0
BatchHiding =
    (c c' : Call) (first second : Size) → c.shape ≡ c'.shape → c.table ≡ c'.table
    → (batch_result c).answer ≡ accepted first → (batch_result c').answer ≡ accepted second
    → (i j : ℕ) → i < lane_count → j < lane_count
    → closing_bytes c.shape (lane_of i (batch_result c).board)
    ≡ closing_bytes c.shape (lane_of j (batch_result c').board)
    → RunsHide c.shape c.table (lane_of i c.ballots) (lane_of j c'.ballots) (lane_of i c.wires)
    (lane_of j c'.wires) (lane_of i c.board) (lane_of j c'.board)
