-- All demands on all calls of the core, in one record. Each layer states its part about the definitions that its
-- contracts equate with answers and lent tables. It is not stated here that a call ends, and reads and writes only
-- inside what it was lent: the checker asks that of every function.
use Rattle.std.specs.Prelude.{◌≡◌, List, [], ℕ, length}
use Rattle.std.proofs.Math.Option.{some}
use Rattle.gates.specs.Hiding.{BoardHidesInputs}
use Rattle.gates.specs.KindsOnBits.{KindsOnBits}
use Rattle.jury.specs.declared.shape.Shape.{Shape}
use Rattle.jury.specs.Theorems.{WidthRule, TestsAccept, CountsHold}
use Rattle.rule_judgment.specs.Theorems.{BytesSay, EqualSequences, GaugeKept, SharedWin, SomebodyWins}
use Rattle.rule_judgment.specs.GaugeTheorems.{GaugeHolds}
use Rattle.rule_schulze.specs.Theorems.{SchulzeHolds}
use Rattle.ranked_circuit.specs.Cost.{RankingConditional}
use Rattle.jury.specs.Reason.{reason_at, first_of}
use Rattle.tally.specs.Answer.{refused, accepted, outcome, Size}
use Rattle.tally.specs.Memory.{KeepsMemory}
use Rattle.tally.specs.Write.{write_outcome, HoldsWithin}
use Rattle.tally.specs.Hiding.{RunTellsNoMore}
use Rattle.tally.specs.Demands.{TallyMemory, RunAccuracy, CountAccuracy}
use Rattle.tally.specs.Monotone.{MonotoneOnGates}
use Rattle.tally.specs.Examples.{PairOfRuns}
use Rattle.tally.specs.RunAlone.{RunAlone}
use Rattle.tally.specs.FlatReasons.{FlatReasons}
use Rattle.tally.specs.RaisedRuns.{RaisedRuns}
use Rattle.text.specs.RoundTrip.{RoundTrip}
use Rattle.text.specs.Demands.{TextMemory}
use Rattle.text.specs.Order.{TextOrder}
use Rattle.text.specs.Examples.{TextExamples}
use Rattle.season.specs.Season.{sheet_reasons, sheet_reason_numbers, totals_of, runs_in}
use Rattle.season.specs.Theorems.{SheetSums}
use Rattle.urn.specs.Empty.{empty_outcome}
use Rattle.urn.specs.Memory.{UrnMemory}
use Rattle.urn.specs.Order.{UrnOrder}
use Rattle.urn.specs.Theorems.{UrnHolds, PreviewsTell}
use Rattle.urn_run.specs.Theorems.{UrnRunMemory, UrnRunHolds}
use Rattle.urn_run.specs.Examples.{PairOfUrns}
use Rattle.trustee_shares.specs.Examples.{PairOfDealings}
use Rattle.trustees.specs.Call as trustees_call
use Rattle.trustees.specs.Reasons.{part_reasons}
use Rattle.trustees.specs.Demands.{TrusteesMemory, TrusteesHold}
use Rattle.levels.specs.Demands.{LevelsMemory, LevelsHold}
use Rattle.trustee_alone.specs.Demands.{AloneMemory, AloneHolds}
use Rattle.dispatch.specs.Call as dispatch_call
use Rattle.dispatch.specs.Result.{dispatch_result}
use Rattle.dispatch.specs.Theorems.{DispatchMemory, Dispatching}
use Rattle.dispatch.specs.Examples.{PairOfCalls}
use Rattle.batch_lanes.specs.Examples.{TwoLanes}
use Rattle.batch.specs.Theorems.{EachAsAlone, AcceptedIfAll, RefusedAsAlone, FaultAsAlone}
use Rattle.batch.specs.Theorems.{BatchMemory, BatchAccuracy, BatchHiding}

-- The demand [memory] for the season sheet, which is lent no table to write to and is refused only for 21 or 22. It
-- is stated here because the crate of the sheet does not know `KeepsMemory`.
abbrev pub SheetMemory : Type 0
SheetMemory =
    (bytes : List ℕ)
    → KeepsMemory sheet_reason_numbers (outcome (first_of (sheet_reasons bytes)) (totals_of (runs_in bytes))) [] []

-- The demand [memory] for every call, with the names of the exports that are proved equal to it.
pub record Memory : Type 0 where
  -- jugy_measure, jugy_write, jugy_test, jugy_run, jugy_count
  pub base : TallyMemory
  -- jugy_write_text, jugy_read_text
  pub text : TextMemory
  -- the program season_sheet
  pub sheet : SheetMemory
  -- jugy_empty_urn, jugy_admit, jugy_withdraw, jugy_preview_admit, jugy_preview_withdraw
  pub urn : UrnMemory
  -- jugy_run_urn
  pub urn_run : UrnRunMemory
  -- jugy_trustees
  pub by_trustees : (c : trustees_call.Call) → TrusteesMemory c
  -- jugy_dispatch
  pub dispatcher : (c : dispatch_call.Call) → DispatchMemory c
  -- jugy_run_batch
  pub lanes : BatchMemory
  -- jugy_levels
  pub levels : LevelsMemory
  -- jugy_trustee_start, jugy_trustee_round, jugy_trustee_finish
  pub trustees_apart : AloneMemory

-- The demand [accuracy] for the five entry points: for runs of the own list, and for the plain count.
pub record TallyAccuracy : Type 0 where
  -- within the limits, the own list passes its test, is within its bound, and its closing bytes are the rule's
  pub own_list_holds : (s : Shape) → HoldsWithin s
  -- runs of the list that a write left
  pub own_list : (s : Shape) (table : List ℕ) (size : Size) → write_outcome s table ≡ accepted size
      → RunAccuracy s table size
  pub plain_count : CountAccuracy

-- Examples that compute: hiding is not vacuous for any kind of call, and the edges of texts.
pub record Examples : Type 0 where
  pub runs : PairOfRuns
  pub urns : PairOfUrns
  pub dealings : PairOfDealings
  pub calls : PairOfCalls
  pub lanes : TwoLanes
  pub texts : TextExamples

-- Edges that the limits name: an urn of 1, 2, 256 and 257 slots (four bytes each), no jury and nine, S = 0 and
-- 65,537, one trustee and six.
pub record Edges : Type 0 where
  pub one_slot : (table : List ℕ) → length table ≡ 4 → empty_outcome 1 2 table ≡ refused (reason_at 13 0)
  pub two_slots : (table : List ℕ) → length table ≡ 8 → empty_outcome 1 2 table ≡ accepted 0
  pub most_slots : (table : List ℕ) → length table ≡ 1024 → empty_outcome 1 2 table ≡ accepted 0
  pub too_many_slots : (table : List ℕ) → length table ≡ 1028 → empty_outcome 1 2 table ≡ refused (reason_at 13 0)
  pub no_juries : (c : dispatch_call.Call) → c.count ≡ 0 → (dispatch_result c).reason ≡ some (reason_at 19 0)
  pub nine_juries : (c : dispatch_call.Call) → c.count ≡ 9 → (dispatch_result c).reason ≡ some (reason_at 19 0)
  pub no_gates_per_round : (c : dispatch_call.Call) → c.count ≡ 1 → c.gates_per_round ≡ 0
      → (dispatch_result c).reason ≡ some (reason_at 20 0)
  pub too_many_per_round : (c : dispatch_call.Call) → c.count ≡ 8 → c.gates_per_round ≡ 65537
      → (dispatch_result c).reason ≡ some (reason_at 20 0)
  pub one_trustee : (k : ℕ) (size : Size) (ballots : List ℕ) (lent : trustees_call.PartTables)
      → first_of (part_reasons k size ballots 1 lent) ≡ some (reason_at 16 0)
  pub six_trustees : (k : ℕ) (size : Size) (ballots : List ℕ) (lent : trustees_call.PartTables)
      → first_of (part_reasons k size ballots 6 lent) ≡ some (reason_at 16 0)

-- What ballots and counts are.
pub record Juries : Type 0 where
  -- [width]: 0 has width 0, and m above 0 is one digit wider than its half, rounded down
  pub width : WidthRule
  -- [ballot], [ranking-reasons]: the tests accept exactly the ballots that `AcceptedBallots` describes
  pub accepted : TestsAccept
  -- [sum]: a candidate's counts add up to n; the order of ballots does not matter
  pub counts : CountsHold

-- The rules: who wins, as statements instead of computations.
pub record Rules : Type 0 where
  -- majority judgment: a byte says who wins; somebody wins; candidates share a win only if their counts are equal;
  -- the gauge's winner is the only winner [judgment-gauge]
  pub judgment_bytes : BytesSay
  pub judgment_somebody : SomebodyWins
  pub judgment_shared : SharedWin
  -- equal sequences only if equal counts
  pub judgment_sequences : EqualSequences
  -- [gauge]: its bytes say who beats each other candidate by one of the four conditions
  pub gauge : GaugeHolds
  pub gauge_kept : GaugeKept
  -- Schulze's rule: links, paths, the strongest of them, and bytes; somebody wins; a Condorcet winner is the only
  -- winner
  pub schulze : SchulzeHolds

-- Everything: the three demands on a run, and what each request adds.
pub record AllDemands : Type 0 where
  pub memory : Memory
  pub accuracy : TallyAccuracy
  pub hiding : RunTellsNoMore
  -- demands 2 and 3 for a run, written out; bits; a run's reasons as one list; demand 3 for any list
  pub run_alone : RunAlone
  pub run_reasons : FlatReasons
  pub any_list : BoardHidesInputs
  -- [kinds]: on bits, the values of the kinds are the requirements' table
  pub kinds : KindsOnBits
  -- the orders of reasons, in words
  pub urn_order : UrnOrder
  pub text_order : TextOrder
  pub edges : Edges
  pub examples : Examples
  pub juries : Juries
  pub rules : Rules
  -- [text]: what is written is read back, and what is read was written
  pub text : RoundTrip
  -- [sheet]: the totals are sums over the runs
  pub sheet : SheetSums
  -- [monotone]: a better grade costs nobody the win; two runs to which this applies
  pub monotone : MonotoneOnGates
  pub raised_runs : RaisedRuns
  -- C of the ranked list as a formula
  pub ranking_cost : RankingConditional
  -- [urn], [preview]: what emptying, admission and withdrawal leave, and what the previews reveal
  pub urn : UrnHolds
  pub previews : PreviewsTell
  -- [urn-run]: memory, accuracy, hiding
  pub urn_run : UrnRunHolds
  -- [trustees]: memory, accuracy, and that views reveal only the closing bytes
  pub by_trustees : TrusteesHold
  -- [dispatcher]: rounds, memory, refusals, each jury as in a run of its own, accuracy, hiding
  pub dispatcher : Dispatching
  -- [lanes]: each jury of an accepted call as in a run of its own, which calls are accepted, what a refusal says
  -- about the juries; accuracy, hiding
  pub lanes_alone : EachAsAlone
  pub lanes_accepted : AcceptedIfAll
  pub lanes_refused : RefusedAsAlone
  pub lanes_fault : FaultAsAlone
  pub lanes_accuracy : BatchAccuracy
  pub lanes_hiding : BatchHiding
  -- ours, beyond the requests: the levels of a list; a trustee on its own machine, and that all of them end as the
  -- single call does
  pub levels : LevelsHold
  pub trustees_apart : AloneHolds
