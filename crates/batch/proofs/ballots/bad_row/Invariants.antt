-- `batch::ballots::bad_row` meets its contract: after i words, `once` and `twice` say for each lane whether it had
-- a 1, and whether it had a second 1.
-- Assumes nothing.
use Prim.Native.Nat.{ℕ, ◌<◌}
use Rattle.batch_lanes.specs.Lane.{lane_count}
use Rattle.batch.proofs.RowLaws.{RowLane}
use Rattle.batch.proofs.ballots.bad_row.Given as goal

abbrev pub invariant-loop-word : goal.invariant-loop-word
invariant-loop-word l = (j : ℕ) → j < lane_count → RowLane j l.words l.once l.twice l.word-index
