-- `batch::ballots::bad_rows` meets its contract: in each lane, the faults so far and those of the rest are the
-- faults of all rows.
-- Assumes nothing.
use mathlib.Core.Path.{◌≡◌}
use Prim.Native.Nat.{ℕ, ◌-◌, ◌*◌, ◌<◌, max}
use lib.ListN.{drop}
use Rattle.jury.specs.Ballots.{rows_of, first_bad_row}
use Rattle.batch_lanes.specs.Lane.{lane_count, lane, lane_of}
use Rattle.batch.specs.inner.Found.{found_bit}
use Rattle.batch.proofs.ballots.bad_rows.Given as goal

abbrev pub invariant-loop-row : goal.invariant-loop-row
invariant-loop-row l = (j : ℕ) → j < lane_count
    → max (lane j l.faults) (found_bit (first_bad_row l.row (rows_of l.d (l.rows - l.row) (drop (l.row * l.d) (lane_of j l.words)))))
    ≡ found_bit (first_bad_row 0 (rows_of l.d l.rows (lane_of j l.words)))
