-- In each lane, the word says whether 11 finds a byte in the ballots so far.
use mathlib.Core.Path.{◌≡◌}
use Prim.Native.Nat.{ℕ, ◌<◌}
use Rattle.jury.specs.Rankings.{first_over, not_asymmetric_in_ballot}
use Rattle.batch_lanes.specs.Lane.{lane_count, lane, lane_of}
use Rattle.batch.specs.inner.Found.{found_bit}
use Rattle.batch.proofs.rankings.not_asymmetric.Given as goal

abbrev pub invariant-loop-ballot : goal.invariant-loop-ballot
invariant-loop-ballot l = (u : ℕ) → u < lane_count
    → lane u l.faults ≡ found_bit (first_over l.ballot (not_asymmetric_in_ballot l.k (lane_of u l.words)))
