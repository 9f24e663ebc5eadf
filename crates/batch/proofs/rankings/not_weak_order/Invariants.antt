-- In each lane, the word says whether 12 applies to one of the ballots so far.
use mathlib.Core.Path.{◌≡◌}
use Prim.Native.Nat.{ℕ, ◌<◌}
use Rattle.std.proofs.Common.{cond}
use Rattle.std.specs.Prelude.{Some, None}
use Rattle.jury.specs.Rankings.{first_over, not_weak_order}
use Rattle.batch_lanes.specs.Lane.{lane_count, lane, lane_of}
use Rattle.batch.specs.inner.Found.{found_bit}
use Rattle.batch.proofs.rankings.not_weak_order.Given as goal

abbrev pub invariant-loop-ballot : goal.invariant-loop-ballot
invariant-loop-ballot l = (u : ℕ) → u < lane_count
    → lane u l.faults ≡ found_bit (first_over l.ballot (λ b. cond (not_weak_order l.k (lane_of u l.words) b) (Some b) None))
