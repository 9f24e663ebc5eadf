-- In each lane, the word says whether 11 finds a byte of the row before j.
use mathlib.Core.Path.{◌≡◌}
use Prim.Native.Nat.{ℕ, ◌<◌}
use Rattle.jury.specs.Rankings.{first_over, not_asymmetric_at}
use Rattle.batch_lanes.specs.Lane.{lane_count, lane, lane_of}
use Rattle.batch.specs.inner.Found.{found_bit}
use Rattle.batch.proofs.rankings.Ranking.not_asymmetric_in_row.Given as goal

abbrev pub invariant-loop-j : goal.invariant-loop-j
invariant-loop-j l = (u : ℕ) → u < lane_count
    → lane u l.faults ≡ found_bit (first_over l.j (not_asymmetric_at l.self.candidates (lane_of u l.self.words.now) l.self.ballot l.i))
