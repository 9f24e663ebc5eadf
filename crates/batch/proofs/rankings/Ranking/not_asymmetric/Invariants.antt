-- In each lane, the word says whether 11 finds a byte in the rows before i.
use mathlib.Core.Path.{◌≡◌}
use Prim.Native.Nat.{ℕ, ◌<◌}
use Rattle.jury.specs.Rankings.{first_over, not_asymmetric_in_row}
use Rattle.batch_lanes.specs.Lane.{lane_count, lane, lane_of}
use Rattle.batch.specs.inner.Found.{found_bit}
use Rattle.batch.proofs.rankings.Ranking.not_asymmetric.Given as goal

abbrev pub invariant-loop-i : goal.invariant-loop-i
invariant-loop-i l = (u : ℕ) → u < lane_count
    → lane u l.faults ≡ found_bit (first_over l.i (not_asymmetric_in_row l.self.candidates (lane_of u l.self.words.now) l.self.ballot))
