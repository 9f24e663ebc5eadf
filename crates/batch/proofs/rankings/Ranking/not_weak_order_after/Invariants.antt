-- In each lane, the word says whether 12 applies for i and a candidate below j.
use mathlib.Core.Path.{◌≡◌}
use Prim.Native.Nat.{ℕ, ◌<◌}
use mathlib.Core.Bool.{◌&&◌}
use Rattle.jury.specs.Rankings.{before, neither_after_nor_before}
use Rattle.basics.specs.Below.{some_below}
use Rattle.batch_lanes.specs.Lane.{lane_count, lane, lane_of}
use Rattle.batch.proofs.RankLaws.{bit}
use Rattle.batch.proofs.rankings.Ranking.not_weak_order_after.Given as goal

abbrev pub invariant-loop-j : goal.invariant-loop-j
invariant-loop-j l = (u : ℕ) → u < lane_count
    → lane u l.faults
    ≡ bit (some_below l.j (λ j. before l.self.candidates (lane_of u l.self.words.now) l.self.ballot l.i j
    && neither_after_nor_before l.self.candidates (lane_of u l.self.words.now) l.self.ballot l.i j))
