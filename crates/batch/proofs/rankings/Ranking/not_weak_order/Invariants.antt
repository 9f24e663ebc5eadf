-- In each lane, the word says whether 12 applies for a candidate below i.
use mathlib.Core.Path.{◌≡◌}
use Prim.Native.Nat.{ℕ, ◌<◌}
use Rattle.jury.specs.Rankings.{not_weak_order_after}
use Rattle.basics.specs.Below.{some_below}
use Rattle.batch_lanes.specs.Lane.{lane_count, lane, lane_of}
use Rattle.batch.proofs.RankLaws.{bit}
use Rattle.batch.proofs.rankings.Ranking.not_weak_order.Given as goal

abbrev pub invariant-loop-i : goal.invariant-loop-i
invariant-loop-i l = (u : ℕ) → u < lane_count
    → lane u l.faults ≡ bit (some_below l.i (not_weak_order_after l.self.candidates (lane_of u l.self.words.now) l.self.ballot))
