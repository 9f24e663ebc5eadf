-- In each lane, the word says whether some candidate below l is not after i and not before j.
use mathlib.Core.Path.{◌≡◌}
use Prim.Native.Nat.{ℕ, ◌<◌}
use mathlib.Core.Bool.{not, ◌&&◌}
use Rattle.jury.specs.Rankings.{before}
use Rattle.basics.specs.Below.{some_below}
use Rattle.batch_lanes.specs.Lane.{lane_count, lane, lane_of}
use Rattle.batch.proofs.RankLaws.{bit}
use Rattle.batch.proofs.rankings.Ranking.neither_after_nor_before.Given as goal

abbrev pub invariant-loop-l : goal.invariant-loop-l
invariant-loop-l l = (u : ℕ) → u < lane_count
    → lane u l.found
    ≡ bit (some_below l.l (λ m. not (before l.self.candidates (lane_of u l.self.words.now) l.self.ballot l.i m)
    && not (before l.self.candidates (lane_of u l.self.words.now) l.self.ballot m l.j)))
