-- Each of the two tests is the complement of the lane of a word.
use Rattle.std.proofs.Common.{not, ◌&&◌}
use Rattle.jury.specs.Rankings.{before}
use Rattle.batch_lanes.specs.Lane.{lane_of}
use Rattle.batch.proofs.RankLaws.{both_lane, not_lane, some_more}
use Rattle.batch.proofs.rankings.Ranking.neither_after_nor_before.Goals as goal

pub loop-l-preserved : goal.loop-l-preserved
loop-l-preserved c =
    let a = c.args in
    let r = a.self.now in
    let l = c.loop-l in
    let p = before r.candidates in
    let after = c.puts_before-after in
    let ahead = c.puts_before-ahead in
    λ u h.
    let xs = lane_of u r.words.now in
    some_more u l.l (λ m. not (p xs r.ballot a.i m) && not (p xs r.ballot m a.j)) l.found _ (l.invariant u h)
    (both_lane u _ _ (not (p xs r.ballot a.i l.l)) (not (p xs r.ballot l.l a.j))
    (not_lane u after.result (p xs r.ballot a.i l.l) h (after.ensures u h))
    (not_lane u ahead.result (p xs r.ballot l.l a.j) h (ahead.ensures u h)))
