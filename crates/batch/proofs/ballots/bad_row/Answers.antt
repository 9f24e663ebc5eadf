-- At the end no word is left, and a row has no 1 or a second one exactly if it does not have one 1.
use Rattle.std.proofs.Common.{arith, ap}
use lib.ListN.{drop_of_length-le}
use Rattle.jury.specs.Ballots.{ones}
use Rattle.batch_lanes.specs.Lane.{lane_of}
use Rattle.batch_lanes.proofs.ListLaws.{lanes_length}
use Rattle.batch.proofs.RowLaws.{row_end}
use Rattle.batch.proofs.ballots.bad_row.Goals as goal

pub returns : goal.returns
unfolding ones
returns c =
    let l = c.loop-word in
    let words = c.args.words.now in
    λ j h. row_end j h words l.once l.twice l.word-index (l.invariant j h)
    (ap ones (drop_of_length-le (lane_of j words) {i = l.word-index} (omega (arith, lanes_length j words))))
