-- The writer w has counted the gates and the conditional gates of the own list.
use Rattle.std.specs.Prelude.{◌≡◌, length}
use Rattle.gates.specs.Board.{conditional_count}
use Rattle.gate_words.specs.declared.writer.Writer.{Writer}
use Rattle.jury.specs.declared.shape.Shape.{Shape}
use Rattle.tally.specs.OwnList.{own_list}

pub record OwnSize (s : Shape) (w : Writer) : Type 0 where
  pub gates : w.gate ≡ length (own_list s)
  pub conditionals : w.conditional ≡ conditional_count (own_list s)
