-- What inner functions promise: whether something was found, as a bit, and the first lane of a word that is 1.
use Rattle.std.specs.Prelude.{cond, ℕ, eqb, Option, Some, None}
use Rattle.jury.specs.Rankings.{first_over}
use Rattle.batch_lanes.specs.Lane.{lane_count, lane}

unfoldable pub found_bit : Option ℕ → ℕ
found_bit (Some place) = 1
found_bit None = 0

unfoldable pub first_set : ℕ → Option ℕ
first_set w = first_over lane_count (λ j. cond (eqb (lane j w) 1) (Some j) None)
