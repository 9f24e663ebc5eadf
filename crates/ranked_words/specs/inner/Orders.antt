-- What writing an order asks for, a comparison in which equal words may get either answer. A word has a lowest digit
-- and `digits` more, of which the `cut` highest are the high half.
use Rattle.std.specs.Prelude.{ℕ, suc, ◌+◌, ◌≤◌}
use Rattle.gate_words.specs.Writing.{Room}
use Rattle.gate_words.specs.declared.writer.Writer.{Writer}
use Rattle.ranked_circuit.specs.Blocks.{order_size}

-- For an order of the words at x and y.
pub record CutReady (w : Writer) (gates x y digits cut : ℕ) : Type 0 where
  pub room : Room w gates
  pub first_below : x + suc digits ≤ w.wire
  pub second_below : y + suc digits ≤ w.wire
  pub within : cut ≤ digits

-- For an order and a choice between the words at `more` and `less`.
pub record OneReady (w : Writer) (x y more less digits cut : ℕ) : Type 0 where
  pub order : CutReady w (order_size digits cut + suc digits) x y digits cut
  pub more_below : more + suc digits ≤ w.wire
  pub less_below : less + suc digits ≤ w.wire

-- For a way with the parts at x and y, and `gates` gates after it that compare it with the word at v.
pub record WayReady (w : Writer) (gates v x y digits cut : ℕ) : Type 0 where
  pub room : Room w (order_size digits cut + suc digits + gates)
  pub word_below : v + suc digits ≤ w.wire
  pub to_below : x + suc digits ≤ w.wire
  pub from_below : y + suc digits ≤ w.wire
  pub within : cut ≤ digits
