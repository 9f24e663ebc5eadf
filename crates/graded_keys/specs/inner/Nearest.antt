-- What choosing the words nearest to the median asks for: room for gates, operands that are wires already, and small
-- numbers.
use Rattle.std.specs.Prelude.{ℕ, suc, ◌+◌, ◌*◌, ◌≤◌, ◌<◌}
use Rattle.gate_words.specs.Writing.{Room}
use Rattle.gate_words.specs.declared.writer.Writer.{Writer}
use Rattle.graded_circuit.specs.Nearest.{stride, side_span, either_span}

-- For the flags of one grade, whose words are at x and y.
pub record SideReady (w : Writer) (x y above high : ℕ) : Type 0 where
  pub room : Room w (side_span above)
  pub first_below : x + stride above ≤ w.wire
  pub second_below : y + stride above ≤ w.wire
  pub cut : high ≤ above

-- For the flags of `count` grades.
pub record SidesReady (w : Writer) (x y above high count : ℕ) : Type 0 where
  pub room : Room w (count * side_span above)
  pub first_below : x + count * stride above ≤ w.wire
  pub second_below : y + count * stride above ≤ w.wire
  pub narrow : above ≤ 7
  pub cut : high ≤ above

-- For a choice between the words at x and y and those at u and v.
pub record EitherReady (w : Writer) (x y u v above : ℕ) : Type 0 where
  pub room : Room w (either_span above)
  pub x_below : x + suc above ≤ w.wire
  pub y_below : y + suc above ≤ w.wire
  pub u_below : u + suc above ≤ w.wire
  pub v_below : v + suc above ≤ w.wire

-- For the words of the last of `count` grades whose flag is 1. The flags start at wire f.
pub record LastReady (w : Writer) (f x y u v above count : ℕ) : Type 0 where
  pub room : Room w (count * either_span above)
  pub sides_below : f + count * side_span above < w.wire + side_span above
  pub x_below : x + count * stride above ≤ w.wire
  pub y_below : y + count * stride above ≤ w.wire
  pub u_below : u + suc above ≤ w.wire
  pub v_below : v + suc above ≤ w.wire
  pub narrow : above ≤ 7

-- For the words of the first such grade.
pub record FirstReady (w : Writer) (f x y u v above count : ℕ) : Type 0 where
  pub room : Room w (count * either_span above)
  pub sides_below : f + count * side_span above < w.wire + side_span above
  pub x_below : x + count * stride above ≤ w.wire
  pub y_below : y + count * stride above ≤ w.wire
  pub u_below : u + suc above ≤ w.wire
  pub v_below : v + suc above ≤ w.wire
  pub narrow : above ≤ 7
  pub few : count ≤ 6
