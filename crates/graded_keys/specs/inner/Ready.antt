-- What comparing two numbers of ones asks for.
use Rattle.std.specs.Prelude.{◌≡◌, ℕ, ◌+◌, ◌*◌, ◌≤◌, ◌<◌}
use Rattle.gate_words.specs.declared.writer.Writer.{Writer}
use Rattle.gate_words.specs.Limits.{writer_limit}
use Rattle.gate_words.specs.Writing.{Room}
use Rattle.graded_circuit.specs.Median.{Fits, ones_span}

-- For the ones among `count` wires from x and from y on, a stride apart: they are wires already, within 2000 wires.
pub record OnesReady (w : Writer) (gates x y stride count : ℕ) : Type 0 where
  pub room : Room w gates
  pub first_below : x + count * stride < w.wire + stride
  pub second_below : y + count * stride < w.wire + stride
  pub short : count * stride ≤ 2000

-- For one digit: there is at least one wire.
pub record DigitReady (w : Writer) (gates x y stride count : ℕ) : Type 0 where
  pub ones : OnesReady w gates x y stride count
  pub some : 0 < count

-- For several digits: the numbers of ones need exactly these.
pub record DigitsReady (w : Writer) (gates x y stride count digits : ℕ) : Type 0 where
  pub ones : OnesReady w gates x y stride count
  pub fits : Fits count digits

-- For a comparison from wire n on that ends just before wire `end`.
pub record EndReady (n end count above : ℕ) : Type 0 where
  pub some : 0 < count
  pub span : end ≡ n + ones_span count above
  pub small : end < writer_limit
