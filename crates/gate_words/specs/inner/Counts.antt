-- What the functions that write counters ask for.
use Rattle.std.specs.Prelude.{◌≡◌, ℕ, ◌+◌, ◌≤◌, ◌<◌}
use Rattle.gates.specs.Kind.{operands_of}
use Rattle.gate_words.specs.Limits.{writer_limit}
use Rattle.gate_words.specs.Word.{Below}
use Rattle.gate_words.specs.Counter.{count_size, Countable}
use Rattle.gate_words.specs.Writing.{Room}
use Rattle.gate_words.specs.declared.writer.Writer.{Writer}

-- A level asks for room, and for `count` bits, a stride apart, that are wires already.
pub record LevelReady (w : Writer) (gates first stride count : ℕ) : Type 0 where
  pub room : Room w gates
  pub below : Below w.wire first stride count

-- A counter also asks that `levels` levels can count the bits and the public number `extra`.
pub record CountReady (w : Writer) (gates first stride count extra levels : ℕ) : Type 0 where
  pub room : Room w gates
  pub below : Below w.wire first stride count
  pub near : stride < writer_limit
  pub few : count < writer_limit
  pub countable : Countable count extra levels

-- The digits of a counter, by the kinds `low` and `top`, which have one operand. The levels are already written,
-- from wire `base` on.
pub record CountDigitsReady (w : Writer) (low top base count extra levels : ℕ) : Type 0 where
  pub room : Room w (levels + 1)
  pub low_one : operands_of low ≡ 1
  pub top_one : operands_of top ≡ 1
  pub levels_below : base + count_size count extra levels ≤ w.wire
  pub few : count < writer_limit
  pub countable : Countable count extra levels

-- Measuring the levels of a counter asks that the result is below the limit.
pub record CountSizeReady (count extra levels : ℕ) : Type 0 where
  pub few : count < writer_limit
  pub small : count_size count extra levels < writer_limit
  pub countable : Countable count extra levels
