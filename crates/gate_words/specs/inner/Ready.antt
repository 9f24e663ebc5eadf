-- What a block asks for: room for its gates, and operands that are wires already.
use Rattle.std.specs.Prelude.{◌≡◌, ℕ, ◌+◌, ◌≤◌, ◌<◌}
use Rattle.gates.specs.Kind.{operands_of}
use Rattle.gate_words.specs.Limits.{writer_limit}
use Rattle.gate_words.specs.Word.{Below}
use Rattle.gate_words.specs.Writing.{Room}
use Rattle.gate_words.specs.declared.writer.Writer.{Writer}

-- The operand is the word at x.
pub record WordReady (w : Writer) (gates x digits : ℕ) : Type 0 where
  pub room : Room w gates
  pub below : x + digits ≤ w.wire

-- The operands are the words at x and y.
pub record WordsReady (w : Writer) (gates x y digits : ℕ) : Type 0 where
  pub room : Room w gates
  pub first_below : x + digits ≤ w.wire
  pub second_below : y + digits ≤ w.wire

-- The operands are `count` wires, a stride apart.
pub record WiresReady (w : Writer) (gates first stride count : ℕ) : Type 0 where
  pub room : Room w gates
  pub below : Below w.wire first stride count
  pub near : stride < writer_limit

-- The operands are two rows of `count` wires, dx and dy apart.
pub record RowsReady (w : Writer) (x dx y dy count : ℕ) : Type 0 where
  pub room : Room w count
  pub first_below : Below w.wire x dx count
  pub first_near : dx < writer_limit
  pub second_below : Below w.wire y dy count
  pub second_near : dy < writer_limit

-- The same, and the kind has two operands.
pub record KindReady (w : Writer) (kind x dx y dy count : ℕ) : Type 0 where
  pub rows : RowsReady w x dx y dy count
  pub two : operands_of kind ≡ 2

-- The operands are `count` wires, a stride apart, and the kind has two operands.
pub record ChainReady (w : Writer) (kind first stride count : ℕ) : Type 0 where
  pub room : Room w count
  pub below : Below w.wire first stride count
  pub near : stride < writer_limit
  pub two : operands_of kind ≡ 2
