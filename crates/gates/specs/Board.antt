-- The board: what a run publishes.
pub use Rattle.gates.specs.Open.Board.{conditionals, conditional_count, shown_bit, shown_bits, board_of, Bits, MaskTape}
