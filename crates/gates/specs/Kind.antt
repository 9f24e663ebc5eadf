-- The eight kinds of gates. The names come from `Open`; the layers above know them only by their laws.
pub use Rattle.gates.specs.Open.Kind.{kind_count, operand_counts, conditional_marks, operands_of, conditional_of, differ, chosen, value_of, applied}
