-- The examples hold by computation.
-- Assumes nothing.
use mathlib.Core.Path.{refl}
use mathlib.Core.Option.{bind}
use Rattle.gates.proofs.Laws.{operand_counts_lem}
use Rattle.text_lines.specs.Decimal.{decimal_within, decimal, is_digit, digits_in, number_in}
use Rattle.text_lines.specs.Line.{known_kind, operand_in, end_in, gate_in, only, gate_of}
use Rattle.text.specs.Text.{in_front, lines_of, malformed_at, first_malformed}
use Rattle.text.specs.Examples.{TextExamples}

pub text_examples : TextExamples
unfolding bind decimal_within decimal is_digit digits_in number_in known_kind operand_in end_in gate_in only gate_of in_front lines_of malformed_at
    first_malformed
text_examples =
    record {
      zero_is = refl;
      largest_is = refl;
      largest_read = refl;
      too_large = refl;
      copy_gate = rw operand_counts_lem.2 refl;
      leading_zero = rw operand_counts_lem.0 refl;
      open_line = rw operand_counts_lem.2 refl;
    }
