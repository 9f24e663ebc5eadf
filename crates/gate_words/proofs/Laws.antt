-- What the layers above use: for each block, what its wires compute, that it is well-formed, and its number of
-- gates.
-- Assumes nothing.

-- words and the bits that they are made of
pub use Rattle.gate_words.proofs.Numbers.{Binary, ones_none, ones_more, number_less, number_split, number_one, number_none, number_more}
pub use Rattle.basics.proofs.Arithmetic.{bit_cases}
pub use Rattle.gate_words.proofs.Places.{below_more, below_first, below_rest}
-- what the wires of a block compute
pub use Rattle.gate_words.proofs.ChoiceLaws.{choose_one, choose_zero, masked_one, masked_zero, any_one, any_zero}
pub use Rattle.gate_words.proofs.AdderLaws.{full_law, half_law, increment_law}
pub use Rattle.gate_words.proofs.ComparisonLaws.{first_up, first_down, words_up, words_down, above_law, above_words, above_one, above_zero}
pub use Rattle.gate_words.proofs.CounterLaws.{level_law, parity_law, counter_law, countable}
pub use Rattle.gate_words.proofs.HalvesLaws.{Tells, any_halves_zero, any_halves_one, unequal_halves_zero, unequal_halves_one, compare_halves_law}
pub use Rattle.gate_words.proofs.ReachLaws.{Reaches, reach_law}
-- operands that point back
pub use Rattle.gate_words.proofs.PointsBack.{full_good, half_good, increment_good, choose_good, masked_good, chain_good, any_good, first_digit_good, compare_good, differences_good, above_good, level_good, counter_good}
pub use Rattle.gate_words.proofs.HalvesLaws.{any_halves_good, unequal_halves_good, compare_halves_good}
-- numbers of gates
pub use Rattle.gate_words.proofs.ChoiceSteps.{length_choose, length_masked, length_chain}
pub use Rattle.gate_words.proofs.WordSteps.{length_full, length_half, length_increment, length_first_digit, length_compare, length_differences, length_above}
pub use Rattle.gate_words.proofs.CounterSteps.{length_level, length_count, length_digits, length_counter}
pub use Rattle.gate_words.proofs.HalvesLaws.{length_any_halves, length_unequal_halves, length_compare_halves}
