-- The numbers that the trustees' call leaves in its answer array.
use Rattle.std.specs.Prelude.{List, ◌++◌, ℕ}
use Rattle.tally.specs.Answer.{Outcome, Size}
use Rattle.c_answers.specs.Numbers.{answer_numbers, size_told}

-- The call tells G and C, then the sums of the closing bits as eight bytes. On a refusal all of these are 0.
abbrev pub tally_told : Outcome Size → List ℕ → List ℕ
tally_told outcome closing = size_told outcome ++ closing

abbrev pub tally_numbers : Outcome Size → List ℕ → List ℕ
tally_numbers outcome closing = answer_numbers outcome (tally_told outcome closing)
