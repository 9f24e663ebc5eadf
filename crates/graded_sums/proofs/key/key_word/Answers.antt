-- `graded_sums::key::key_word` meets its contract: it is `count_digits` for the bits that the grade's sum counts.
-- Assumes nothing.
use native.Mathlib.Omega.{arith}
use Rattle.gates.proofs.Laws.{operand_counts_lem}
use Rattle.graded_circuit.proofs.PlanFacts.{first_countable}
use Rattle.graded_sums.proofs.key.key_word.Goals as goal

pub count_digits-requires : goal.count_digits-requires
count_digits-requires c =
    let q = c.requires.of.part in
    record {
      room = q.room;
      low_one = operand_counts_lem.2;
      top_one = operand_counts_lem.3;
      levels_below = c.requires.levels;
      few = omega (arith, q.planned.n_most);
      countable = first_countable c.args.p q.planned;
    }
