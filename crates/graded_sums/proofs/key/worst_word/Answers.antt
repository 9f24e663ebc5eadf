-- `graded_sums::key::worst_word` meets its contract: it is `count_digits` for the worst grade's bits.
-- Assumes nothing.
use mathlib.Core.Path.{subst}
use Prim.Native.Nat.{ℕ}
use native.Mathlib.Omega.{arith}
use Rattle.gates.proofs.Laws.{operand_counts_lem}
use Rattle.gate_words.specs.Writing.{Wrote}
use Rattle.gate_words.specs.Counter.{count_digits_as}
use Rattle.graded_circuit.specs.Key.{worst_word}
use Rattle.graded_circuit.proofs.PlanFacts.{worst_countable}
use Rattle.graded_sums.proofs.key.worst_word.Goals as goal

pub count_digits-requires : goal.count_digits-requires
count_digits-requires c =
    let q = c.requires.part in
    record {
      room = q.room;
      low_one = operand_counts_lem.3;
      top_one = operand_counts_lem.2;
      levels_below = c.requires.levels;
      few = omega (arith, q.planned.n_most);
      countable = worst_countable c.args.p q.planned;
    }

pub returns : goal.returns
unfolding worst_word
returns c =
    let h = c.count_digits in
    let a = c.args in
    subst (λ (x : ℕ). Wrote a.w a.table.now
    (count_digits_as 3 2 a.base x a.p.ballots a.p.worst a.p.digits) h.new.table h.result)
    c.bits_at-bits.ensures h.ensures
