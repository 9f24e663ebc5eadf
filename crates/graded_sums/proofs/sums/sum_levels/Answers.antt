-- `graded_sums::sums::sum_levels` meets its contract: it is `count_levels` for the bits that the grade's sum counts.
-- Assumes nothing.
use mathlib.Core.Path.{sym, subst₂}
use Prim.Native.Nat.{ℕ}
use native.Mathlib.Omega.{arith}
use Rattle.gate_words.specs.Word.{Below}
use Rattle.graded_circuit.proofs.PlanFacts.{first_countable}
use Rattle.graded_circuit.proofs.CandidateBlocks.{counted_below}
use Rattle.graded_sums.proofs.Writers.{row_apart_most}
use Rattle.graded_sums.proofs.sums.sum_levels.Goals as goal

pub count_levels-requires : goal.count_levels-requires
count_levels-requires c =
    let a = c.args in
    let q = c.requires in
    let f = q.part.planned in
    record {
      room = q.part.room;
      below = subst₂ (λ (x y : ℕ). Below a.w.wire x y a.p.ballots)
          (sym c.row_at-row.ensures) (sym c.row_apart-step.ensures)
          (counted_below a.p f a.n a.w.wire a.c a.g q.part.inputs q.part.candidate q.row);
      near = omega (arith, c.row_apart-step.ensures, row_apart_most a.p f a.g);
      few = omega (arith, f.n_most);
      countable = first_countable a.p f;
    }
