-- `graded_sums::sums::worst_levels` meets its contract: it is `count_levels` for the worst grade's bits.
-- Assumes nothing.
use mathlib.Core.Path.{sym, subst₂}
use Prim.Native.Nat.{ℕ, ◌-◌}
use native.Mathlib.Omega.{arith}
use Rattle.gate_words.specs.Word.{Below}
use Rattle.gate_words.specs.Writing.{Wrote}
use Rattle.gate_words.specs.Counter.{count_levels}
use Rattle.graded_circuit.specs.RunningSums.{worst_levels}
use Rattle.graded_circuit.proofs.PlanFacts.{bits_below, worst_countable}
use Rattle.graded_sums.proofs.Writers.{apart_most}
use Rattle.graded_sums.proofs.sums.worst_levels.Goals as goal

pub count_levels-requires : goal.count_levels-requires
count_levels-requires c =
    let a = c.args in
    let q = c.requires in
    let f = q.planned in
    record {
      room = q.room;
      below = subst₂ (λ (x y : ℕ). Below a.w.wire x y a.p.ballots)
          (sym c.bits_at-bits.ensures) (sym c.apart-stride.ensures)
          (bits_below a.p f a.w.wire a.c (a.p.grades - 1) q.inputs q.candidate (omega (arith, f.d_least)));
      near = omega (arith, c.apart-stride.ensures, apart_most a.p f);
      few = omega (arith, f.n_most);
      countable = worst_countable a.p f;
    }

pub returns : goal.returns
unfolding worst_levels
returns c =
    let h = c.count_levels in
    let a = c.args in
    subst₂ (λ (x y : ℕ). Wrote a.w a.table.now
    (count_levels a.w.wire x y a.p.ballots a.p.worst a.p.digits) h.new.table h.result)
    c.bits_at-bits.ensures c.apart-stride.ensures h.ensures
