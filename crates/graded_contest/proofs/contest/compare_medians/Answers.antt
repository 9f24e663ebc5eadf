-- `graded_contest::contest::compare_medians` meets its contract: it compares the flags that say which grades each
-- median is worse than.
-- Assumes nothing.
use mathlib.Core.Path.{sym, subst}
use Prim.Native.Nat.{◌-◌, ◌*◌, ◌≤◌}
use native.Mathlib.Nat.{mul-le-mul}
use native.Mathlib.Numerals.{add-one}
use native.Mathlib.Omega.{arith}
use Rattle.graded_circuit.specs.RunningSums.{word_span}
use Rattle.graded_circuit.specs.Median.{Fits}
use Rattle.graded_circuit.proofs.BoundLaws.{digits_most}
use Rattle.graded_circuit.proofs.ContestLaws.{grade_fits, flags_end}
use Rattle.graded_contest.proofs.contest.compare_medians.Goals as goal

pub compare_ones-requires : goal.compare_ones-requires
compare_ones-requires c = let a = c.args in
    let q = c.requires in
    let p = a.p in
    let f = q.planned in
    let short : (p.grades - 1) * word_span p ≤ 6 * 8 =
    mul-le-mul {n₁ = p.grades - 1} {m₁ = word_span p} {n₂ = 6} {m₂ = 8} (omega (arith, f.d_most))
    (omega (arith, digits_most p f)) in
    record {
      ones = record {
        room = q.room;
        first_below = flags_end p f a.y a.w.wire q.second_below;
        second_below = flags_end p f a.x a.w.wire q.first_below;
        short = omega (arith, short);
      };
      fits = subst (Fits (p.grades - 1)) (sym (add-one p.places)) (grade_fits p f);
    }
