-- `graded_keys::median::ones_differ` meets its contract, case by case.
-- Assumes nothing.
use mathlib.Core.Path.{◌∙◌, sym, ap}
use Prim.Native.Nat.{ℕ, ◌+◌, ◌-◌, ◌≤◌}
use native.Mathlib.Omega.{arith}
use Rattle.graded_circuit.specs.Median.{differ_at, ones_span}
use Rattle.graded_circuit.proofs.MedianLaws.{ones_span_lem}
use Rattle.graded_keys.proofs.Steps.{differ_single, differ_several, some_later}
use Rattle.graded_keys.proofs.median.ones_differ.Goals as goal
use Rattle.graded_keys.proofs.median.ones_differ.Goals.{Start}

-- the wire of the lowest digit's difference is before the end
inside : (s : Start) → differ_at s.args.n s.args.count + 1 ≤ s.args.end
inside s = omega (arith, s.requires.span, ones_span_lem s.args.count s.args.above)

pub overflow_add-result : goal.overflow_add-result
overflow_add-result c = omega (arith, inside (goal.at.overflow_add-result c).Start, c.requires.small)

pub overflow_add-result-then-above-eq0 : goal.overflow_add-result-then-above-eq0
overflow_add-result-then-above-eq0 c = omega (arith, inside (goal.at.overflow_add-result-then-above-eq0 c).Start, c.requires.small)

pub returns-then-above-eq0 : goal.returns-then-above-eq0
returns-then-above-eq0 c = let a = c.args in
    sym (differ_single (a.n + ones_span a.count a.above) (differ_at a.n a.count) a.above c.if-above-eq0.true)

pub overflow_sub-result-2 : goal.overflow_sub-result-2
overflow_sub-result-2 c = let a = c.args in
    omega (arith, c.requires.span, some_later a.count a.above c.if-above-eq0.false)

pub returns : goal.returns
returns c = let a = c.args in
    ap (λ (k : ℕ). k - 2) c.requires.span
    ∙ sym (differ_several (a.n + ones_span a.count a.above) (differ_at a.n a.count) a.above
    c.if-above-eq0.false)
