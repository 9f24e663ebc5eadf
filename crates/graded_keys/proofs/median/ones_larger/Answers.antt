-- `graded_keys::median::ones_larger` meets its contract, case by case.
-- Assumes nothing.
use mathlib.Core.Path.{◌∙◌, sym, ap}
use Prim.Native.Nat.{ℕ, ◌+◌, ◌-◌}
use native.Mathlib.Omega.{arith}
use Rattle.graded_circuit.specs.Median.{left_digit, ones_span}
use Rattle.graded_circuit.proofs.MedianLaws.{ones_span_lem}
use Rattle.graded_keys.proofs.Steps.{larger_single, larger_several, some_later}
use Rattle.graded_keys.proofs.median.ones_larger.Goals as goal

pub chain_end-requires : goal.chain_end-requires
chain_end-requires c = let a = c.args in
    omega (arith, c.requires.span, c.requires.small, ones_span_lem a.count a.above)

pub returns-then-above-eq0 : goal.returns-then-above-eq0
returns-then-above-eq0 c = let a = c.args in
    c.chain_end.ensures ∙ sym (larger_single (a.n + ones_span a.count a.above)
    (left_digit a.n a.x a.count) a.above c.if-above-eq0.true)

pub overflow_sub-result : goal.overflow_sub-result
overflow_sub-result c = let a = c.args in
    omega (arith, c.requires.span, some_later a.count a.above c.if-above-eq0.false)

pub returns : goal.returns
returns c = let a = c.args in
    ap (λ (k : ℕ). k - 1) c.requires.span
    ∙ sym (larger_several (a.n + ones_span a.count a.above) (left_digit a.n a.x a.count)
    a.above c.if-above-eq0.false)
