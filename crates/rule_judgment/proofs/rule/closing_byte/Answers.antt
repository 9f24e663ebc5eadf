-- `rule_judgment::rule::closing_byte` meets its contract, test by test.
-- Assumes nothing.
use mathlib.Core.Path.{◌∙◌, sym, ap}
use mathlib.Core.Bool.{Bool, cond}
use Prim.Native.Nat.{ℕ}
use native.Mathlib.Omega.{arith}
use Rattle.basics.proofs.Flags.{bit_is}
use Rattle.rule_judgment.proofs.SameCounts.{beside_past, beside_in}
use Rattle.rule_judgment.proofs.rule.closing_byte.Goals as goal

pub returns-then-shape-c : goal.returns-then-shape-c
returns-then-shape-c c = let a = c.args in
    sym (beside_past a.counts.now a.shape.candidates a.shape.grades a.first a.c (omega arith))

pub returns : goal.returns
returns c = let a = c.args in
    c.from.ensures ∙ bit_is c.same_counts.result
    ∙ ap (λ (t : Bool). cond {A = ℕ} t 1 0) c.same_counts.ensures.answer
    ∙ sym (beside_in a.counts.now a.shape.candidates a.shape.grades a.first a.c (omega arith))
