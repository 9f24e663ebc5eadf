-- `gates::list::test_gates` meets its contract: judging the rest, with the conditional gates counted so far, is
-- judging the whole list.
-- Assumes nothing.
use mathlib.Core.Path.{◌∙◌, sym, ap}
use mathlib.Core.Bool.{cond}
use Rattle.gates.specs.Open.Kind.{conditional_of}
use Prim.Native.Nat.{ℕ, ◌+◌}
use native.Mathlib.Numerals.{add-one}
use native.Mathlib.Omega.{arith}
use lib.ListN.{length, drop}
use Rattle.gates.specs.Open.Gate.{Gate, gates_of}
use Rattle.gates.specs.Open.Board.{conditional_count}
use Rattle.gates.specs.Open.Test.{good_gate, judged, first_bad}
use Rattle.gates.proofs.Table.{length_gates}
use Rattle.gates.proofs.Counting.{mark_at_most_one}
use Rattle.gates.proofs.Judging.{judges_bad, judges_good, judges_all}
use Rattle.gates.proofs.list.test_gates.Invariants.{answer}
use Rattle.gates.proofs.list.test_gates.Goals as goal

pub returns-then-not-gate_is_good : goal.returns-then-not-gate_is_good
returns-then-not-gate_is_good c = let a = c.args in
    judges_bad a.inputs a.table.now c.loop-g.g c.loop-g.conditional
    (answer a.inputs a.table.now) (omega (arith, length_gates a.table.now))
    (sym (c.if-not-gate_is_good.true) ∙ c.gate_is_good.ensures ∙ ap (good_gate (a.inputs + c.loop-g.g)) c.at-gate.ensures) c.loop-g.invariant.1

pub loop-g-preserved : goal.loop-g-preserved
loop-g-preserved c = let a = c.args in (
  omega (arith, c.mark-conditional.ensures, mark_at_most_one c.at-gate.result.kind),
  ap (λ (k : ℕ). judged (first_bad a.inputs k (drop k (gates_of a.table.now)))
      (length (gates_of a.table.now))
      (c.loop-g.conditional + c.mark-conditional.result + conditional_count (drop k (gates_of a.table.now))))
      (add-one c.loop-g.g)
      ∙ judges_good a.inputs a.table.now c.loop-g.g c.loop-g.conditional c.mark-conditional.result
      (answer a.inputs a.table.now) (omega (arith, length_gates a.table.now))
      (sym (c.if-not-gate_is_good.false) ∙ c.gate_is_good.ensures ∙ ap (good_gate (a.inputs + c.loop-g.g)) c.at-gate.ensures)
      (c.mark-conditional.ensures ∙ ap (λ (x : Gate). cond {A = ℕ} (conditional_of x.kind) 1 0) c.at-gate.ensures) c.loop-g.invariant.1,
)

pub returns : goal.returns
returns c = let a = c.args in
    judges_all a.inputs a.table.now c.loop-g.g c.loop-g.conditional _
    (answer a.inputs a.table.now) (sym (length_gates a.table.now)) (omega arith) c.loop-g.invariant.1
