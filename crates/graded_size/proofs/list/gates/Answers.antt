-- `graded_size::list::gates` meets its contract: one gate, or those of the circuit.
-- Assumes nothing.
use mathlib.Core.Path.{◌∙◌, sym, ap, subst}
use Prim.Native.Nat.{◌<◌}
use native.Mathlib.Omega.{arith}
use lib.ListN.{length}
use Rattle.jury.proofs.Limits.{within_T, within_back}
use Rattle.graded_circuit.specs.declared.plan.Plan.{Plan}
use Rattle.graded_circuit.specs.Plan.{Planned, plan_of}
use Rattle.graded_circuit.specs.OwnList.{circuit}
use Rattle.graded_circuit.proofs.Planning.{planned}
use Rattle.graded_circuit.proofs.OwnListLaws.{circuit_list}
use Rattle.graded_circuit.proofs.Accuracy.{own_single}
use Rattle.graded_size.proofs.list.gates.Goals as goal
use Rattle.graded_size.proofs.list.gates.Goals.{After-new}

plan_planned : (c : After-new) → Planned c.new.result
plan_planned c =
    let s = c.args.shape in
    subst Planned (sym c.new.ensures) (planned s (within_back s (within_T s c.requires)))

plan_many : (c : After-new) → 1 < c.new.result.candidates
unfolding plan_of
plan_many c =
    let s = c.args.shape in
    omega (
      arith,
      ap (λ (p : Plan). p.candidates) c.new.ensures,
      (within_T s c.requires).k_least,
      c.if-shape-eq1.false,
    )

pub returns-then-shape-eq1 : goal.returns-then-shape-eq1
returns-then-shape-eq1 c = sym (ap length (own_single c.args.shape c.if-shape-eq1.true))

pub circuit_span-requires : goal.circuit_span-requires
circuit_span-requires c =
    let at = goal.at.circuit_span-requires c in
    record { plan = plan_planned at.After-new; several = plan_many at.After-new }

pub returns : goal.returns
returns c =
    let s = c.args.shape in
    c.circuit_span.ensures ∙ ap (λ (p : Plan). length (circuit p)) c.new.ensures
    ∙ sym (ap length (circuit_list s c.if-shape-eq1.false))
