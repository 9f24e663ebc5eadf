-- `graded_writer::merge::key_span` meets its contract: a word for each grade but the worst.
-- Assumes nothing.
use Prim.Native.Nat.{◌+◌, ◌-◌, ◌*◌, ◌≤◌}
use native.Mathlib.Nat.{mul-le-mul}
use native.Mathlib.Omega.{arith}
use Rattle.graded_circuit.specs.declared.plan.Plan.{Plan}
use Rattle.graded_circuit.specs.Plan.{Planned}
use Rattle.graded_circuit.proofs.BoundLaws.{digits_most}
use Rattle.graded_writer.proofs.merge.key_span.Goals as goal

small : (p : Plan) → Planned p → (p.grades - 1) * (p.digits + 1) ≤ 48
small p f =
    let h : (p.grades - 1) * (p.digits + 1) ≤ 6 * 8 =
    mul-le-mul {n₁ = p.grades - 1} {m₁ = p.digits + 1} {n₂ = 6} {m₂ = 8} (omega (arith, f.d_most))
    (omega (arith, digits_most p f)) in
    omega arith

pub overflow_add-result : goal.overflow_add-result
overflow_add-result c = omega (arith, digits_most c.args.p c.requires)

pub overflow_mul-result : goal.overflow_mul-result
overflow_mul-result c = omega (arith, small c.args.p c.requires)
