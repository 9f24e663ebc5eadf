-- `graded_writer::merge::high_digits` meets its contract: it computes the definition.
-- Assumes nothing.
use mathlib.Core.Path.{◌≡◌}
use Prim.Native.Nat.{ℕ, ◌/◌, ◌≤◌, ◌<◌}
use borrow.Author.Tests.{le-leb, lt-leb}
use Rattle.graded_circuit.specs.declared.plan.Plan.{Plan}
use Rattle.graded_circuit.specs.Merge.{high_digits}
use Rattle.graded_writer.proofs.merge.high_digits.Goals as goal

single : (p : Plan) (both : ℕ) → both ≤ 2 → 0 ≡ high_digits p both
unfolding high_digits
single p both h = rw (le-leb both 2 h)

chosen : (p : Plan) (both : ℕ) → 2 < both → p.digits / 2 ≡ high_digits p both
unfolding high_digits
chosen p both h = rw (lt-leb both 2 h)

pub returns-then-both-le2 : goal.returns-then-both-le2
returns-then-both-le2 c = single c.args.p c.args.both c.if-both-le2.true

pub returns : goal.returns
returns c = chosen c.args.p c.args.both c.if-both-le2.false
