-- `graded_contest::tie_break::chosen_high` meets its contract: it computes the definition.
-- Assumes nothing.
use mathlib.Core.Path.{◌≡◌, refl}
use Prim.Native.Nat.{ℕ, zero, suc, ◌+◌, ◌/◌}
use native.Mathlib.Omega.{arith}
use Rattle.graded_circuit.specs.TieBreak.{chosen_high}
use Rattle.graded_contest.proofs.tie_break.chosen_high.Goals as goal

without_choice : (r h t : ℕ) → t ≡ 0 → h ≡ chosen_high r h t
unfolding chosen_high
without_choice r h t e = rw e

with_choice : (r h t : ℕ) → (t ≡ 0 → ⊥) → (r + 1) / 2 ≡ chosen_high r h t
unfolding chosen_high
with_choice r h zero e = absurd (e refl)
with_choice r h (suc t) e = omega arith

pub returns-then-between-eq0 : goal.returns-then-between-eq0
returns-then-between-eq0 c = let a = c.args in without_choice a.above a.high a.between c.if-between-eq0.true

pub returns : goal.returns
returns c = let a = c.args in with_choice a.above a.high a.between c.if-between-eq0.false
