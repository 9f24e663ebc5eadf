-- The length of the own list of a shape within its limits.
-- Assumes nothing.
use mathlib.Core.Path.{◌≡◌, subst, sym}
use mathlib.Core.Bool.{true}
use mathlib.Core.Logic.{⊎_elim}
use mathlib.Core.List.{List}
use Prim.Native.Nat.{ℕ, suc, ◌-◌, ◌≤◌, ◌<◌}
use native.Mathlib.Omega.{arith}
use lib.ListN.{length}
use borrow.Author.Tests.{ne_eqb}
use Rattle.gates.specs.Gate.{Gate}
use Rattle.jury.specs.declared.shape.Shape.{Shape}
use Rattle.jury.specs.Shape.{graded_limits}
use Rattle.jury.specs.Width.{width_of}
use Rattle.basics.proofs.Cases.{below_or_not}
use Rattle.jury.proofs.Limits.{within}
use Rattle.graded_circuit.specs.Plan.{plan_of}
use Rattle.graded_circuit.specs.OwnList.{circuit, own_grading}
use Rattle.graded_circuit.specs.Bound.{bound_of, grading_bound}
use Rattle.graded_circuit.proofs.Planning.{planned, top_width}
use Rattle.graded_circuit.proofs.BoundLaws.{gates_most, gates_small}
use Rattle.graded_circuit.proofs.Accuracy.{own_single}

-- the own list of two or more candidates is the circuit of the plan
pub circuit_list : (s : Shape) → (s.candidates ≡ 1 → ⊥) → own_grading s ≡ circuit (plan_of s)
unfolding own_grading
circuit_list s e = rw (ne_eqb s.candidates 1 e)

-- a bound for the length of the circuit, and of a single gate, is one for the length of the own list
either : (s : Shape) (bound : ℕ) → graded_limits s ≡ true → 1 ≤ bound
    → (1 < s.candidates → length (circuit (plan_of s)) ≤ bound) → length (own_grading s) ≤ bound
either s bound e one all = ⊎_elim
    (λ (l : 1 < s.candidates). subst (λ (gs : List Gate). length gs ≤ bound) (sym (circuit_list s (λ q. omega arith))) (all l))
    (λ (l : s.candidates ≤ 1). subst (λ (gs : List Gate). length gs ≤ bound) (sym (own_single s (omega (arith, (within s e).k_least)))) one)
    (below_or_not 1 s.candidates)

circuit_bound : (s : Shape) → graded_limits s ≡ true → 1 < s.candidates → length (circuit (plan_of s))
    ≤ bound_of s.candidates s.grades s.ballots (suc (width_of s.ballots - 1))
unfolding plan_of
circuit_bound s e l = gates_most (plan_of s) (planned s e) l

circuit_small : (s : Shape) → graded_limits s ≡ true → 1 < s.candidates → length (circuit (plan_of s)) ≤ 284000
unfolding plan_of
circuit_small s e l = gates_small (plan_of s) (planned s e) l

least_bound : (s : Shape) → 1 ≤ grading_bound s
unfolding grading_bound bound_of
least_bound s = omega arith

-- the bound [bound] with what [judgment-bound] adds
pub own_list_keeps_the_bound : (s : Shape) → graded_limits s ≡ true → length (own_grading s) ≤ grading_bound s
own_list_keeps_the_bound s e = either s (grading_bound s) e (least_bound s) bound
  where
    bound : 1 < s.candidates → length (circuit (plan_of s)) ≤ grading_bound s
    bound l = unfold grading_bound in
        (subst (λ (w : ℕ). length (circuit (plan_of s)) ≤ bound_of s.candidates s.grades s.ballots w)
        (top_width s.ballots (within s e).n_least) (circuit_bound s e l))

-- a list of that length is not too long for the test of a list
pub own_list_short : (s : Shape) → graded_limits s ≡ true → length (own_grading s) ≤ 1048576
own_list_short s e = either s 1048576 e (omega arith) (λ l. omega (arith, circuit_small s e l))
