-- What the test of a list establishes.
-- Assumes nothing.
use Rattle.std.specs.Prelude.{Option, Some, None, Result, Ok, Err}
use mathlib.Core.Path.{◌≡◌, refl, sym, ap}
use mathlib.Core.Bool.{Bool, true, false, cond, not}
use mathlib.Core.List.{List}
use Prim.Native.Nat.{ℕ, ◌/◌, ◌%◌, ◌≤◌}
use native.Mathlib.Omega.{arith}
use lib.Dec.{ltb, eqb}
use lib.ListN.{length}
use borrow.Author.Tests.{eqb-true, ltb-false}
use Rattle.gates.specs.Open.Gate.{gates_of}
use Rattle.gates.specs.Open.Board.{conditional_count}
use Rattle.gates.specs.Open.Test.{first_bad, judged, tested}
use Rattle.gates.specs.declared.list.ListSize.{ListSize}
use Rattle.gates.specs.declared.list.ListFault.{ListFault}
use Rattle.gates.specs.declared.list.ListFault.TheVariants as list
use Rattle.gates.specs.Open.Test.{accepted}
use Rattle.gates.proofs.Table.{length_gates}

-- what is known of an accepted list
pub record AcceptedList (inputs k : ℕ) (table : List ℕ) (gates conditional : ℕ) : Type 0 where
  pub whole : length table % 4 ≡ 0
  pub enough : k ≤ length (gates_of table)
  pub few : length (gates_of table) ≤ 1048576
  pub good : first_bad inputs 0 (gates_of table) ≡ None
  pub gates_are : gates ≡ length (gates_of table)
  pub conditional_are : conditional ≡ conditional_count (gates_of table)

-- the numbers of gates in an answer, 0 in a refusal
gates_in : Result ListSize ListFault → ℕ
gates_in (Ok s) = s.gates
gates_in (Err _) = 0

conditional_in : Result ListSize ListFault → ℕ
conditional_in (Ok s) = s.conditional
conditional_in (Err _) = 0

module _ (inputs k : ℕ) (table : List ℕ) (gates conditional : ℕ) where
  judged_accepted : length table % 4 ≡ 0 → k ≤ length (gates_of table) → length (gates_of table) ≤ 1048576
      → (p : Option ℕ) → first_bad inputs 0 (gates_of table) ≡ p
      → judged p (length (gates_of table)) (conditional_count (gates_of table)) ≡ accepted gates conditional
      → AcceptedList inputs k table gates conditional
  unfolding judged gates_in conditional_in
  judged_accepted w n m (Some g) q e = let z : ◌≡◌ {A = ℕ} 0 1 = cc in absurd (omega arith)
  judged_accepted w n m None q e =
      record {
        whole = w;
        enough = n;
        few = m;
        good = q;
        gates_are = sym (ap gates_in e);
        conditional_are = sym (ap conditional_in e);
      }

  pub accepted_list : tested inputs k table ≡ accepted gates conditional → AcceptedList inputs k table gates conditional
  unfolding tested
  accepted_list e = whole (eqb (length table % 4) 0) refl e
    where
      answer : Result ListSize ListFault
      answer = judged (first_bad inputs 0 (gates_of table)) (length (gates_of table)) (conditional_count (gates_of table))

      few : length table % 4 ≡ 0 → k ≤ length table / 4 → (t : Bool) → ltb 1048576 (length table / 4) ≡ t
          → cond t (Err list.TooManyGates) answer ≡ accepted gates conditional
          → AcceptedList inputs k table gates conditional
      few w n true p e = let z : ◌≡◌ {A = ℕ} 0 1 = cc in absurd (omega arith)
      few w n false p e =
          judged_accepted w (omega (arith, length_gates table))
          (omega (arith, length_gates table, ltb-false 1048576 (length table / 4) p))
          (first_bad inputs 0 (gates_of table)) refl e

      enough : length table % 4 ≡ 0 → (t : Bool) → ltb (length table / 4) k ≡ t
          → cond t (Err list.TooFewGates) (cond (ltb 1048576 (length table / 4)) (Err list.TooManyGates) answer)
          ≡ accepted gates conditional → AcceptedList inputs k table gates conditional
      enough w true p e = let z : ◌≡◌ {A = ℕ} 0 1 = cc in absurd (omega arith)
      enough w false p e = few w (ltb-false (length table / 4) k p) (ltb 1048576 (length table / 4)) refl e

      whole : (t : Bool) → eqb (length table % 4) 0 ≡ t
          → cond (not t) (Err list.PartOfAGate)
          (cond (ltb (length table / 4) k) (Err list.TooFewGates)
          (cond (ltb 1048576 (length table / 4)) (Err list.TooManyGates) answer)) ≡ accepted gates conditional
          → AcceptedList inputs k table gates conditional
      whole true p e = enough (eqb-true (length table % 4) 0 p) (ltb (length table / 4) k) refl e
      whole false p e = let z : ◌≡◌ {A = ℕ} 0 1 = cc in absurd (omega arith)
