-- What the call [levels] answers and leaves, from the outcomes of its tests.
-- Assumes nothing.
use mathlib.Core.Path.{◌≡◌, ◌∙◌, refl, sym, ap}
use mathlib.Core.Bool.{Bool, true, false}
use mathlib.Core.Option.{Option, none, some}
use mathlib.Core.List.{List, [], ◌∷◌}
use Prim.Native.Nat.{ℕ, ◌≤◌}
use native.Mathlib.Omega.{arith}
use lib.Dec.{eqb}
use lib.ListN.{length}
use borrow.Author.Tests.{eq-eqb, ne_eqb, eqb-true}
use Rattle.gates.specs.Gate.{gates_of}
use Rattle.gates.specs.Board.{conditional_count}
use Rattle.gates.specs.Test.{first_bad}
use Rattle.std.specs.Prelude.{None}
use Rattle.gates.proofs.Evaluating.{accepted_list}
use Rattle.gate_levels.specs.Levels.{levels_of, rounds_of}
use Rattle.jury.specs.declared.shape.Shape.{Shape}
use Rattle.jury.specs.Shape.{within_limits, ballot_bytes}
use Rattle.jury.specs.Reason.{Reason, reason_at, unless, first_of}
use Rattle.jury.proofs.Limits.{some_bytes}
use Rattle.tally.specs.Answer.{Outcome, refused, accepted, outcome, size_of, afterwards}
use Rattle.tally.specs.Test.{test_reasons, test_outcome}
use Rattle.tally.proofs.TestReasons.{or_else, first_append, TestPassed}
use Rattle.tally.proofs.RunReasons.{outcome_refused}
use Rattle.levels.specs.Answer.{Depths, depths_of}
use Rattle.levels.specs.Levels.{levels_reasons, levels_outcome, levels_written, LevelsResult, levels_result}

-- what an accepted test says about the list
pub record ListFacts (s : Shape) (table : List ℕ) (gates conditional : ℕ) : Type 0 where
  pub reasons : first_of (test_reasons s table) ≡ none
  pub within : within_limits s ≡ true
  pub some_input : 1 ≤ ballot_bytes s
  pub enough : s.candidates ≤ length (gates_of table)
  pub few : length (gates_of table) ≤ 1048576
  pub good : first_bad (ballot_bytes s) 0 (gates_of table) ≡ None
  pub gates_are : gates ≡ length (gates_of table)
  pub conditional_are : conditional ≡ conditional_count (gates_of table)

pub list_facts : (s : Shape) (table : List ℕ) (gates conditional : ℕ)
    → TestPassed s table (record { gates = gates; conditional = conditional }) → ListFacts s table gates conditional
list_facts s table gates conditional p =
    let f = accepted_list (ballot_bytes s) s.candidates table gates conditional p.tests in
    record {
      reasons = p.reasons;
      within = p.within;
      some_input = some_bytes s p.within;
      enough = f.enough;
      few = f.few;
      good = f.good;
      gates_are = f.gates_are;
      conditional_are = f.conditional_are;
    }

module _ (s : Shape) (table levels : List ℕ) where
  by : (o : Option Reason) (b : Bool) → first_of (test_reasons s table) ≡ o → eqb (length levels) (length (gates_of table)) ≡ b
      → first_of (levels_reasons s table levels) ≡ or_else o (first_of (unless b 200 ∷ []))
  unfolding levels_reasons
  by o b e f =
      first_append (test_reasons s table) (unless (eqb (length levels) (length (gates_of table))) 200 ∷ [])
      ∙ ap (λ (x : Option Reason). or_else x (first_of (unless (eqb (length levels) (length (gates_of table))) 200 ∷ []))) e
      ∙ ap (λ (x : Bool). or_else o (first_of (unless x 200 ∷ []))) f

  pub of_list : (r : Reason) → test_outcome s table ≡ refused r → first_of (levels_reasons s table levels) ≡ some r
  unfolding test_outcome or_else
  of_list r e = by (some r) _ (outcome_refused (first_of (test_reasons s table)) (size_of (gates_of table)) r e) refl

  pub other_length : first_of (test_reasons s table) ≡ none → (length levels ≡ length (gates_of table) → ⊥)
      → first_of (levels_reasons s table levels) ≡ some (reason_at 200 0)
  unfolding or_else unless first_of
  other_length e h = by none false e (ne_eqb (length levels) (length (gates_of table)) h)

  pub all_pass : first_of (test_reasons s table) ≡ none → length levels ≡ length (gates_of table)
      → first_of (levels_reasons s table levels) ≡ none
  unfolding or_else unless first_of
  all_pass e h = by none true e (eq-eqb (length levels) (length (gates_of table)) h)

  -- the converse: an accepted call has passed both tests
  pub both_passed : first_of (levels_reasons s table levels) ≡ none → (first_of (test_reasons s table) ≡ none)
      × (length levels ≡ length (gates_of table))
  unfolding or_else unless first_of
  both_passed e = go (first_of (test_reasons s table)) (eqb (length levels) (length (gates_of table))) refl refl
    where
      go : (o : Option Reason) (b : Bool) → first_of (test_reasons s table) ≡ o
          → eqb (length levels) (length (gates_of table)) ≡ b → (first_of (test_reasons s table) ≡ none)
          × (length levels ≡ length (gates_of table))
      go (some r) b f g = let q = sym (by (some r) b f g) ∙ e in let z : ◌≡◌ {A = ℕ} 0 1 = cc in absurd (omega arith)
      go none false f g = let q = sym (by none false f g) ∙ e in let z : ◌≡◌ {A = ℕ} 0 1 = cc in absurd (omega arith)
      go none true f g = (f, eqb-true (length levels) (length (gates_of table)) g)

  pub call_refused : (r : Reason) → first_of (levels_reasons s table levels) ≡ some r
      → ◌≡◌ {A = LevelsResult} (record { answer = refused r; levels = levels }) (levels_result s table levels)
  unfolding levels_outcome levels_written outcome afterwards
  call_refused r e = rw e

  pub call_accepted : first_of (levels_reasons s table levels) ≡ none
      → ◌≡◌ {A = LevelsResult} (record {
        answer = accepted (depths_of (ballot_bytes s) (gates_of table));
        levels =
            levels_of (ballot_bytes s) (gates_of table);
      }) (levels_result s table levels)
  unfolding levels_outcome levels_written outcome afterwards
  call_accepted e = rw e

-- two results are equal if their two parts are
pub same_result : {answer answer' : Outcome Depths} {levels levels' : List ℕ} → answer ≡ answer' → levels ≡ levels'
    → ◌≡◌ {A = LevelsResult} (record { answer = answer; levels = levels }) (record { answer = answer'; levels = levels' })
same_result {answer} {answer'} {levels} e f =
    ap (λ (z : Outcome Depths). record { answer = z; levels = levels }) e ∙ ap (λ (z : List ℕ). record { answer = answer'; levels = z }) f

-- the answer of an accepted call
pub depths_are : (inputs : ℕ) (table : List ℕ) (g c r : ℕ) → g ≡ length (gates_of table) → c
    ≡ conditional_count (gates_of table) → r ≡ rounds_of inputs (gates_of table)
    → record { gates = g; conditional = c; rounds = r } ≡ depths_of inputs (gates_of table)
unfolding depths_of
depths_are inputs table g c r eg ec er =
    ap (λ (n : ℕ). record { gates = n; conditional = c; rounds = r }) eg
    ∙ ap (λ (n : ℕ). record { gates = length (gates_of table); conditional = n; rounds = r }) ec
    ∙ ap (λ (n : ℕ). record { gates = length (gates_of table); conditional = conditional_count (gates_of table); rounds = n }) er
