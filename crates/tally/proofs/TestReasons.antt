-- What the test of a list answers, from the tests of its shape and of its gates.
-- Assumes nothing.
use Rattle.std.specs.Prelude.{Result, Ok, Err}
use mathlib.Core.Path.{◌≡◌, ◌∙◌, refl, sym, ap}
use mathlib.Core.Bool.{Bool, true, false}
use mathlib.Core.Option.{Option, none, some}
use mathlib.Core.List.{List, [], ◌∷◌, ◌++◌}
use Prim.Native.Nat.{ℕ}
use native.Mathlib.Omega.{arith}
use lib.ListN.{length}
use Rattle.gates.specs.Gate.{gates_of}
use Rattle.gates.specs.Board.{conditional_count}
use Rattle.gates.specs.Test.{tested}
use Rattle.gates.specs.Test as gate_test
use Rattle.gates.specs.declared.list.ListSize.{ListSize}
use Rattle.gates.specs.declared.list.ListFault.{ListFault}
use Rattle.gates.proofs.Evaluating.{accepted_list}
use Rattle.jury.specs.declared.shape.Shape.{Shape}
use Rattle.jury.specs.Shape.{within_limits, ballot_bytes}
use Rattle.jury.specs.Reason.{Reason, reason_at, reason_of, refusal_of, unless, list_reason, first_of}
use Rattle.tally.specs.Answer.{refused, accepted, outcome, Size, size_of}
use Rattle.tally.specs.Test.{test_reasons, test_outcome}

-- the first reason of two groups of tests
unfoldable pub or_else : Option Reason → Option Reason → Option Reason
or_else none other = other
or_else (some r) other = some r

pub first_append : (xs ys : List (Option Reason)) → first_of (xs ++ ys) ≡ or_else (first_of xs) (first_of ys)
unfolding first_of or_else
first_append [] ys = refl
first_append (none ∷ xs) ys = first_append xs ys
first_append (some r ∷ xs) ys = refl

-- an answer is a refusal or an acceptance, never both
pub never : {A : Type 0} (values : Size) (r : Reason) → refused r ≡ accepted values → A
never values r e = let z : ◌≡◌ {A = ℕ} 0 1 = cc in absurd (omega arith)

module _ (s : Shape) (table : List ℕ) where
  -- the first reason, from the outcomes of the two tests
  by : Bool → Result ListSize ListFault → Option Reason
  by within t = first_of (unless within 1 ∷ list_reason t ∷ [])

  reasons_by : (within : Bool) (t : Result ListSize ListFault) → within_limits s ≡ within
      → tested (ballot_bytes s) s.candidates table ≡ t → first_of (test_reasons s table) ≡ by within t
  unfolding test_reasons by
  reasons_by within t w e =
      ap (λ (b : Bool). first_of (unless b 1 ∷ list_reason (tested (ballot_bytes s) s.candidates table) ∷ [])) w
      ∙ ap (λ (u : Result ListSize ListFault). first_of (unless within 1 ∷ list_reason u ∷ [])) e

  pub outside_list : within_limits s ≡ false → test_outcome s table ≡ refused (reason_at 1 0)
  unfolding test_outcome outcome by unless first_of
  outside_list w = ap (λ (r : Option Reason). outcome r (size_of (gates_of table)))
      (reasons_by false (tested (ballot_bytes s) s.candidates table) w refl)

  module _ (w : within_limits s ≡ true) where
    pub list_refused : (t : Result ListSize ListFault) (r : Reason) → tested (ballot_bytes s) s.candidates table ≡ t
        → list_reason t ≡ some r → test_outcome s table ≡ refused r
    unfolding test_outcome outcome by unless first_of
    list_refused t r e f =
        ap (λ (o : Option Reason). outcome o (size_of (gates_of table))) (reasons_by true t w e)
        ∙ ap (λ (o : Option Reason). outcome (first_of (o ∷ [])) (size_of (gates_of table))) f

    pub list_accepted : (gates conditional : ℕ) → tested (ballot_bytes s) s.candidates table ≡ gate_test.accepted gates conditional
        → test_outcome s table ≡ accepted (record { gates = gates; conditional = conditional })
    unfolding test_outcome outcome by unless first_of list_reason size_of
    list_accepted gates conditional e =
        let f = accepted_list (ballot_bytes s) s.candidates table gates conditional e in
        ap (λ (o : Option Reason). outcome o (size_of (gates_of table))) (reasons_by true (gate_test.accepted gates conditional) w e)
        ∙ ap (λ (n : ℕ). accepted (record { gates = n; conditional = (size_of (gates_of table)).conditional })) (sym f.gates_are)
        ∙ ap (λ (n : ℕ). accepted (record { gates = gates; conditional = n })) (sym f.conditional_are)

  sized : (g c : ℕ) → g ≡ length (gates_of table) → c ≡ conditional_count (gates_of table)
      → record { gates = g; conditional = c } ≡ size_of (gates_of table)
  unfolding size_of
  sized g c e f = ap (λ (n : ℕ). record { gates = n; conditional = c }) e
      ∙ ap (λ (n : ℕ). record { gates = length (gates_of table); conditional = n }) f

  passes : (g c : ℕ) → by true (gate_test.accepted g c) ≡ none
  unfolding by unless first_of list_reason
  passes g c = refl

  -- an accepted test: the shape is within its limits, the list passes, and the answer is the list's own size
  pub record TestPassed (values : Size) : Type 0 where
    pub within : within_limits s ≡ true
    pub tests : tested (ballot_bytes s) s.candidates table ≡ gate_test.accepted values.gates values.conditional
    pub reasons : first_of (test_reasons s table) ≡ none
    pub size : values ≡ size_of (gates_of table)

  pub test_passed : (values : Size) → test_outcome s table ≡ accepted values → TestPassed values
  test_passed values e = shape (within_limits s) refl
    where
      list : within_limits s ≡ true → (t : Result ListSize ListFault) → tested (ballot_bytes s) s.candidates table ≡ t → TestPassed values
      list w (Err f) p = never values (reason_of (refusal_of f)) (sym (list_refused w (Err f) (reason_of (refusal_of f)) p (unfold list_reason in refl)) ∙ e)
      list w (Ok z) p =
          let g = z.gates in
          let c = z.conditional in
          let q : accepted (record { gates = g; conditional = c }) ≡ accepted values = sym (list_accepted w g c p) ∙ e in
          let v : record { gates = g; conditional = c } ≡ values = cc in
          let f = accepted_list (ballot_bytes s) s.candidates table g c p in
          record {
            within = w;
            tests = p ∙ ap (λ (z : Size). gate_test.accepted z.gates z.conditional) v;
            reasons = reasons_by true (gate_test.accepted g c) w p ∙ passes g c;
            size = sym v ∙ sized g c f.gates_are f.conditional_are;
          }

      shape : (b : Bool) → within_limits s ≡ b → TestPassed values
      shape true w = list w (tested (ballot_bytes s) s.candidates table) refl
      shape false w = never values (reason_at 1 0) (sym (outside_list w) ∙ e)

  -- the converse
  pub test_passed_back : within_limits s ≡ true → (gates conditional : ℕ)
      → tested (ballot_bytes s) s.candidates table ≡ gate_test.accepted gates conditional → first_of (test_reasons s table) ≡ none
  test_passed_back w gates conditional e = reasons_by true (gate_test.accepted gates conditional) w e ∙ passes gates conditional
