-- What holds for a round if no reason applies.
-- Assumes nothing.
use mathlib.Core.Path.{◌≡◌, ◌∙◌, refl, sym, ap}
use mathlib.Core.Option.{none}
use mathlib.Core.List.{List}
use Prim.Native.Nat.{ℕ, ◌*◌, ◌≤◌}
use lib.Dec.{eqb}
use lib.ListN.{length}
use borrow.Author.Tests.{eqb-true, leb-true}
use Rattle.gates.specs.Gate.{gates_of}
use Rattle.gates.specs.Board.{conditional_count}
use Rattle.gate_levels.specs.Levels.{levels_of, rounds_of}
use Rattle.gate_levels.proofs.Laws.{length_levels}
use Rattle.jury.specs.declared.shape.Shape.{Shape}
use Rattle.jury.specs.Shape.{ballot_bytes}
use Rattle.jury.specs.Reason.{first_of}
use Rattle.basics.proofs.Flags.{and_first}
use Rattle.tally.specs.Answer.{size_of}
use Rattle.tally.specs.Test.{test_reasons, test_outcome}
use Rattle.tally.proofs.TestReasons.{test_passed}
use Rattle.levels.proofs.Reasons.{ListFacts, list_facts}
use Rattle.trustee_gates.specs.Dealing.{only_bits}
use Rattle.trustee_alone.specs.Rounds.{table_reasons, round_reasons}
use Rattle.trustee_alone.proofs.Tests.{passed, both_passed, outcome_none}
use Rattle.basics.proofs.Same.{same_true}
use Rattle.trustee_alone.proofs.Sizes.{Fit, fit}

pub record Passed (s : Shape) (table : List ℕ) (round : ℕ) (levels triples heard wire_parts published : List ℕ) : Type 0 where
  pub facts : ListFacts s table (length (gates_of table)) (conditional_count (gates_of table))
  pub lengths : Fit (ballot_bytes s) s.candidates (gates_of table) triples wire_parts published
  pub levels_are : levels ≡ levels_of (ballot_bytes s) (gates_of table)
  pub levels_length : length levels ≡ length (gates_of table)
  pub early : round ≤ rounds_of (ballot_bytes s) (gates_of table)
  pub heard_length : length heard ≡ 2 * conditional_count (gates_of table)

-- facts about a list that has passed its test
pub facts_by : (s : Shape) (table : List ℕ) → first_of (test_reasons s table) ≡ none
    → ListFacts s table (length (gates_of table)) (conditional_count (gates_of table))
unfolding size_of test_outcome
facts_by s table e = list_facts s table _ _
    (test_passed s table (size_of (gates_of table))
    (sym (outcome_none (first_of (test_reasons s table)) (size_of (gates_of table)) (size_of (gates_of table)) e refl)))

pub round_passed : (s : Shape) (table : List ℕ) (t p round : ℕ) (levels triples heard wire_parts published : List ℕ)
    → first_of (round_reasons s table t p round levels triples heard wire_parts published) ≡ none
    → Passed s table round levels triples heard wire_parts published
unfolding round_reasons table_reasons
round_passed s table t p round levels triples heard wire_parts published e =
    let inputs = ballot_bytes s in
    let gs = gates_of table in
    let two = both_passed (test_reasons s table) _ e in
    let after16 = (passed _ 16 _ two.1).1 in
    let at17 = passed _ 17 _ after16 in
    let after18 = (passed _ 18 _ at17.1).1 in
    let at200 = passed _ 200 _ after18 in
    let at201 = passed _ 201 _ at200.1 in
    let at202 = (passed _ 202 _ at201.1).0 in
    let same = same_true levels (levels_of inputs gs) at200.0 in
    record {
      facts = facts_by s table two.0;
      lengths = fit inputs s.candidates gs triples wire_parts published at17.0;
      levels_are = same;
      levels_length = ap length same ∙ length_levels inputs gs;
      early = leb-true round (rounds_of inputs gs) at201.0;
      heard_length = eqb-true (length heard) (2 * conditional_count gs)
          (and_first (eqb (length heard) (2 * conditional_count gs)) (only_bits heard) at202);
    }
