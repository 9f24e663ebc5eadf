-- The entry point [trustee-start].
use Rattle.std.specs.Prelude.{◌&&◌, List, [], ◌∷◌, ◌++◌, ℕ, eqb, length}
use Rattle.std.proofs.Math.Option.{Option}
use Rattle.gates.specs.Gate.{gates_of}
use Rattle.gates.specs.Board.{conditional_count}
use Rattle.jury.specs.declared.shape.Shape.{Shape}
use Rattle.jury.specs.Shape.{ballot_bytes}
use Rattle.jury.specs.Reason.{Reason, unless, first_of}
use Rattle.tally.specs.Answer.{Outcome, outcome, Size, size_of, afterwards}
use Rattle.tally.specs.Test.{test_reasons, test_reason_numbers}
use Rattle.trustee_gates.specs.Dealing.{only_bits}
use Rattle.trustee_rounds.specs.Rounds.{start_wires, start_published}
use Rattle.trustee_alone.specs.Own.{is_trustee, own_tables_fit, OwnResult}

-- The reasons of one trustee's number and tables, in the order of their tests: 16, 17, 18. Only all trustees
-- together could test whether parts add up.
unfoldable pub own_reasons : ℕ → ℕ → Size → ℕ → ℕ → List ℕ → List ℕ → List ℕ → List ℕ → List (Option Reason)
own_reasons inputs k size t p shares triples wire_parts published =
    unless (is_trustee t p) 16
    ∷ unless (eqb (length shares) inputs && own_tables_fit inputs k size triples wire_parts published) 17
    ∷ unless (only_bits shares && only_bits triples) 18
    ∷ []

-- All reasons: 1, 2 and 3 of the list come first.
unfoldable pub start_reasons : Shape → List ℕ → ℕ → ℕ → List ℕ → List ℕ → List ℕ → List ℕ → List (Option Reason)
start_reasons s table t p shares triples wire_parts published =
    test_reasons s table
    ++ own_reasons (ballot_bytes s) s.candidates (size_of (gates_of table)) t p shares triples wire_parts published

abbrev pub start_reason_numbers : List ℕ
start_reason_numbers = test_reason_numbers ++ 16 ∷ 17 ∷ 18 ∷ []

-- The answer: a reason, or G and C.
unfoldable pub start_outcome : Shape → List ℕ → ℕ → ℕ → List ℕ → List ℕ → List ℕ → List ℕ → Outcome Size
start_outcome s table t p shares triples wire_parts published =
    outcome (first_of (start_reasons s table t p shares triples wire_parts published)) (size_of (gates_of table))

-- The wire parts after the call; a refusal changes nothing.
unfoldable pub started_wires : Shape → List ℕ → ℕ → ℕ → List ℕ → List ℕ → List ℕ → List ℕ → List ℕ
started_wires s table t p shares triples wire_parts published =
    afterwards (first_of (start_reasons s table t p shares triples wire_parts published))
    (start_wires (length (gates_of table)) shares) wire_parts

-- The published bits after the call; a refusal changes nothing.
unfoldable pub started_published : Shape → List ℕ → ℕ → ℕ → List ℕ → List ℕ → List ℕ → List ℕ → List ℕ
started_published s table t p shares triples wire_parts published =
    afterwards (first_of (start_reasons s table t p shares triples wire_parts published))
    (start_published (conditional_count (gates_of table)) s.candidates) published

-- What a call leaves: the contract of `start` is an equation with this.
abbrev pub start_result : Shape → List ℕ → ℕ → ℕ → List ℕ → List ℕ → List ℕ → List ℕ → OwnResult Size
start_result s table t p shares triples wire_parts published =
    record {
      answer = start_outcome s table t p shares triples wire_parts published;
      wires = started_wires s table t p shares triples wire_parts published;
      published = started_published s table t p shares triples wire_parts published;
    }
