-- The entry point [trustee-round].
use Rattle.std.specs.Prelude.{◌&&◌, List, [], ◌∷◌, ◌++◌, ℕ, ◌*◌, eqb, leb, length}
use Rattle.std.proofs.Math.Option.{Option}
use Rattle.gates.specs.Gate.{Gate, gates_of}
use Rattle.gates.specs.Board.{conditional_count}
use Rattle.gate_levels.specs.Levels.{levels_of, rounds_of}
use Rattle.jury.specs.declared.shape.Shape.{Shape}
use Rattle.jury.specs.Shape.{ballot_bytes}
use Rattle.jury.specs.Reason.{Reason, unless, first_of}
use Rattle.tally.specs.Answer.{Outcome, outcome, size_of, afterwards}
use Rattle.tally.specs.Test.{test_reasons, test_reason_numbers}
use Rattle.levels.specs.Answer.{Depths, depths_of}
use Rattle.trustee_gates.specs.Dealing.{only_bits}
use Rattle.trustee_rounds.specs.Rounds.{Turn, enters, publishes, closes}
use Rattle.basics.specs.Lists.{same_numbers}
use Rattle.trustee_alone.specs.Own.{is_trustee, own_tables_fit, OwnResult}

-- The reasons after those of the list, in the order of their tests: 16, 17 and 18 of the trustee's number and
-- tables; 200 if the level table is not the list's own; 201 for a round above R; 202 if the sums are not two bits
-- for each conditional gate.
unfoldable pub table_reasons : ℕ → ℕ → List Gate → ℕ → ℕ → ℕ → List ℕ → List ℕ → List ℕ → List ℕ → List ℕ
    → List (Option Reason)
table_reasons inputs k gs t p round levels triples heard wire_parts published =
    unless (is_trustee t p) 16
    ∷ unless (own_tables_fit inputs k (size_of gs) triples wire_parts published) 17
    ∷ unless (only_bits triples) 18
    ∷ unless (same_numbers levels (levels_of inputs gs)) 200
    ∷ unless (leb round (rounds_of inputs gs)) 201
    ∷ unless (eqb (length heard) (2 * conditional_count gs) && only_bits heard) 202
    ∷ []

-- All reasons: 1, 2 and 3 of the list come first.
unfoldable pub round_reasons : Shape → List ℕ → ℕ → ℕ → ℕ → List ℕ → List ℕ → List ℕ → List ℕ → List ℕ
    → List (Option Reason)
round_reasons s table t p round levels triples heard wire_parts published =
    test_reasons s table
    ++ table_reasons (ballot_bytes s) s.candidates (gates_of table) t p round levels triples heard wire_parts
    published

abbrev pub round_reason_numbers : List ℕ
round_reason_numbers = test_reason_numbers ++ 16 ∷ 17 ∷ 18 ∷ 200 ∷ 201 ∷ 202 ∷ []

-- The answer: a reason, or G, C and R.
unfoldable pub round_outcome : Shape → List ℕ → ℕ → ℕ → ℕ → List ℕ → List ℕ → List ℕ → List ℕ → List ℕ → Outcome Depths
round_outcome s table t p round levels triples heard wire_parts published =
    outcome (first_of (round_reasons s table t p round levels triples heard wire_parts published))
    (depths_of (ballot_bytes s) (gates_of table))

-- What the trustee computes the round from: its own tables and the sums.
unfoldable pub own_turn : Shape → ℕ → ℕ → List ℕ → List ℕ → List ℕ → Turn
own_turn s p round levels triples heard =
    record { trustee = p; round = round; inputs = ballot_bytes s; levels = levels; triples = triples; heard = heard }

-- The wire parts after an accepted round.
unfoldable pub wires_made : Shape → List ℕ → ℕ → ℕ → List ℕ → List ℕ → List ℕ → List ℕ → List ℕ
wires_made s table p round levels triples heard wire_parts =
    enters (own_turn s p round levels triples heard) (gates_of table) 0 0 wire_parts

-- The published bits after an accepted round.
unfoldable pub published_made : Shape → List ℕ → ℕ → ℕ → List ℕ → List ℕ → List ℕ → List ℕ → List ℕ → List ℕ
published_made s table p round levels triples heard wire_parts published =
    closes round (rounds_of (ballot_bytes s) (gates_of table)) (conditional_count (gates_of table)) s.candidates
    (wires_made s table p round levels triples heard wire_parts)
    (publishes (own_turn s p round levels triples heard) (wires_made s table p round levels triples heard wire_parts)
    (gates_of table) 0 0 published)

-- The wire parts after the call; a refusal changes nothing.
unfoldable pub rounded_wires : Shape → List ℕ → ℕ → ℕ → ℕ → List ℕ → List ℕ → List ℕ → List ℕ → List ℕ → List ℕ
rounded_wires s table t p round levels triples heard wire_parts published =
    afterwards (first_of (round_reasons s table t p round levels triples heard wire_parts published))
    (wires_made s table p round levels triples heard wire_parts) wire_parts

-- The published bits after the call; a refusal changes nothing.
unfoldable pub rounded_published : Shape → List ℕ → ℕ → ℕ → ℕ → List ℕ → List ℕ → List ℕ → List ℕ → List ℕ → List ℕ
rounded_published s table t p round levels triples heard wire_parts published =
    afterwards (first_of (round_reasons s table t p round levels triples heard wire_parts published))
    (published_made s table p round levels triples heard wire_parts published) published

-- What a call leaves: the contract of `round` is an equation with this.
abbrev pub round_result : Shape → List ℕ → ℕ → ℕ → ℕ → List ℕ → List ℕ → List ℕ → List ℕ → List ℕ → OwnResult Depths
round_result s table t p round levels triples heard wire_parts published =
    record {
      answer = round_outcome s table t p round levels triples heard wire_parts published;
      wires = rounded_wires s table t p round levels triples heard wire_parts published;
      published = rounded_published s table t p round levels triples heard wire_parts published;
    }
