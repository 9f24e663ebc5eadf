-- What the evaluation requires of its caller, and what it leaves.
use Rattle.std.specs.Prelude.{◌≡◌, List, ℕ, ◌+◌, ◌*◌, ◌≤◌, ◌<◌, length, take, None}
use Rattle.std.proofs.lemmas.List.Edits.{sets}
use Rattle.gates.specs.Gate.{gates_of}
use Rattle.gates.specs.Board.{conditional_count}
use Rattle.gates.specs.Test.{first_bad}
use Rattle.trustee_shares.specs.Shares.{parts_of}
use Rattle.trustee_shares.specs.Views.{Dealing, piece, joined, masked_factors, wire_parts_of, published_of}
use Rattle.trustee_gates.specs.declared.gate.Pieces.{Pieces}

-- The gates are good and there is at least one input; the tables have room for all parts, triples and factors of t
-- trustees.
pub record RunReady (t : ℕ) (pieces : Pieces) (inputs : ℕ) (table triples wires published : List ℕ) : Type 0 where
  pub some_input : 1 ≤ inputs
  pub few : inputs + length (gates_of table) < 1073741824
  pub good : first_bad inputs 0 (gates_of table) ≡ None
  pub wires_size : pieces.wires ≡ inputs + length (gates_of table)
  pub triples_size : 3 * conditional_count (gates_of table) ≤ pieces.triples
  pub published_size : 2 * conditional_count (gates_of table) ≤ pieces.published
  pub wires_length : length wires ≡ t * pieces.wires
  pub triples_length : length triples ≡ t * pieces.triples
  pub published_length : length published ≡ t * pieces.published

-- The same for the whole evaluation: there are at least k gates, and the tables have exactly the lengths of request
-- 2.7.
pub record EvaluateReady (t inputs : ℕ) (table : List ℕ) (conditional k : ℕ)
    (ballot_parts triples wires published : List ℕ) : Type 0 where
  pub some_input : 1 ≤ inputs
  pub few : inputs + length (gates_of table) < 1073741824
  pub good : first_bad inputs 0 (gates_of table) ≡ None
  pub enough : k ≤ length (gates_of table)
  pub conditional_is : conditional ≡ conditional_count (gates_of table)
  pub ballot_length : length ballot_parts ≡ t * inputs
  pub triples_length : length triples ≡ t * (3 * conditional)
  pub wires_length : length wires ≡ t * (inputs + length (gates_of table))
  pub published_length : length published ≡ t * (2 * conditional + k)

-- The tables after all gates. The inputs were at the start of each trustee's wire parts.
pub record GatesRan (t : ℕ) (pieces : Pieces) (inputs : ℕ) (table triples wires published wires' published' : List ℕ) :
    Type 0 where
  pub parts : wires' ≡ joined t (parts_of t (piece pieces.triples triples)
      (λ p. take inputs (piece pieces.wires wires p)) 0 (gates_of table))
  pub shown : published' ≡ joined t (λ p. sets (piece pieces.published published p) 0
      (masked_factors (parts_of t (piece pieces.triples triples) (λ q. take inputs (piece pieces.wires wires q)) 0
      (gates_of table) p) (piece pieces.triples triples p) 0 (gates_of table)))

-- The tables after the whole evaluation.
pub record Evaluated (t inputs : ℕ) (table : List ℕ) (k : ℕ) (d : Dealing) (wires' published' : List ℕ) : Type 0 where
  pub parts : wires' ≡ joined t (wire_parts_of t inputs (gates_of table) d)
  pub shown : published' ≡ joined t (published_of t inputs (gates_of table) k d)
