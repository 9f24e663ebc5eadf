-- One trustee's tables.
use Rattle.std.specs.Prelude.{Bool, ◌&&◌, List, ℕ, ◌+◌, ◌*◌, eqb, leb, ltb, length}
use Rattle.tally.specs.Answer.{Outcome, Size}
use Rattle.trustees.specs.Reasons.{most_trustees}

-- Whether t is a number of trustees, and p, counted from 0, is one of the t trustees.
unfoldable pub is_trustee : ℕ → ℕ → Bool
is_trustee t p = leb 2 t && leb t most_trustees && ltb p t

-- Whether a trustee's triples, wire parts and published bits have the right lengths.
unfoldable pub own_tables_fit : ℕ → ℕ → Size → List ℕ → List ℕ → List ℕ → Bool
own_tables_fit inputs k size triples wire_parts published =
    eqb (length triples) (3 * size.conditional) && eqb (length wire_parts) (inputs + size.gates)
    && eqb (length published) (2 * size.conditional + k)

-- What a call leaves: its answer, the wire parts and what is published.
pub record OwnResult (Values : Type 0) : Type 0 where
  pub answer : Outcome Values
  pub wires : List ℕ
  pub published : List ℕ
