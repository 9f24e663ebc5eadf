-- What the functions for one gate require and leave.
use Rattle.std.specs.Prelude.{◌≡◌, true, cond, List, [], ◌∷◌, ℕ, ◌+◌, ◌*◌, ◌≤◌, ◌<◌, length}
use Rattle.gates.specs.Kind.{conditional_of, kind_count}
use Rattle.gates.specs.Gate.{Gate}
use Rattle.trustee_shares.specs.Shares.{masked_first, masked_second, opened_first, opened_second, new_part, mark_of}
use Rattle.trustee_shares.specs.Views.{piece}
use Rattle.trustee_gates.specs.declared.gate.Pieces.{Pieces}
use Rattle.trustee_gates.specs.declared.gate.Opened.{Opened}
use Rattle.trustee_gates.specs.inner.Tables.{each_puts}

-- Trustee p's parts of the operands are in the table.
pub record InWires (size : ℕ) (g : Gate) (p : ℕ) (wires : List ℕ) : Type 0 where
  pub a_in : g.a < size
  pub b_in : g.b < size
  pub c_in : g.c < size
  pub wires_reach : p * size + size ≤ length wires

-- Trustee p's bits of the i-th triple are in the table.
pub record InTriples (size i p : ℕ) (triples : List ℕ) : Type 0 where
  pub triple_in : 3 * i + 2 < size
  pub triples_reach : p * size + size ≤ length triples

-- Trustee p's parts of the operands and its bits of the triple are in the tables.
pub record FactorReady (pieces : Pieces) (g : Gate) (i p : ℕ) (triples wires : List ℕ) : Type 0 where
  pub operands : InWires pieces.wires g p wires
  pub triple : InTriples pieces.triples i p triples

-- The operands and the own wire of a gate are within the pieces of the wire table of t trustees.
pub record FreeReady (t size : ℕ) (g : Gate) (own : ℕ) (wires : List ℕ) : Type 0 where
  pub a_in : g.a < size
  pub b_in : g.b < size
  pub c_in : g.c < size
  pub own_in : own < size
  pub wires_length : length wires ≡ t * size

-- All trustees can publish their factors of the i-th conditional gate.
pub record PublishReady (t : ℕ) (pieces : Pieces) (g : Gate) (i : ℕ) (triples wires published : List ℕ)
    : Type 0 where
  pub a_in : g.a < pieces.wires
  pub b_in : g.b < pieces.wires
  pub c_in : g.c < pieces.wires
  pub triple_in : 3 * i + 2 < pieces.triples
  pub factors_in : 2 * i + 1 < pieces.published
  pub wires_length : length wires ≡ t * pieces.wires
  pub triples_length : length triples ≡ t * pieces.triples
  pub published_length : length published ≡ t * pieces.published

-- All trustees can enter their parts of the i-th conditional gate's wire.
pub record ProductReady (t : ℕ) (pieces : Pieces) (g : Gate) (own i : ℕ) (triples wires : List ℕ) : Type 0 where
  pub free : FreeReady t pieces.wires g own wires
  pub triple_in : 3 * i + 2 < pieces.triples
  pub triples_length : length triples ≡ t * pieces.triples

-- A gate, conditional or free: if it is conditional, the tables have places for its triple and its factors.
pub record GateReady (t : ℕ) (pieces : Pieces) (g : Gate) (own i : ℕ) (triples wires published : List ℕ)
    : Type 0 where
  pub free : FreeReady t pieces.wires g own wires
  pub known : g.kind < kind_count
  pub few : i + 1 < 2147483648
  pub triple_in : conditional_of g.kind ≡ true → 3 * i + 2 < pieces.triples
  pub factors_in : conditional_of g.kind ≡ true → 2 * i + 1 < pieces.published
  pub triples_length : length triples ≡ t * pieces.triples
  pub published_length : length published ≡ t * pieces.published

-- What trustee p publishes for the i-th conditional gate: both factors, masked.
abbrev pub both_masked : Pieces → Gate → ℕ → List ℕ → List ℕ → ℕ → List ℕ
both_masked pieces g i triples wires p =
    masked_first (piece pieces.wires wires p) (piece pieces.triples triples p) i g
    ∷ masked_second (piece pieces.wires wires p) (piece pieces.triples triples p) i g
    ∷ []

-- After all trustees have published for a gate: the opened sums, and the table with the published bits.
pub record Published (t : ℕ) (pieces : Pieces) (g : Gate) (i : ℕ) (triples wires old : List ℕ) (r : Opened)
    (new : List ℕ) : Type 0 where
  pub first : r.first
      ≡ opened_first t (piece pieces.triples triples) (piece pieces.wires wires) i g
  pub second : r.second
      ≡ opened_second t (piece pieces.triples triples) (piece pieces.wires wires) i g
  pub shown : new ≡ each_puts t pieces.published (2 * i) (λ p. both_masked pieces g i triples wires p) old

-- After one gate: the number of conditional gates so far, each trustee's part of the gate's wire, and what was
-- published.
pub record GateRan (t : ℕ) (pieces : Pieces) (g : Gate) (own i : ℕ) (triples wires old : List ℕ) (r : ℕ)
    (wires' new : List ℕ) : Type 0 where
  pub next : r ≡ i + mark_of g
  pub parts : wires' ≡ each_puts t pieces.wires own
      (λ p. new_part t (piece pieces.triples triples) (piece pieces.wires wires) i g p ∷ []) wires
  pub shown : new ≡ cond (conditional_of g.kind)
      (each_puts t pieces.published (2 * i) (λ p. both_masked pieces g i triples wires p) old) old
