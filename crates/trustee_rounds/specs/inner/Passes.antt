-- What inner functions require and leave; no entry point's contract needs it.
use Rattle.std.specs.Prelude.{◌≡◌, true, List, ℕ, ◌+◌, ◌*◌, ◌≤◌, ◌<◌, length, None}
use Rattle.gates.specs.Kind.{conditional_of, kind_count}
use Rattle.gates.specs.Gate.{Gate, gates_of}
use Rattle.gates.specs.Board.{conditional_count}
use Rattle.gates.specs.Test.{first_bad}
use Rattle.trustee_rounds.specs.declared.round.Seat.{Seat}
use Rattle.trustee_rounds.specs.Rounds.{Turn, enters, publishes, closes}

-- The turn that the program's numbers and tables describe.
abbrev pub turn_by : Seat → List ℕ → List ℕ → List ℕ → Turn
turn_by seat levels triples heard = record {
  trustee =
      seat.trustee;
  round = seat.round;
  inputs = seat.inputs;
  levels = levels;
  triples = triples;
  heard = heard;
}

-- The operands are in the wire table.
pub record GateIn (g : Gate) (ws : List ℕ) : Type 0 where
  pub a_in : g.a < length ws
  pub b_in : g.b < length ws
  pub c_in : g.c < length ws

-- The same and, if the gate is conditional, its triple and its two sums are in their tables.
pub record PartReady (g : Gate) (i : ℕ) (triples heard ws : List ℕ) : Type 0 where
  pub operands : GateIn g ws
  pub known : g.kind < kind_count
  pub triple_in : conditional_of g.kind ≡ true → 3 * i + 2 < length triples
  pub sums_in : conditional_of g.kind ≡ true → 2 * i + 1 < length heard

pub record EnterReady (g : Gate) (own i : ℕ) (triples heard ws : List ℕ) : Type 0 where
  pub ready : PartReady g i triples heard ws
  pub own_in : own < length ws

pub record PublishReady (g : Gate) (i : ℕ) (triples ws published : List ℕ) : Type 0 where
  pub operands : GateIn g ws
  pub triple_in : conditional_of g.kind ≡ true → 3 * i + 2 < length triples
  pub places_in : conditional_of g.kind ≡ true → 2 * i + 1 < length published

-- The gates are good, there is at least one input, and the tables have the lengths of one trustee's tables.
pub record Pass (inputs : ℕ) (table levels triples ws : List ℕ) : Type 0 where
  pub some_input : 1 ≤ inputs
  pub few : inputs + length (gates_of table) < 1073741824
  pub good : first_bad inputs 0 (gates_of table) ≡ None
  pub levels_length : length levels ≡ length (gates_of table)
  pub triples_length : length triples ≡ 3 * conditional_count (gates_of table)
  pub wires_length : length ws ≡ inputs + length (gates_of table)

pub record EnterPass (seat : Seat) (table levels triples heard ws : List ℕ) : Type 0 where
  pub pass : Pass seat.inputs table levels triples ws
  pub heard_length : length heard ≡ 2 * conditional_count (gates_of table)

pub record PublishPass (inputs round : ℕ) (table levels triples ws published : List ℕ) : Type 0 where
  pub pass : Pass inputs table levels triples ws
  pub early : round < 1073741824
  pub published_length : 2 * conditional_count (gates_of table) ≤ length published

pub record RoundReady (seat : Seat) (conditional k : ℕ) (table levels triples heard ws published : List ℕ) : Type 0
  where
    pub pass : Pass seat.inputs table levels triples ws
    pub early : seat.round < 1073741824
    pub conditional_is : conditional ≡ conditional_count (gates_of table)
    pub enough : k ≤ length (gates_of table)
    pub heard_length : length heard ≡ 2 * conditional_count (gates_of table)
    pub published_length : length published ≡ 2 * conditional + k

-- After a round: the parts that were entered, and what was published.
pub record Turned (seat : Seat) (rounds conditional k : ℕ)
    (table levels triples heard ws published ws' published' : List ℕ) : Type 0 where
  pub parts : ws' ≡ enters (turn_by seat levels triples heard) (gates_of table) 0 0 ws
  pub shown : published' ≡ closes seat.round rounds conditional k
      (enters (turn_by seat levels triples heard) (gates_of table) 0 0 ws)
      (publishes (turn_by seat levels triples heard)
      (enters (turn_by seat levels triples heard) (gates_of table) 0 0 ws)
      (gates_of table) 0 0 published)
