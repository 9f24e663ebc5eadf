-- The evaluating step: it evaluates a range of a list's gates, after the wires and shown bits of earlier gates.
use Rattle.std.specs.Prelude.{◌≡◌, cond, List, [], ◌∷◌, ◌++◌, ℕ, ◌+◌, ◌-◌, ◌*◌, ◌≤◌, ◌<◌, T, length, get_or, take, drop, set, None}
use Rattle.std.proofs.lemmas.List.Edits.{sets}
use Rattle.gates.specs.Open.Kind.{conditional_of}
use Rattle.gates.specs.Open.Gate.{Gate, gates_of, gate_at}
use Rattle.gates.specs.Open.Wires.{wires_of, value}
use Rattle.gates.specs.Open.Board.{conditional_count, shown_bit, shown_bits, board_of}
use Rattle.gates.specs.Open.Test.{good_gate, first_bad}

-- Gates from..to of a table; gate `to` is not included.
unfoldable pub range_of : List ℕ → ℕ → ℕ → List Gate
range_of table from to = take (to - from) (drop from (gates_of table))

-- What the step asks of its caller: a range of good gates, room for their wires, and a tape and a board that are long
-- enough for their shown bits.
pub record StepReady (inputs : ℕ) (table : List ℕ) (from to : ℕ) (tape : List ℕ) (shown : ℕ) (ws board : List ℕ) : Type
    0 where
  pub order : from ≤ to
  pub in_table : to ≤ length (gates_of table)
  pub good : first_bad inputs from (range_of table from to) ≡ None
  pub in_wires : inputs + to ≤ length ws
  pub in_tape : shown + conditional_count (range_of table from to) ≤ length tape
  pub in_board : shown + conditional_count (range_of table from to) ≤ length board

-- The wire table after the step: the earlier wires, those of the range, and the old contents after them.
unfoldable pub step_wires : ℕ → List ℕ → ℕ → ℕ → List ℕ → List ℕ
step_wires inputs table from to ws = wires_of (take (inputs + from) ws) (range_of table from to)
    ++ drop (inputs + to) ws

-- The board after the step: the range's shown bits follow the earlier ones.
unfoldable pub step_board : ℕ → List ℕ → ℕ → ℕ → List ℕ → ℕ → List ℕ → List ℕ → List ℕ
step_board inputs table from to tape shown ws board =
    sets board shown (shown_bits (step_wires inputs table from to ws) (range_of table from to) (drop shown tape))

-- What evaluating a whole list asks of its caller once the inputs are at the front of the wire table: what the tests
-- of list, tape, wire table and board establish.
pub record FinishReady (inputs : ℕ) (table : List ℕ) (k : ℕ) (tape ws board : List ℕ) : Type 0 where
  pub enough : k ≤ length (gates_of table)
  pub good : first_bad inputs 0 (gates_of table) ≡ None
  pub tape_length : length tape ≡ conditional_count (gates_of table)
  pub wires_length : length ws ≡ inputs + length (gates_of table)
  pub board_length : length board ≡ conditional_count (gates_of table) + k

-- What running a whole list on these inputs asks: the same.
abbrev pub RunReady : List ℕ → List ℕ → ℕ → List ℕ → List ℕ → List ℕ → Type 0
RunReady inputs table k tape ws board = FinishReady (length inputs) table k tape ws board

-- What evaluating gate g asks: it is in the table and good for its wire `own`, and its wire, tape byte and board
-- byte exist. `shown` is the number of bits shown before it.
pub record GateReady (table : List ℕ) (g own : ℕ) (tape : List ℕ) (shown : ℕ) (ws board : List ℕ) : Type 0 where
  pub in_table : 4 * g + 3 < length table
  pub good : T (good_gate own (gate_at table g))
  pub in_wires : own < length ws
  pub in_tape : shown + conditional_count (gate_at table g ∷ []) ≤ length tape
  pub in_board : shown + conditional_count (gate_at table g ∷ []) ≤ length board

-- What evaluating gate g leaves: its wire, its shown bit if it is conditional, and r, the number of shown bits
-- after it.
pub record GateRan (table : List ℕ) (g own : ℕ) (tape : List ℕ) (shown : ℕ) (ws bs : List ℕ) (r : ℕ)
    (ws' bs' : List ℕ) : Type 0 where
  pub next : r ≡ shown + conditional_count (gate_at table g ∷ [])
  pub wires : ws' ≡ set ws own (value ws (gate_at table g))
  pub board : bs' ≡ cond (conditional_of (gate_at table g).kind)
      (set bs shown (shown_bit ws (gate_at table g) (get_or tape shown 0))) bs

-- What the step leaves: wires, board, and r, the number of shown bits after it.
pub record Stepped (inputs : ℕ) (table : List ℕ) (from to : ℕ) (tape : List ℕ) (shown : ℕ) (ws bs : List ℕ) (r : ℕ)
    (ws' bs' : List ℕ) : Type 0 where
  pub next : r ≡ shown + conditional_count (range_of table from to)
  pub wires : ws' ≡ step_wires inputs table from to ws
  pub board : bs' ≡ step_board inputs table from to tape shown ws bs

-- What closing asks: there are k wires to output, and the board has exactly k bytes after the shown bits.
pub record CloseReady (k shown : ℕ) (ws board : List ℕ) : Type 0 where
  pub enough : k ≤ length ws
  pub board_length : length board ≡ shown + k

-- What the evaluation of a whole list on the inputs xs leaves.
pub record Evaluated (xs table : List ℕ) (k : ℕ) (tape ws' bs' : List ℕ) : Type 0 where
  pub wires : ws' ≡ wires_of xs (gates_of table)
  pub board : bs' ≡ board_of (wires_of xs (gates_of table)) (gates_of table) k tape
