-- Demand 3 for any list: a board reveals no more of the inputs than its outputs do.
use Rattle.std.specs.Prelude.{◌≡◌, List, ℕ, ◌+◌, ◌%◌, ◌≤◌, ◌<◌, length, get_or, drop}
use Rattle.gates.specs.Open.Gate.{Gate}
use Rattle.gates.specs.Open.Wires.{wire, wires_of, outputs_of}
use Rattle.gates.specs.Open.Board.{conditionals, conditional_count, board_of, MaskTape}

-- Exactly one value has the property P: some x has it, and every y that has it equals x.
abbrev pub ExactlyOne : {A : Type 0} → (A → Type 0) → Type 0
ExactlyOne {A} P = (x : A) × P x × ((y : A) → P y → y ≡ x)

-- The i-th conditional gate of a list, counted from 0 (a gate of zeros past the last).
abbrev pub conditional_gate : List Gate → ℕ → Gate
conditional_gate gs i = get_or (conditionals gs) i (record { kind = 0; a = 0; b = 0; c = 0 })

-- A finished board of C + k bytes: shown bit i is the sum modulo 2 of tape byte i and wire a of conditional gate i;
-- the k outputs follow.
pub record Finished (ws : List ℕ) (gs : List Gate) (k : ℕ) (tape board : List ℕ) : Type 0 where
  pub size : length board ≡ conditional_count gs + k
  pub shown : (i : ℕ) → i < conditional_count gs
      → get_or board i 0 ≡ (wire ws (conditional_gate gs i).a + get_or tape i 0) % 2
  pub closing : drop (conditional_count gs) board ≡ outputs_of k ws

-- The boards of one list do not tell its inputs xs and ys apart. The wires depend on the inputs and the list, never
-- on a tape.
pub record InputsHidden (gs : List Gate) (k : ℕ) (xs ys : List ℕ) : Type 0 where
  -- under every mask tape both boards are finished
  pub first_board : (s : List ℕ) → MaskTape gs s → Finished (wires_of xs gs) gs k s (board_of (wires_of xs gs) gs k s)
  pub second_board : (t : List ℕ) → MaskTape gs t → Finished (wires_of ys gs) gs k t (board_of (wires_of ys gs) gs k t)
  -- whatever the first tape, exactly one second tape makes the boards equal in every byte
  pub same_board : (s : List ℕ) → MaskTape gs s
      → ExactlyOne (λ (t : List ℕ). MaskTape gs t
      × (board_of (wires_of xs gs) gs k s ≡ board_of (wires_of ys gs) gs k t))

-- Demand 3, for any list of at least k gates and any two inputs whose k outputs are equal.
abbrev pub BoardHidesInputs : Type 0
BoardHidesInputs =
    (gs : List Gate) (k : ℕ) (xs ys : List ℕ) → k ≤ length gs
    → outputs_of k (wires_of xs gs) ≡ outputs_of k (wires_of ys gs) → InputsHidden gs k xs ys
