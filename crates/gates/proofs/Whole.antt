-- For evaluators above this layer: values and shown bits by the numbers in a wire table, and a step over all gates
-- as the wires and board of the whole list.
-- Assumes nothing.
use mathlib.Core.Path.{◌≡◌, ◌∙◌, refl, ap}
use mathlib.Core.List.{List, [], ◌++◌, append-nil}
use Prim.Native.Nat.{ℕ, ◌+◌, ◌-◌, ◌%◌}
use native.Mathlib.Nat.{add-zero}
use native.Mathlib.Omega.{arith}
use lib.ListN.{length, get_or, take, drop, drop_of_length-le}
use lib.Seq.{take_at, sets, sets-eq}
use Rattle.gates.specs.Open.Kind.{value_of}
use Rattle.gates.specs.Open.Gate.{Gate, gates_of}
use Rattle.gates.specs.Open.Wires.{wire, value, wires_of, outputs_of}
use Rattle.gates.specs.Open.Board.{conditional_count, shown_bit, shown_bits, board_of}
use Rattle.gates.specs.Open.Step.{range_of, step_wires, step_board, StepReady}
use Rattle.gates.proofs.Stepping.{Left}
use Rattle.gates.proofs.Finishing.{length_shown, whole_range}

-- the value of a gate and its shown bit, by the numbers in the wire table
pub value_is : (ws : List ℕ) (g : Gate) → value ws g ≡ value_of g.kind (get_or ws g.a 0) (get_or ws g.b 0) (get_or ws g.c 0)
unfolding value wire
value_is ws g = refl

pub shown_is : (ws : List ℕ) (g : Gate) (m : ℕ) → shown_bit ws g m ≡ (get_or ws g.a 0 + m) % 2
unfolding shown_bit wire
shown_is ws g m = refl

pub outputs_are : (k : ℕ) (ws : List ℕ) → outputs_of k ws ≡ drop (length ws - k) ws
unfolding outputs_of
outputs_are k ws = refl

-- before the first gate of a range, all of it is left
pub left_start : (inputs : ℕ) (t : List ℕ) (from to : ℕ) (tape : List ℕ) (shown : ℕ) (ws board : List ℕ)
    → StepReady inputs t from to tape shown ws board
    → Left inputs t to tape (length ws) (length board) (shown + conditional_count (range_of t from to))
    (step_wires inputs t from to ws) (step_board inputs t from to tape shown ws board) ws board shown from
unfolding step_board
left_start inputs t from to tape shown ws board r =
    record {
      order = r.order;
      wires_left = refl;
      board_left = refl;
      count_left = refl;
      good_left = r.good;
      wires_length = refl;
      board_length = refl;
    }

-- a step over all gates of a list, from a wire table with the inputs in front
module _ (i : ℕ) (t : List ℕ) (gates : ℕ) (ws : List ℕ) (e : gates ≡ length (gates_of t)) (w : length ws ≡ i + gates) where
  pub whole_wires : step_wires i t 0 gates ws ≡ wires_of (take i ws) (gates_of t)
  unfolding step_wires
  whole_wires =
      let end : drop (i + gates) ws ≡ [] = drop_of_length-le ws {i = i + gates} (omega arith) in
      rw (add-zero i, end, whole_range t gates e) (append-nil (wires_of (take i ws) (gates_of t)))

  -- the board: the shown bits that the step left, then the outputs
  module _ (k : ℕ) (tape board : List ℕ) (lt : length tape ≡ conditional_count (gates_of t))
      (lb : length board ≡ conditional_count (gates_of t) + k) where
    bits : List ℕ
    bits = shown_bits (wires_of (take i ws) (gates_of t)) (gates_of t) tape

    stepped : step_board i t 0 gates tape 0 ws board ≡ sets board 0 bits
    unfolding step_board bits
    stepped = rw (whole_wires, whole_range t gates e)

    pub whole_board : take (conditional_count (gates_of t)) (step_board i t 0 gates tape 0 ws board)
        ++ outputs_of k (wires_of (take i ws) (gates_of t))
        ≡ board_of (wires_of (take i ws) (gates_of t)) (gates_of t) k tape
    unfolding board_of bits
    whole_board =
        let l : length bits ≡ conditional_count (gates_of t) = length_shown (wires_of (take i ws) (gates_of t)) (gates_of t) tape lt in
        let f : step_board i t 0 gates tape 0 ws board ≡ bits ++ drop (0 + length bits) board = stepped
        ∙ sets-eq bits board 0 (omega arith) in
        ap (λ (b : List ℕ). take (conditional_count (gates_of t)) b ++ outputs_of k (wires_of (take i ws) (gates_of t))) f
        ∙ ap (λ (b : List ℕ). b ++ outputs_of k (wires_of (take i ws) (gates_of t)))
        (take_at bits (drop (0 + length bits) board) (conditional_count (gates_of t)) l)
