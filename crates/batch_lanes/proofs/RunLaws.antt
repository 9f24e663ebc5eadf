-- The whole list over words: in each lane, the wires and the board of that lane's inputs and tape.
-- Assumes nothing.
use mathlib.Core.Path.{◌≡◌, ◌∙◌, sym, ap, ap₂}
use mathlib.Core.List.{List, ◌++◌}
use Prim.Native.Nat.{ℕ, ◌+◌, ◌-◌, ◌/◌, ◌≤◌, ◌<◌}
use native.Mathlib.Omega.{arith}
use lib.ListN.{length, take, drop, length-append, length-drop}
use lib.Seq.{take-append_seam}
use Rattle.gates.specs.Gate.{gates_of}
use Rattle.gates.specs.Wires.{wires_of, outputs_of}
use Rattle.gates.specs.Board.{conditional_count, board_of}
use Rattle.gates.specs.Test.{first_bad}
use Rattle.gates.specs.inner.Step.{StepReady, RunReady, range_of, step_wires, step_board}
use Rattle.gates.proofs.Table.{length_gates}
use Rattle.gates.proofs.Finishing.{whole_range}
use Rattle.gates.proofs.Whole.{outputs_are, whole_wires, whole_board}
use Rattle.batch_lanes.specs.Lane.{lane_count, lane_of}
use Rattle.batch_lanes.proofs.ListLaws.{lanes_length, lanes_append, lanes_take, lanes_drop}

-- after the inputs are copied to the start of the wire table
module _ (inputs t : List ℕ) (k : ℕ) (tape ws board : List ℕ) (ready : RunReady inputs t k tape ws board)
    (ws₁ : List ℕ) (e₁ : ws₁ ≡ inputs ++ drop (length inputs) ws) where
  all_gates : length t / 4 ≡ length (gates_of t)
  all_gates = sym (length_gates t)

  long : length ws₁ ≡ length inputs + length t / 4
  long = omega (
    arith,
    ap length e₁,
    length-append inputs (drop (length inputs) ws),
    length-drop (length inputs) ws,
    ready.wires_length,
    all_gates,
  )

  count_all : conditional_count (range_of t 0 (length t / 4)) ≡ conditional_count (gates_of t)
  count_all = ap conditional_count (whole_range t (length t / 4) all_gates)

  pub step_ready : StepReady (length inputs) t 0 (length t / 4) tape 0 ws₁ board
  step_ready =
      record {
        order = omega arith;
        in_table = omega (arith, all_gates);
        good = ap (first_bad (length inputs) 0) (whole_range t (length t / 4) all_gates) ∙ ready.good;
        in_wires = omega (arith, long);
        in_tape = omega (arith, count_all, ready.tape_length);
        in_board = omega (arith, count_all, ready.board_length);
      }

  -- after the step has done all gates
  module _ (shown : ℕ) (ws₂ board₂ : List ℕ) (n : shown ≡ 0 + conditional_count (range_of t 0 (length t / 4)))
      (lw : length ws₂ ≡ length ws₁) (lb : length board₂ ≡ length board) where
    shown_all : shown ≡ conditional_count (gates_of t)
    shown_all = omega (arith, count_all)

    pub can_close : (k ≤ length ws₂) × (length board₂ ≡ shown + k)
    can_close = (omega (arith, long, all_gates, ready.enough), omega (arith, shown_all, ready.board_length))

    module _ (ew : (j : ℕ) → j < lane_count → lane_of j ws₂ ≡ step_wires (length inputs) t 0 (length t / 4) (lane_of j ws₁))
        (eb : (j : ℕ) → j < lane_count → lane_of j board₂
        ≡ step_board (length inputs) t 0 (length t / 4) (lane_of j tape) 0 (lane_of j ws₁) (lane_of j board)) where
      front : (j : ℕ) → take (length inputs) (lane_of j ws₁) ≡ lane_of j inputs
      front j = sym (lanes_take j (length inputs) ws₁)
          ∙ ap (lane_of j) (ap (take (length inputs)) e₁ ∙ take-append_seam inputs (drop (length inputs) ws))

      lane_long : (j : ℕ) → length (lane_of j ws₁) ≡ length inputs + length t / 4
      lane_long j = lanes_length j ws₁ ∙ long

      wires_of_lane : (j : ℕ) → j < lane_count → lane_of j ws₂ ≡ wires_of (take (length inputs) (lane_of j ws₁)) (gates_of t)
      wires_of_lane j h = ew j h ∙ whole_wires (length inputs) t (length t / 4) (lane_of j ws₁) all_gates (lane_long j)

      pub final_wires : (j : ℕ) → j < lane_count → lane_of j ws₂ ≡ wires_of (lane_of j inputs) (gates_of t)
      final_wires j h = wires_of_lane j h ∙ ap (λ (l : List ℕ). wires_of l (gates_of t)) (front j)

      closing : (j : ℕ) → j < lane_count → lane_of j (drop (length ws₂ - k) ws₂)
          ≡ outputs_of k (wires_of (take (length inputs) (lane_of j ws₁)) (gates_of t))
      closing j h =
          lanes_drop j (length ws₂ - k) ws₂ ∙ ap (λ (m : ℕ). drop (m - k) (lane_of j ws₂)) (sym (lanes_length j ws₂))
          ∙ sym (outputs_are k (lane_of j ws₂)) ∙ ap (outputs_of k) (wires_of_lane j h)

      pub final_board : (board₃ : List ℕ) → board₃ ≡ take shown board₂ ++ drop (length ws₂ - k) ws₂ → (j : ℕ) → j < lane_count
          → lane_of j board₃ ≡ board_of (wires_of (lane_of j inputs) (gates_of t)) (gates_of t) k (lane_of j tape)
      final_board board₃ e₃ j h =
          ap (lane_of j) e₃ ∙ lanes_append j (take shown board₂) (drop (length ws₂ - k) ws₂)
          ∙ ap₂ (λ (x y : List ℕ). x ++ y)
          (lanes_take j shown board₂ ∙ ap₂ (λ (m : ℕ) (l : List ℕ). take m l) shown_all (eb j h)) (closing j h)
          ∙ whole_board (length inputs) t (length t / 4) (lane_of j ws₁) all_gates (lane_long j) k (lane_of j tape) (lane_of j board)
          (lanes_length j tape ∙ ready.tape_length) (lanes_length j board ∙ ready.board_length)
          ∙ ap (λ (l : List ℕ). board_of (wires_of l (gates_of t)) (gates_of t) k (lane_of j tape)) (front j)
