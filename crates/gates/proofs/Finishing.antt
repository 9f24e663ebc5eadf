-- An accepted evaluation leaves the wires and the board that the definitions name.
-- Assumes nothing.
use Rattle.std.specs.Prelude.{None}
use mathlib.Core.Path.{◌≡◌, ◌∙◌, sym, ap}
use mathlib.Core.List.{List, [], ◌∷◌, ◌++◌, zip_with, append-nil}
use Prim.Native.Nat.{ℕ, suc, ◌+◌, ◌-◌, ◌≤◌, min}
use native.Mathlib.Nat.{add-zero, zero-min, min-zero, suc-min-suc}
use native.Mathlib.Omega.{arith}
use lib.ListN.{length, take, drop, drop_of_length-le}
use lib.Seq.{take_all, take_at, sets, sets-eq, length-sets}
use Rattle.gates.specs.Open.Gate.{Gate, gates_of}
use Rattle.gates.specs.Open.Wires.{wires_of, outputs_of}
use Rattle.gates.specs.Open.Board.{conditionals, conditional_count, shown_bit, shown_bits, board_of}
use Rattle.gates.specs.Open.Test.{first_bad}
use Rattle.gates.specs.Open.Step.{range_of, step_wires, step_board, StepReady, CloseReady}
use Rattle.gates.proofs.WireLaws.{length_wires}

pub length_zip : {A B C : Type 0} (f : A → B → C) (xs : List A) (ys : List B) → length (zip_with f xs ys) ≡ min (length xs) (length ys)
unfolding zip_with
length_zip f [] ys = sym (zero-min (length ys))
length_zip f (x ∷ xs) [] = sym (min-zero (suc (length xs)))
length_zip f (x ∷ xs) (y ∷ ys) = ap suc (length_zip f xs ys) ∙ sym (suc-min-suc (length xs) (length ys))

-- a tape of C bytes gives C shown bits
pub length_shown : (ws : List ℕ) (gs : List Gate) (tape : List ℕ) → length tape ≡ conditional_count gs
    → length (shown_bits ws gs tape) ≡ conditional_count gs
unfolding shown_bits conditional_count
length_shown ws gs tape e = omega (arith, length_zip (shown_bit ws) (conditionals gs) tape)

-- the whole list is its range from 0 to its end
pub whole_range : (t : List ℕ) (gates : ℕ) → gates ≡ length (gates_of t) → range_of t 0 gates ≡ gates_of t
unfolding range_of
whole_range t gates e = take_all (gates - 0) (gates_of t) (omega arith)

module _ (i : ℕ) (t : List ℕ) (gates k : ℕ) (tape ws board : List ℕ) (e : gates ≡ length (gates_of t)) (w : length ws ≡ i + gates) where
  run_wires : step_wires i t 0 gates ws ≡ wires_of (take i ws) (gates_of t)
  unfolding step_wires
  run_wires =
      let end : drop (i + gates) ws ≡ [] = drop_of_length-le ws {i = i + gates} (omega arith) in
      rw (add-zero i, end, whole_range t gates e) (append-nil (wires_of (take i ws) (gates_of t)))

  -- what the two calls leave, in order: wire table, board and count of the step, then the closed board
  module _ (enough : k ≤ gates) (good : first_bad i 0 (gates_of t) ≡ None)
      (lt : length tape ≡ conditional_count (gates_of t)) (lb : length board ≡ conditional_count (gates_of t) + k) where
    count_range : conditional_count (range_of t 0 gates) ≡ conditional_count (gates_of t)
    count_range = ap conditional_count (whole_range t gates e)

    pub ready : StepReady i t 0 gates tape 0 ws board
    ready =
        record {
          order = omega arith;
          in_table = omega arith;
          good = ap (first_bad i 0) (whole_range t gates e) ∙ good;
          in_wires = omega arith;
          in_tape = omega (arith, count_range);
          in_board = omega (arith, count_range);
        }

    module _ (shown : ℕ) (ws₂ board₂ : List ℕ) (n : shown ≡ 0 + conditional_count (range_of t 0 gates)) (e₂ : ws₂ ≡ step_wires i t 0 gates ws)
        (f₂ : board₂ ≡ step_board i t 0 gates tape 0 ws board) where
      pub final_wires : ws₂ ≡ wires_of (take i ws) (gates_of t)
      final_wires = e₂ ∙ run_wires

      bits : List ℕ
      bits = shown_bits (wires_of (take i ws) (gates_of t)) (gates_of t) tape

      stepped_board : board₂ ≡ sets board 0 bits
      unfolding step_board bits
      stepped_board = f₂ ∙ rw (run_wires, whole_range t gates e)

      pub can_close : CloseReady k shown ws₂ board₂
      can_close =
          record {
            enough = omega (arith, ap length final_wires, length_wires (take i ws) (gates_of t));
            board_length = omega (arith, ap length stepped_board, length-sets board 0 bits, count_range);
          }

      pub final_board : (board₃ : List ℕ) → board₃ ≡ take shown board₂ ++ outputs_of k ws₂ → board₃
          ≡ board_of (wires_of (take i ws) (gates_of t)) (gates_of t) k tape
      unfolding board_of bits
      final_board board₃ e₃ =
          let l : length bits ≡ conditional_count (gates_of t) = length_shown (wires_of (take i ws) (gates_of t)) (gates_of t) tape lt in
          let c : length bits ≡ shown = omega (arith, count_range) in
          let f : board₂ ≡ bits ++ drop (0 + length bits) board = stepped_board ∙ sets-eq bits board 0 (omega arith) in
          e₃ ∙ ap (λ (b : List ℕ). take shown b ++ outputs_of k ws₂) f
          ∙ ap (λ (b : List ℕ). b ++ outputs_of k ws₂) (take_at bits (drop (0 + length bits) board) shown c)
          ∙ ap (λ (b : List ℕ). bits ++ outputs_of k b) final_wires
