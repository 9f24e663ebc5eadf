-- The step over words: in every lane, running the gates that are left gives what running the whole range gives.
-- Assumes nothing.
use mathlib.Core.Path.{◌≡◌, ◌∙◌}
use mathlib.Core.Bool.{cond}
use mathlib.Core.List.{List, [], ◌∷◌}
use Prim.Native.Nat.{ℕ, suc, ◌+◌, ◌≤◌, ◌<◌}
use native.Mathlib.Omega.{arith}
use lib.ListN.{length, get_or, set}
use Rattle.gates.specs.Kind.{conditional_of}
use Rattle.gates.specs.Wires.{value}
use Rattle.gates.specs.Board.{conditional_count, shown_bit}
use Rattle.gates.specs.inner.Step.{StepReady, GateReady, range_of, step_wires, step_board}
use Rattle.gates.proofs.Stepping.{Left, next_ready, left_turn, left_as, left_end}
use Rattle.gates.proofs.Whole.{left_start}
use Rattle.batch_lanes.specs.Lane.{lane_count, lane_of}
use Rattle.gates.specs.Gate.{gate_at}
use Rattle.batch_lanes.proofs.ListLaws.{lanes_length}

-- The invariant in lane j.
abbrev pub LeftIn : ℕ → ℕ → List ℕ → ℕ → ℕ → List ℕ → ℕ → List ℕ → List ℕ → List ℕ → List ℕ → ℕ → ℕ → Type 0
LeftIn j inputs t from to tape shown ws₀ board₀ ws board next g =
    Left inputs t to (lane_of j tape) (length (lane_of j ws₀)) (length (lane_of j board₀))
    (shown + conditional_count (range_of t from to)) (step_wires inputs t from to (lane_of j ws₀))
    (step_board inputs t from to (lane_of j tape) shown (lane_of j ws₀) (lane_of j board₀)) (lane_of j ws) (lane_of j board) next g

pub record LanesLeft (inputs : ℕ) (t : List ℕ) (from to : ℕ) (tape : List ℕ) (shown : ℕ)
    (ws₀ board₀ ws board : List ℕ) (next g : ℕ) : Type 0 where
  pub order : g ≤ to
  pub wires_length : length ws ≡ length ws₀
  pub board_length : length board ≡ length board₀
  pub lanes : (j : ℕ) → j < lane_count → LeftIn j inputs t from to tape shown ws₀ board₀ ws board next g

-- the lanes have the words' lengths, so they are ready if the words are
pub lane_ready : (j inputs : ℕ) (t : List ℕ) (from to : ℕ) (tape : List ℕ) (shown : ℕ) (ws board : List ℕ)
    → StepReady inputs t from to tape shown ws board
    → StepReady inputs t from to (lane_of j tape) shown (lane_of j ws) (lane_of j board)
lane_ready j inputs t from to tape shown ws board r =
    record {
      order = r.order;
      in_table = r.in_table;
      good = r.good;
      in_wires = omega (arith, r.in_wires, lanes_length j ws);
      in_tape = omega (arith, r.in_tape, lanes_length j tape);
      in_board = omega (arith, r.in_board, lanes_length j board);
    }

module _ (inputs : ℕ) (t : List ℕ) (from to : ℕ) (tape : List ℕ) (shown : ℕ) (ws₀ board₀ : List ℕ)
    (ready : StepReady inputs t from to tape shown ws₀ board₀) where
  pub lanes_start : LanesLeft inputs t from to tape shown ws₀ board₀ ws₀ board₀ shown from
  lanes_start =
      record {
        order = ready.order;
        wires_length = λ i. length ws₀;
        board_length = λ i. length board₀;
        lanes = λ j h. left_start inputs t from to (lane_of j tape) shown (lane_of j ws₀) (lane_of j board₀)
            (lane_ready j inputs t from to tape shown ws₀ board₀ ready);
      }

  module _ (ws board : List ℕ) (next g : ℕ) (left : LanesLeft inputs t from to tape shown ws₀ board₀ ws board next g) where
    -- the next gate is ready, because it is in lane 0
    pub gate_ready : g < to → GateReady t g (inputs + g) tape next ws board
    gate_ready h =
        let r = lane_ready 0 inputs t from to tape shown ws₀ board₀ ready in
        let q = next_ready inputs t to (lane_of 0 tape) _ _ _ _ _ r.in_table r.in_wires r.in_tape r.in_board
        (lane_of 0 ws) (lane_of 0 board) next g (left.lanes 0 (omega arith)) h in
        record {
          in_table = q.in_table;
          good = q.good;
          in_wires = omega (arith, q.in_wires, lanes_length 0 ws);
          in_tape = omega (arith, q.in_tape, lanes_length 0 tape);
          in_board = omega (arith, q.in_board, lanes_length 0 board);
        }

    -- the invariant after that gate
    pub lanes_turn : g < to → (ws' board' : List ℕ) (next' g' : ℕ) → g' ≡ suc g → next' ≡ next + conditional_count (gate_at t g ∷ [])
        → length ws' ≡ length ws → length board' ≡ length board
        → ((j : ℕ) → j < lane_count → lane_of j ws' ≡ set (lane_of j ws) (inputs + g) (value (lane_of j ws) (gate_at t g)))
        → ((j : ℕ) → j < lane_count → lane_of j board'
        ≡ cond (conditional_of (gate_at t g).kind)
        (set (lane_of j board) next (shown_bit (lane_of j ws) (gate_at t g) (get_or (lane_of j tape) next 0)))
        (lane_of j board))
        → LanesLeft inputs t from to tape shown ws₀ board₀ ws' board' next' g'
    lanes_turn h ws' board' next' g' eg en lw lb ew eb =
        record {
          order = omega arith;
          wires_length = lw ∙ left.wires_length;
          board_length = lb ∙ left.board_length;
          lanes = λ j k.
              let r = lane_ready j inputs t from to tape shown ws₀ board₀ ready in
              left_as inputs t to (lane_of j tape) _ _ _ _ _ r.in_table r.in_wires r.in_tape r.in_board _
              (lane_of j ws') _ (lane_of j board') _ next' _ g'
              (left_turn inputs t to (lane_of j tape) _ _ _ _ _ r.in_table r.in_wires r.in_tape r.in_board
              (lane_of j ws) (lane_of j board) next g (left.lanes j k) h)
              (ew j k) (eb j k) en eg;
        }

    -- if no gate is left, the lanes are those of the whole range
    pub lanes_end : to ≤ g → (next ≡ shown + conditional_count (range_of t from to))
        × ((j : ℕ) → j < lane_count → lane_of j ws ≡ step_wires inputs t from to (lane_of j ws₀))
        × ((j : ℕ) → j < lane_count → lane_of j board ≡ step_board inputs t from to (lane_of j tape) shown (lane_of j ws₀) (lane_of j board₀))
    lanes_end h = (
      (ended 0 (omega arith)).0,
      λ j k. (ended j k).1,
      λ j k. (ended j k).2,
    )
      where
        ended : (j : ℕ) → j < lane_count → (next ≡ shown + conditional_count (range_of t from to))
            × (lane_of j ws ≡ step_wires inputs t from to (lane_of j ws₀))
            × (lane_of j board ≡ step_board inputs t from to (lane_of j tape) shown (lane_of j ws₀) (lane_of j board₀))
        ended j k =
            let r = lane_ready j inputs t from to tape shown ws₀ board₀ ready in
            left_end inputs t to (lane_of j tape) _ _ _ _ _ r.in_table r.in_wires r.in_tape r.in_board
            (lane_of j ws) (lane_of j board) next g (left.lanes j k) h
