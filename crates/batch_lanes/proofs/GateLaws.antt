-- One gate in all lanes: its value in the lanes of the wire table, and its shown word in those of the board.
-- Assumes nothing.
use mathlib.Core.Path.{◌≡◌, ◌∙◌, sym, ap}
use mathlib.Core.Bool.{Bool, true, false, cond}
use mathlib.Core.List.{List, [], ◌∷◌}
use Prim.Native.Nat.{ℕ, ◌+◌, ◌<◌}
use lib.Bits.{bit_xor}
use lib.ListN.{get_or, set}
use Rattle.gates.specs.Kind.{conditional_of, value_of}
use Rattle.gates.specs.Gate.{Gate, gate_at}
use Rattle.gates.specs.Wires.{value}
use Rattle.gates.specs.Board.{conditional_count, shown_bit}
use Rattle.gates.proofs.Counting.{count_one}
use Rattle.gates.proofs.Whole.{value_is, shown_is}
use Rattle.batch_lanes.specs.Lane.{lane_count, lane, lane_of}
use Rattle.batch_lanes.specs.inner.Step.{GateDone}
use Rattle.batch_lanes.proofs.LaneLaws.{lane_xor}
use Rattle.batch_lanes.proofs.ListLaws.{lanes_set, lanes_at}

value_lanes : (j : ℕ) (ws : List ℕ) (x : Gate) → value (lane_of j ws) x
    ≡ value_of x.kind (lane j (get_or ws x.a 0)) (lane j (get_or ws x.b 0)) (lane j (get_or ws x.c 0))
value_lanes j ws x = value_is (lane_of j ws) x ∙ rw (lanes_at j ws x.a, lanes_at j ws x.b, lanes_at j ws x.c)

shown_lanes : (j : ℕ) (ws tape : List ℕ) (x : Gate) (i : ℕ)
    → shown_bit (lane_of j ws) x (get_or (lane_of j tape) i 0) ≡ lane j (bit_xor (get_or ws x.a 0) (get_or tape i 0))
shown_lanes j ws tape x i =
    shown_is (lane_of j ws) x (get_or (lane_of j tape) i 0)
    ∙ rw (lanes_at j ws x.a, lanes_at j tape i) (sym (lane_xor j (get_or ws x.a 0) (get_or tape i 0)))

module _ (x : Gate) where
  -- a gate with the mark counts 1, one without it 0
  pub count_is : (m : Bool) → m ≡ conditional_of x.kind → conditional_count (x ∷ []) ≡ cond m 1 0
  count_is m e = count_one x ∙ ap (λ (b : Bool). cond {A = ℕ} b 1 0) (sym e)

  pub gate_wires : (j : ℕ) (ws : List ℕ) (own v : ℕ)
      → lane j v ≡ value_of x.kind (lane j (get_or ws x.a 0)) (lane j (get_or ws x.b 0)) (lane j (get_or ws x.c 0))
      → lane_of j (set ws own v) ≡ set (lane_of j ws) own (value (lane_of j ws) x)
  gate_wires j ws own v e = lanes_set j ws own v ∙ ap (set (lane_of j ws) own) (e ∙ sym (value_lanes j ws x))

  -- the board with a shown word, and without one
  pub with_word : (m : Bool) → m ≡ conditional_of x.kind → m ≡ true → (j : ℕ) (ws tape board : List ℕ) (i : ℕ)
      → lane_of j (set board i (bit_xor (get_or ws x.a 0) (get_or tape i 0)))
      ≡ cond (conditional_of x.kind)
      (set (lane_of j board) i (shown_bit (lane_of j ws) x (get_or (lane_of j tape) i 0))) (lane_of j board)
  with_word m e f j ws tape board i =
      lanes_set j board i (bit_xor (get_or ws x.a 0) (get_or tape i 0))
      ∙ ap (set (lane_of j board) i) (sym (shown_lanes j ws tape x i))
      ∙ sym (ap (λ (b : Bool). cond b
      (set (lane_of j board) i (shown_bit (lane_of j ws) x (get_or (lane_of j tape) i 0)))
      (lane_of j board)) (sym e ∙ f))

  pub without_word : (m : Bool) → m ≡ conditional_of x.kind → m ≡ false → (j : ℕ) (ws tape board : List ℕ) (i : ℕ)
      → lane_of j board ≡ cond (conditional_of x.kind)
      (set (lane_of j board) i (shown_bit (lane_of j ws) x (get_or (lane_of j tape) i 0))) (lane_of j board)
  without_word m e f j ws tape board i =
      sym (ap (λ (b : Bool). cond b (set (lane_of j board) i
      (shown_bit (lane_of j ws) x (get_or (lane_of j tape) i 0))) (lane_of j board)) (sym e ∙ f))

-- what is left of the gate that was read is what is left of gate g
pub done : (table tape ws bs ws' bs' : List ℕ) (g own shown r : ℕ) (x : Gate) → x ≡ gate_at table g
    → r ≡ shown + conditional_count (x ∷ [])
    → ((j : ℕ) → j < lane_count → lane_of j ws' ≡ set (lane_of j ws) own (value (lane_of j ws) x))
    → ((j : ℕ) → j < lane_count → lane_of j bs'
    ≡ cond (conditional_of x.kind)
    (set (lane_of j bs) shown (shown_bit (lane_of j ws) x (get_or (lane_of j tape) shown 0))) (lane_of j bs))
    → GateDone table g own tape shown ws bs ws' bs' r
done table tape ws bs ws' bs' g own shown r x e n w b = record {
  shown_is = rw (← e) n;
  wires_are = rw (← e) w;
  board_is = rw (← e) b;
}
