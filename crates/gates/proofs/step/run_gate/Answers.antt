-- `gates::step::run_gate` meets its contract: the gate's operands name wires that exist, and its mark says whether it
-- shows a bit.
-- Assumes nothing.
use mathlib.Core.Path.{◌≡◌, ◌∙◌, sym, ap}
use mathlib.Core.Bool.{Bool, true, false, cond}
use mathlib.Core.List.{List, [], ◌∷◌}
use Prim.Native.Nat.{ℕ, ◌+◌}
use native.Mathlib.Omega.{arith}
use lib.ListN.{get_or, set}
use Rattle.gates.specs.Open.Kind.{conditional_of}
use Rattle.gates.specs.Open.Gate.{Gate, gate_at}
use Rattle.gates.specs.Open.Step.{GateRan}
use Rattle.gates.specs.Open.Wires.{wire, value}
use Rattle.gates.specs.Open.Board.{conditional_count, shown_bit}
use Rattle.gates.proofs.Counting.{count_one}
use Rattle.gates.proofs.Goodness.{GoodGate, good_gate_lem}
use Rattle.gates.proofs.step.run_gate.Goals as goal
use Rattle.gates.proofs.step.run_gate.Goals.{After-at-gate, Then-conditional}

-- a gate with the mark counts 1, one without it 0
marked : (t : Bool) (g : Gate) → t ≡ true → t ≡ conditional_of g.kind → conditional_count (g ∷ []) ≡ 1
marked t g e m = count_one g ∙ ap (λ (u : Bool). cond {A = ℕ} u 1 0) (sym m ∙ e)

unmarked : (t : Bool) (g : Gate) → t ≡ false → t ≡ conditional_of g.kind → conditional_count (g ∷ []) ≡ 0
unmarked t g e m = count_one g ∙ ap (λ (u : Bool). cond {A = ℕ} u 1 0) (sym m ∙ e)

-- the gate that was read is good
good : (c : After-at-gate) → GoodGate c.args.own c.at-gate.result
good c = good_gate_lem c.args.own c.at-gate.result (rw c.at-gate.ensures c.requires.gate.good)

pub bounds-wires-gate : goal.bounds-wires-gate
bounds-wires-gate c = omega (arith, (good (goal.at.bounds-wires-gate c).After-at-gate).a_most, c.requires.gate.in_wires)

pub bounds-wires-gate-2 : goal.bounds-wires-gate-2
bounds-wires-gate-2 c = omega (arith, (good (goal.at.bounds-wires-gate-2 c).After-at-gate).b_most, c.requires.gate.in_wires)

pub bounds-wires-gate-3 : goal.bounds-wires-gate-3
bounds-wires-gate-3 c = omega (arith, (good (goal.at.bounds-wires-gate-3 c).After-at-gate).c_most, c.requires.gate.in_wires)

-- the board with a shown bit, and without one
with_bit : (kind : ℕ) (t : Bool) (x y z : List ℕ) → t ≡ true → t ≡ conditional_of kind → z ≡ x → z ≡ cond (conditional_of kind) x y
with_bit kind t x y z e m p = p ∙ ap (λ (u : Bool). cond u x y) (sym e ∙ m)

without_bit : (kind : ℕ) (t : Bool) (x y : List ℕ) → t ≡ false → t ≡ conditional_of kind → y ≡ cond (conditional_of kind) x y
without_bit kind t x y e m = ap (λ (u : Bool). cond u x y) (sym e ∙ m)

-- in the branch that shows a bit
shows : (c : Then-conditional) → conditional_count (gate_at c.args.table.now c.args.g ∷ []) ≡ 1
shows c = rw (← c.at-gate.ensures) (marked c.conditional.result c.at-gate.result c.if-conditional.true c.conditional.ensures)

pub bounds-tape-shown : goal.bounds-tape-shown
bounds-tape-shown c = omega (arith, shows (goal.at.bounds-tape-shown c).Then-conditional, c.requires.gate.in_tape)

pub bounds-board-shown : goal.bounds-board-shown
bounds-board-shown c = omega (arith, shows (goal.at.bounds-board-shown c).Then-conditional, c.requires.gate.in_board)

-- what is left of the gate that was read is what is left of gate g
ran : (table tape ws bs ws' bs' : List ℕ) (g own shown r : ℕ) (x : Gate) → x ≡ gate_at table g
    → r ≡ shown + conditional_count (x ∷ []) → ws' ≡ set ws own (value ws x)
    → bs' ≡ cond (conditional_of x.kind) (set bs shown (shown_bit ws x (get_or tape shown 0))) bs
    → GateRan table g own tape shown ws bs r ws' bs'
ran table tape ws bs ws' bs' g own shown r x e n w b = record {
  next = rw (← e) n;
  wires = rw (← e) w;
  board = rw (← e) b;
}

pub returns-then-conditional : goal.returns-then-conditional
unfolding value wire shown_bit
returns-then-conditional c = ran _ _ _ _ _ _ c.args.g c.args.own c.args.shown _ c.at-gate.result c.at-gate.ensures
    (omega (arith, marked c.conditional.result c.at-gate.result c.if-conditional.true c.conditional.ensures))
    (ap (set c.args.wires.now c.args.own) c.value.ensures)
    (with_bit c.at-gate.result.kind c.conditional.result _ c.args.board.now _ c.if-conditional.true
    c.conditional.ensures (ap (set c.args.board.now c.args.shown) c.masked.ensures))

pub returns : goal.returns
unfolding value wire shown_bit
returns c = ran _ _ _ _ _ _ c.args.g c.args.own c.args.shown _ c.at-gate.result c.at-gate.ensures
    (omega (arith, unmarked c.conditional.result c.at-gate.result c.if-conditional.false c.conditional.ensures))
    (ap (set c.args.wires.now c.args.own) c.value.ensures)
    (without_bit c.at-gate.result.kind c.conditional.result _ c.args.board.now c.if-conditional.false c.conditional.ensures)
