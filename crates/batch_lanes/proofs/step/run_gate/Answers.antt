-- The gate's operands name wires that exist, and its mark says whether it shows a word.
use Rattle.std.proofs.Common.{◌≡◌, ◌∙◌, ap, Bool, cond, [], ◌∷◌, ℕ, arith}
use Rattle.gates.specs.Gate.{gate_at}
use Rattle.gates.specs.Board.{conditional_count}
use Rattle.gates.proofs.Goodness.{good_gate_lem}
use Rattle.batch_lanes.proofs.GateLaws.{count_is, gate_wires, with_word, without_word, done}
use Rattle.batch_lanes.proofs.step.run_gate.Goals as goal
use Rattle.batch_lanes.proofs.step.run_gate.Goals.{Then-conditional}

pub bounds-wires-gate : goal.bounds-wires-gate
bounds-wires-gate c =
    let f = good_gate_lem c.args.own c.at-gate.result (rw c.at-gate.ensures c.requires.gate.good) in
    omega (arith, f.a_most, c.requires.gate.in_wires)

pub bounds-wires-gate-2 : goal.bounds-wires-gate-2
bounds-wires-gate-2 c =
    let f = good_gate_lem c.args.own c.at-gate.result (rw c.at-gate.ensures c.requires.gate.good) in
    omega (arith, f.b_most, c.requires.gate.in_wires)

pub bounds-wires-gate-3 : goal.bounds-wires-gate-3
bounds-wires-gate-3 c =
    let f = good_gate_lem c.args.own c.at-gate.result (rw c.at-gate.ensures c.requires.gate.good) in
    omega (arith, f.c_most, c.requires.gate.in_wires)

pub value-requires : goal.value-requires
value-requires c = (good_gate_lem c.args.own c.at-gate.result (rw c.at-gate.ensures c.requires.gate.good)).known

-- in the branch that shows a word
shows : (c : Then-conditional) → let a = c.args in conditional_count (gate_at a.table.now a.g ∷ []) ≡ 1
shows c =
    rw (← c.at-gate.ensures) (count_is c.at-gate.result c.conditional.result c.conditional.ensures
    ∙ ap (λ (b : Bool). cond {A = ℕ} b 1 0) c.if-conditional.true)

pub bounds-tape-shown : goal.bounds-tape-shown
bounds-tape-shown c = omega (arith, shows (goal.at.bounds-tape-shown c).Then-conditional, c.requires.gate.in_tape)

pub bounds-board-shown : goal.bounds-board-shown
bounds-board-shown c = omega (arith, shows (goal.at.bounds-board-shown c).Then-conditional, c.requires.gate.in_board)

pub returns-then-conditional : goal.returns-then-conditional
returns-then-conditional c =
    let a = c.args in
    let x = c.at-gate.result in
    let m = c.conditional in
    let v = c.value in
    let n = count_is x m.result m.ensures ∙ ap (λ (b : Bool). cond {A = ℕ} b 1 0) c.if-conditional.true in
    done _ _ _ _ _ _ a.g a.own a.shown _ x c.at-gate.ensures (omega (arith, n))
    (λ j h. gate_wires x j a.wires.now a.own v.result (v.ensures j h))
    (λ j h. with_word x m.result m.ensures c.if-conditional.true j a.wires.now a.tape.now a.board.now a.shown)

pub returns : goal.returns
returns c =
    let a = c.args in
    let x = c.at-gate.result in
    let m = c.conditional in
    let v = c.value in
    let n = count_is x m.result m.ensures ∙ ap (λ (b : Bool). cond {A = ℕ} b 1 0) c.if-conditional.false in
    done _ _ _ _ _ _ a.g a.own a.shown _ x c.at-gate.ensures (omega (arith, n))
    (λ j h. gate_wires x j a.wires.now a.own v.result (v.ensures j h))
    (λ j h. without_word x m.result m.ensures c.if-conditional.false j a.wires.now a.tape.now a.board.now a.shown)
