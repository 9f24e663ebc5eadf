-- `gates::step::close` meets its contract: it copies the last wires, which fill the board to its end.
-- Assumes nothing.
use mathlib.Core.Path.{◌≡◌, ◌∙◌, ap}
use mathlib.Core.List.{List, ◌++◌, append-nil}
use Prim.Native.Nat.{ℕ, ◌+◌, ◌-◌, ◌≤◌}
use native.Mathlib.Omega.{arith}
use lib.ListN.{length, take, drop, length-drop, drop_of_length-le}
use lib.Seq.{take_all}
use Rattle.gates.specs.Open.Wires.{outputs_of}
use Rattle.gates.proofs.step.close.Goals as goal

closed : (ws board last : List ℕ) (outputs shown : ℕ) → outputs ≤ length ws → length board ≡ shown + outputs
    → last ≡ take (length ws - (length ws - outputs)) (drop (length ws - outputs) ws)
    → take shown board ++ (last ++ drop (length board - shown) (drop shown board)) ≡ take shown board ++ outputs_of outputs ws
unfolding outputs_of
closed ws board last outputs shown fits size e =
    ap (λ (l : List ℕ). take shown board ++ (last ++ l))
    (drop_of_length-le (drop shown board) {i = length board - shown} (omega (arith, length-drop shown board)))
    ∙ ap (λ (l : List ℕ). take shown board ++ l)
    (append-nil last ∙ e ∙ take_all (length ws - (length ws - outputs)) (drop (length ws - outputs) ws)
    (omega (arith, length-drop (length ws - outputs) ws)))

pub returns : goal.returns
returns c = let a = c.args in
    closed a.wires.now a.board.now c.copy.new.to a.outputs a.shown c.requires.enough c.requires.board_length
    c.copy.ensures
