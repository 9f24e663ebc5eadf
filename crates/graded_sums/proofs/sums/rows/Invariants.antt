-- `graded_sums::sums::rows` meets its contract: after each row, writing the rows left completes the block.
-- Assumes nothing.
use mathlib.Core.Path.{◌≡◌}
use Prim.Native.Nat.{◌+◌, ◌-◌, ◌*◌}
use Rattle.gate_words.proofs.Going.{Goes}
use Rattle.graded_circuit.specs.RunningSums.{rows}
use Rattle.graded_sums.proofs.sums.rows.Given as goal

abbrev pub invariant-loop-g : goal.invariant-loop-g
invariant-loop-g l =
    (l.next.wire ≡ l.n + l.g * l.p.ballots)
    × Goes l.initial.next l.initial.table (rows l.p l.n l.c 0 (l.p.grades - 3)) l.next l.table
    (rows l.p l.n l.c l.g (l.p.grades - 3 - l.g))
