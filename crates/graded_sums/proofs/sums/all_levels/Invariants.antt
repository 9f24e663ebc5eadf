-- `graded_sums::sums::all_levels` meets its contract: after each sum, writing the levels left completes the block.
-- Assumes nothing.
use mathlib.Core.Path.{◌≡◌}
use Prim.Native.Nat.{◌-◌}
use Rattle.gate_words.proofs.Going.{Goes}
use Rattle.graded_circuit.specs.RunningSums.{sum_levels_from, all_levels}
use Rattle.graded_sums.proofs.sums.all_levels.Given as goal

abbrev pub invariant-loop-g : goal.invariant-loop-g
invariant-loop-g l =
    (l.next.wire ≡ sum_levels_from l.p l.initial.next.wire l.g)
    × Goes l.initial.next l.initial.table (all_levels l.p l.n l.initial.next.wire l.c 0 (l.p.grades - 2)) l.next l.table
    (all_levels l.p l.n l.initial.next.wire l.c l.g (l.p.grades - 2 - l.g))
