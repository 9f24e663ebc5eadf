-- `graded_sums::key::key_words` meets its contract: after each word, writing the words left completes the block.
-- Assumes nothing.
use mathlib.Core.Path.{◌≡◌}
use Prim.Native.Nat.{◌-◌, ◌≤◌}
use Rattle.gate_words.proofs.Going.{Goes}
use Rattle.graded_circuit.specs.RunningSums.{sum_levels_from}
use Rattle.graded_circuit.specs.Key.{key_words}
use Rattle.graded_sums.proofs.key.key_words.Given as goal

abbrev pub invariant-loop-g : goal.invariant-loop-g
invariant-loop-g l =
    (l.base ≡ sum_levels_from l.p l.m l.g) × (l.initial.next.wire ≤ l.next.wire)
    × Goes l.initial.next l.initial.table (key_words l.p l.n l.m l.c 0 (l.p.grades - 2)) l.next l.table
    (key_words l.p l.n l.m l.c l.g (l.p.grades - 2 - l.g))
