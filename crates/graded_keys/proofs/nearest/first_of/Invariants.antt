-- After each grade, writing the grades left completes the block: those before grade i.
use Rattle.std.proofs.Common.{suc, ◌+◌, ◌≤◌}
use Rattle.gate_words.proofs.Going.{Goes}
use Rattle.graded_circuit.specs.Nearest.{first_words}
use Rattle.graded_keys.proofs.nearest.first_of.Given as goal

abbrev pub invariant-loop-i : goal.invariant-loop-i
invariant-loop-i l =
    (l.initial.next.wire ≤ l.next.wire) × (l.first + suc l.above ≤ l.next.wire) × (l.second + suc l.above ≤ l.next.wire)
    × Goes l.initial.next l.initial.table (first_words l.initial.next.wire l.f l.x l.y l.u l.v l.above l.count) l.next l.table
    (first_words l.next.wire l.f l.x l.y l.first l.second l.above l.i)
