-- After each grade, writing the grades left completes the block.
use Rattle.std.proofs.Common.{◌+◌, ◌-◌, ◌*◌, ◌≤◌}
use Rattle.gate_words.proofs.Going.{Goes}
use Rattle.graded_circuit.specs.Nearest.{stride, sides}
use Rattle.graded_keys.proofs.nearest.sides.Given as goal

abbrev pub invariant-loop : goal.invariant-loop
invariant-loop l =
    let more = l.count - l.counter in
    (l.left + more * stride l.above ≤ l.next.wire) × (l.right + more * stride l.above ≤ l.next.wire)
    × Goes l.initial.next l.initial.table (sides l.initial.next.wire l.x l.y l.above l.high l.count) l.next l.table
    (sides l.next.wire l.left l.right l.above l.high more)
