-- After each grade, writing the grades left completes the block.
use Rattle.std.proofs.Common.{suc, ◌+◌, ◌-◌, ◌*◌, ◌≤◌, ◌<◌}
use Rattle.gate_words.proofs.Going.{Goes}
use Rattle.graded_circuit.specs.Nearest.{stride, side_span, last_words}
use Rattle.graded_keys.proofs.nearest.last_of.Given as goal

abbrev pub invariant-loop : goal.invariant-loop
invariant-loop l =
    let more = l.count - l.counter in
    (l.flag + more * side_span l.above < l.next.wire + side_span l.above) × (l.left + more * stride l.above ≤ l.next.wire)
    × (l.right + more * stride l.above ≤ l.next.wire) × (l.first + suc l.above ≤ l.next.wire)
    × (l.second + suc l.above ≤ l.next.wire)
    × Goes l.initial.next l.initial.table (last_words l.initial.next.wire l.f l.x l.y l.u l.v l.above l.count) l.next l.table
    (last_words l.next.wire l.flag l.left l.right l.first l.second l.above more)
