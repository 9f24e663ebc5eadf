-- After each digit, writing the digits left completes the block.
use Rattle.std.proofs.Common.{◌+◌, ◌-◌, ◌*◌, ◌≤◌, ◌<◌}
use Rattle.gate_words.proofs.Going.{Goes}
use Rattle.graded_circuit.specs.Median.{Fits, later_digits}
use Rattle.graded_keys.proofs.median.later_digits.Given as goal

abbrev pub invariant-loop : goal.invariant-loop
invariant-loop l =
    let left = l.digits - l.counter in
    Fits l.many left × (l.first + l.many * l.step < l.next.wire + l.step)
    × (l.second + l.many * l.step < l.next.wire + l.step) × (l.many * l.step ≤ 2000)
    × Goes l.initial.next l.initial.table (later_digits l.initial.next.wire l.x l.y l.stride l.count l.e l.s l.digits)
    l.next l.table (later_digits l.next.wire l.first l.second l.step l.many l.differ l.larger left)
