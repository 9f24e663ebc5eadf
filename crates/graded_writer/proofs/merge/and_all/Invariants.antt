-- After each gate, writing the gates left completes the block.
use Rattle.std.proofs.Common.{◌+◌, ◌-◌}
use Rattle.gate_words.proofs.Going.{Goes}
use Rattle.graded_circuit.specs.Merge.{and_all}
use Rattle.graded_writer.proofs.merge.and_all.Given as goal

abbrev pub invariant-loop-i : goal.invariant-loop-i
invariant-loop-i l =
    Goes l.initial.next l.initial.table (and_all l.at l.stays l.count) l.next l.table (and_all (l.at + l.i) l.stays (l.count - l.i))
