-- After each candidate, writing those left completes the block.
use Rattle.std.proofs.Common.{◌-◌, ◌≤◌}
use Rattle.gate_words.proofs.Going.{Goes}
use Rattle.graded_circuit.specs.OwnList.{candidates_from}
use Rattle.graded_writer.proofs.list.candidates.Given as goal

abbrev pub invariant-loop-c : goal.invariant-loop-c
invariant-loop-c l =
    (l.p.inputs ≤ l.next.wire)
    × Goes l.initial.next l.initial.table (candidates_from l.p l.initial.next.wire 0 l.p.candidates)
    l.next l.table (candidates_from l.p l.next.wire l.c (l.p.candidates - l.c))
