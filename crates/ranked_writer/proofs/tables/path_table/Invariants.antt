-- The words of the stage so far.
use Rattle.ranked_writer.proofs.Filling.{TableTo}
use Rattle.ranked_writer.proofs.Keeping.{KeptTo, stage_block, stage_end}
use Rattle.ranked_circuit.specs.Stages.{stays}
use Rattle.ranked_writer.proofs.tables.path_table.Given as goal

abbrev pub invariant-loop-e : goal.invariant-loop-e
invariant-loop-e l =
    TableTo l.initial.next l.initial.table l.p.candidates
    (stage_block l.initial.next l.initial.table l.p.candidates l.p.digits l.m l.links l.initial.words) l.e l.table l.next
    × KeptTo l.p.candidates (stays l.m)
    (stage_end l.initial.next l.initial.table l.p.candidates l.p.digits l.m l.links l.initial.words) l.initial.words l.e l.words
