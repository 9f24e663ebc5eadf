-- A row for each candidate.
use Rattle.std.proofs.Common.{◌-◌}
use Rattle.ranked_circuit.specs.RankedList.{loser_row}
use Rattle.ranked_blocks.specs.Ranked.{kept_of}
use Rattle.ranked_writer.proofs.Filling.{Filled}
use Rattle.ranked_writer.proofs.losers.loser_rows.Given as goal

abbrev pub invariant-loop-i : goal.invariant-loop-i
invariant-loop-i l = Filled l.initial.next l.initial.table (loser_row (kept_of l.beats l.k) (l.k - 2)) l.i l.table l.next
