-- The counters so far, and their words.
use Rattle.std.proofs.Common.{List, ℕ, suc, ◌-◌}
use lib.Dec.{eqb}
use Rattle.gates.specs.Gate.{Gate}
use Rattle.ranked_circuit.specs.Table.{entry_end}
use Rattle.ranked_circuit.specs.Stages.{votes_block}
use Rattle.ranked_blocks.specs.declared.entries.Ranks.{Ranks}
use Rattle.ranked_writer.proofs.Filling.{TableTo}
use Rattle.ranked_writer.proofs.Keeping.{KeptTo}
use Rattle.ranked_writer.proofs.tables.votes_table.Given as goal

abbrev pub block : Ranks → ℕ → ℕ → ℕ → List Gate
block p = votes_block p.candidates p.ballots p.digits

abbrev pub end : ℕ → Ranks → ℕ → ℕ → ℕ
end wire p i j = entry_end wire p.candidates (block p) i j - suc p.digits

abbrev pub invariant-loop-e : goal.invariant-loop-e
invariant-loop-e l =
    TableTo l.initial.next l.initial.table l.p.candidates (block l.p) l.e l.table l.next
    × KeptTo l.p.candidates eqb (end l.initial.next.wire l.p) l.initial.words l.e l.words
