-- The comparisons so far, and the wires that they end with.
use Rattle.std.proofs.Common.{List, ℕ}
use lib.Dec.{leb}
use Rattle.gates.specs.Gate.{Gate}
use Rattle.ranked_circuit.specs.Table.{entry_end}
use Rattle.ranked_circuit.specs.Stages.{links_block}
use Rattle.ranked_blocks.specs.Ranked.{kept_of}
use Rattle.ranked_blocks.specs.declared.entries.Ranks.{Ranks}
use Rattle.ranked_writer.proofs.Filling.{TableTo}
use Rattle.ranked_writer.proofs.Keeping.{LinksTo}
use Rattle.ranked_writer.proofs.tables.links_table.Given as goal

abbrev pub block : Ranks → ℕ → List ℕ → ℕ → ℕ → ℕ → List Gate
block p first words = links_block first (kept_of words p.candidates) p.digits

abbrev pub invariant-loop-e : goal.invariant-loop-e
invariant-loop-e l =
    TableTo l.initial.next l.initial.table l.p.candidates (block l.p l.first l.words) l.e l.table l.next
    × LinksTo l.p.candidates (leb l.first) (entry_end l.initial.next.wire l.p.candidates (block l.p l.first l.words))
    l.initial.links l.e l.links
