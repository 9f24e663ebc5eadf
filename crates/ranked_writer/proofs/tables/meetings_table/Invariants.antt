-- The meetings so far, and the wires that they end with.
use Rattle.std.proofs.Common.{List, ℕ, ◌-◌}
use lib.Dec.{ltb}
use Rattle.gates.specs.Gate.{Gate}
use Rattle.ranked_circuit.specs.Table.{entry_end}
use Rattle.ranked_circuit.specs.Contests.{meetings_block}
use Rattle.ranked_blocks.specs.Ranked.{kept_of}
use Rattle.ranked_blocks.specs.declared.entries.Ranks.{Ranks}
use Rattle.ranked_writer.proofs.Filling.{TableTo}
use Rattle.ranked_writer.proofs.Keeping.{LinksTo}
use Rattle.ranked_writer.proofs.tables.meetings_table.Given as goal

abbrev pub block : Ranks → List ℕ → List ℕ → ℕ → ℕ → ℕ → List Gate
block p words met = meetings_block (p.candidates - 1) (kept_of words p.candidates) (kept_of met p.candidates) p.digits

abbrev pub invariant-loop-e : goal.invariant-loop-e
invariant-loop-e l =
    TableTo l.initial.next l.initial.table l.p.candidates (block l.p l.words l.initial.met) l.e l.table l.next
    × LinksTo l.p.candidates (λ i. ltb i (l.p.candidates - 1))
    (entry_end l.initial.next.wire l.p.candidates (block l.p l.words l.initial.met)) l.initial.met l.e l.met
