-- One stage after the other.
use Rattle.std.proofs.Common.{◌≡◌, List, ℕ}
use Rattle.gates.specs.Gate.{Gate}
use Rattle.gate_words.specs.Writing.{Wrote}
use Rattle.ranked_circuit.specs.Paths.{link_wire, paths_to}
use Rattle.ranked_circuit.proofs.GoodLaws.{end_of}
use Rattle.ranked_blocks.specs.declared.entries.Ranks.{Ranks}
use Rattle.ranked_writer.specs.Tables.{Keeps}
use Rattle.ranked_writer.proofs.Parts.{stages_to}
use Rattle.ranked_writer.proofs.list.path_tables.Given as goal

abbrev pub words_at : Ranks → ℕ → ℕ → ℕ → ℕ
words_at p m = (paths_to p.candidates p.ballots p.digits m).words

abbrev pub stages : Ranks → ℕ → List Gate
stages p m = stages_to p.candidates p.ballots p.digits m

abbrev pub invariant-loop-m : goal.invariant-loop-m
invariant-loop-m l =
    Keeps l.p.candidates l.links (link_wire l.p.candidates l.p.ballots l.p.digits)
    × (l.next.wire ≡ end_of l.p.candidates l.p.ballots l.p.digits l.m)
    × Wrote l.initial.next l.initial.table (stages l.p l.m) l.table l.next × Keeps l.p.candidates l.words (words_at l.p l.m)
