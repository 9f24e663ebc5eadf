-- The complement of what each row says.
use Rattle.std.proofs.Common.{List, [], ◌∷◌, ℕ, suc, ◌+◌, ◌-◌, ◌*◌}
use Rattle.gates.specs.Gate.{Gate}
use Rattle.gate_words.specs.Gates.{not_of}
use Rattle.ranked_circuit.specs.RankedList.{joined_wire}
use Rattle.ranked_blocks.specs.Ranked.{kept_of}
use Rattle.ranked_writer.proofs.Filling.{Filled}
use Rattle.ranked_writer.proofs.losers.output_gates.Given as goal

abbrev pub gate : List ℕ → ℕ → ℕ → ℕ → ℕ → List Gate
gate beats k rows wire i = not_of (joined_wire (kept_of beats k) (suc (k - 2)) (rows + i * (k - 2)) i (2 * (k - 2))) ∷ []

abbrev pub invariant-loop-i : goal.invariant-loop-i
invariant-loop-i l = Filled l.initial.next l.initial.table (gate l.beats l.k l.rows) l.i l.table l.next
