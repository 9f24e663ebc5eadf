-- Each gate joins two operands.
use Rattle.std.proofs.Common.{List, [], ◌∷◌, ℕ, suc, ◌+◌, ◌-◌, ◌*◌}
use Rattle.gates.specs.Gate.{Gate}
use Rattle.gate_words.specs.Gates.{or_of}
use Rattle.ranked_circuit.specs.RankedList.{joined_wire}
use Rattle.ranked_blocks.specs.Ranked.{kept_of}
use Rattle.ranked_writer.proofs.Filling.{Filled}
use Rattle.ranked_writer.proofs.losers.loser_row.Given as goal

abbrev pub gate : List ℕ → ℕ → ℕ → ℕ → ℕ → ℕ → List Gate
gate beats k at i wire t = or_of (joined_wire (kept_of beats k) (suc (k - 2)) at i (2 * t))
    (joined_wire (kept_of beats k) (suc (k - 2)) at i (2 * t + 1)) ∷ []

abbrev pub invariant-loop-t : goal.invariant-loop-t
invariant-loop-t l = Filled l.initial.next l.initial.table (gate l.beats l.k l.initial.next.wire l.i) l.t l.table l.next
