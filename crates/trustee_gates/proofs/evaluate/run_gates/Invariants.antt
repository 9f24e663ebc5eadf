-- `trustee_gates::evaluate::run_gates` meets its contract: running the rest of the gates gives what running all
-- gives.
-- Assumes nothing.
use mathlib.Core.List.{List}
use Prim.Native.Nat.{ℕ}
use lib.ListN.{take}
use lib.Seq.{sets}
use Rattle.gates.specs.Gate.{gates_of}
use Rattle.trustee_shares.specs.Shares.{Held, parts_of}
use Rattle.trustee_shares.specs.Views.{piece, masked_factors}
use Rattle.trustee_gates.specs.declared.gate.Pieces.{Pieces}
use Rattle.trustee_gates.proofs.Running.{Left}
use Rattle.trustee_gates.proofs.evaluate.run_gates.Given as goal

-- the wire parts after the whole list
abbrev pub final : ℕ → Pieces → ℕ → List ℕ → List ℕ → List ℕ → Held
final t pieces inputs table triples ws =
    parts_of t (piece pieces.triples triples) (λ p. take inputs (piece pieces.wires ws p)) 0 (gates_of table)

abbrev pub final_published : ℕ → Pieces → ℕ → List ℕ → List ℕ → List ℕ → List ℕ → Held
final_published t pieces inputs table triples ws published p =
    sets (piece pieces.published published p) 0
    (masked_factors (final t pieces inputs table triples ws p) (piece pieces.triples triples p) 0 (gates_of table))

abbrev pub invariant-loop-g : goal.invariant-loop-g
invariant-loop-g l = Left l.t l.pieces.wires l.pieces.published l.inputs (piece l.pieces.triples l.triples) l.table
    (final l.t l.pieces l.inputs l.table l.triples l.initial.wires)
    (final_published l.t l.pieces l.inputs l.table l.triples l.initial.wires l.initial.published) l.wires l.published l.i
    l.g
