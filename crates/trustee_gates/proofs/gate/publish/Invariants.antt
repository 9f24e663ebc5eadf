-- `trustee_gates::gate::publish` meets its contract: the first p trustees have published their bits, and these are
-- added up.
-- Assumes nothing.
use mathlib.Core.Path.{◌≡◌}
use mathlib.Core.List.{[], ◌∷◌}
use Prim.Native.Nat.{◌*◌}
use Rattle.trustee_shares.specs.Shares.{opened, masked_first, masked_second}
use Rattle.trustee_shares.specs.Views.{piece}
use Rattle.trustee_gates.specs.inner.Tables.{each_puts}
use Rattle.trustee_gates.proofs.gate.publish.Given as goal

abbrev pub invariant-loop-p : goal.invariant-loop-p
invariant-loop-p l = record {
  shown : l.published ≡ each_puts l.p l.pieces.published (2 * l.i)
      (λ q. masked_first (piece l.pieces.wires l.wires q) (piece l.pieces.triples l.triples q) l.i l.gate
      ∷ masked_second (piece l.pieces.wires l.wires q) (piece l.pieces.triples l.triples q) l.i l.gate
      ∷ []) l.initial.published;
  first : l.first ≡ opened l.p
      (λ q. masked_first (piece l.pieces.wires l.wires q) (piece l.pieces.triples l.triples q) l.i l.gate);
  second : l.second ≡ opened l.p
      (λ q. masked_second (piece l.pieces.wires l.wires q) (piece l.pieces.triples l.triples q) l.i l.gate);
}
