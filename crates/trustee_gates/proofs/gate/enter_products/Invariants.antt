-- `trustee_gates::gate::enter_products` meets its contract: the first p trustees have entered their parts, each in
-- its own piece.
-- Assumes nothing.
use mathlib.Core.Path.{◌≡◌}
use mathlib.Core.List.{[], ◌∷◌}
use Rattle.trustee_shares.specs.Shares.{part, part_of_kind, product_part}
use Rattle.trustee_shares.specs.Views.{piece}
use Rattle.trustee_gates.specs.inner.Tables.{each_puts}
use Rattle.trustee_gates.proofs.gate.enter_products.Given as goal

abbrev pub invariant-loop-p : goal.invariant-loop-p
invariant-loop-p l = l.wires ≡ each_puts l.p l.pieces.wires l.own (λ q. part_of_kind q l.gate.kind
    (part (piece l.pieces.wires l.initial.wires q) l.gate.a) (part (piece l.pieces.wires l.initial.wires q) l.gate.b)
    (part (piece l.pieces.wires l.initial.wires q) l.gate.c)
    (product_part q (piece l.pieces.triples l.triples q) l.i l.opened.first l.opened.second) ∷ []) l.initial.wires
