-- `trustee_gates::gate::enter_free` meets its contract: the first p trustees have entered their parts, each in its
-- own piece.
-- Assumes nothing.
use mathlib.Core.Path.{◌≡◌}
use mathlib.Core.List.{[], ◌∷◌}
use Rattle.trustee_shares.specs.Shares.{part, part_of_kind}
use Rattle.trustee_shares.specs.Views.{piece}
use Rattle.trustee_gates.specs.inner.Tables.{each_puts}
use Rattle.trustee_gates.proofs.gate.enter_free.Given as goal

abbrev pub invariant-loop-p : goal.invariant-loop-p
invariant-loop-p l = l.wires ≡ each_puts l.p l.size l.own (λ q. part_of_kind q l.gate.kind
    (part (piece l.size l.initial.wires q) l.gate.a) (part (piece l.size l.initial.wires q) l.gate.b)
    (part (piece l.size l.initial.wires q) l.gate.c) 0 ∷ []) l.initial.wires
