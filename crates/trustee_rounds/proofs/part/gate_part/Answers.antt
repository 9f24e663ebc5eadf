-- `trustee_rounds::part::gate_part` meets its contract: a conditional gate uses the bit of the product; a free gate
-- does not depend on it.
-- Assumes nothing.
use mathlib.Core.Path.{◌∙◌, sym}
use Rattle.trustee_shares.specs.Shares.{part}
use Rattle.trustee_shares.proofs.Exchange.{ignores}
use Rattle.trustee_rounds.proofs.part.gate_part.Goals as goal

pub returns : goal.returns
returns c = let a = c.args in
    c.own_part-2.ensures ∙ ignores a.p a.gate.kind (part a.wires.now a.gate.a)
    (part a.wires.now a.gate.b) (part a.wires.now a.gate.c) _ _ c.requires.gate.known
    (sym c.conditional.ensures ∙ c.if-conditional.false)
