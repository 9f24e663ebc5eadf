-- `trustee_gates::gate::second_factor` meets its contract, for a choice and for other kinds.
-- Assumes nothing.
use mathlib.Core.Path.{sym}
use borrow.Author.Tests.{eq-eqb, ne_eqb}
use Rattle.trustee_shares.specs.Shares.{second_factor}
use Rattle.trustee_gates.proofs.gate.second_factor.Goals as goal

pub returns-then-gate-eq-CHOICE : goal.returns-then-gate-eq-CHOICE
unfolding second_factor
returns-then-gate-eq-CHOICE c = let a = c.args in
    rw (
      eq-eqb a.gate.kind 7 c.if-gate-eq-CHOICE.true,
      sym c.entry-b.ensures,
      sym c.entry.ensures,
    ) c.plus.ensures

pub returns : goal.returns
unfolding second_factor
returns c = let a = c.args in
    rw (ne_eqb a.gate.kind 7 c.if-gate-eq-CHOICE.false) c.entry-b.ensures
