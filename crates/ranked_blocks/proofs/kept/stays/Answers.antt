-- `ranked_blocks::kept::stays` meets its contract: one test after the other.
-- Assumes nothing.
use mathlib.Core.Path.{◌∙◌, sym}
use Prim.Native.Nat.{◌-◌}
use borrow.Author.Tests.{eq-eqb}
use Rattle.ranked_blocks.proofs.Entering.{diagonal_stays, zero_first, zero_other, row_stays, column_stays}
use Rattle.ranked_blocks.proofs.kept.stays.Goals as goal

pub returns-then-i-j : goal.returns-then-i-j
returns-then-i-j c = sym (diagonal_stays c.args.m c.args.i c.args.j c.if-i-j.true)

pub returns-then-i-ne0 : goal.returns-then-i-ne0
returns-then-i-ne0 c = zero_other c.args.m c.args.i c.args.j c.if-m-eq0.true c.if-i-j.false c.if-i-ne0.true

pub returns-else-i-ne0 : goal.returns-else-i-ne0
returns-else-i-ne0 c = zero_first c.args.m c.args.i c.args.j c.if-m-eq0.true c.if-i-j.false c.if-i-ne0.false

pub returns-then-i-m : goal.returns-then-i-m
returns-then-i-m c =
    eq-eqb c.args.i (c.args.m - 1) c.if-i-m.true
    ∙ sym (row_stays c.args.m c.args.i c.args.j c.if-m-eq0.false c.if-i-m.true)

pub returns-else-i-m : goal.returns-else-i-m
returns-else-i-m c = sym (column_stays c.args.m c.args.i c.args.j c.if-m-eq0.false c.if-i-j.false c.if-i-m.false)
