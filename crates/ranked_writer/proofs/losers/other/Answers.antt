-- `ranked_writer::losers::other` meets its contract: those before i keep their number, those after it move up.
-- Assumes nothing.
use mathlib.Core.Path.{◌∙◌, sym, ap}
use mathlib.Core.Bool.{Bool, cond}
use Prim.Native.Nat.{suc}
use native.Mathlib.Numerals.{add-one}
use native.Mathlib.Omega.{arith}
use borrow.Author.Tests.{lt-ltb, le-ltb}
use Rattle.ranked_circuit.specs.RankedList.{other}
use Rattle.ranked_writer.proofs.losers.other.Goals as goal

pub returns-then-s-i : goal.returns-then-s-i
unfolding other
returns-then-s-i c = let a = c.args in sym (ap (λ (t : Bool). cond t a.s (suc a.s)) (lt-ltb a.s a.i c.if-s-i.true))

pub returns-else-s-i : goal.returns-else-s-i
unfolding other
returns-else-s-i c = let a = c.args in add-one a.s
    ∙ sym (ap (λ (t : Bool). cond t a.s (suc a.s)) (le-ltb a.s a.i (omega (arith, c.if-s-i.false))))
