-- `gates::place::first_above_one` meets its contract: until a byte is found, searching the rest answers for all.
-- Assumes nothing.
use mathlib.Core.Path.{◌∙◌, sym, ap}
use Prim.Native.Nat.{ℕ}
use native.Mathlib.Numerals.{add-one}
use native.Mathlib.Omega.{arith}
use lib.ListN.{drop, drop_of_length-le}
use Rattle.gates.specs.Test.{first_above_one}
use Rattle.gates.proofs.Places.{above_here, above_later}
use Rattle.gates.proofs.place.first_above_one.Goals as goal

pub returns-then-byte-gt-LARGEST_BIT : goal.returns-then-byte-gt-LARGEST_BIT
returns-then-byte-gt-LARGEST_BIT c = sym (above_here c.args.bytes.now c.loop-i.i (omega arith) c.if-byte-gt-LARGEST_BIT.true) ∙ c.loop-i.invariant

pub loop-i-preserved : goal.loop-i-preserved
loop-i-preserved c = ap (λ (k : ℕ). first_above_one k (drop k c.args.bytes.now)) (add-one c.loop-i.i)
    ∙ sym (above_later c.args.bytes.now c.loop-i.i (omega arith) c.if-byte-gt-LARGEST_BIT.false) ∙ c.loop-i.invariant

pub returns : goal.returns
unfolding first_above_one
returns c = sym (ap (first_above_one c.loop-i.i)
    (drop_of_length-le c.args.bytes.now {i = c.loop-i.i} (omega arith))) ∙ c.loop-i.invariant
