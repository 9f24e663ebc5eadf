-- `gates::place::first_above_one` meets its contract: until a byte is found, searching the rest answers for all.
-- Assumes nothing.
use mathlib.Core.Path.{◌≡◌}
use lib.ListN.{drop}
use Rattle.gates.specs.Test.{first_above_one}
use Rattle.gates.proofs.place.first_above_one.Given as goal

abbrev pub invariant-loop-i : goal.invariant-loop-i
invariant-loop-i l = first_above_one l.i (drop l.i l.bytes) ≡ first_above_one 0 l.bytes
