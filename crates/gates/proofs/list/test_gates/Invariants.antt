-- `gates::list::test_gates` meets its contract: judging the rest, with the conditional gates counted so far, is
-- judging the whole list.
-- Assumes nothing.
use Rattle.std.specs.Prelude.{Result}
use mathlib.Core.List.{List}
use Prim.Native.Nat.{ℕ, ◌≤◌}
use lib.ListN.{length}
use Rattle.gates.specs.Open.Gate.{gates_of}
use Rattle.gates.specs.Open.Board.{conditional_count}
use Rattle.gates.specs.Open.Test.{judged, first_bad}
use Rattle.gates.specs.declared.list.ListSize.{ListSize}
use Rattle.gates.specs.declared.list.ListFault.{ListFault}
use Rattle.gates.proofs.Judging.{Judges}
use Rattle.gates.proofs.list.test_gates.Given as goal

-- the answer for the whole table
abbrev pub answer : ℕ → List ℕ → Result ListSize ListFault
answer inputs table = judged (first_bad inputs 0 (gates_of table)) (length (gates_of table)) (conditional_count (gates_of table))

abbrev pub invariant-loop-g : goal.invariant-loop-g
invariant-loop-g l = (l.conditional ≤ l.g) × Judges l.inputs l.table l.g l.conditional (answer l.inputs l.table)
