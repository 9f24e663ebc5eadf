-- `jury::ballots::test_grades` meets its contract: the first bad row of the rest is the first bad row of all.
-- Assumes nothing.
use mathlib.Core.Path.{◌≡◌}
use Prim.Native.Nat.{◌-◌, ◌*◌}
use lib.ListN.{drop}
use Rattle.jury.specs.Ballots.{rows_of, first_bad_row}
use Rattle.jury.proofs.ballots.test_grades.Given as goal

abbrev pub invariant-loop-r : goal.invariant-loop-r
invariant-loop-r l =
    let d = l.fn.shape.grades in
    let rows = l.fn.shape.ballots * l.fn.shape.candidates in
    first_bad_row l.r (rows_of d (rows - l.r) (drop (l.r * d) l.ballots)) ≡ first_bad_row 0 (rows_of d rows l.ballots)
