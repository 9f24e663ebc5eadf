-- `text_lines::decimal::put` meets its contract: a turn stores the last digit, and the digits of the tenth go
-- before it.
-- Assumes nothing.
use mathlib.Core.Path.{◌≡◌}
use Prim.Native.Nat.{suc, ◌+◌, ◌≤◌}
use lib.ListN.{length}
use lib.Seq.{sets}
use Rattle.text_lines.specs.Decimal.{decimal}
use Rattle.text_lines.proofs.decimal.put.Given as goal

abbrev pub invariant-loop-rest : goal.invariant-loop-rest
invariant-loop-rest l = (l.rest ≤ 4294967295) × (suc l.i ≡ l.at + length (decimal l.rest)) × (suc l.i ≤ length l.output)
    × (length l.output ≡ length l.initial.output) × (sets l.output l.at (decimal l.rest) ≡ sets l.initial.output l.at (decimal l.n))

abbrev pub decreases-loop-rest : goal.decreases-loop-rest
decreases-loop-rest l = l.rest
