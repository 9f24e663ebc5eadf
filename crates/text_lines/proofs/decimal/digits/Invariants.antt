-- Reading on from here gives what reading from the start gives, and the value is one that a gate can hold.
use mathlib.Core.Path.{◌≡◌}
use Prim.Native.Nat.{◌≤◌}
use lib.ListN.{drop}
use Rattle.text_lines.specs.Decimal.{digits_in}
use Rattle.text_lines.proofs.decimal.digits.Given as goal

abbrev pub invariant-loop-i : goal.invariant-loop-i
invariant-loop-i l = (l.value ≤ 4294967295) × (digits_in l.value (drop l.i l.text) ≡ digits_in l.first (drop l.at l.text))
