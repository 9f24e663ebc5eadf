-- `text_lines::decimal::count` meets its contract: the number has more than `more` digits, and the bound is the
-- next power of ten.
-- Assumes nothing.
use Prim.Native.Nat.{◌≤◌}
use mathlib.Core.Path.{◌≡◌}
use Prim.Native.Nat.{suc, ◌-◌, ◌^◌, ◌<◌}
use Rattle.text_lines.proofs.DecimalLaws.{Least}
use Rattle.text_lines.proofs.decimal.count.Given as goal

abbrev pub invariant-loop-bound : goal.invariant-loop-bound
invariant-loop-bound l = (l.bound ≡ 10 ^ suc l.more) × Least l.more l.n × (l.more < l.bound) × (l.more ≤ l.number)

abbrev pub decreases-loop-bound : goal.decreases-loop-bound
decreases-loop-bound l = suc l.number - l.bound
