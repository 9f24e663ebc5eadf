-- `text::scan::line_count` meets its contract: it counts the line feeds, and looks at the last character.
-- Assumes nothing.
use mathlib.Core.Path.{◌≡◌}
use Prim.Native.Nat.{◌≤◌}
use lib.ListN.{take}
use Rattle.std.specs.Prelude.{eqb, count_by}
use Rattle.text.proofs.scan.line_count.Given as goal

abbrev pub invariant-loop-c : goal.invariant-loop-c
invariant-loop-c l = (l.feeds ≤ l.c-index) × (l.feeds ≡ count_by (λ x. eqb x 10) (take l.c-index l.text))
