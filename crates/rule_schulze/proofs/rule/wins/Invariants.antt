-- `rule_schulze::rule::wins` meets its contract: nobody below j beats i; the first candidate that does ends the
-- loop.
-- Assumes nothing.
use mathlib.Core.Path.{◌≡◌}
use mathlib.Core.Bool.{true, ◌||◌}
use Prim.Native.Nat.{ℕ, ◌<◌}
use lib.Dec.{leb, eqb}
use Rattle.rule_schulze.specs.inner.Tables.{entry}
use Rattle.rule_schulze.proofs.rule.wins.Given as goal

abbrev pub invariant-loop-j : goal.invariant-loop-j
invariant-loop-j l = ((m : ℕ) → m < l.j → (eqb m l.i || leb (entry l.paths m l.i) (entry l.paths l.i m)) ≡ true)
