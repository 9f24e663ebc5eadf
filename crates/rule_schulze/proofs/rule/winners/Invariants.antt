-- `rule_schulze::rule::winners` meets its contract: below i the closing bytes are the table's, and by the paths
-- theorem the table is the rule's.
-- Assumes nothing.
use mathlib.Core.Path.{◌≡◌}
use mathlib.Core.Bool.{cond}
use mathlib.Core.List.{List}
use Prim.Native.Nat.{ℕ}
use Rattle.jury.specs.Shape.{most_candidates}
use Rattle.basics.specs.Lists.{tabulate}
use Rattle.basics.proofs.Tabulate.{up_to}
use Rattle.rule_schulze.specs.inner.Tables.{unbeaten_in}
use Rattle.rule_schulze.proofs.rule.winners.Given as goal

-- a closing byte by the table
abbrev pub winner : List (List ℕ) → ℕ → ℕ → ℕ
winner paths k i = cond (unbeaten_in paths k i) 1 0

-- the bytes before turn i
abbrev pub filled : List (List ℕ) → ℕ → ℕ → List ℕ
filled paths k i = tabulate most_candidates (up_to i (winner paths k) (λ j. 0))

abbrev pub invariant-loop-i : goal.invariant-loop-i
invariant-loop-i l = l.closing ≡ filled l.paths l.k l.i
