-- `jury::counts::add_ballot` meets its contract: the rows below c have the ballot's rows added, the others are
-- unchanged.
-- Assumes nothing.
use mathlib.Core.Path.{◌≡◌}
use mathlib.Core.List.{List, []}
use Prim.Native.Nat.{ℕ, ◌*◌}
use lib.ListN.{get_or, take, drop}
use Rattle.basics.specs.Lists.{tabulate}
use Rattle.jury.specs.Shape.{most_candidates}
use Rattle.jury.specs.inner.Counts.{plus_row}
use Rattle.basics.proofs.Tabulate.{up_to}
use Rattle.jury.proofs.counts.add_ballot.Given as goal

abbrev pub old : List (List ℕ) → ℕ → List ℕ
old counts c = get_or counts c []

abbrev pub new : ℕ → List (List ℕ) → List ℕ → ℕ → List ℕ
new d counts ballot c = plus_row (get_or counts c []) (take d (drop (c * d) ballot))

abbrev pub invariant-loop-c : goal.invariant-loop-c
invariant-loop-c l =
    l.counts ≡ tabulate most_candidates (up_to l.c (new l.fn.shape.grades l.fn.counts l.ballot) (old l.fn.counts))
