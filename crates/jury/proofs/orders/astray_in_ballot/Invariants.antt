-- `jury::orders::astray_in_ballot` meets its contract: if no byte is astray in the rows before i, they say what the
-- scores say.
-- Assumes nothing.
use mathlib.Core.Path.{◌≡◌}
use Prim.Native.Nat.{ℕ, ◌+◌, ◌*◌, ◌≤◌, ◌<◌}
use lib.Dec.{eqb, ltb}
use lib.ListN.{get_or}
use Rattle.jury.proofs.Chunks.{ChunksFrom}
use Rattle.jury.proofs.orders.astray_in_ballot.Given as goal

abbrev pub invariant-loop-i : goal.invariant-loop-i
invariant-loop-i l =
    (l.i-iterator.iter.size ≡ l.fn.k)
    × ChunksFrom l.fn.k l.fn.k l.i-iterator.count l.ballot l.i-iterator.iter.rest.now
    × (l.astray ≤ l.i-iterator.count * l.fn.k)
    × (l.astray ≡ 0 → (h : ℕ) → h < l.i-iterator.count → (j : ℕ) → j < l.fn.k
    → eqb (get_or l.ballot (h * l.fn.k + j) 0) 1 ≡ ltb (get_or l.scores j 0) (get_or l.scores h 0))
