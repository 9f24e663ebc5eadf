-- `jury::orders::put_scores` is safe: turn i takes row i.
-- Assumes nothing.
use mathlib.Core.Path.{◌≡◌}
use Rattle.jury.proofs.Chunks.{ChunksFrom}
use Rattle.jury.proofs.orders.put_scores.Given as goal

abbrev pub invariant-loop-i : goal.invariant-loop-i
invariant-loop-i l =
    (l.i-iterator.iter.size ≡ l.fn.k) × ChunksFrom l.fn.k l.fn.k l.i-iterator.count l.ballot l.i-iterator.iter.rest.now
