-- `jury::orders::are_orders` meets its contract: if no byte is astray in the ballots so far, they are strict weak
-- orders.
-- Assumes nothing.
use mathlib.Core.Path.{◌≡◌}
use Prim.Native.Nat.{ℕ, ◌*◌, ◌≤◌, ◌<◌}
use lib.ListN.{length}
use Rattle.jury.specs.Rankings.{before}
use Rattle.jury.specs.WeakOrder.{StrictWeakOrder}
use Rattle.jury.proofs.Chunks.{ChunksFrom}
use Rattle.jury.proofs.orders.are_orders.Given as goal

abbrev pub invariant-loop-ballot : goal.invariant-loop-ballot
invariant-loop-ballot l =
    (l.ballot-iterator.size ≡ l.k * l.k)
    × ChunksFrom (l.k * l.k) l.fn.shape.ballots (length l.yielded) l.ballots l.ballot-iterator.rest.now
    × (l.astray ≤ length l.yielded * (l.k * l.k))
    × (l.astray ≡ 0 → (b : ℕ) → b < length l.yielded → StrictWeakOrder l.k (before l.k l.ballots b))
