-- `jury::orders::astray_in_row` meets its contract: at most one byte is astray in each column before j, and if none
-- is, they say what the scores say.
-- Assumes nothing.
use mathlib.Core.Path.{◌≡◌}
use Prim.Native.Nat.{ℕ, ◌≤◌, ◌<◌}
use lib.Dec.{eqb, ltb}
use lib.ListN.{get_or}
use Rattle.jury.proofs.orders.astray_in_row.Given as goal

abbrev pub invariant-loop-j : goal.invariant-loop-j
invariant-loop-j l =
    (l.astray ≤ l.j) × (l.astray ≡ 0 → (i : ℕ) → i < l.j → eqb (get_or l.row i 0) 1 ≡ ltb (get_or l.scores i 0) l.own)
