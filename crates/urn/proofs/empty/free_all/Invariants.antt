-- `urn::empty::free_all` meets its contract: the slots after slot `left` are free, in order, and `at` is where it starts.
-- Assumes nothing.
use mathlib.Core.Path.{◌≡◌}
use Prim.Native.Nat.{suc, ◌+◌, ◌*◌}
use Rattle.urn.proofs.EmptyUrn.{Freed}
use Rattle.urn.proofs.empty.free_all.Given as goal

abbrev pub invariant-loop-left : goal.invariant-loop-left
invariant-loop-left l = Freed l.bytes l.slots l.urn (suc l.left) l.first × (l.at ≡ l.left * (2 + l.bytes))

abbrev pub decreases-loop-left : goal.decreases-loop-left
decreases-loop-left l = l.left
