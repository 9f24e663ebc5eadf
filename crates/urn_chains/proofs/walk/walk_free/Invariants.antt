-- `urn_chains::walk::walk_free` meets its contract: the walk along the rest of the chain finds what the walk along
-- all of it finds.
-- Assumes nothing.
use Prim.Native.Nat.{◌-◌}
use lib.ListN.{get_or}
use Rattle.urn_chains.specs.Slots.{slots_of}
use Rattle.urn_chains.proofs.Walks.{OnFree}
use Rattle.urn_chains.proofs.walk.walk_free.Given as goal

abbrev pub invariant-loop-slot : goal.invariant-loop-slot
invariant-loop-slot l = OnFree (slots_of l.bytes l.slots l.urn) l.slots (get_or l.urn 1 0) l.initial.marks l.marks l.count l.slot

abbrev pub decreases-loop-slot : goal.decreases-loop-slot
decreases-loop-slot l = l.slots - l.count
