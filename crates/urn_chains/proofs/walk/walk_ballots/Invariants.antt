-- `urn_chains::walk::walk_ballots` meets its contract: the walk along the rest of the chain finds what the walk
-- along all of it finds.
-- Assumes nothing.
use Prim.Native.Nat.{◌-◌, ◌*◌}
use lib.ListN.{get_or}
use Rattle.urn_chains.specs.Slots.{slots_of}
use Rattle.urn_chains.proofs.Walks.{OnBallots}
use Rattle.urn_chains.proofs.walk.walk_ballots.Given as goal

abbrev pub invariant-loop-slot : goal.invariant-loop-slot
invariant-loop-slot l = OnBallots l.k l.d (slots_of (l.k * l.d) l.slots l.urn) l.slots (get_or l.urn 0 0) l.marks l.jurors l.count l.slot

abbrev pub decreases-loop-slot : goal.decreases-loop-slot
decreases-loop-slot l = l.slots - l.count
