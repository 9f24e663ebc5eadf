-- `urn_chains::find::find` meets its contract: the search in the rest of the chain finds what the search in all of
-- it finds.
-- Assumes nothing.
use Prim.Native.Nat.{◌-◌}
use lib.ListN.{get_or}
use Rattle.urn_chains.specs.Slots.{slots_of}
use Rattle.urn_chains.proofs.Positions.{OnFind}
use Rattle.urn_chains.proofs.find.find.Given as goal

abbrev pub invariant-loop-slot : goal.invariant-loop-slot
invariant-loop-slot l = OnFind (slots_of l.bytes l.slots l.urn) l.slots (get_or l.urn 0 0) l.juror l.before l.count l.slot

abbrev pub decreases-loop-slot : goal.decreases-loop-slot
decreases-loop-slot l = l.slots - l.count
