-- `urn_run::load::load` meets its contract: writing the rest of the ballots after those written gives the table
-- that writing all gives.
-- Assumes nothing.
use Prim.Native.Nat.{◌-◌, ◌*◌}
use lib.ListN.{length, get_or}
use lib.Seq.{sets}
use Rattle.urn_chains.specs.Slots.{slots_of}
use Rattle.urn_chains.specs.Chains.{chain}
use Rattle.urn_chains.specs.Sound.{slot_count}
use Rattle.urn_run.proofs.LoadedWires.{OnLoad, along}
use Rattle.urn_run.proofs.load.load.Given as goal

abbrev pub invariant-loop-slot : goal.invariant-loop-slot
invariant-loop-slot l = OnLoad (slots_of (l.k * l.d) (slot_count (l.k * l.d) (length l.urn)) l.urn)
    (slot_count (l.k * l.d) (length l.urn)) (l.k * l.d) (length l.initial.wires)
    (sets l.initial.wires 0 (along (slots_of (l.k * l.d) (slot_count (l.k * l.d) (length l.urn)) l.urn)
    (chain (slot_count (l.k * l.d) (length l.urn)) (get_or l.urn 0 0) (slots_of (l.k * l.d) (slot_count (l.k * l.d) (length l.urn)) l.urn))))
    l.wires l.count l.slot

abbrev pub decreases-loop-slot : goal.decreases-loop-slot
decreases-loop-slot l = slot_count (l.k * l.d) (length l.urn) - l.count
