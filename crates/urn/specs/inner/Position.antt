-- Where a juror's ballot is in an urn.
use Rattle.std.specs.Prelude.{List, ℕ, ◌*◌, length, get_or, Option}
use Rattle.urn_chains.specs.declared.find.ChainPosition.{ChainPosition}
use Rattle.urn_chains.specs.Chains.{chain}
use Rattle.urn_chains.specs.Sound.{slot_count, urn_slots}
use Rattle.urn_chains.specs.inner.Position.{position_of}

-- The slot of the juror's ballot, and the slot before it in the ballot chain.
unfoldable pub position_in : ℕ → ℕ → List ℕ → ℕ → Option ChainPosition
position_in k d urn juror =
    position_of (urn_slots k d urn) juror 0
    (chain (slot_count (k * d) (length urn)) (get_or urn 0 0) (urn_slots k d urn))
