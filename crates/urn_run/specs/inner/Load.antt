-- Loading the chain's ballots into the wire table.
use Rattle.std.specs.Prelude.{◌≡◌, true, List, ℕ, ◌≤◌, T, length}
use Rattle.urn_chains.specs.Sound.{graded_shape, sound}
use Rattle.urn_run.specs.Run.{chain_ballots}

-- The urn is sound, and the wire table has room for its ballots.
pub record Loadable (k d : ℕ) (urn wires : List ℕ) : Type 0 where
  pub graded : T (graded_shape k d)
  pub is_sound : sound k d urn ≡ true
  pub room : length (chain_ballots k d urn) ≤ length wires
