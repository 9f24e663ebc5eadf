-- What inner functions require; no entry point's contract needs it.
use Rattle.std.specs.Prelude.{◌≡◌, List, ℕ, ◌+◌, ◌*◌, ◌≤◌, length}
use Rattle.trustee_shares.specs.Views.{Dealing}
use Rattle.gates.specs.Test.{most_gates}
use Rattle.jury.specs.Shape.{most_candidates}
use Rattle.trustees.specs.Reasons.{most_trustees}

-- The sizes of an accepted list and of accepted ballots are so small that no product with the number of trustees
-- wraps.
pub record SmallSizes (inputs outputs gates conditional : ℕ) : Type 0 where
  pub inputs_most : inputs ≤ 1048576
  pub outputs_most : outputs ≤ most_candidates
  pub gates_most : gates ≤ most_gates
  pub conditional_most : conditional ≤ 1048576

-- The same, and there are at most five trustees.
pub record SmallCall (inputs outputs gates conditional t : ℕ) : Type 0 where
  pub sizes : SmallSizes inputs outputs gates conditional
  pub few : t ≤ most_trustees

-- The k closing bits, from place `first` on, are in each trustee's piece of the published table.
pub record ClosingFits (t size first k : ℕ) (published : List ℕ) : Type 0 where
  pub k_most : k ≤ most_candidates
  pub closing_in : first + k ≤ size
  pub published_length : length published ≡ t * size

-- The tables of the dealing have the lengths that ballots and list need.
pub record DealingFits (t conditional : ℕ) (ballots : List ℕ) (d : Dealing) : Type 0 where
  pub conditional_most : conditional ≤ 1048576
  pub ballot_length : length d.ballot_parts ≡ t * length ballots
  pub dealer_length : length d.dealer_parts ≡ t * (3 * conditional)
