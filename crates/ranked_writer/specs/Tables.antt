-- What is kept while the tables are written.
use Rattle.std.specs.Prelude.{◌≡◌, ◌≢◌, List, ℕ, ◌<◌, length}
use Rattle.jury.specs.Shape.{most_pairs}
use Rattle.ranked_blocks.specs.Ranked.{kept_of}

-- There are 64 kept wires, and the one for each pair of k candidates is what f says.
pub record Keeps (k : ℕ) (wires : List ℕ) (f : ℕ → ℕ → ℕ) : Type 0 where
  pub long : length wires ≡ most_pairs
  pub each : (i j : ℕ) → i < k → j < k → i ≢ j → kept_of wires k i j ≡ f i j
