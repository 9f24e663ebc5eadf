-- What the gates that say who is beaten ask for: 64 wires that say who beats whom among two to eight candidates.
use Rattle.std.specs.Prelude.{◌≡◌, List, ℕ, ◌+◌, ◌-◌, ◌*◌, ◌≤◌, ◌<◌, length}
use Rattle.gate_words.specs.Limits.{writer_limit}
use Rattle.gate_words.specs.Writing.{Room}
use Rattle.gate_words.specs.declared.writer.Writer.{Writer}
use Rattle.jury.specs.Shape.{most_pairs, most_candidates}

-- For operand s of candidate i's row of gates, which starts at wire `at`.
pub record JoinedReady (beats : List ℕ) (k at i s : ℕ) : Type 0 where
  pub k_least : 2 ≤ k
  pub k_most : k ≤ most_candidates
  pub row : i < k
  pub few : s < 16
  pub small : at < writer_limit
  pub long : length beats ≡ most_pairs

-- For candidate i's row of gates.
pub record RowReady (w : Writer) (beats : List ℕ) (k i : ℕ) : Type 0 where
  pub room : Room w (k - 2)
  pub k_least : 2 ≤ k
  pub k_most : k ≤ most_candidates
  pub row : i < k
  pub long : length beats ≡ most_pairs

-- For the rows of all candidates.
pub record RowsReady (w : Writer) (beats : List ℕ) (k : ℕ) : Type 0 where
  pub room : Room w (k * (k - 2))
  pub k_least : 2 ≤ k
  pub k_most : k ≤ most_candidates
  pub long : length beats ≡ most_pairs

-- For the output gates, right after the rows, which start at wire `rows`.
pub record OutputsReady (w : Writer) (beats : List ℕ) (k rows : ℕ) : Type 0 where
  pub room : Room w k
  pub k_least : 2 ≤ k
  pub k_most : k ≤ most_candidates
  pub long : length beats ≡ most_pairs
  pub place : w.wire ≡ rows + k * (k - 2)
