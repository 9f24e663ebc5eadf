-- What the writing of every block asks, and what it does to the lent table.
use Rattle.std.specs.Prelude.{◌≡◌, List, ℕ, ◌+◌, ◌*◌, ◌≤◌, ◌<◌, length}
use Rattle.std.proofs.lemmas.List.Edits.{sets}
use Rattle.gates.specs.Gate.{Gate, numbers_of}
use Rattle.gates.specs.Board.{conditional_count}
use Rattle.gate_words.specs.Limits.{writer_limit}
use Rattle.gate_words.specs.declared.writer.Writer.{Writer}

-- The writer can count `gates` more gates: the numbers of gates and of wires stay below the limit, and no more
-- conditional gates were counted than gates. The table itself may be too short.
pub record Room (w : Writer) (gates : ℕ) : Type 0 where
  pub few : w.gate + gates < writer_limit
  pub small : w.wire + gates < writer_limit
  pub counted : w.conditional ≤ w.gate

-- The table keeps its length. If it has room for the block, it holds the block's numbers from the writer's place on
-- and is unchanged elsewhere. The next writer is after the block and has counted its conditional gates.
pub record Wrote (w : Writer) (table : List ℕ) (block : List Gate) (table' : List ℕ) (next : Writer) : Type 0 where
  pub long : length table' ≡ length table
  pub numbers : 4 * (w.gate + length block) ≤ length table → table' ≡ sets table (4 * w.gate) (numbers_of block)
  pub gates : next.gate ≡ w.gate + length block
  pub wires : next.wire ≡ w.wire + length block
  pub conditionals : next.conditional ≡ w.conditional + conditional_count block
