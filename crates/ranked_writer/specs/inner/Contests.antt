-- What writing the contests asks for and does.
use Rattle.std.specs.Prelude.{◌≡◌, Bool, cond, List, ◌++◌, ℕ, max, ◌+◌, ◌*◌, ◌≤◌, length}
use Rattle.jury.specs.Shape.{most_pairs}
use Rattle.gates.specs.Gate.{Gate}
use Rattle.gate_words.specs.Writing.{Room, Wrote}
use Rattle.gate_words.specs.declared.writer.Writer.{Writer}
use Rattle.ranked_circuit.specs.Table.{table}
use Rattle.ranked_circuit.specs.Stages.{link_at}
use Rattle.ranked_circuit.specs.Paths.{paths_to}
use Rattle.ranked_circuit.specs.Contests.{duels_from, duels, meetings, beats_at}
use Rattle.ranked_circuit.specs.RankedList.{ranked_list}
use Rattle.ranked_blocks.specs.Ranked.{Ranked, kept_of}
use Rattle.ranked_blocks.specs.inner.Entries.{Kept}
use Rattle.ranked_blocks.specs.declared.entries.Ranks.{Ranks}
use Rattle.ranked_writer.specs.Tables.{Keeps}

-- For a table with one block for each pair of candidates: what is kept, and room.
pub record TableReady (w : Writer) (words wires : List ℕ) (p : Ranks) (block : ℕ → ℕ → ℕ → List Gate) : Type 0 where
  pub kept : Kept w words wires p
  pub room : Room w (length (table w.wire p.candidates block))

-- The table was written. The wires about two candidates are kept if the row of the later one has blocks.
pub record TableDone (w : Writer) (table₀ table₁ : List ℕ) (next : Writer) (k : ℕ) (block : ℕ → ℕ → ℕ → List Gate)
    (rows : ℕ → Bool) (wires wires' : List ℕ) : Type 0 where
  pub wrote : Wrote w table₀ (table w.wire k block) table₁ next
  pub kept : Keeps k wires' (λ i j. cond (rows (max i j)) (link_at w.wire k block i j) (kept_of wires k i j))

-- For the contests, right after the paths.
pub record ContestsReady (w : Writer) (words wires : List ℕ) (p : Ranks) : Type 0 where
  pub ranked : Ranked p
  pub room : Room w (length (duels p.candidates p.ballots p.digits)
      + length (meetings p.candidates p.ballots p.digits))
  pub place : w.wire ≡ duels_from p.candidates p.ballots p.digits
  pub paths : Keeps p.candidates words (paths_to p.candidates p.ballots p.digits p.candidates).words
  pub long : length wires ≡ most_pairs

-- The contests were written, and the wires that say who beats whom are kept.
pub record ContestsDone (w : Writer) (table₀ table₁ : List ℕ) (next : Writer) (p : Ranks) (wires : List ℕ)
    : Type 0 where
  pub wrote : Wrote w table₀
      (duels p.candidates p.ballots p.digits ++ meetings p.candidates p.ballots p.digits) table₁ next
  pub kept : Keeps p.candidates wires (beats_at p.candidates p.ballots p.digits)

-- For the list of three or more candidates, right after the ballots.
pub record CircuitReady (w : Writer) (p : Ranks) : Type 0 where
  pub ranked : Ranked p
  pub room : Room w (length (ranked_list p.candidates p.ballots p.digits))
  pub many : 3 ≤ p.candidates
  pub place : w.wire ≡ p.ballots * p.candidates * p.candidates
