-- What writing the numbers of ballots, the links and the paths asks for and does.
use Rattle.std.specs.Prelude.{◌≡◌, List, ℕ, ◌*◌, ◌≤◌, length}
use Rattle.gates.specs.Gate.{Gate}
use Rattle.gate_words.specs.Writing.{Room, Wrote}
use Rattle.gate_words.specs.declared.writer.Writer.{Writer}
use Rattle.ranked_circuit.specs.Table.{table}
use Rattle.ranked_circuit.specs.Stages.{votes_block, path_block}
use Rattle.ranked_circuit.specs.Paths.{paths_to, link_wire}
use Rattle.ranked_circuit.specs.RankedList.{ranked_list}
use Rattle.ranked_blocks.specs.Ranked.{Ranked, kept_of}
use Rattle.ranked_blocks.specs.declared.entries.Ranks.{Ranks}
use Rattle.jury.specs.Shape.{most_pairs, most_candidates}
use Rattle.ranked_writer.specs.Tables.{Keeps}
use Rattle.ranked_writer.specs.inner.Contests.{TableReady}

-- For the table of the numbers of ballots. The ballots are wires already.
pub record VotesTableReady (w : Writer) (words : List ℕ) (p : Ranks) : Type 0 where
  pub ranked : Ranked p
  pub room : Room w (length (table w.wire p.candidates (votes_block p.candidates p.ballots p.digits)))
  pub ballots_below : p.ballots * p.candidates * p.candidates ≤ w.wire
  pub words_long : length words ≡ most_pairs

-- For stage m of the paths.
pub record StageReady (w : Writer) (words links : List ℕ) (p : Ranks) (m : ℕ) : Type 0 where
  pub ready : TableReady w words links p (path_block p.candidates (kept_of links p.candidates)
      (kept_of words p.candidates) p.digits m)
  pub stage : m ≤ p.candidates

-- The gates were written, and the first wire of the word of each pair of candidates is kept, as f says.
pub record WordsDone (w : Writer) (table₀ : List ℕ) (gates : List Gate) (table₁ : List ℕ) (next : Writer) (k : ℕ)
    (words : List ℕ) (f : ℕ → ℕ → ℕ) : Type 0 where
  pub wrote : Wrote w table₀ gates table₁ next
  pub kept : Keeps k words f

-- For the numbers of ballots and the links, right after the ballots.
pub record FirstReady (w : Writer) (links words : List ℕ) (p : Ranks) : Type 0 where
  pub ranked : Ranked p
  pub room : Room w (length (paths_to p.candidates p.ballots p.digits 0).gates)
  pub place : w.wire ≡ p.ballots * p.candidates * p.candidates
  pub links_long : length links ≡ most_pairs
  pub words_long : length words ≡ most_pairs

-- Both tables were written. The first wires of the words and the wires of the links are kept.
pub record FirstDone (w : Writer) (table₀ table₁ : List ℕ) (next : Writer) (p : Ranks) (links words : List ℕ)
    : Type 0 where
  pub wrote : Wrote w table₀ (paths_to p.candidates p.ballots p.digits 0).gates table₁ next
  pub words_kept : Keeps p.candidates words (paths_to p.candidates p.ballots p.digits 0).words
  pub links_kept : Keeps p.candidates links (link_wire p.candidates p.ballots p.digits)

-- For these two tables and all stages of the paths.
pub record PathsReady (w : Writer) (words : List ℕ) (p : Ranks) : Type 0 where
  pub ranked : Ranked p
  pub room : Room w (length (paths_to p.candidates p.ballots p.digits p.candidates).gates)
  pub place : w.wire ≡ p.ballots * p.candidates * p.candidates
  pub words_long : length words ≡ most_pairs

-- For the list of two candidates, right after the ballots.
pub record PairReady (w : Writer) (p : Ranks) : Type 0 where
  pub ranked : Ranked p
  pub room : Room w (length (ranked_list p.candidates p.ballots p.digits))
  pub two : p.candidates ≡ 2
  pub place : w.wire ≡ p.ballots * p.candidates * p.candidates

-- For the whole list: one to eight candidates, 1 to 255 ballots.
pub record ListReady (candidates ballots : ℕ) : Type 0 where
  pub k_least : 1 ≤ candidates
  pub k_most : candidates ≤ most_candidates
  pub n_least : 1 ≤ ballots
  pub n_most : ballots ≤ 255
