-- What writing the blocks of the tables asks for and does.
use Rattle.std.specs.Prelude.{◌≡◌, Bool, false, List, ℕ, suc, ◌*◌, ◌+◌, ◌-◌, ◌/◌, ◌%◌, ◌≤◌, ◌<◌, length}
use Rattle.gates.specs.Gate.{Gate}
use Rattle.gate_words.specs.Writing.{Room, Wrote}
use Rattle.gate_words.specs.declared.writer.Writer.{Writer}
use Rattle.ranked_circuit.specs.Stages.{votes_block, stays, cut_at, new_word, path_block}
use Rattle.jury.specs.Shape.{most_pairs, most_candidates}
use Rattle.ranked_blocks.specs.Ranked.{Ranked, kept_of, keep, keep_links, WordsBelow}
use Rattle.ranked_blocks.specs.declared.entries.Ranks.{Ranks}

-- For reading what is kept for i and j, of at most eight candidates: there are 64 places.
pub record KeptReady (wires : List ℕ) (k i j : ℕ) : Type 0 where
  pub few : k ≤ most_candidates
  pub row : i < k
  pub column : j < k
  pub long : length wires ≡ most_pairs

-- For the size of the high half: at least one candidate, and words of at most eight digits.
pub record CutReady (k digits : ℕ) : Type 0 where
  pub some : 1 ≤ k
  pub narrow : digits ≤ 7

-- What is kept so far: 64 places for words, which end before the writer's wire, and 64 for wires about pairs of
-- candidates.
pub record Kept (w : Writer) (words wires : List ℕ) (p : Ranks) : Type 0 where
  pub ranked : Ranked p
  pub words_long : length words ≡ most_pairs
  pub wires_long : length wires ≡ most_pairs
  pub below : WordsBelow words p.candidates p.digits w.wire

-- For block e of a table: what is kept, and room.
pub record BlockReady (w : Writer) (words wires : List ℕ) (p : Ranks) (block : ℕ → ℕ → ℕ → List Gate) (e : ℕ)
    : Type 0 where
  pub kept : Kept w words wires p
  pub number : e < p.candidates * p.candidates
  pub room : Room w (length (block w.wire (e / p.candidates) (e % p.candidates)))

-- For block e of the votes. The ballots are wires already.
pub record VotesReady (w : Writer) (words : List ℕ) (p : Ranks) (e : ℕ) : Type 0 where
  pub ranked : Ranked p
  pub room : Room w (length (votes_block p.candidates p.ballots p.digits w.wire (e / p.candidates)
      (e % p.candidates)))
  pub number : e < p.candidates * p.candidates
  pub ballots_below : p.ballots * p.candidates * p.candidates ≤ w.wire
  pub words_long : length words ≡ most_pairs

-- For block e of stage m of the paths.
pub record PathReady (w : Writer) (words links : List ℕ) (p : Ranks) (m e : ℕ) : Type 0 where
  pub entry : BlockReady w words links p (path_block p.candidates (kept_of links p.candidates)
      (kept_of words p.candidates) p.digits m) e
  pub stage : m ≤ p.candidates

-- For the meeting of i and an earlier j, neither of whom is the last candidate.
pub record Meets (w : Writer) (words wires : List ℕ) (p : Ranks) (i j : ℕ) : Type 0 where
  pub kept : Kept w words wires p
  pub room : Room w (10 * p.digits + 14)
  pub later : j < i
  pub other : suc i < p.candidates

-- The block of i and j was written. If it has gates, the wires about i and j are kept.
pub record Entered (w : Writer) (table : List ℕ) (block : List Gate) (table' : List ℕ) (next : Writer)
    (rows : ℕ → Bool) (wires : List ℕ) (k i j : ℕ) (wires' : List ℕ) : Type 0 where
  pub wrote : Wrote w table block table' next
  pub kept : wires' ≡ keep_links rows wires k i j next.wire

-- Block e was written, and the first wire of its word is kept, unless `stays` says that nothing changes.
pub record WordEntered (w : Writer) (table : List ℕ) (block : List Gate) (table' : List ℕ) (next : Writer)
    (stays : Bool) (words : List ℕ) (e digits : ℕ) (words' : List ℕ) : Type 0 where
  pub wrote : Wrote w table block table' next
  pub kept : words' ≡ keep stays words e (next.wire - suc digits)

-- For the word of i and j after stage m, which changes it.
pub record WordReady (w : Writer) (words links : List ℕ) (p : Ranks) (m i j : ℕ) : Type 0 where
  pub kept : Kept w words links p
  pub room : Room w (length (new_word (kept_of links p.candidates) (kept_of words p.candidates) p.digits
      (cut_at p.candidates p.digits m i j) m w.wire i j))
  pub stage : m ≤ p.candidates
  pub row : i < p.candidates
  pub column : j < p.candidates
  pub moves : stays m i j ≡ false
