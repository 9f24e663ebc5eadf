-- The first part of a ranked tasting's own list: tables of the numbers of ballots, of the links, and of the strengths
-- of paths after each stage. There are k candidates, n ballots, which are the first wires, and words of w + 1 digits.
use Rattle.std.specs.Prelude.{cond, List, ◌++◌, ℕ, zero, suc, ◌+◌, ◌-◌, ◌*◌, length}
use Rattle.gates.specs.Gate.{Gate}
use Rattle.ranked_circuit.specs.Table.{table, entry_end}
use Rattle.ranked_circuit.specs.Stages.{votes_block, links_block, link_at, stays, path_block}

-- The first wire of the number of ballots that put i before j.
unfoldable pub votes_at : ℕ → ℕ → ℕ → ℕ → ℕ → ℕ
votes_at k n w i j = entry_end (n * k * k) k (votes_block k n w) i j - suc w

-- The table of these numbers.
unfoldable pub votes_table : ℕ → ℕ → ℕ → List Gate
votes_table k n w = table (n * k * k) k (votes_block k n w)

-- The wire at which the table of links starts.
unfoldable pub links_from : ℕ → ℕ → ℕ → ℕ
links_from k n w = n * k * k + length (votes_table k n w)

-- The table of links: for each pair of candidates, their two numbers of ballots are compared.
unfoldable pub links_table : ℕ → ℕ → ℕ → List Gate
links_table k n w = table (links_from k n w) k (links_block 0 (votes_at k n w) w)

-- The wire that says whether there is a link from i to j.
unfoldable pub link_wire : ℕ → ℕ → ℕ → ℕ → ℕ → ℕ
link_wire k n w = link_at (links_from k n w) k (links_block 0 (votes_at k n w) w)

-- The gates so far, after the ballots, and the first wire of the word of each pair of candidates.
pub record Paths : Type 0 where
  pub gates : List Gate
  pub words : ℕ → ℕ → ℕ

-- Stage m: a table of new words follows. A word that the stage leaves stays where it is.
unfoldable pub next_paths : ℕ → ℕ → ℕ → ℕ → Paths → Paths
next_paths k n w m p =
    let start = n * k * k + length p.gates in
    let block = path_block k (link_wire k n w) p.words w m in
    record {
      gates = p.gates ++ table start k block;
      words = λ i j. cond (stays m i j) (p.words i j) (entry_end start k block i j - suc w);
    }

-- After the first m stages. At the start, the words are the numbers of ballots.
unfoldable pub paths_to : ℕ → ℕ → ℕ → ℕ → Paths
paths_to k n w zero = record { gates = votes_table k n w ++ links_table k n w; words = votes_at k n w }
paths_to k n w (suc m) = next_paths k n w m (paths_to k n w m)
