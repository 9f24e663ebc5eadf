-- The blocks of the tables, one for each pair of candidates i and j: numbers of ballots, links, and paths. A word has
-- w + 1 digits and is the end of its block. `words` gives the first wire of a word.
use Rattle.std.specs.Prelude.{Bool, cond, ◌&&◌, ◌||◌, not, List, [], ◌++◌, ℕ, zero, suc, ◌+◌, ◌-◌, ◌*◌, ◌/◌, eqb, leb, ltb}
use Rattle.gates.specs.Gate.{Gate}
use Rattle.gate_words.specs.Choice.{masked}
use Rattle.gate_words.specs.Counter.{counter}
use Rattle.ranked_circuit.specs.Blocks.{compare, order_size, smaller, larger, larger_if}
use Rattle.ranked_circuit.specs.Table.{entry_end}

-- How many of n ballots put i before j. A ballot is k rows of k bytes, and this counts the ones in row i and column
-- j.
unfoldable pub votes_block : ℕ → ℕ → ℕ → ℕ → ℕ → ℕ → List Gate
votes_block k n w at i j = cond (eqb i j) [] (counter at (i * k + j) (k * k) n 0 w)

-- A table with one block for each pair of candidates: it is at row i and column j if i is the later one and `rows`
-- holds for i. All other places are empty.
unfoldable pub later_of : (ℕ → Bool) → (ℕ → ℕ → ℕ → List Gate) → ℕ → ℕ → ℕ → List Gate
later_of rows block at i j = cond (ltb j i && rows i) (block at i j) []

-- Compares the words of i and j both ways, if the later candidate is at least `first`.
unfoldable pub links_block : ℕ → (ℕ → ℕ → ℕ) → ℕ → ℕ → ℕ → ℕ → List Gate
links_block first words w = later_of (leb first) (λ at i j. compare at (words i j) (words j i) w)

-- The wire that says whether there is a link from i to j, in a table of such blocks from wire n on. In the block of
-- the two, it is the last wire but one if i is the later candidate, otherwise the last.
unfoldable pub link_at : ℕ → ℕ → (ℕ → ℕ → ℕ → List Gate) → ℕ → ℕ → ℕ
link_at n k block i j = cond (ltb j i) (entry_end n k block i j - 2) (entry_end n k block j i - 1)

-- Whether stage m leaves the word of i and j as it is. Stage 0 makes links to and from candidate 0. Stage l + 1 is
-- the detour over l, which leaves the words to and from l.
unfoldable pub stays : ℕ → ℕ → ℕ → Bool
stays zero i j = not (eqb i 0 || eqb j 0) || eqb i j
stays (suc l) i j = eqb i l || eqb j l || eqb i j

-- How many of a word's w + 1 digits are the high half in stage m: half of them if the next stage waits for this word,
-- because it is the detour over i or j. Otherwise there is no high half.
unfoldable pub cut_at : ℕ → ℕ → ℕ → ℕ → ℕ → ℕ
cut_at k w m i j = cond (ltb m (k - 1) && (eqb i m || eqb j m)) (suc w / 2) 0

-- The word of i and j after stage m. Stage 0: the number of ballots if there is a link, else 0. A detour over l: the
-- stronger of the path so far and the way over l. In the first detour the path so far still is a number of ballots,
-- which counts only if there is a link.
unfoldable pub new_word : (ℕ → ℕ → ℕ) → (ℕ → ℕ → ℕ) → ℕ → ℕ → ℕ → ℕ → ℕ → ℕ → List Gate
new_word links words w h zero at i j = masked (links i j) (words i j) (suc w)
new_word links words w h (suc zero) at i j =
    let way = at + order_size w h in
    smaller at (words i 0) (words 0 j) w h ++ larger_if (way + suc w) (links i j) (words i j) way w h
new_word links words w h (suc (suc l)) at i j =
    let way = at + order_size w h in
    smaller at (words i (suc l)) (words (suc l) j) w h ++ larger (way + suc w) (words i j) way w h

-- The block of i and j in stage m. It is empty if the stage leaves their word.
unfoldable pub path_block : ℕ → (ℕ → ℕ → ℕ) → (ℕ → ℕ → ℕ) → ℕ → ℕ → ℕ → ℕ → ℕ → List Gate
path_block k links words w m at i j = cond (stays m i j) [] (new_word links words w (cut_at k w m i j) m at i j)
