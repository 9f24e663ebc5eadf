-- Who beats whom. There is no detour over the last candidate l: the paths that avoid l already decide, as
-- `beats_by_six` of `rule_schulze` shows. First each of the others has a duel with l, then each pair of the others
-- has a meeting.
use Rattle.std.specs.Prelude.{cond, List, [], ◌∷◌, ◌++◌, ℕ, ◌+◌, ◌-◌, ◌*◌, max, ltb, length}
use Rattle.gates.specs.Gate.{Gate}
use Rattle.gate_words.specs.Gates.{and_of, mux_of}
use Rattle.ranked_circuit.specs.Blocks.{compare, strictly}
use Rattle.ranked_circuit.specs.Table.{table}
use Rattle.ranked_circuit.specs.Stages.{later_of, links_block, link_at}
use Rattle.ranked_circuit.specs.Paths.{paths_to}

-- The wire at which the duels start, for k candidates, n ballots and words of w + 1 digits.
unfoldable pub duels_from : ℕ → ℕ → ℕ → ℕ
duels_from k n w = n * k * k + length (paths_to k n w k).gates

-- The duels: each path to the last candidate is compared with the path back.
unfoldable pub duels : ℕ → ℕ → ℕ → List Gate
duels k n w = table (duels_from k n w) k (links_block (k - 1) (paths_to k n w k).words w)

-- The wire that says whether i beats j, if one of them is the last candidate.
unfoldable pub duel_at : ℕ → ℕ → ℕ → ℕ → ℕ → ℕ
duel_at k n w = link_at (duels_from k n w) k (links_block (k - 1) (paths_to k n w k).words w)

-- The meeting of i and j. If l's path to i is weaker than its path to j, i beats j if i beats l. Otherwise i beats j
-- if its path to j is stronger than the path back and than l's path to j. The words li, lj, ij and ji are these
-- paths; mi and mj say whether i and j beat l. The last two wires say whether i beats j, and whether j beats i.
unfoldable pub meeting : ℕ → ℕ → ℕ → ℕ → ℕ → ℕ → ℕ → ℕ → List Gate
meeting li lj ij ji mi mj w at =
    let c = 3 + 3 * w in
    let s = 2 + 2 * w in
    compare at li lj w
    ++ compare (at + c) ij ji w
    ++ strictly (at + c + c) ij lj w
    ++ strictly (at + c + c + s) ji li w
    ++ (and_of (at + c + c - 2) (at + c + c + s - 1)
    ∷ and_of (at + c + c - 1) (at + c + c + s + s - 1)
    ∷ mux_of (at + c - 1) mi (at + c + c + s + s)
    ∷ mux_of (at + c - 2) mj (at + c + c + s + s + 1)
    ∷ [])

-- The meeting of i and j, if `words` gives the first wires of words, and `met` the wires that say who won a duel.
abbrev pub meeting_of : ℕ → (ℕ → ℕ → ℕ) → (ℕ → ℕ → ℕ) → ℕ → ℕ → ℕ → ℕ → List Gate
meeting_of l words met w at i j = meeting (words l i) (words l j) (words i j) (words j i) (met i l) (met j l) w at

-- The block of i and j in the table of meetings: one for each pair of candidates before l.
unfoldable pub meetings_block : ℕ → (ℕ → ℕ → ℕ) → (ℕ → ℕ → ℕ) → ℕ → ℕ → ℕ → ℕ → List Gate
meetings_block l words met w = later_of (λ i. ltb i l) (meeting_of l words met w)

-- The wire at which the meetings start.
unfoldable pub meetings_from : ℕ → ℕ → ℕ → ℕ
meetings_from k n w = duels_from k n w + length (duels k n w)

-- The meetings of all candidates but the last.
unfoldable pub meetings : ℕ → ℕ → ℕ → List Gate
meetings k n w = table (meetings_from k n w) k (meetings_block (k - 1) (paths_to k n w k).words (duel_at k n w) w)

-- The wire that says whether i beats j, if neither is the last candidate.
unfoldable pub meeting_at : ℕ → ℕ → ℕ → ℕ → ℕ → ℕ
meeting_at k n w = link_at (meetings_from k n w) k (meetings_block (k - 1) (paths_to k n w k).words (duel_at k n w) w)

-- The wire that says whether i beats j.
unfoldable pub beats_at : ℕ → ℕ → ℕ → ℕ → ℕ → ℕ
beats_at k n w i j = cond (ltb (max i j) (k - 1)) (meeting_at k n w i j) (duel_at k n w i j)
