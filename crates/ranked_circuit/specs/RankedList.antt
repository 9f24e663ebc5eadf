-- The own list of a ranked tasting: the paths, the contests of each pair of candidates, and for each candidate
-- whether somebody beats it. The last k gates say who is not beaten.
use Rattle.std.specs.Prelude.{cond, List, [], ◌∷◌, ◌++◌, ℕ, zero, suc, ◌+◌, ◌-◌, ◌*◌, ltb, length}
use Rattle.gates.specs.Gate.{Gate}
use Rattle.gate_words.specs.Gates.{constant, not_of, or_of}
use Rattle.ranked_circuit.specs.Table.{blocks}
use Rattle.ranked_circuit.specs.Paths.{link_wire, paths_to}
use Rattle.ranked_circuit.specs.Contests.{duels, meetings_from, meetings, beats_at}

-- Number s, counted from 0, of the candidates other than i.
unfoldable pub other : ℕ → ℕ → ℕ
other i s = cond (ltb s i) s (suc s)

-- Operand s of candidate i's row of gates, from wire `at` on. First come the wires that say whether each of the r
-- others beats i, then the row's own wires. Gate t of the row joins operands 2 t and 2 t + 1.
unfoldable pub joined_wire : (ℕ → ℕ → ℕ) → ℕ → ℕ → ℕ → ℕ → ℕ
joined_wire beats r at i s = cond (ltb s r) (beats (other i s) i) (at + (s - r))

-- Whether one of r + 1 others beats i: r gates of "or", the last of which has joined all. Operand 2 r has the result:
-- the last gate's wire or, if r is 0, the wire of the only other.
unfoldable pub loser_row : (ℕ → ℕ → ℕ) → ℕ → ℕ → ℕ → List Gate
loser_row beats r at i =
    blocks at
    (λ wire t. or_of (joined_wire beats (suc r) at i (2 * t)) (joined_wire beats (suc r) at i (2 * t + 1)) ∷ []) r

-- The rows of k candidates, of r gates each, from wire n on.
unfoldable pub loser_rows : (ℕ → ℕ → ℕ) → ℕ → ℕ → ℕ → List Gate
loser_rows beats r n k = blocks n (loser_row beats r) k

-- The gates after these rows, one for each candidate: whether it is not beaten.
unfoldable pub output_gates : (ℕ → ℕ → ℕ) → ℕ → ℕ → ℕ → List Gate
output_gates beats r n k =
    blocks (n + k * r) (λ wire i. not_of (joined_wire beats (suc r) (n + i * r) i (2 * r)) ∷ []) k

-- The wire at which the rows start.
unfoldable pub losers_from : ℕ → ℕ → ℕ → ℕ
losers_from k n w = meetings_from k n w + length (meetings k n w)

-- The wire at which the output gates of two candidates start: after their links, which already say who is beaten.
unfoldable pub pair_from : ℕ → ℕ → ℕ
pair_from n w = n * 2 * 2 + length (paths_to 2 n w 0).gates

-- The list for a single candidate, who wins, for two candidates, and for three or more.
unfoldable pub ranked_list : ℕ → ℕ → ℕ → List Gate
ranked_list zero n w = []
ranked_list (suc zero) n w = constant 1 ∷ []
ranked_list (suc (suc zero)) n w = (paths_to 2 n w 0).gates ++ output_gates (link_wire 2 n w) 0 (pair_from n w) 2
ranked_list (suc (suc (suc r))) n w =
    let k = suc (suc (suc r)) in
    (paths_to k n w k).gates
    ++ duels k n w
    ++ meetings k n w
    ++ loser_rows (beats_at k n w) (suc r) (losers_from k n w) k
    ++ output_gates (beats_at k n w) (suc r) (losers_from k n w) k
