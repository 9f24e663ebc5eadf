-- The own list of a graded shape.
use Rattle.std.specs.Prelude.{cond, List, [], ◌∷◌, ◌++◌, ℕ, zero, suc, ◌+◌, ◌-◌, ◌*◌, ◌/◌, eqb, leb}
use Rattle.gates.specs.Gate.{Gate}
use Rattle.gate_words.specs.Gates.{constant}
use Rattle.jury.specs.declared.shape.Shape.{Shape}
use Rattle.graded_circuit.specs.declared.plan.Plan.{Plan}
use Rattle.graded_circuit.specs.Plan.{plan_of}
use Rattle.graded_circuit.specs.Key.{candidate, key_of, key_span, candidate_span}
use Rattle.graded_circuit.specs.Merge.{merge, merge_span, won_at, better_key}

-- The circuits of m candidates from candidate c on, the first at wire n. They come first, so that each key has a
-- fixed place.
unfoldable pub candidates_from : Plan → ℕ → ℕ → ℕ → List Gate
candidates_from p n c zero = []
candidates_from p n c (suc m) = candidate p n c ++ candidates_from p (n + candidate_span p) (c + 1) m

-- The wire at which candidate c's key starts.
abbrev pub key_at : Plan → ℕ → ℕ
key_at p c = key_of p (p.inputs + c * candidate_span p)

-- The number of gates of r levels of merges for m candidates.
unfoldable pub levels_span : Plan → ℕ → ℕ → ℕ
levels_span p zero m = 0
levels_span p (suc r) m =
    cond (leb m 1) 0
    (levels_span p r (m / 2) + levels_span p r (m - m / 2) + merge_span p (m / 2) (m - m / 2) + key_span p)

-- The wires at which the key of a group and its candidates' wires start, if the levels are written from wire n on.
unfoldable pub best_key : Plan → ℕ → ℕ → ℕ → ℕ → ℕ
best_key p zero n c m = key_at p c
best_key p (suc r) n c m =
    cond (leb m 1) (key_at p c)
    (n + levels_span p r (m / 2) + levels_span p r (m - m / 2) + merge_span p (m / 2) (m - m / 2))

unfoldable pub winner_flags : Plan → ℕ → ℕ → ℕ → ℕ
winner_flags p zero n m = 0
winner_flags p (suc r) n m = cond (leb m 1) 0 (won_at p (n + levels_span p r (m / 2) + levels_span p r (m - m / 2)))

-- The wire at which the levels of the other half start, if those of the first half start at wire n.
abbrev pub other_at : Plan → ℕ → ℕ → ℕ → ℕ
other_at p r n m = n + levels_span p r (m / 2)

-- The wire at which the merge of the two halves starts.
abbrev pub merge_at : Plan → ℕ → ℕ → ℕ → ℕ
merge_at p r n m = other_at p r n m + levels_span p r (m - m / 2)

-- The merge of the two halves of m candidates from candidate c on.
unfoldable pub halves_merge : Plan → ℕ → ℕ → ℕ → ℕ → List Gate
halves_merge p r n c m =
    merge p (merge_at p r n m)
    (best_key p r n c (m / 2)) (best_key p r (other_at p r n m) (c + m / 2) (m - m / 2))
    (winner_flags p r n (m / 2)) (winner_flags p r (other_at p r n m) (m - m / 2))
    (m / 2) (m - m / 2)

-- The better key of the two halves.
unfoldable pub halves_better : Plan → ℕ → ℕ → ℕ → ℕ → List Gate
halves_better p r n c m =
    better_key p (merge_at p r n m) (best_key p r n c (m / 2)) (best_key p r (other_at p r n m) (c + m / 2) (m - m / 2))

-- The best of m candidates from candidate c on, in r levels of merges from wire n on: the best of one half is
-- compared with the best of the other, and the better key is kept. A single candidate is compared with nobody.
unfoldable pub levels : Plan → ℕ → ℕ → ℕ → ℕ → List Gate
levels p zero n c m = []
levels p (suc r) n c m =
    cond (leb m 1) []
    (levels p r n c (m / 2) ++ levels p r (other_at p r n m) (c + m / 2) (m - m / 2) ++ halves_merge p r n c m
    ++ halves_better p r n c m)

-- Eight candidates need three levels. The last level is written separately: it keeps no key, and its wires are the
-- last k gates, which say who wins.
abbrev pub low_levels : ℕ
low_levels = 2

-- The wire at which the merges start, after the circuits of all candidates.
abbrev pub levels_at : Plan → ℕ
levels_at p = p.inputs + p.candidates * candidate_span p

-- The circuit of two or more candidates.
unfoldable pub circuit : Plan → List Gate
circuit p =
    candidates_from p p.inputs 0 p.candidates
    ++ levels p low_levels (levels_at p) 0 (p.candidates / 2)
    ++ levels p low_levels (other_at p low_levels (levels_at p) p.candidates) (p.candidates / 2)
    (p.candidates - p.candidates / 2)
    ++ halves_merge p low_levels (levels_at p) 0 p.candidates

-- The own list. A single candidate wins: one gate says so.
unfoldable pub own_grading : Shape → List Gate
own_grading s = cond (eqb s.candidates 1) (constant 1 ∷ []) (circuit (plan_of s))
