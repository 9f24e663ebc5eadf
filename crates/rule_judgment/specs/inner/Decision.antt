-- Definitions for inner functions and their proofs: no entry point's contract needs them.
use Rattle.std.specs.Prelude.{Bool, cond, ◌&&◌, ◌||◌, List, [], ℕ, ◌+◌, ◌*◌, leb, ltb, get_or, take}
use Rattle.basics.specs.Lists.{same_numbers}
use Rattle.rule_judgment.specs.declared.rule.Sums.{Sums}

-- The closing byte of candidate c in an array of counts, of which the first k rows and d columns are used, if the
-- candidate `first` wins: 1 if c is one of k and has the same counts.
unfoldable pub byte_beside : List (List ℕ) → ℕ → ℕ → ℕ → ℕ → ℕ
byte_beside counts k d first c =
    cond (ltb c k && same_numbers (take d (get_or counts c [])) (take d (get_or counts first []))) 1 0

-- Whether the running sum of one of the two candidates is at least half of n.
unfoldable pub half_reached : ℕ → Sums → Bool
half_reached n sums = leb n (2 * sums.a) || leb n (2 * sums.b)

-- Whether a comes before b, by their sums at the nearest differences below half and from half on. If one is larger
-- at both, or at the only one, it comes first. If each is larger at one, the one that is larger at the lower
-- difference comes first exactly if its two sums add up to at least n.
unfoldable pub decided_by : ℕ → Sums → Sums → Bool
decided_by n lower upper =
    cond (ltb lower.b lower.a) (leb upper.b upper.a || leb n (lower.a + upper.a))
    (cond (ltb lower.a lower.b) (ltb upper.b upper.a
    && ltb (lower.b + upper.b) n) (ltb upper.b upper.a))
