-- The majority gauge [gauge], over grade counts of any size. Full majority judgment has replaced it (request 2.1).
-- It is kept for the theorem that its winner, if there is one, is the only winner by judgment.
use Rattle.std.specs.Prelude.{Bool, true, cond, ◌&&◌, ◌||◌, List, [], ◌∷◌, ◌++◌, ℕ, suc, ltb, eqb, take, drop}
use Rattle.basics.specs.Lists.{sum}
use Rattle.rule_judgment.specs.Median.{median_of}

-- p and q of a row: how many grades are better than the median, and how many are worse.
unfoldable pub p_of : List ℕ → ℕ
p_of row = sum (take (median_of row) row)

unfoldable pub q_of : List ℕ → ℕ
q_of row = sum (drop (suc (median_of row)) row)

-- Condition 1: a has the better median.
unfoldable pub better_median : List ℕ → List ℕ → Bool
better_median a b = ltb (median_of a) (median_of b)

unfoldable pub equal_medians : List ℕ → List ℕ → Bool
equal_medians a b = eqb (median_of a) (median_of b)

-- Condition 2: equal medians; p is above q for a, and below q for b.
unfoldable pub stronger_median : List ℕ → List ℕ → Bool
stronger_median a b = equal_medians a b && ltb (q_of a) (p_of a) && ltb (p_of b) (q_of b)

-- Condition 3: equal medians; p is above q for both, and a has the larger p.
unfoldable pub larger_p : List ℕ → List ℕ → Bool
larger_p a b = equal_medians a b && ltb (q_of a) (p_of a) && ltb (q_of b) (p_of b) && ltb (p_of b) (p_of a)

-- Condition 4: equal medians; p is below q for both, and a has the smaller q.
unfoldable pub smaller_q : List ℕ → List ℕ → Bool
smaller_q a b = equal_medians a b && ltb (p_of a) (q_of a) && ltb (p_of b) (q_of b) && ltb (q_of a) (q_of b)

-- a beats b if one of the four conditions holds.
unfoldable pub beats : List ℕ → List ℕ → Bool
beats a b = better_median a b || stronger_median a b || larger_p a b || smaller_q a b

-- Whether a beats each of these rows.
unfoldable pub beats_all : List ℕ → List (List ℕ) → Bool
beats_all a [] = true
beats_all a (b ∷ others) = beats a b && beats_all a others

-- A closing byte is 1 for a candidate that beats all others, and so for a single candidate; else 0. `earlier` has
-- the candidates before these.
unfoldable pub closing_from : List (List ℕ) → List (List ℕ) → List ℕ
closing_from earlier [] = []
closing_from earlier (a ∷ later) = cond (beats_all a (earlier ++ later)) 1 0 ∷ closing_from (earlier ++ (a ∷ [])) later

-- The closing bytes of a matrix of counts, with one row for each candidate.
unfoldable pub closing_of : List (List ℕ) → List ℕ
closing_of rows = closing_from [] rows
