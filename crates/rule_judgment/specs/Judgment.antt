-- Full majority judgment, over grade counts of any size: request 2.1, step by step.
use Rattle.std.specs.Prelude.{Bool, true, false, cond, not, ◌&&◌, ◌||◌, List, [], ◌∷◌, map, ℕ, zero, suc, ◌-◌, ltb, eqb, get_or, set}
use Rattle.basics.specs.Lists.{sum}
use Rattle.rule_judgment.specs.Median.{median_of}

-- A row of counts after one grade g is struck out.
unfoldable pub strike : ℕ → List ℕ → List ℕ
strike g row = set row g (get_or row g 0 - 1)

-- The first `left` medians of a row: each is struck out before the next is taken.
unfoldable pub strikes : ℕ → List ℕ → List ℕ
strikes zero row = []
strikes (suc left) row = median_of row ∷ strikes left (strike (median_of row) row)

-- The sequence of a candidate: as many medians as it has grades. Each is the median of the grades that are left.
unfoldable pub sequence_of : List ℕ → List ℕ
sequence_of row = strikes (sum row) row

-- Lexicographic order: at the first place where two sequences differ, the better grade, which is the smaller
-- number, comes first. The sequences of one jury are equally long; otherwise a proper prefix would come first.
unfoldable pub precedes : List ℕ → List ℕ → Bool
precedes [] [] = false
precedes [] (y ∷ ys) = true
precedes (x ∷ xs) [] = false
precedes (x ∷ xs) (y ∷ ys) = ltb x y || (eqb x y && precedes xs ys)

-- Whether none of these sequences precedes xs.
unfoldable pub none_precedes : List (List ℕ) → List ℕ → Bool
none_precedes [] xs = true
none_precedes (ys ∷ others) xs = not (precedes ys xs) && none_precedes others xs

-- The closing bytes of a matrix of counts, with one row for each candidate: 1 for a candidate whose sequence no
-- other precedes, else 0. Candidates with equal sequences win together.
unfoldable pub judgment_of : List (List ℕ) → List ℕ
judgment_of rows = map (λ (row : List ℕ). cond (none_precedes (map sequence_of rows) (sequence_of row)) 1 0) rows
