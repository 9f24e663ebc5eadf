-- The majority gauge in words [gauge]: what it reads from a row of counts, when a row beats another, and who wins.
use Rattle.std.specs.Prelude.{◌≡◌, true, ◌≢◌, List, [], ℕ, suc, ◌*◌, ◌≤◌, ◌<◌, length, get_or, take, drop}
use Rattle.basics.specs.Lists.{sum}
use Rattle.rule_judgment.specs.Median.{median_of}
use Rattle.rule_judgment.specs.Gauge.{p_of, q_of, beats}

-- m is the median grade of a row of counts: the first at which twice the running sum, its own count included, is at
-- least the sum of the row. p of the row's grades are better, and q are worse.
pub record Gauged (row : List ℕ) (m p q : ℕ) : Type 0 where
  pub a_grade : m < length row
  pub reached : sum row ≤ 2 * sum (take (suc m) row)
  pub first : (g : ℕ) → g < m → 2 * sum (take (suc g) row) < sum row
  pub better : p ≡ sum (take m row)
  pub worse : q ≡ sum (drop (suc m) row)

-- a beats b if one of the four conditions holds. The better median is the smaller number.
pub data Beats (a b : List ℕ) : Type 0 where
  -- 1: a has the better median
  by_better_median : median_of a < median_of b → Beats a b
  -- 2: equal medians; p is above q for a, and below q for b
  by_stronger_median : median_of a ≡ median_of b → q_of a < p_of a → p_of b < q_of b → Beats a b
  -- 3: equal medians; p is above q for both, and a has the larger p
  by_larger_p : median_of a ≡ median_of b → q_of a < p_of a → q_of b < p_of b → p_of b < p_of a → Beats a b
  -- 4: equal medians; p is below q for both, and a has the smaller q
  by_smaller_q : median_of a ≡ median_of b → p_of a < q_of a → p_of b < q_of b → q_of a < q_of b → Beats a b

-- Row i of a matrix of counts wins if it beats every other row. So a single row wins.
abbrev pub GaugeWinner : List (List ℕ) → ℕ → Type 0
GaugeWinner rows i = (j : ℕ) → j < length rows → j ≢ i → Beats (get_or rows i []) (get_or rows j [])

-- Row i of a matrix of counts beats every other row, as it is computed.
abbrev pub BeatsOthers : List (List ℕ) → ℕ → Type 0
BeatsOthers rows i = (j : ℕ) → j < length rows → j ≢ i → beats (get_or rows i []) (get_or rows j []) ≡ true
