-- How many gates of a ranking's own list are conditional, as a formula for three candidates or more.
use Rattle.std.specs.Prelude.{◌≡◌, ℕ, suc, ◌+◌, ◌-◌, ◌*◌, ◌/◌, ◌≤◌}
use Rattle.gates.specs.Board.{conditional_count}
use Rattle.gate_words.specs.Counter.{count_size}
use Rattle.jury.specs.Shape.{most_candidates}
use Rattle.jury.specs.Width.{width_of}
use Rattle.ranked_circuit.specs.OwnRanking.{own_ranking}

-- C for k candidates, n ballots and words of w + 1 digits; j is k − 1 and i is k − 2. In this order: a gate for each
-- adder of the counters; comparisons of votes; links; detours; the last candidate's contests; words in halves; losers.
unfoldable pub conditional_gates : ℕ → ℕ → ℕ → ℕ → ℕ → ℕ
conditional_gates k j i n w =
    k * j * (count_size n 0 w / 3)
    + k * j / 2 * (2 * w + 1)
    + 2 * j * suc w
    + j * i * (4 * w + 3) + i * (j * i) * (4 * w + 2)
    + j * (2 * w + 1) + j * i / 2 * (6 * w + 8)
    + 2 * i * i * (2 * (suc w / 2 - 1))
    + k * i

abbrev pub RankingConditional : Type 0
RankingConditional =
    (k n : ℕ) → 3 ≤ k → k ≤ most_candidates
    → conditional_count (own_ranking k n) ≡ conditional_gates k (k - 1) (k - 2) n (width_of n - 1)
