-- How many ranked ballots put one candidate before another.
use Rattle.std.specs.Prelude.{cond, List, ℕ, zero, suc, ◌+◌}
use Rattle.jury.specs.Rankings.{before}

-- How many of the first n ballots of xs, each of k candidates, put i before j.
unfoldable pub votes : ℕ → ℕ → List ℕ → ℕ → ℕ → ℕ
votes k zero xs i j = 0
votes k (suc b) xs i j = votes k b xs i j + cond (before k xs b i j) 1 0
