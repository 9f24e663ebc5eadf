-- Definitions for inner functions and their proofs: no entry point's contract needs them.
use Rattle.std.specs.Prelude.{◌≡◌, ◌≢◌, Bool, ◌||◌, List, [], ℕ, ◌*◌, ◌≤◌, ◌<◌, leb, eqb, length, get_or}
use Rattle.basics.specs.Lists.{all}
use Rattle.jury.specs.Shape.{most_candidates, most_ballots}
use Rattle.rule_schulze.specs.Schulze.{all_candidates}

-- The number in row i and column j.
abbrev pub entry : List (List ℕ) → ℕ → ℕ → ℕ
entry t i j = get_or (get_or t i []) j 0

-- The table t holds v i j for each two of the k candidates.
abbrev pub Holds : ℕ → List (List ℕ) → (ℕ → ℕ → ℕ) → Type 0
Holds k t v = (i j : ℕ) → i < k → j < k → entry t i j ≡ v i j

-- The same except on the diagonal, which no path uses.
abbrev pub HoldsPairs : ℕ → List (List ℕ) → (ℕ → ℕ → ℕ) → Type 0
HoldsPairs k t v = (i j : ℕ) → i < k → j < k → i ≢ j → entry t i j ≡ v i j

-- No number of column i is larger than its counterpart in row i: nobody has a stronger path to i than back.
unfoldable pub unbeaten_in : List (List ℕ) → ℕ → ℕ → Bool
unbeaten_in t k i = all (λ j. eqb j i || leb (entry t j i) (entry t i j)) (all_candidates k)

-- xs has as many bytes as n ranked ballots of k candidates, and k and n are not above their limits.
pub record RankedSize (k n : ℕ) (xs : List ℕ) : Type 0 where
  pub candidates_within : k ≤ most_candidates
  pub ballots_within : n ≤ most_ballots
  pub size : length xs ≡ n * k * k

-- Row i of the matrix of votes can be counted.
pub record VotesRowReady (k n : ℕ) (xs : List ℕ) (i : ℕ) : Type 0 where
  pub sized : RankedSize k n xs
  pub row : i < k

-- Entry (i, j) of the matrix of votes can be counted.
pub record VotesReady (k n : ℕ) (xs : List ℕ) (i j : ℕ) : Type 0 where
  pub sized : RankedSize k n xs
  pub row : i < k
  pub column : j < k
