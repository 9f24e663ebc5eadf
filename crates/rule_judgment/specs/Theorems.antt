-- What holds for full majority judgment, as statements; proofs/Theorems.antt has a proof of each.
use Rattle.std.specs.Prelude.{◌≡◌, ◌↔◌, ◌≢◌, List, [], ℕ, ◌≤◌, ◌<◌, length, get_or}
use Rattle.basics.specs.Lists.{sum}
use Rattle.rule_judgment.specs.Gauge.{closing_of}
use Rattle.rule_judgment.specs.Judgment.{sequence_of, judgment_of}
use Rattle.rule_judgment.specs.Winner.{JudgmentWinner}

-- Every candidate of a matrix of counts was given n grades.
abbrev pub EachGets : ℕ → List (List ℕ) → Type 0
EachGets n rows = (i : ℕ) → i < length rows → sum (get_or rows i []) ≡ n

-- Closing byte i is 1 exactly if candidate i wins, and 0 exactly if it does not.
pub record ByteSays (rows : List (List ℕ)) (i : ℕ) : Type 0 where
  pub one : (get_or (judgment_of rows) i 0 ≡ 1) ↔ JudgmentWinner rows i
  pub zero : (get_or (judgment_of rows) i 0 ≡ 0) ↔ (¬ JudgmentWinner rows i)

-- The same for every candidate, if all candidates were given equally many grades.
abbrev pub BytesSay : Type 0
BytesSay = (n : ℕ) (rows : List (List ℕ)) → EachGets n rows → (i : ℕ) → i < length rows → ByteSays rows i

-- Some candidate has the closing byte 1.
pub record SomeWinner (rows : List (List ℕ)) : Type 0 where
  pub who : ℕ
  pub candidate : who < length rows
  pub wins : get_or (judgment_of rows) who 0 ≡ 1

-- A jury with at least one candidate has a winner.
abbrev pub SomebodyWins : Type 0
SomebodyWins = (rows : List (List ℕ)) → 0 < length rows → SomeWinner rows

-- Candidate i wins by full majority judgment, and no other candidate does.
pub record NamedAlone (rows : List (List ℕ)) (i : ℕ) : Type 0 where
  pub wins : get_or (judgment_of rows) i 0 ≡ 1
  pub alone : (j : ℕ) → j < length rows → j ≢ i → get_or (judgment_of rows) j 0 ≡ 0

-- If the gauge has a winner, it is the only winner by full majority judgment [judgment-gauge].
abbrev pub GaugeKept : Type 0
GaugeKept =
    (n : ℕ) (rows : List (List ℕ)) → 1 ≤ n → EachGets n rows → (i : ℕ) → get_or (closing_of rows) i 0 ≡ 1
    → NamedAlone rows i

-- Candidates share a win only if each grade was given to them equally often.
abbrev pub SharedWin : Type 0
SharedWin =
    (n : ℕ) (rows : List (List ℕ)) → EachGets n rows → (i j : ℕ) → i < length rows → j < length rows
    → length (get_or rows i []) ≡ length (get_or rows j [])
    → get_or (judgment_of rows) i 0 ≡ 1 → get_or (judgment_of rows) j 0 ≡ 1 → get_or rows i [] ≡ get_or rows j []

-- Two candidates have equal sequences exactly if all their counts are equal.
abbrev pub EqualSequences : Type 0
EqualSequences = (a b : List ℕ) → length a ≡ length b → sum a ≡ sum b → (sequence_of a ≡ sequence_of b) ↔ (a ≡ b)
