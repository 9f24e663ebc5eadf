-- Who wins by full majority judgment, as a statement instead of a computation.
use Rattle.std.specs.Prelude.{◌≡◌, List, [], ℕ, ◌<◌, length, get_or}
use Rattle.rule_judgment.specs.Judgment.{sequence_of}

-- xs comes before ys: it has the better grade at some place, and the same grades at all places before.
pub record Before (xs ys : List ℕ) : Type 0 where
  pub place : ℕ
  pub inside : place < length xs
  pub same : (i : ℕ) → i < place → get_or xs i 0 ≡ get_or ys i 0
  pub better : get_or xs place 0 < get_or ys place 0

-- Row i of a matrix of counts wins if no row's sequence comes before its own.
abbrev pub JudgmentWinner : List (List ℕ) → ℕ → Type 0
JudgmentWinner rows i = (j : ℕ) → j < length rows
    → ¬ Before (sequence_of (get_or rows j [])) (sequence_of (get_or rows i []))
