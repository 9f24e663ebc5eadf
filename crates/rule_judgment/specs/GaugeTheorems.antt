-- What holds for the majority gauge, as statements; proofs/Theorems.antt has a proof of each.
use Rattle.std.specs.Prelude.{◌≡◌, true, false, ◌↔◌, List, [], ◌∷◌, ℕ, ◌<◌, length, get_or}
use Rattle.rule_judgment.specs.Median.{median_of}
use Rattle.rule_judgment.specs.Gauge.{p_of, q_of, better_median, stronger_median, larger_p, smaller_q, closing_of}
use Rattle.rule_judgment.specs.GaugeWinner.{Gauged, GaugeWinner}

-- Closing byte i is 1 exactly if candidate i wins, and 0 exactly if it does not.
pub record GaugeByteSays (rows : List (List ℕ)) (i : ℕ) : Type 0 where
  pub one : (get_or (closing_of rows) i 0 ≡ 1) ↔ GaugeWinner rows i
  pub zero : (get_or (closing_of rows) i 0 ≡ 0) ↔ (¬ GaugeWinner rows i)

-- No two of the four conditions hold at once.
pub record Exclusive (a b : List ℕ) : Type 0 where
  pub first_second : better_median a b ≡ true → stronger_median a b ≡ false
  pub first_third : better_median a b ≡ true → larger_p a b ≡ false
  pub first_fourth : better_median a b ≡ true → smaller_q a b ≡ false
  pub second_third : stronger_median a b ≡ true → larger_p a b ≡ false
  pub second_fourth : stronger_median a b ≡ true → smaller_q a b ≡ false
  pub third_fourth : larger_p a b ≡ true → smaller_q a b ≡ false

pub record GaugeHolds : Type 0 where
  -- the median, p and q are computed as they are said, for a row with at least one grade
  pub gauged : (row : List ℕ) → 0 < length row → Gauged row (median_of row) (p_of row) (q_of row)
  -- there is one closing byte for each candidate, and it says whether the candidate wins
  pub bytes : (rows : List (List ℕ)) → length (closing_of rows) ≡ length rows
  pub byte : (rows : List (List ℕ)) (i : ℕ) → i < length rows → GaugeByteSays rows i
  -- at most one candidate wins, and a single one does
  pub one_winner : (rows : List (List ℕ)) (i j : ℕ) → get_or (closing_of rows) i 0 ≡ 1
      → get_or (closing_of rows) j 0 ≡ 1 → i ≡ j
  pub single_wins : (a : List ℕ) → closing_of (a ∷ []) ≡ 1 ∷ []
  pub exclusive : (a b : List ℕ) → Exclusive a b
