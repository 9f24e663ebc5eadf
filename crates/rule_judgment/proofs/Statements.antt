-- The statements that other crates use: which of two rows of counts has the earlier sequence, by running sums.
-- Assumes nothing.
use mathlib.Core.Path.{◌≡◌}
use mathlib.Core.Bool.{true}
use mathlib.Core.Logic.{◌⊎◌, ◌≢◌}
use mathlib.Core.List.{List}
use Prim.Native.Nat.{ℕ, ◌+◌, ◌*◌, ◌≤◌, ◌<◌}
use lib.ListN.{take}
use Rattle.basics.specs.Lists.{sum}
use Rattle.rule_judgment.specs.Judgment.{sequence_of, precedes}

-- how many of a row's grades are among the t best
abbrev pub running : List ℕ → ℕ → ℕ
running row t = sum (take t row)

-- a's sequence comes before b's
abbrev pub Precedes : List ℕ → List ℕ → Type 0
Precedes a b = precedes (sequence_of a) (sequence_of b) ≡ true

-- two rows of n grades each
pub record Alike (n : ℕ) (a b : List ℕ) : Type 0 where
  pub sum_a : sum a ≡ n
  pub sum_b : sum b ≡ n

-- a is larger at threshold i. If b is larger at another threshold j, some position between the rows' sums at i is
-- struck before all those at j.
pub record Decides (n : ℕ) (a b : List ℕ) (i : ℕ) : Type 0 where
  pub larger : running b i < running a i
  pub above : (j : ℕ) → i < j → running a j < running b j → n ≤ running a i + running a j
  pub below : (j : ℕ) → j < i → running a j < running b j → running b j + running b i < n

-- the sum rule: a threshold that decides for a puts a first
abbrev pub SumRule : Type 0
SumRule = (n : ℕ) (a b : List ℕ) → Alike n a b → (i : ℕ) → Decides n a b i → Precedes a b

-- the row with half of its grades among the t best comes before one that has fewer there
abbrev pub HalfRule : Type 0
HalfRule = (n : ℕ) (a b : List ℕ) → Alike n a b → (t : ℕ) → n ≤ 2 * running a t → 2 * running b t < n → Precedes a b

-- two thresholds around half; between them the rows agree. If they differ below `lower`, they also differ at
-- `lower`, and one of them is below half there. If they differ above `upper`, they also differ at `upper`, and one
-- of them has reached half there.
pub record Bracket (n : ℕ) (a b : List ℕ) (lower upper : ℕ) : Type 0 where
  pub between : (t : ℕ) → lower < t → t < upper → running a t ≡ running b t
  pub lower_half : (t : ℕ) → t < lower → running a t ≢ running b t
      → ((2 * running a lower < n) ⊎ (2 * running b lower < n)) × (running a lower ≢ running b lower)
  pub upper_half : (t : ℕ) → upper < t → running a t ≢ running b t
      → ((n ≤ 2 * running a upper) ⊎ (n ≤ 2 * running b upper)) × (running a upper ≢ running b upper)

-- what two such thresholds decide
pub record TwoDecide (n : ℕ) (a b : List ℕ) (lower upper : ℕ) : Type 0 where
  -- if the rows are equal at both, their sequences are equal
  pub equal : running a lower ≡ running b lower → running a upper ≡ running b upper → sequence_of a ≡ sequence_of b
  -- if a is larger at one and not smaller at the other, a comes first
  pub at_lower : running b lower < running a lower → running b upper ≤ running a upper → Precedes a b
  pub at_upper : running b upper < running a upper → running b lower ≤ running a lower → Precedes a b
  -- if a is larger at the lower one and b at the upper one, the sum of a's two running sums decides
  pub lower_wins : running b lower < running a lower → running a upper < running b upper → n ≤ running a lower
      + running a upper → Precedes a b
  pub upper_wins : running b lower < running a lower → running a upper < running b upper → running a lower
      + running a upper < n → Precedes b a
