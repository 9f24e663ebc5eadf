-- [kinds]: on bits, each kind has the value that the requirements' table gives it. `value_of` says minimum, maximum and
-- a difference that stops at 0; this says what they are on bits.
use Rattle.std.specs.Prelude.{◌≡◌, ◌↔◌, ◌⊎◌, ◌≢◌, ℕ, ◌+◌, ◌≤◌, ◌<◌}
use Rattle.gates.specs.Open.Kind.{kind_count, value_of}

pub record KindsOnBits : Type 0 where
  -- kinds 0 and 1 are the constants, kind 2 is a
  pub zero_is : (a b c : ℕ) → value_of 0 a b c ≡ 0
  pub one_is : (a b c : ℕ) → value_of 1 a b c ≡ 1
  pub copy_is : (a b c : ℕ) → value_of 2 a b c ≡ a
  -- kind 3 is 1 − a
  pub complement : (a b c : ℕ) → a ≤ 1 → a + value_of 3 a b c ≡ 1
  -- kind 4 is 1 exactly if a and b are 1, kind 5 exactly if one of them is, kind 6 exactly if they differ
  pub conjunction : (a b c : ℕ) → a ≤ 1 → b ≤ 1 → (value_of 4 a b c ≡ 1) ↔ ((a ≡ 1) × (b ≡ 1))
  pub disjunction : (a b c : ℕ) → a ≤ 1 → b ≤ 1 → (value_of 5 a b c ≡ 1) ↔ ((a ≡ 1) ⊎ (b ≡ 1))
  pub difference : (a b c : ℕ) → a ≤ 1 → b ≤ 1 → (value_of 6 a b c ≡ 1) ↔ (a ≢ b)
  -- kind 7 is b if a is 1, and c if a is 0
  pub first_choice : (b c : ℕ) → value_of 7 1 b c ≡ b
  pub second_choice : (b c : ℕ) → value_of 7 0 b c ≡ c
  -- every value is a bit, so one that is not 1 is 0
  pub a_bit : (kind a b c : ℕ) → kind < kind_count → a ≤ 1 → b ≤ 1 → c ≤ 1 → value_of kind a b c ≤ 1
