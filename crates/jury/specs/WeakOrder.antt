-- Strict weak orders. `TestsAccept` says that a ranked ballot passes its tests exactly if it is one.
use Rattle.std.specs.Prelude.{◌≡◌, Bool, true, false, ℕ, ◌<◌}

-- A strict order of k candidates that allows ties: nobody is before itself, no two are before each other, and if i
-- is before j, every third l is after i or before j.
pub record StrictWeakOrder (k : ℕ) (before : ℕ → ℕ → Bool) : Type 0 where
  pub irreflexive : (i : ℕ) → i < k → before i i ≡ false
  pub asymmetric : (i j : ℕ) → i < k → j < k → before i j ≡ true → before j i ≡ false
  pub negatively_transitive : (i l j : ℕ) → i < k → l < k → j < k → before i l ≡ false → before l j ≡ false
      → before i j ≡ false
