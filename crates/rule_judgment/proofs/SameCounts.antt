-- Whether two rows of counts are the same: the test one step at a time, and that it is right.
-- Assumes nothing.
use mathlib.Core.Path.{◌≡◌}
use mathlib.Core.Bool.{true, false, cond}
use mathlib.Core.List.{List, []}
use Prim.Native.Nat.{ℕ, ◌≤◌, ◌<◌}
use lib.ListN.{get_or, take}
use borrow.Author.Tests.{lt-ltb, le-ltb}
use Rattle.basics.specs.Lists.{same_numbers}
use Rattle.basics.proofs.Same.{same_refl}
use Rattle.rule_judgment.specs.inner.Decision.{byte_beside}

pub same_passes : (xs ys : List ℕ) → xs ≡ ys → same_numbers xs ys ≡ true
same_passes xs ys e = rw e (same_refl ys)

-- the closing byte of candidate c if `first` wins: no candidate, one with the same counts, any other
module _ (counts : List (List ℕ)) (k d first c : ℕ) where
  pub beside_past : k ≤ c → byte_beside counts k d first c ≡ 0
  unfolding byte_beside
  beside_past h = rw (le-ltb c k h)

  pub beside_in : c < k → byte_beside counts k d first c
      ≡ cond (same_numbers (take d (get_or counts c [])) (take d (get_or counts first []))) 1 0
  unfolding byte_beside
  beside_in h = rw (lt-ltb c k h)

  pub beside_same : c < k → same_numbers (take d (get_or counts c [])) (take d (get_or counts first [])) ≡ true
      → byte_beside counts k d first c ≡ 1
  unfolding byte_beside
  beside_same h e = rw (lt-ltb c k h, e)

  pub beside_other : c < k → same_numbers (take d (get_or counts c [])) (take d (get_or counts first [])) ≡ false
      → byte_beside counts k d first c ≡ 0
  unfolding byte_beside
  beside_other h e = rw (lt-ltb c k h, e)
