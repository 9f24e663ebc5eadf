-- What holds for widths, the tests of ballots, and counts, as statements; proofs/Theorems.antt has a proof of each.
use Rattle.std.specs.Prelude.{◌≡◌, true, ◌↔◌, ℕ, suc, ◌/◌, ◌<◌, take, None}
use Rattle.std.proofs.Math.Option.{none}
use mathlib.Core.List.{List, ◌∷◌, Perm}
use Rattle.jury.specs.declared.shape.Shape.{Shape}
use Rattle.jury.specs.Shape.{within_limits, graded_limits, ballot_bytes}
use Rattle.jury.specs.Width.{width_of}
use Rattle.jury.specs.Reason.{unless, first_of}
use Rattle.jury.specs.Ballots.{ballots_in, ballot_reasons}
use Rattle.jury.specs.Rankings.{before, first_not_asymmetric, first_not_weak_order}
use Rattle.jury.specs.WeakOrder.{StrictWeakOrder}
use Rattle.jury.specs.Accepted.{AcceptedBallots, GradedBallots}
use Rattle.jury.specs.Counts.{counts_of, AddUp}

-- [width] as the requirements state it, and the widths that they name.
pub record WidthRule : Type 0 where
  pub of_zero : width_of 0 ≡ 0
  pub of_more : (m : ℕ) → 0 < m → width_of m ≡ suc (width_of (m / 2))
  pub examples : (width_of 1 ≡ 1) × (width_of 3 ≡ 2) × (width_of 4 ≡ 3) × (width_of 255 ≡ 8)

-- What the tests of ballots accept.
pub record TestsAccept : Type 0 where
  -- none of the reasons 1, 4, 5, 6, 11 and 12 applies exactly if the facts of `AcceptedBallots` hold
  pub ballots : (s : Shape) (xs : List ℕ)
      → (first_of (unless (within_limits s) 1 ∷ ballot_reasons s xs) ≡ none) ↔ AcceptedBallots s xs
  -- for a graded shape they are the facts of `GradedBallots`
  pub grades : (s : Shape) (xs : List ℕ) → graded_limits s ≡ true → AcceptedBallots s xs ↔ GradedBallots s xs
  -- neither 11 nor 12 finds a fault exactly if every ranking is a strict weak order
  pub rankings : (k n : ℕ) (xs : List ℕ)
      → ((first_not_asymmetric k n xs ≡ None) × (first_not_weak_order k n xs ≡ None))
      ↔ ((b : ℕ) → b < n → StrictWeakOrder k (before k xs b))

-- Grade counts of accepted ballots.
pub record CountsHold : Type 0 where
  -- [sum]: the counts of each candidate add up to n
  pub add_up : (s : Shape) (xs : List ℕ) → GradedBallots s xs → AddUp s (counts_of s xs)
  -- the order of ballots does not matter
  pub order_free : (s : Shape) (xs ys : List ℕ) → Perm (ballots_in s xs) (ballots_in s ys)
      → counts_of s xs ≡ counts_of s ys
  -- nothing after the last ballot is read
  pub reads_ballots : (s : Shape) (xs ys : List ℕ) → take (ballot_bytes s) xs ≡ take (ballot_bytes s) ys
      → counts_of s xs ≡ counts_of s ys
