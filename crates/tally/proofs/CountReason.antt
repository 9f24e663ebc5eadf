-- The reason for which a count is refused: that of its shape, else that of its ballots.
-- Assumes nothing.
use mathlib.Core.Path.{◌≡◌, ◌∙◌, refl, sym, ap}
use mathlib.Core.Bool.{Bool, true, false}
use mathlib.Core.Option.{none, some}
use mathlib.Core.Logic.{◌↔◌}
use mathlib.Core.List.{List, ◌∷◌}
use Prim.Native.Nat.{ℕ}
use native.Mathlib.Omega.{arith}
use Rattle.jury.specs.declared.shape.Shape.{Shape}
use Rattle.jury.specs.Shape.{within_limits}
use Rattle.jury.specs.Reason.{reason_at, unless, first_of}
use Rattle.jury.specs.Ballots.{ballot_reasons}
use Rattle.tally.specs.Count.{count_reason, count_reasons}
use Rattle.jury.specs.Accepted.{AcceptedBallots}
use Rattle.jury.proofs.AcceptedLaws.{accepted, accepted_back}

pub outside_reason : (s : Shape) (xs : List ℕ) → within_limits s ≡ false → count_reason s xs ≡ some (reason_at 1 0)
unfolding count_reason count_reasons unless first_of
outside_reason s xs e = ap (λ (t : Bool). first_of (unless t 1 ∷ ballot_reasons s xs)) e

pub within_reason : (s : Shape) (xs : List ℕ) → within_limits s ≡ true → count_reason s xs ≡ first_of (ballot_reasons s xs)
unfolding count_reason count_reasons unless first_of
within_reason s xs e = ap (λ (t : Bool). first_of (unless t 1 ∷ ballot_reasons s xs)) e

-- a count is accepted exactly if its ballots are
pub count_accepts : (s : Shape) (xs : List ℕ) → (count_reason s xs ≡ none) ↔ AcceptedBallots s xs
count_accepts s xs =
    (λ e. go (within_limits s) refl e, λ a. within_reason s xs a.within ∙ accepted_back s xs a)
  where
    go : (t : Bool) → within_limits s ≡ t → count_reason s xs ≡ none → AcceptedBallots s xs
    go true w e = accepted s xs w (sym (within_reason s xs w) ∙ e)
    go false w e =
        let f : some (reason_at 1 0) ≡ none = sym (outside_reason s xs w) ∙ e in
        let z : ◌≡◌ {A = ℕ} 0 1 = cc in
        absurd (omega arith)
