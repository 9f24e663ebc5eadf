-- Proofs of the statements of specs/Theorems.antt.
-- Assumes nothing.
use mathlib.Core.Path.{◌≡◌, ◌∙◌, refl, sym}
use mathlib.Core.Bool.{Bool, true, false, true≢false}
use mathlib.Core.Option.{Option, none}
use mathlib.Core.List.{List, ◌∷◌}
use Prim.Native.Nat.{ℕ}
use native.Mathlib.Omega.{arith}
use Rattle.jury.specs.declared.shape.Shape.{Shape}
use Rattle.jury.specs.Shape.{within_limits}
use Rattle.jury.specs.Reason.{Reason, unless, first_of}
use Rattle.jury.specs.Ballots.{ballot_reasons}
use Rattle.jury.specs.Accepted.{AcceptedBallots, GradedBallots}
use Rattle.jury.specs.Theorems.{WidthRule, TestsAccept, CountsHold}
use Rattle.jury.proofs.Limits.{within, graded_is, graded_within}
use Rattle.jury.proofs.WidthLaws.{width_zero, width_half, width_examples}
use Rattle.jury.proofs.AcceptedLaws.{accepted, accepted_back, graded}
use Rattle.jury.proofs.RankingLaws.{passes_orders}
use Rattle.jury.proofs.CountFacts.{counts_sum, reads_ballots}
use Rattle.jury.proofs.BallotOrder.{order_free}

pub width_rule : WidthRule
width_rule = record { of_zero = width_zero; of_more = width_half; examples = width_examples }

-- the first of two outcomes is none exactly if both are
shape_passed : (t : Bool) (rest : List (Option Reason)) → first_of (unless t 1 ∷ rest) ≡ none → (t ≡ true) × (first_of rest ≡ none)
unfolding unless first_of
shape_passed true rest e = (refl, e)
shape_passed false rest e = let z : ◌≡◌ {A = ℕ} 0 1 = cc in absurd (omega arith)

module _ (s : Shape) (xs : List ℕ) where
  passes : first_of (unless (within_limits s) 1 ∷ ballot_reasons s xs) ≡ none → AcceptedBallots s xs
  passes e = let p = shape_passed (within_limits s) (ballot_reasons s xs) e in accepted s xs p.0 p.1

  passed : AcceptedBallots s xs → first_of (unless (within_limits s) 1 ∷ ballot_reasons s xs) ≡ none
  unfolding unless first_of
  passed a = rw a.within (accepted_back s xs a)

  -- a graded shape is no ranking
  of_grades : GradedBallots s xs → AcceptedBallots s xs
  of_grades g = record {
    within = graded_within s g.within;
    size = g.size;
    bits = g.bits;
    rows = λ e. g.rows;
    orders = λ e. absurd (true≢false (sym e ∙ graded_is s (within s g.within)));
  }

pub tests_accept : TestsAccept
tests_accept =
    record {
      ballots = λ s xs. (passes s xs, passed s xs);
      grades = λ s xs g. (λ a. graded s xs a g, of_grades s xs);
      rankings = passes_orders;
    }

pub counts_hold : CountsHold
counts_hold = record { add_up = counts_sum; order_free = order_free; reads_ballots = reads_ballots }
