-- What holds for the season sheet.
use Rattle.std.specs.Prelude.{◌≡◌, List, ◌++◌, ℕ, ◌+◌, Result}
use Rattle.std.proofs.Math.Option.{none, some}
use Rattle.jury.specs.Reason.{first_of}
use Rattle.season.specs.Season.{sheet_reasons, sum_over, totals_of, runs_in, totals_for, Sheet}
use Rattle.season.specs.declared.run.Run.{Run}
use Rattle.season.specs.declared.sheet.Totals.{Totals}
use Rattle.season.specs.declared.sheet.Refusal.{Refusal}

-- An accepted sheet has the totals of its runs; and a sum over the runs of two seasons is the sum over the first
-- plus the sum over the second.
pub record SheetSums : Type 0 where
  pub told : (bytes : List ℕ) (r : Result Totals Refusal) → Sheet bytes r → first_of (sheet_reasons bytes) ≡ none
      → totals_for r ≡ some (totals_of (runs_in bytes))
  pub joined : (f : Run → ℕ) (rs qs : List Run) → sum_over f (rs ++ qs) ≡ sum_over f rs + sum_over f qs
