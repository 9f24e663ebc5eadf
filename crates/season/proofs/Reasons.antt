-- What the sheet answers, from the outcomes of its tests.
-- Assumes nothing.
use mathlib.Core.Path.{◌≡◌, ◌∙◌, refl, sym, ap}
use mathlib.Core.Bool.{Bool, true, false, ◌&&◌}
use mathlib.Core.Option.{Option, none, some}
use mathlib.Core.List.{List, [], ◌∷◌, ◌++◌}
use Prim.Native.Nat.{ℕ, ◌+◌, ◌*◌, ◌%◌, ◌≤◌, ◌<◌}
use native.Mathlib.Omega.{arith}
use lib.Dec.{leb, eqb}
use lib.ListN.{length}
use borrow.Author.Tests.{eq-eqb, ne_eqb, le-leb, lt-leb}
use Rattle.std.specs.Prelude.{Some, None, Ok, Err}
use Rattle.std.specs.Prelude as prelude
use Rattle.jury.specs.Reason.{Reason, unless, found_at, first_of}
use Rattle.basics.proofs.Flags.{and_both, and_first_fails, and_second_fails}
use Rattle.season.specs.declared.sheet.Totals.{Totals}
use Rattle.season.specs.declared.sheet.Refusal.{Refusal}
use Rattle.season.specs.declared.sheet.Refusal.TheVariants.{Length, BadRun}
use Rattle.season.specs.Season.{run_bytes, most_runs, runs_in, first_bad_run, totals_of, sheet_reasons, sheet_reason_of, reason_for, totals_for, totals_after, sum_over, Sheet}
use Rattle.season.specs.declared.run.Run.{Run}
use Rattle.season.specs.Theorems.{SheetSums}

-- the first reason, from the outcomes of both tests
unfoldable pub judged : Bool → prelude.Option ℕ → Option Reason
judged size run = first_of (unless size 21 ∷ found_at 22 run ∷ [])

pub judged_by : (bytes : List ℕ) (size : Bool) (run : prelude.Option ℕ)
    → (eqb (length bytes % run_bytes) 0 && leb (length bytes) (most_runs * run_bytes)) ≡ size
    → first_bad_run 0 (runs_in bytes) ≡ run →
    first_of (sheet_reasons bytes) ≡ judged size run
unfolding judged sheet_reasons
judged_by bytes size run e₁ e₂ = ap (λ (t : Bool). judged t (first_bad_run 0 (runs_in bytes))) e₁ ∙ ap (judged size) e₂

module _ (bytes : List ℕ) where
  -- the three ways in which a sheet is refused, and the one in which it is accepted
  pub part_of_a_run : (length bytes % run_bytes ≡ 0 → ⊥) → first_of (sheet_reasons bytes) ≡ some (sheet_reason_of Length)
  unfolding judged unless first_of sheet_reason_of
  part_of_a_run h = judged_by bytes false (first_bad_run 0 (runs_in bytes))
      (and_first_fails _ (leb (length bytes) (most_runs * run_bytes)) (ne_eqb (length bytes % run_bytes) 0 h)) refl

  pub too_many : most_runs * run_bytes < length bytes → first_of (sheet_reasons bytes) ≡ some (sheet_reason_of Length)
  unfolding judged unless first_of sheet_reason_of
  too_many h = judged_by bytes false (first_bad_run 0 (runs_in bytes))
      (and_second_fails (eqb (length bytes % run_bytes) 0) _ (lt-leb (length bytes) (most_runs * run_bytes) h)) refl

  size_passes : length bytes % run_bytes ≡ 0 → length bytes ≤ most_runs * run_bytes
      → (eqb (length bytes % run_bytes) 0 && leb (length bytes) (most_runs * run_bytes)) ≡ true
  size_passes h l = and_both _ _ (eq-eqb (length bytes % run_bytes) 0 h) (le-leb (length bytes) (most_runs * run_bytes) l)

  pub bad_run : (i : ℕ) → length bytes % run_bytes ≡ 0 → length bytes ≤ most_runs * run_bytes
      → first_bad_run 0 (runs_in bytes) ≡ Some i → first_of (sheet_reasons bytes) ≡ some (sheet_reason_of (BadRun i))
  unfolding judged unless found_at first_of sheet_reason_of
  bad_run i h l e = judged_by bytes true (Some i) (size_passes h l) e

  pub no_reason : length bytes % run_bytes ≡ 0 → length bytes ≤ most_runs * run_bytes → first_bad_run 0 (runs_in bytes)
      ≡ None → first_of (sheet_reasons bytes) ≡ none
  unfolding judged unless found_at first_of
  no_reason h l e = judged_by bytes true None (size_passes h l) e

  -- the program's answers are the definition's
  pub refused_is : (r : Refusal) → first_of (sheet_reasons bytes) ≡ some (sheet_reason_of r) → Sheet bytes (Err r)
  unfolding reason_for totals_for totals_after
  refused_is r e = record { reason = sym e; totals = sym (ap (λ (o : Option Reason). totals_after o (totals_of (runs_in bytes))) e) }

  pub accepted_is : (t : Totals) → first_of (sheet_reasons bytes) ≡ none → t ≡ totals_of (runs_in bytes) → Sheet bytes (Ok t)
  unfolding reason_for totals_for totals_after
  accepted_is t e h =
      record { reason = sym e; totals = ap some h ∙ sym (ap (λ (o : Option Reason). totals_after o (totals_of (runs_in bytes))) e) }

sum_joined : (f : Run → ℕ) (rs qs : List Run) → sum_over f (rs ++ qs) ≡ sum_over f rs + sum_over f qs
unfolding sum_over
sum_joined f [] qs = omega arith
sum_joined f (r ∷ rs) qs = omega (arith, sum_joined f rs qs)

pub sheet_sums : SheetSums
unfolding totals_after
sheet_sums =
    record {
      told = λ bytes r s e. s.totals ∙ ap (λ (o : Option Reason). totals_after o (totals_of (runs_in bytes))) e;
      joined = sum_joined;
    }
