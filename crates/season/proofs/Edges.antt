-- The edges of the season sheet, computed by its definitions.
-- Assumes nothing.
use mathlib.Core.Path.{◌≡◌, refl}
use mathlib.Core.Option.{none, some}
use mathlib.Core.List.{List, [], ◌∷◌, ◌++◌}
use Prim.Native.Nat.{ℕ}
use lib.ListN.{replicate}
use Rattle.jury.specs.Shape.{is_ranking, graded_limits, ranked_limits, within_limits}
use Rattle.jury.specs.Reason.{reason_at, unless, found_at, first_of}
use Rattle.season.specs.Season.{number_at, run_of, first_runs, runs_in, ones_in, winners_of, good_run, first_bad_run, sheet_reasons, sum_over, shared_of, totals_of}

-- two candidates, three grades, three ballots: G = 0x01020304, C = 27
run : ℕ → List ℕ
run mask = 2 ∷ 3 ∷ 3 ∷ mask ∷ 4 ∷ 3 ∷ 2 ∷ 1 ∷ 27 ∷ 0 ∷ 0 ∷ 0 ∷ []

-- two candidates, d grades, three ballots
kind_run : ℕ → List ℕ
kind_run grades = 2 ∷ grades ∷ 3 ∷ 1 ∷ 18 ∷ 0 ∷ 0 ∷ 0 ∷ 5 ∷ 0 ∷ 0 ∷ 0 ∷ []

-- an empty sheet is accepted
empty : first_of (sheet_reasons []) ≡ none
unfolding first_of sheet_reasons unless found_at first_bad_run runs_in first_runs
empty = refl

-- eleven bytes are no run
short : first_of (sheet_reasons (replicate 11 0)) ≡ some (reason_at 21 0)
unfolding first_of sheet_reasons unless
short = refl

-- a winner that is no candidate: the second run is the first bad one
stranger : first_of (sheet_reasons (run 3 ++ run 4 ++ run 4)) ≡ some (reason_at 22 1)
unfolding first_of sheet_reasons unless found_at first_bad_run runs_in first_runs good_run is_ranking graded_limits ranked_limits within_limits run_of
    number_at run
stranger = refl

-- a run of rankings is good, one with a single grade is not
ranked : first_of (sheet_reasons (kind_run 0 ++ kind_run 1)) ≡ some (reason_at 22 1)
unfolding first_of sheet_reasons unless found_at first_bad_run runs_in first_runs good_run is_ranking graded_limits ranked_limits within_limits run_of
    number_at kind_run
ranked = refl

-- two runs, one of them shared, one without a winner
sums : totals_of (runs_in (run 3 ++ run 0)) ≡ record { runs = 2; gates = 33818120; conditional = 54; ballots = 6; shared = 1 }
unfolding totals_of runs_in first_runs run_of number_at sum_over shared_of winners_of ones_in run
sums = refl
