-- The season sheet [sheet]: the runs in a season's bytes, the reasons to refuse them, and the sums over all runs.
use Rattle.std.specs.Prelude.{◌≡◌, Bool, cond, ◌&&◌, List, [], ◌∷◌, ℕ, zero, suc, ◌+◌, ◌*◌, ◌/◌, ◌%◌, ◌^◌, ltb, leb, eqb, length, get_or, take, drop, Some, None, Result, Ok, Err}
use Rattle.std.specs.Prelude as prelude
use Rattle.std.proofs.Math.Option.{Option, none, some}
use Rattle.jury.specs.Shape.{within_limits}
use Rattle.jury.specs.Reason.{Reason, reason_at, unless, found_at, first_of}
use Rattle.season.specs.declared.run.Run.{Run}
use Rattle.season.specs.declared.sheet.Totals.{Totals}
use Rattle.season.specs.declared.sheet.Refusal.{Refusal}
use Rattle.season.specs.declared.sheet.Refusal.TheVariants.{Length, BadRun}

-- How many bytes a run has.
abbrev pub run_bytes : ℕ
run_bytes = 12

-- How many runs a season has at most.
abbrev pub most_runs : ℕ
most_runs = 4096

-- The 32-bit number that starts at a place, low byte first.
unfoldable pub number_at : ℕ → List ℕ → ℕ
number_at at bytes =
    get_or bytes at 0
    + 256 * (get_or bytes (at + 1) 0 + 256 * (get_or bytes (at + 2) 0 + 256 * get_or bytes (at + 3) 0))

-- A run: k, d, n, the mask of closing bytes, then G and C.
unfoldable pub run_of : List ℕ → Run
run_of bytes = record {
  candidates = get_or bytes 0 0;
  grades = get_or bytes 1 0;
  ballots = get_or bytes 2 0;
  mask = get_or bytes 3 0;
  gates = number_at 4 bytes;
  conditional = number_at 8 bytes;
}

-- The first n runs. There are no gaps between them.
unfoldable pub first_runs : ℕ → List ℕ → List Run
first_runs zero bytes = []
first_runs (suc n) bytes = run_of (take run_bytes bytes) ∷ first_runs n (drop run_bytes bytes)

-- All runs of a season.
unfoldable pub runs_in : List ℕ → List Run
runs_in bytes = first_runs (length bytes / run_bytes) bytes

-- How many of the lowest `digits` binary digits of a number are 1.
unfoldable pub ones_in : ℕ → ℕ → ℕ
ones_in zero m = 0
ones_in (suc digits) m = m % 2 + ones_in digits (m / 2)

-- The number of winners: the ones in the mask, which is a byte.
unfoldable pub winners_of : Run → ℕ
winners_of r = ones_in 8 r.mask

-- The shape of a run is within the limits, and its mask has no bit from k on.
unfoldable pub good_run : Run → Bool
good_run r =
    within_limits (record { candidates = r.candidates; grades = r.grades; ballots = r.ballots })
    && ltb r.mask (2 ^ r.candidates)

-- The place of the first bad run. The first of these runs has place i.
unfoldable pub first_bad_run : ℕ → List Run → prelude.Option ℕ
first_bad_run i [] = None
first_bad_run i (r ∷ rs) = cond (good_run r) (first_bad_run (suc i) rs) (Some i)

-- The reasons, in the order of their tests: 21 for the length, then 22 at the first bad run.
unfoldable pub sheet_reasons : List ℕ → List (Option Reason)
sheet_reasons bytes =
    unless (eqb (length bytes % run_bytes) 0 && leb (length bytes) (most_runs * run_bytes)) 21
    ∷ found_at 22 (first_bad_run 0 (runs_in bytes))
    ∷ []

abbrev pub sheet_reason_numbers : List ℕ
sheet_reason_numbers = 21 ∷ 22 ∷ []

-- The sum of f over these runs.
unfoldable pub sum_over : (Run → ℕ) → List Run → ℕ
sum_over f [] = 0
sum_over f (r ∷ rs) = f r + sum_over f rs

-- 1 for a run with more than one winner, else 0.
unfoldable pub shared_of : Run → ℕ
shared_of r = cond (ltb 1 (winners_of r)) 1 0

-- The five numbers of the sheet.
unfoldable pub totals_of : List Run → Totals
totals_of rs = record {
  runs = length rs;
  gates = sum_over (λ r. r.gates) rs;
  conditional = sum_over (λ r. r.conditional) rs;
  ballots = sum_over (λ r. r.ballots) rs;
  shared = sum_over shared_of rs;
}

-- The number and place of each refusal.
unfoldable pub sheet_reason_of : Refusal → Reason
sheet_reason_of Length = reason_at 21 0
sheet_reason_of (BadRun i) = reason_at 22 i

-- The reason of an answer, if it is a refusal.
unfoldable pub reason_for : Result Totals Refusal → Option Reason
reason_for (Ok totals) = none
reason_for (Err r) = some (sheet_reason_of r)

-- The totals of an answer, if it is accepted.
unfoldable pub totals_for : Result Totals Refusal → Option Totals
totals_for (Ok totals) = some totals
totals_for (Err r) = none

-- A refused sheet has no totals.
unfoldable pub totals_after : Option Reason → Totals → Option Totals
totals_after none totals = some totals
totals_after (some r) totals = none

-- What the entry point promises about its answer.
pub record Sheet (bytes : List ℕ) (r : Result Totals Refusal) : Type 0 where
  pub reason : reason_for r ≡ first_of (sheet_reasons bytes)
  pub totals : totals_for r ≡ totals_after (first_of (sheet_reasons bytes)) (totals_of (runs_in bytes))
