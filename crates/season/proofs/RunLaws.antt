-- The runs of a season and their test, one run at a time.
-- Assumes nothing.
use Rattle.std.specs.Prelude.{Some, None}
use Rattle.std.proofs.Common.{◌≡◌, ◌∙◌, sym, ap, Bool, true, false, cond, List, [], ◌∷◌, ◌++◌, ℕ, suc, ◌+◌, ◌/◌, ◌<◌, length, get_or, take, drop, length-append, add-one, arith}
use Rattle.std.proofs.Math.Seq.{take-append_seam, drop-append_seam}
use Rattle.season.specs.declared.run.Run.{Run}
use Rattle.season.specs.Season.{run_bytes, number_at, run_of, first_runs, runs_in, good_run, first_bad_run}

-- if each number of a run is the definition's, so is the run
pub run_is : (bytes : List ℕ) (k d n m g c : ℕ) → k ≡ get_or bytes 0 0 → d ≡ get_or bytes 1 0 → n ≡ get_or bytes 2 0 → m
    ≡ get_or bytes 3 0 → g ≡ number_at 4 bytes → c ≡ number_at 8 bytes →
    ◌≡◌ {A = Run} (record { candidates = k; grades = d; ballots = n; mask = m; gates = g; conditional = c }) (run_of bytes)
unfolding run_of
run_is bytes k d n m g c e₁ e₂ e₃ e₄ e₅ e₆ = cc

-- the runs in some bytes: one for the first twelve, then those in the rest; and none in fewer than twelve
pub runs_step : (bytes run rest : List ℕ) → bytes ≡ run ++ rest → length run ≡ run_bytes → runs_in bytes ≡ run_of run ∷ runs_in rest
unfolding runs_in first_runs
runs_step bytes run rest e l =
    let n : length bytes / run_bytes ≡ suc (length rest / run_bytes) = omega (arith, ap length e, length-append run rest) in
    ap (λ (n : ℕ). first_runs n bytes) n
    ∙ ap (λ (xs : List ℕ). run_of (take run_bytes xs) ∷ first_runs (length rest / run_bytes) (drop run_bytes xs)) e
    ∙ ap (λ (n : ℕ). run_of (take n (run ++ rest)) ∷ first_runs (length rest / run_bytes) (drop n (run ++ rest))) (sym l)
    ∙ ap (λ (xs : List ℕ). run_of xs ∷ first_runs (length rest / run_bytes) (drop (length run) (run ++ rest))) (take-append_seam run rest)
    ∙ ap (λ (xs : List ℕ). run_of run ∷ first_runs (length rest / run_bytes) xs) (drop-append_seam run rest)

pub runs_end : (bytes : List ℕ) → length bytes < run_bytes → runs_in bytes ≡ []
unfolding runs_in first_runs
runs_end bytes h = ap (λ (n : ℕ). first_runs n bytes) {x = length bytes / run_bytes} {y = 0} (omega arith)

-- the search at a run: the run is bad; or it is good, and the search goes on; or no run is left
bad_step : (i : ℕ) (bytes run rest : List ℕ) (good : Bool) → bytes ≡ run ++ rest → length run ≡ run_bytes → good_run (run_of run) ≡ good →
    first_bad_run i (runs_in bytes) ≡ cond good (first_bad_run (suc i) (runs_in rest)) (Some i)
unfolding first_bad_run
bad_step i bytes run rest good e l h =
    ap (first_bad_run i) (runs_step bytes run rest e l)
    ∙ ap (λ (t : Bool). cond t (first_bad_run (suc i) (runs_in rest)) (Some i)) h

pub bad_here : (i : ℕ) (bytes run rest : List ℕ) → bytes ≡ run ++ rest → length run ≡ run_bytes → good_run (run_of run) ≡ false
    → first_bad_run i (runs_in bytes) ≡ Some i
bad_here i bytes run rest e l h = bad_step i bytes run rest false e l h

pub bad_later : (i : ℕ) (bytes run rest : List ℕ) → bytes ≡ run ++ rest → length run ≡ run_bytes → good_run (run_of run) ≡ true →
    first_bad_run i (runs_in bytes) ≡ first_bad_run (i + 1) (runs_in rest)
bad_later i bytes run rest e l h =
    bad_step i bytes run rest true e l h ∙ ap (λ (n : ℕ). first_bad_run n (runs_in rest)) (sym (add-one i))

pub bad_end : (i : ℕ) (bytes : List ℕ) → length bytes < run_bytes → first_bad_run i (runs_in bytes) ≡ None
unfolding first_bad_run
bad_end i bytes h = ap (first_bad_run i) (runs_end bytes h)
