-- Sums over the runs of a season: the totals so far plus those of the rest are the totals of all.
-- Assumes nothing.
use Rattle.std.proofs.Common.{◌≡◌, ◌∙◌, refl, sym, ap, subst, Bool, true, false, cond, List, [], ◌∷◌, ◌++◌, ℕ, ◌+◌, ◌≤◌, ◌<◌, length, ltb, zero-add, arith}
use Rattle.season.specs.declared.run.Run.{Run}
use Rattle.season.specs.declared.sheet.Totals.{Totals}
use Rattle.season.specs.Season.{run_bytes, run_of, runs_in, sum_over, winners_of, shared_of, totals_of}
use Rattle.season.specs.inner.Sums.{Small, SumsOf, plus_run}
use Rattle.season.proofs.RunLaws.{runs_step, runs_end}

-- the sum of two totals, number by number
unfoldable pub plus : Totals → Totals → Totals
plus t u = record {
  runs = t.runs + u.runs;
  gates = t.gates + u.gates;
  conditional = t.conditional + u.conditional;
  ballots = t.ballots + u.ballots;
  shared = t.shared + u.shared;
}

pub same_totals : (r g c b s r' g' c' b' s' : ℕ) → r ≡ r' → g ≡ g' → c ≡ c' → b ≡ b' → s ≡ s' →
    ◌≡◌ {A = Totals} (record { runs = r; gates = g; conditional = c; ballots = b; shared = s })
    (record { runs = r'; gates = g'; conditional = c'; ballots = b'; shared = s' })
same_totals r g c b s r' g' c' b' s' e₁ e₂ e₃ e₄ e₅ = cc

-- at the start, the totals so far are zeros
pub plus_start : (u : Totals) → plus (record { runs = 0; gates = 0; conditional = 0; ballots = 0; shared = 0 }) u ≡ u
unfolding plus
plus_start u = same_totals _ _ _ _ _ _ _ _ _ _ (zero-add u.runs) (zero-add u.gates)
    (zero-add u.conditional) (zero-add u.ballots) (zero-add u.shared)

-- at the end, the totals of the rest are zeros
pub plus_end : (t : Totals) → plus t (totals_of []) ≡ t
unfolding plus totals_of sum_over
plus_end t = same_totals _ _ _ _ _ _ _ _ _ _ (omega arith) (omega arith) (omega arith) (omega arith) (omega arith)

-- adding a run to the totals so far takes it from the rest
pub plus_run_lem : (t : Totals) (r : Run) (rs : List Run) → plus (plus_run t r) (totals_of rs) ≡ plus t (totals_of (r ∷ rs))
unfolding plus plus_run totals_of sum_over
plus_run_lem t r rs = same_totals _ _ _ _ _ _ _ _ _ _ (omega arith) (omega arith) (omega arith) (omega arith) (omega arith)

-- a turn of the loop: the next run is added
pub sums_turn : (t u : Totals) (r : Run) (bytes run rest : List ℕ) → bytes ≡ run ++ rest → length run ≡ run_bytes →
    r ≡ run_of run → u ≡ plus_run t r → plus u (totals_of (runs_in rest)) ≡ plus t (totals_of (runs_in bytes))
sums_turn t u r bytes run rest e l er eu =
    ap (λ (v : Totals). plus v (totals_of (runs_in rest))) (eu ∙ ap (plus_run t) er)
    ∙ plus_run_lem t (run_of run) (runs_in rest)
    ∙ sym (ap (λ (rs : List Run). plus t (totals_of rs)) (runs_step bytes run rest e l))

pub sums_end : (t : Totals) (bytes : List ℕ) → length bytes < run_bytes → plus t (totals_of (runs_in bytes)) ≡ t
sums_end t bytes h = ap (λ (rs : List Run). plus t (totals_of rs)) (runs_end bytes h) ∙ plus_end t

-- a run with several winners counts 1, any other 0
pub shared_one : (r : Run) → ltb 1 (winners_of r) ≡ true → shared_of r ≡ 1
unfolding shared_of
shared_one r e = ap (λ (t : Bool). cond t 1 0) e

pub shared_none : (r : Run) → ltb 1 (winners_of r) ≡ false → shared_of r ≡ 0
unfolding shared_of
shared_none r e = ap (λ (t : Bool). cond t 1 0) e

shared_most : (r : Run) → shared_of r ≤ 1
shared_most r = go (ltb 1 (winners_of r)) refl
  where
    go : (t : Bool) → ltb 1 (winners_of r) ≡ t → shared_of r ≤ 1
    go true e = omega (arith, shared_one r e)
    go false e = omega (arith, shared_none r e)

-- bounds for i runs hold for more runs, and after one more run the bounds for i + 1 runs hold
pub sums_most : (i n : ℕ) (t : Totals) → i ≤ n → SumsOf i t → SumsOf n t
sums_most i n t h s = record {
  runs_most = omega (arith, s.runs_most);
  gates_most = omega (arith, s.gates_most);
  conditional_most = omega (arith, s.conditional_most);
  ballots_most = omega (arith, s.ballots_most);
  shared_most = omega (arith, s.shared_most);
}

pub sums_grow : (i : ℕ) (t u : Totals) (r : Run) → SumsOf i t → Small r → u ≡ plus_run t r → SumsOf (i + 1) u
unfolding plus_run
sums_grow i t u r s small e = subst (SumsOf (i + 1)) (sym e) record {
  runs_most = omega (arith, s.runs_most);
  gates_most = omega (arith, s.gates_most, small.gates_small);
  conditional_most = omega (arith, s.conditional_most, small.conditional_small);
  ballots_most = omega (arith, s.ballots_most, small.ballots_small);
  shared_most = omega (arith, s.shared_most, shared_most r);
}
