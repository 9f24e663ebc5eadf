-- A shape within its limits, as facts about its numbers: for each of the two kinds, then for both.
-- Assumes nothing.
use mathlib.Core.Path.{◌≡◌, ◌∙◌, sym, ap, subst}
use mathlib.Core.Bool.{Bool, true, false, cond, ◌&&◌, true≢false}
use mathlib.Core.Logic.{◌⊎◌, ⊎_elim}
use Prim.Native.Nat.{◌≤◌, ◌<◌, ◌*◌}
use native.Mathlib.Nat.{mul-le-mul, mul-pos}
use native.Mathlib.Omega.{arith}
use lib.Dec.{T, leb}
use borrow.Author.Tests.{leb-true, le-leb, ne_eqb}
use Rattle.jury.specs.declared.shape.Shape.{Shape}
use Rattle.jury.specs.Shape.{most_candidates, most_grades, most_ballots, is_ranking, graded_limits, ranked_limits, within_limits, columns, ballot_bytes}
use Rattle.basics.proofs.Flags.{and_first, and_second, or_either, or_first, never_true, T_true, true_T}

-- a graded jury
pub record Within (s : Shape) : Type 0 where
  pub k_least : 1 ≤ s.candidates
  pub k_most : s.candidates ≤ most_candidates
  pub d_least : 2 ≤ s.grades
  pub d_most : s.grades ≤ most_grades
  pub n_least : 1 ≤ s.ballots
  pub n_most : s.ballots ≤ most_ballots

-- if the test of the limits passes, the six facts hold
pub within : (s : Shape) → graded_limits s ≡ true → Within s
unfolding graded_limits
within s e =
    let e₅ = and_first (leb 1 s.candidates && leb s.candidates most_candidates && leb 2 s.grades && leb s.grades most_grades &&
    leb 1 s.ballots) (leb s.ballots most_ballots) e in
    let e₄ = and_first (leb 1 s.candidates && leb s.candidates most_candidates && leb 2 s.grades && leb s.grades most_grades)
    (leb 1 s.ballots) e₅ in
    let e₃ = and_first (leb 1 s.candidates && leb s.candidates most_candidates && leb 2 s.grades) (leb s.grades most_grades) e₄ in
    let e₂ = and_first (leb 1 s.candidates && leb s.candidates most_candidates) (leb 2 s.grades) e₃ in
    record {
      k_least = leb-true 1 s.candidates (and_first (leb 1 s.candidates) (leb s.candidates most_candidates) e₂);
      k_most = leb-true s.candidates most_candidates (and_second (leb 1 s.candidates) (leb s.candidates most_candidates) e₂);
      d_least = leb-true 2 s.grades (and_second (leb 1 s.candidates && leb s.candidates most_candidates) (leb 2 s.grades) e₃);
      d_most = leb-true s.grades most_grades
          (and_second (leb 1 s.candidates && leb s.candidates most_candidates && leb 2 s.grades) (leb s.grades most_grades) e₄);
      n_least = leb-true 1 s.ballots
          (and_second (leb 1 s.candidates && leb s.candidates most_candidates && leb 2 s.grades && leb s.grades most_grades)
          (leb 1 s.ballots) e₅);
      n_most = leb-true s.ballots most_ballots
          (and_second (leb 1 s.candidates && leb s.candidates most_candidates && leb 2 s.grades && leb s.grades most_grades &&
          leb 1 s.ballots) (leb s.ballots most_ballots) e);
    }

pub within_T : (s : Shape) → T (graded_limits s) → Within s
within_T s h = within s (T_true (graded_limits s) h)

-- the converse
pub within_back : (s : Shape) → Within s → graded_limits s ≡ true
unfolding graded_limits
within_back s w =
    simp (
      le-leb _ _ w.k_least,
      le-leb _ _ w.k_most,
      le-leb _ _ w.d_least,
      le-leb _ _ w.d_most,
      le-leb _ _ w.n_least,
      le-leb _ _ w.n_most,
    )

-- bounds for the rows of all ballots, and for the ballot bytes
pub rows_bound : (s : Shape) → Within s → s.ballots * s.candidates ≤ most_ballots * most_candidates
rows_bound s w = mul-le-mul w.n_most w.k_most

pub bytes_bound : (s : Shape) → Within s → s.ballots * s.candidates * s.grades ≤ most_ballots * most_candidates * most_grades
bytes_bound s w = mul-le-mul (rows_bound s w) w.d_most

pub graded_is : (s : Shape) → Within s → is_ranking s ≡ false
unfolding is_ranking
graded_is s w = ne_eqb s.grades 0 (λ e. let l = w.d_least in absurd (omega arith))

-- if there are grades, they are the columns
pub grades_columns : (s : Shape) → is_ranking s ≡ false → ballot_bytes s ≡ s.ballots * s.candidates * s.grades
unfolding ballot_bytes columns
grades_columns s e = ap (λ (t : Bool). s.ballots * s.candidates * cond t s.candidates s.grades) e

pub bytes_are : (s : Shape) → Within s → ballot_bytes s ≡ s.ballots * s.candidates * s.grades
bytes_are s w = grades_columns s (graded_is s w)

-- a ranked jury
pub record Ranked (s : Shape) : Type 0 where
  pub k_least : 1 ≤ s.candidates
  pub k_most : s.candidates ≤ most_candidates
  pub ranking : is_ranking s ≡ true
  pub n_least : 1 ≤ s.ballots
  pub n_most : s.ballots ≤ most_ballots

pub ranked : (s : Shape) → ranked_limits s ≡ true → Ranked s
unfolding ranked_limits
ranked s e =
    let e₄ = and_first (leb 1 s.candidates && leb s.candidates most_candidates && is_ranking s && leb 1 s.ballots) (leb s.ballots most_ballots) e in
    let e₃ = and_first (leb 1 s.candidates && leb s.candidates most_candidates && is_ranking s) (leb 1 s.ballots) e₄ in
    let e₂ = and_first (leb 1 s.candidates && leb s.candidates most_candidates) (is_ranking s) e₃ in
    record {
      k_least = leb-true 1 s.candidates (and_first (leb 1 s.candidates) (leb s.candidates most_candidates) e₂);
      k_most = leb-true s.candidates most_candidates (and_second (leb 1 s.candidates) (leb s.candidates most_candidates) e₂);
      ranking = and_second (leb 1 s.candidates && leb s.candidates most_candidates) (is_ranking s) e₃;
      n_least = leb-true 1 s.ballots
          (and_second (leb 1 s.candidates && leb s.candidates most_candidates && is_ranking s) (leb 1 s.ballots) e₄);
      n_most = leb-true s.ballots most_ballots
          (and_second (leb 1 s.candidates && leb s.candidates most_candidates && is_ranking s && leb 1 s.ballots)
          (leb s.ballots most_ballots) e);
    }

pub ranked_bytes : (s : Shape) → is_ranking s ≡ true → ballot_bytes s ≡ s.ballots * s.candidates * s.candidates
unfolding ballot_bytes columns
ranked_bytes s e = ap (λ (t : Bool). s.ballots * s.candidates * cond t s.candidates s.grades) e

-- a shape within the limits is of one of the two kinds
pub kinds : (s : Shape) → within_limits s ≡ true → (graded_limits s ≡ true) ⊎ (ranked_limits s ≡ true)
unfolding within_limits
kinds s e = or_either (graded_limits s) (ranked_limits s) e

pub graded_kind : (s : Shape) → within_limits s ≡ true → is_ranking s ≡ false → graded_limits s ≡ true
graded_kind s e f = ⊎_elim (λ g. g) (λ r. absurd (true≢false (sym (ranked s r).ranking ∙ f))) (kinds s e)

pub ranked_kind : (s : Shape) → within_limits s ≡ true → is_ranking s ≡ true → ranked_limits s ≡ true
ranked_kind s e f = ⊎_elim (λ g. absurd (true≢false (sym f ∙ graded_is s (within s g)))) (λ r. r) (kinds s e)

-- no shape is of both kinds
pub not_graded : (s : Shape) → is_ranking s ≡ true → graded_limits s ≡ false
not_graded s e = never_true (graded_limits s) (λ g. true≢false (sym e ∙ graded_is s (within s g)))

pub not_ranked : (s : Shape) → is_ranking s ≡ false → ranked_limits s ≡ false
not_ranked s e = never_true (ranked_limits s) (λ r. true≢false (sym (ranked s r).ranking ∙ e))

pub graded_within : (s : Shape) → graded_limits s ≡ true → within_limits s ≡ true
unfolding within_limits
graded_within s e = or_first (graded_limits s) (ranked_limits s) e

pub graded_T : (s : Shape) → T (graded_limits s) → T (within_limits s)
graded_T s h = true_T (within_limits s) (graded_within s (T_true (graded_limits s) h))

-- what holds for both kinds
pub record Bounds (s : Shape) : Type 0 where
  pub k_least : 1 ≤ s.candidates
  pub k_most : s.candidates ≤ most_candidates
  pub c_most : columns s ≤ most_candidates
  pub n_least : 1 ≤ s.ballots
  pub n_most : s.ballots ≤ most_ballots

pub bounds : (s : Shape) → within_limits s ≡ true → Bounds s
unfolding columns
bounds s e = ⊎_elim graded rank (kinds s e)
  where
    graded : graded_limits s ≡ true → Bounds s
    graded g =
        let w = within s g in
        let few : columns s ≤ most_candidates = subst (λ (t : Bool). cond t s.candidates s.grades ≤ most_candidates) (sym (graded_is s w))
        (omega (arith, w.d_most)) in
        record { k_least = w.k_least; k_most = w.k_most; c_most = few; n_least = w.n_least; n_most = w.n_most }

    rank : ranked_limits s ≡ true → Bounds s
    rank r =
        let w = ranked s r in
        let few : columns s ≤ most_candidates = subst (λ (t : Bool). cond t s.candidates s.grades ≤ most_candidates) (sym w.ranking) w.k_most in
        record { k_least = w.k_least; k_most = w.k_most; c_most = few; n_least = w.n_least; n_most = w.n_most }

pub bounds_T : (s : Shape) → T (within_limits s) → Bounds s
bounds_T s h = bounds s (T_true (within_limits s) h)

-- a shape within its limits has at least one ballot byte
pub some_bytes : (s : Shape) → within_limits s ≡ true → 1 ≤ ballot_bytes s
some_bytes s e = ⊎_elim graded rank (kinds s e)
  where
    graded : graded_limits s ≡ true → 1 ≤ ballot_bytes s
    graded g =
        let w = within s g in
        let rows : 0 < s.ballots * s.candidates = mul-pos w.n_least w.k_least in
        let d : 0 < s.grades = omega (arith, w.d_least) in
        let all : 0 < s.ballots * s.candidates * s.grades = mul-pos rows d in
        omega (arith, bytes_are s w)

    rank : ranked_limits s ≡ true → 1 ≤ ballot_bytes s
    rank r =
        let w = ranked s r in
        let rows : 0 < s.ballots * s.candidates = mul-pos w.n_least w.k_least in
        let all : 0 < s.ballots * s.candidates * s.candidates = mul-pos rows w.k_least in
        omega (arith, ranked_bytes s w.ranking)

-- a bound for the ballot bytes of either kind
pub inputs_bound : (s : Shape) → Bounds s → ballot_bytes s ≤ most_ballots * most_candidates * most_candidates
unfolding ballot_bytes
inputs_bound s b =
    let rows : s.ballots * s.candidates ≤ most_ballots * most_candidates = mul-le-mul b.n_most b.k_most in
    mul-le-mul rows b.c_most

-- what the shape's tests and sizes need
pub ruleset kinds_apart = (not_graded, not_ranked)

pub ruleset sizes = (bounds_T, inputs_bound)
