-- The spans of the circuit's parts, case by case, as the program computes them.
-- Assumes nothing.
use mathlib.Core.Logic.{⊎_elim}
use mathlib.Core.Path.{◌≡◌, refl, ap}
use Prim.Native.Nat.{ℕ, zero, suc, ◌+◌, ◌-◌, ◌*◌, ◌/◌, ◌≤◌, ◌<◌}
use native.Mathlib.Nat.{mul-add, mul-le-mul}
use native.Mathlib.Omega.{arith}
use Rattle.gate_words.specs.Reach.{reach_span}
use Rattle.gate_words.proofs.ChoiceSteps.{left_one}
use Rattle.graded_circuit.specs.declared.plan.Plan.{Plan}
use Rattle.graded_circuit.specs.RunningSums.{sum_size, worst_size}
use Rattle.graded_circuit.specs.Median.{Fits, difference_span, later_span}
use Rattle.graded_circuit.proofs.MedianLaws.{fits_half, fits_some}
use Rattle.graded_circuit.specs.Nearest.{side_span, either_span}
use Rattle.graded_circuit.specs.Plan.{Planned}
use Rattle.graded_circuit.specs.Key.{key_span, candidate_span}
use Rattle.graded_circuit.specs.Contest.{tie_break_below_span, contest_span}
use Rattle.graded_circuit.specs.OwnList.{levels_span}
use Rattle.graded_circuit.proofs.LevelsLaws.{span_one, span_more}
use Rattle.graded_circuit.proofs.BoundLaws.{merge_few, candidate_small}
use Rattle.graded_circuit.proofs.CandidateBlocks.{candidate_span_lem}
use Rattle.basics.proofs.Cases.{below_or_not}

-- the comparison of the sums
pub tie_break_below_none : (r t : ℕ) → r ≡ 0 → tie_break_below_span r t ≡ 0
unfolding tie_break_below_span
tie_break_below_none r t e = rw e

pub tie_break_below_single : (r t : ℕ) → (r ≡ 0 → ⊥) → t ≡ 0 → tie_break_below_span r t ≡ 3 * r - 2
unfolding tie_break_below_span
tie_break_below_single zero t h e = absurd (h refl)
tie_break_below_single (suc r) zero h e = omega arith
tie_break_below_single (suc r) (suc t) h e = absurd (omega arith)

pub tie_break_below_more : (r t : ℕ) → (r ≡ 0 → ⊥) → 0 < t → tie_break_below_span r t ≡ (t - 1) * (6 * r + 1) + 6 * r
    + 2 * reach_span (r - 1) + 10
tie_break_below_more zero t h z = absurd (h refl)
tie_break_below_more (suc r) zero h z = absurd (omega arith)
tie_break_below_more (suc r) (suc t) h z =
    let e : side_span r + either_span r + either_span r ≡ 6 * suc r + 1 = omega arith in
    omega (
      arith,
      span,
      ap reach_span {x = suc r - 1} {y = r} (omega arith),
      ap (λ (x : ℕ). t * x) e,
      mul-add t (side_span r + either_span r) (either_span r),
      mul-add t (side_span r) (either_span r),
      ap (λ (x : ℕ). x * (6 * suc r + 1)) {x = suc t - 1} {y = t} (omega arith),
    )
  where
    span : tie_break_below_span (suc r) (suc t) ≡ t * side_span r + t * either_span r + t * either_span r + (6 * r + 2 + 2 * reach_span r) + 14
    span = unfold tie_break_below_span in (omega arith)

-- after i digits of the comparison of the medians: the next one, and the digits left
pub later_turn : (m i w : ℕ) → i < w → Fits m (w - i)
    → Fits (m / 2) (w - (i + 1)) × (later_span m (w - i) ≡ 2 * m + 1 + later_span (m / 2) (w - (i + 1)))
later_turn m i w h f = rw (left_one i w h) (fits_half m (w - (i + 1)) g, omega (arith, span, fits_some m (w - (i + 1)) g))
  where
    g : Fits m (suc (w - (i + 1)))
    g = rw (left_one i w h) at f

    span : later_span m (suc (w - (i + 1))) ≡ difference_span m + 2 + later_span (m / 2) (w - (i + 1))
    span = unfold later_span in refl

pub later_none : (m i w : ℕ) → w ≤ i → later_span m (w - i) ≡ 0
unfolding later_span
later_none m i w h = let e : w - i ≡ 0 = omega arith in rw e

-- the levels of merges
module _ (p : Plan) where
  pub pair_one : (m : ℕ) → m ≤ 1 → levels_span p 1 m ≡ 0
  pair_one m h = span_one p 0 m h

  pub pair_two : (m : ℕ) → 1 < m → levels_span p 1 m ≡ contest_span p + 3 + m + key_span p
  pair_two m h = omega (arith, span_more p 0 m h, nothing (m / 2), nothing (m - m / 2))
    where
      nothing : (k : ℕ) → levels_span p 0 k ≡ 0
      nothing k = unfold levels_span in refl

  pub four_one : (m : ℕ) → m ≤ 1 → levels_span p 2 m ≡ 0
  four_one m h = span_one p 1 m h

  pub four_more : (m : ℕ) → 1 < m → levels_span p 2 m ≡ levels_span p 1 (m / 2) + levels_span p 1 (m - m / 2)
      + contest_span p + 3 + m + key_span p
  four_more m h = omega (arith, span_more p 1 m h)

  module _ (f : Planned p) where
    pub contest_small : contest_span p + 11 + key_span p ≤ 500
    contest_small = omega (arith, merge_few p f 4 4 (omega arith))

    pub pair_small : (m : ℕ) → m ≤ 2 → levels_span p 1 m ≤ 500
    pair_small m h = ⊎_elim
        (λ (l : 1 < m). omega (arith, pair_two m l, contest_small))
        (λ (l : m ≤ 1). omega (arith, pair_one m l))
        (below_or_not 1 m)

    pub four_small : (m : ℕ) → m ≤ 4 → levels_span p 2 m ≤ 1500
    four_small m h = ⊎_elim
        (λ (l : 1 < m). omega (arith, four_more m l, contest_small, pair_small (m / 2) (omega arith), pair_small (m - m / 2) (omega arith)))
        (λ (l : m ≤ 1). omega (arith, four_one m l))
        (below_or_not 1 m)

    -- a candidate's parts have at most 35,000 gates
    pub parts_small : (p.grades - 3) * p.ballots + (p.grades - 2) * sum_size p + worst_size p + key_span p ≤ 35000
    parts_small = omega (arith, candidate_span_lem p, candidate_small p f)

    pub all_small : p.candidates * candidate_span p ≤ 8 * 35000
    all_small = mul-le-mul {n₁ = p.candidates} {m₁ = candidate_span p} {n₂ = 8} {m₂ = 35000} f.k_most (candidate_small p f)
