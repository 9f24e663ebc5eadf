-- The numbers of a plan do not wrap; and the parts of a candidate's circuit, grade by grade.
-- Assumes nothing.
use mathlib.Core.Path.{◌≡◌, ◌∙◌, refl, sym, ap}
use mathlib.Core.List.{List, [], ◌++◌}
use Prim.Native.Nat.{ℕ, zero, suc, ◌+◌, ◌-◌, ◌*◌, ◌^◌, ◌≤◌, ◌<◌}
use native.Mathlib.Nat.{pow-succ', mul-le-mul, mul-le-mul_right}
use native.Mathlib.Numerals.{add-one}
use native.Mathlib.Omega.{arith}
use Rattle.gates.specs.Gate.{Gate}
use Rattle.gate_words.specs.Rows.{xor_rows}
use Rattle.gate_words.specs.Counter.{count_levels, count_digits_as}
use Rattle.gate_words.proofs.ChoiceSteps.{left_one}
use Rattle.gate_words.proofs.CounterSteps.{count_size_most}
use Rattle.graded_circuit.specs.declared.plan.Plan.{Plan}
use Rattle.graded_circuit.specs.Plan.{Planned, bits_at, ballot_stride}
use Rattle.graded_circuit.specs.RunningSums.{sum_size, row_at, row_stride, rows, sum_levels_from, sum_levels, all_levels}
use Rattle.graded_circuit.specs.Key.{key_word, key_words}
use Rattle.graded_circuit.proofs.PlanFacts.{row_below}
use Rattle.graded_circuit.proofs.CandidateBlocks.{RowsBefore}

less_power : (r : ℕ) → r < 2 ^ r
less_power zero = omega arith
less_power (suc r) = omega (arith, less_power r, pow-succ' 2 r)

-- the bits that a sum counts, case by case
pub first_row : (p : Plan) (n c g : ℕ) → g ≡ 0 → row_at p n c g ≡ bits_at p c 0
unfolding row_at
first_row p n c g e = rw e

pub later_row : (p : Plan) (n c g : ℕ) → (g ≡ 0 → ⊥) → row_at p n c g ≡ n + (g - 1) * p.ballots
unfolding row_at
later_row p n c zero h = absurd (h refl)
later_row p n c (suc g) h = let e : suc g - 1 ≡ g = omega arith in rw e

pub first_apart : (p : Plan) (g : ℕ) → g ≡ 0 → row_stride p g ≡ ballot_stride p
unfolding row_stride
first_apart p g e = rw e

pub later_apart : (p : Plan) (g : ℕ) → (g ≡ 0 → ⊥) → row_stride p g ≡ 1
unfolding row_stride
later_apart p zero h = absurd (h refl)
later_apart p (suc g) h = refl

-- one turn: a grade, and the grades that are left
module _ (p : Plan) (n c : ℕ) where
  pub rows_turn : (g : ℕ) → g < p.grades - 3
      → rows p n c g (p.grades - 3 - g)
      ≡ xor_rows (row_at p n c g) (row_stride p g) (bits_at p c (suc g)) (ballot_stride p) p.ballots
      ++ rows p n c (g + 1) (p.grades - 3 - (g + 1))
  rows_turn g h = ap (rows p n c g) (left_one g (p.grades - 3) (omega arith)) ∙ first (p.grades - 3 - (g + 1))
      ∙ ap (λ (k : ℕ). row ++ rows p n c k (p.grades - 3 - (g + 1))) (sym (add-one g))
    where
      row : List Gate
      row = xor_rows (row_at p n c g) (row_stride p g) (bits_at p c (suc g)) (ballot_stride p) p.ballots

      first : (t : ℕ) → rows p n c g (suc t) ≡ row ++ rows p n c (suc g) t
      first t = unfold rows in refl

  pub rows_end : (g t : ℕ) → t ≤ g → rows p n c g (t - g) ≡ []
  unfolding rows
  rows_end g t h = let e : t - g ≡ 0 = omega arith in rw e

  module _ (m : ℕ) where
    pub levels_turn : (g q : ℕ) → g < p.grades - 2 → q ≡ sum_levels_from p m g
        → all_levels p n m c g (p.grades - 2 - g)
        ≡ count_levels q (row_at p n c g) (row_stride p g) p.ballots p.offset p.digits
        ++ all_levels p n m c (g + 1) (p.grades - 2 - (g + 1))
    levels_turn g q h e =
        ap (all_levels p n m c g) (left_one g (p.grades - 2) (omega arith)) ∙ first (p.grades - 2 - (g + 1))
        ∙ ap (λ (k : ℕ). count_levels k (row_at p n c g) (row_stride p g) p.ballots p.offset p.digits
        ++ all_levels p n m c (suc g) (p.grades - 2 - (g + 1))) (sym e)
        ∙ ap (λ (k : ℕ). count_levels q (row_at p n c g) (row_stride p g) p.ballots p.offset p.digits
        ++ all_levels p n m c k (p.grades - 2 - (g + 1))) (sym (add-one g))
      where
        first : (t : ℕ) → all_levels p n m c g (suc t)
            ≡ count_levels (sum_levels_from p m g) (row_at p n c g) (row_stride p g) p.ballots p.offset p.digits
            ++ all_levels p n m c (suc g) t
        first t = unfold all_levels sum_levels in refl

    pub levels_end : (g t : ℕ) → t ≤ g → all_levels p n m c g (t - g) ≡ []
    unfolding all_levels
    levels_end g t h = let e : t - g ≡ 0 = omega arith in rw e

    pub words_turn : (g q : ℕ) → g < p.grades - 2 → q ≡ sum_levels_from p m g
        → key_words p n m c g (p.grades - 2 - g)
        ≡ count_digits_as 2 3 q (row_at p n c g) p.ballots p.offset p.digits
        ++ key_words p n m c (g + 1) (p.grades - 2 - (g + 1))
    words_turn g q h e =
        ap (key_words p n m c g) (left_one g (p.grades - 2) (omega arith)) ∙ first (p.grades - 2 - (g + 1))
        ∙ ap (λ (k : ℕ). count_digits_as 2 3 k (row_at p n c g) p.ballots p.offset p.digits
        ++ key_words p n m c (suc g) (p.grades - 2 - (g + 1))) (sym e)
        ∙ ap (λ (k : ℕ). count_digits_as 2 3 q (row_at p n c g) p.ballots p.offset p.digits
        ++ key_words p n m c k (p.grades - 2 - (g + 1))) (sym (add-one g))
      where
        first : (t : ℕ) → key_words p n m c g (suc t)
            ≡ count_digits_as 2 3 (sum_levels_from p m g) (row_at p n c g) p.ballots p.offset p.digits
            ++ key_words p n m c (suc g) t
        first t = unfold key_words key_word in refl

    pub words_end : (g t : ℕ) → t ≤ g → key_words p n m c g (t - g) ≡ []
    unfolding key_words
    words_end g t h = let e : t - g ≡ 0 = omega arith in rw e

-- if all rows are written, so are those of the first grades
pub rows_there : (p : Plan) (n m t : ℕ) → t ≤ p.grades - 2 → n + (p.grades - 3) * p.ballots ≤ m → RowsBefore p n m t
rows_there p n m t few h g l = omega (arith, mul-le-mul_right {m = g} {n = p.grades - 3} p.ballots (omega arith))

module _ (p : Plan) (f : Planned p) where
  pub few_digits : p.digits < 255
  few_digits = omega (arith, less_power p.digits, f.low, f.n_most)

  pub apart_most : ballot_stride p ≤ 56
  apart_most = mul-le-mul {n₁ = p.candidates} {m₁ = p.grades} {n₂ = 8} {m₂ = 7} f.k_most f.d_most

  pub bits_most : (c g : ℕ) → c < p.candidates → g < p.grades → bits_at p c g < 56
  bits_most c g hc hg = omega (arith, row_below p f c g hc hg, apart_most)

  pub row_apart_most : (g : ℕ) → row_stride p g ≤ 56
  unfolding row_stride
  row_apart_most zero = apart_most
  row_apart_most (suc g) = omega arith

  pub size_most : sum_size p < 1000000
  size_most = omega (arith, few_digits, f.n_most, count_size_most p.ballots p.offset p.digits 255 f.n_most (omega arith))
