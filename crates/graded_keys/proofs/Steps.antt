-- Loops that write the blocks of a contest: one piece, and the pieces left.
-- Assumes nothing.
use mathlib.Core.Path.{◌≡◌, ◌∙◌, refl, sym, ap, subst}
use mathlib.Core.List.{[], ◌∷◌, ◌++◌}
use Prim.Native.Nat.{ℕ, zero, suc, ◌+◌, ◌-◌, ◌*◌, ◌/◌, ◌%◌, ◌≤◌, ◌<◌}
use native.Mathlib.Nat.{mul-le-mul, mul-le-mul_right}
use native.Mathlib.Omega.{arith}
use Rattle.gate_words.specs.Gates.{copy_of, or_of, mux_of}
use Rattle.gate_words.specs.Halves.{unequal_at, compare_cut, compare_span, above_at}
use Rattle.graded_circuit.specs.Median.{Fits, differ_at, difference_span, next_digit, later_digits, later_span, ones_span, differ_end, larger_end}
use Rattle.graded_circuit.proofs.MedianLaws.{fits_half, fits_some, ones_span_lem}
use Rattle.graded_circuit.specs.declared.plan.Plan.{Plan}
use Rattle.graded_circuit.specs.TieBreak.{resolve_at, tie_break}
use Rattle.graded_circuit.specs.Contest.{tie_break_below, tie_break_below_span}
use Rattle.graded_circuit.specs.Nearest.{stride, side_flags, side_span, sides, either, either_span, last_words, first_words, left_end, right_end}
use Rattle.basics.proofs.Arithmetic.{count_down, one_less}

pub sides_step : (n x y r k t : ℕ) → 0 < t → sides n x y r k t ≡ side_flags n x y r k
    ++ sides (n + side_span r) (x + stride r) (y + stride r) r k (t - 1)
sides_step n x y r k t h = ap (sides n x y r k) (count_down t h) ∙ (unfold sides in refl)

pub sides_none : (n x y r k t : ℕ) → t ≤ 0 → sides n x y r k t ≡ []
unfolding sides
sides_none n x y r k t h = let e : t ≡ 0 = omega arith in rw e

pub last_step : (n f x y u v r t : ℕ) → 0 < t → last_words n f x y u v r t ≡ either f x y u v r
    ++ last_words (n + either_span r) (f + side_span r) (x + stride r) (y + stride r) n (n + suc r) r (t - 1)
last_step n f x y u v r t h = ap (last_words n f x y u v r) (count_down t h) ∙ (unfold last_words in refl)

pub last_none : (n f x y u v r t : ℕ) → t ≤ 0 → last_words n f x y u v r t ≡ []
unfolding last_words
last_none n f x y u v r t h = let e : t ≡ 0 = omega arith in rw e

pub first_step : (n f x y u v r t : ℕ) → 0 < t
    → first_words n f x y u v r t ≡ either (f + (t - 1) * side_span r) (x + (t - 1) * stride r) (y + (t - 1) * stride r)
    u v r ++ first_words (n + either_span r) f x y n (n + suc r) r (t - 1)
first_step n f x y u v r t h = ap (first_words n f x y u v r) (count_down t h) ∙ (unfold first_words in refl)

pub first_none : (n f x y u v r t : ℕ) → t ≤ 0 → first_words n f x y u v r t ≡ []
unfolding first_words
first_none n f x y u v r t h = let e : t ≡ 0 = omega arith in rw e

-- one more digit of the comparison of two medians, and the digits above it
pub later_step : (n x y d m e s w : ℕ) → 0 < w
    → later_digits n x y d m e s w ≡ next_digit n x y d m e s
    ++ later_digits (differ_at n m + 3) (x + d) (y + d) (d + d) (m / 2) (differ_at n m + 1) (differ_at n m + 2) (w - 1)
later_step n x y d m e s w h = ap (later_digits n x y d m e s) (count_down w h) ∙ (unfold later_digits in refl)

pub later_none : (n x y d m e s w : ℕ) → w ≤ 0 → later_digits n x y d m e s w ≡ []
unfolding later_digits
later_none n x y d m e s w h = let k : w ≡ 0 = omega arith in rw k

pub later_span_step : (m w : ℕ) → 0 < w → later_span m w ≡ difference_span m + 2 + later_span (m / 2) (w - 1)
later_span_step m w h = ap (later_span m) (count_down w h) ∙ (unfold later_span in refl)

pub differ_single : (end e w : ℕ) → w ≡ 0 → differ_end end e w ≡ e
unfolding differ_end
differ_single end e w h = rw h

pub differ_several : (end e w : ℕ) → (w ≡ 0 → ⊥) → differ_end end e w ≡ end - 2
unfolding differ_end
differ_several end e zero h = absurd (h refl)
differ_several end e (suc w) h = refl

pub larger_single : (end s w : ℕ) → w ≡ 0 → larger_end end s w ≡ s
unfolding larger_end
larger_single end s w h = rw h

pub larger_several : (end s w : ℕ) → (w ≡ 0 → ⊥) → larger_end end s w ≡ end - 1
unfolding larger_end
larger_several end s zero h = absurd (h refl)
larger_several end s (suc w) h = refl

-- a comparison of more than one digit has at least four gates
pub some_later : (m w : ℕ) → (w ≡ 0 → ⊥) → 4 ≤ ones_span m w
some_later m zero h = absurd (h refl)
some_later m (suc w) h = omega (arith, ones_span_lem m (suc w), later_span_step (m / 2) (suc w) (omega arith))

-- if m wires span at most 2,000, their stride is at most 2,000
pub stride_most : (m d : ℕ) → 0 < m → m * d ≤ 2000 → d ≤ 2000
stride_most m d some h = omega (arith, one_less m d some)

-- if a digit is left, there are wires, and half of them need one digit less
pub fits_step : (m w : ℕ) → 0 < w → Fits m w → (0 < m) × Fits (m / 2) (w - 1)
fits_step m w h f = let g = subst (Fits m) (count_down w h) f in (fits_some m (w - 1) g, fits_half m (w - 1) g)

-- fewer entries of the same size take no more room
pub fewer : (t c k : ℕ) → t ≤ c → t * k ≤ c * k
fewer t c k h = mul-le-mul_right {m = t} {n = c} k h

-- a product of bounded numbers is bounded
pub product_most : (i k a b : ℕ) → i ≤ a → k ≤ b → i * k ≤ a * b
product_most i k a b h g = mul-le-mul {n₁ = i} {m₁ = k} {n₂ = a} {m₂ = b} h g

-- the choices before the last one have at most 80 gates
pub choices_before : (t r : ℕ) → r ≤ 7 → t ≤ 6 → ((t - 1) * (2 * r + 2) ≤ 80) × ((t - 1) * (2 * r + 2) ≡ (t - 1) * either_span r)
choices_before t r narrow few =
    let k : 2 * r + 2 ≡ either_span r = omega arith in
    let p : (t - 1) * (2 * r + 2) ≤ 5 * 16 = product_most (t - 1) (2 * r + 2) 5 16 (omega arith) (omega arith) in
    (omega arith, ap (λ (j : ℕ). (t - 1) * j) k)

pub left_some : (n u r t : ℕ) → 0 < t → left_end n u r t ≡ n + (t - 1) * either_span r
left_some n u r t h = ap (left_end n u r) (count_down t h) ∙ (unfold left_end in refl)

pub left_none : (n u r t : ℕ) → t ≡ 0 → u ≡ left_end n u r t
unfolding left_end
left_none n u r t e = rw e

pub right_some : (n v r t : ℕ) → 0 < t → right_end n v r t ≡ n + (t - 1) * either_span r + suc r
right_some n v r t h = ap (right_end n v r) (count_down t h) ∙ (unfold right_end in refl)

pub right_none : (n v r t : ℕ) → t ≡ 0 → v ≡ right_end n v r t
unfolding right_end
right_none n v r t e = rw e

-- the comparison of the sums, case by case
module _ (p : Plan) (n x y e s digits h t : ℕ) where
  pub tie_break_below_zero : digits ≡ 0 → copy_of e ∷ copy_of s ∷ [] ≡ tie_break_below p n x y e s digits h t
  unfolding tie_break_below
  tie_break_below_zero q = rw q

  pub tie_break_below_one : 0 < digits → t ≡ 0 → compare_cut n x y (digits - 1) h
      ++ (or_of e (unequal_at n (digits - 1)) ∷ mux_of e s (above_at n x (digits - 1)) ∷ [])
      ≡ tie_break_below p n x y e s digits h t
  tie_break_below_one k q = sym (ap (λ (d : ℕ). tie_break_below p n x y e s d h t) (count_down digits k)
      ∙ ap (tie_break_below p n x y e s (suc (digits - 1)) h) q ∙ (unfold tie_break_below in refl))

  pub tie_break_below_more : 0 < digits → 0 < t → tie_break (p.ballots % 2) n x y e s (digits - 1) h (t - 1)
      ≡ tie_break_below p n x y e s digits h t
  tie_break_below_more k q = sym (ap (λ (d : ℕ). tie_break_below p n x y e s d h t) (count_down digits k)
      ∙ ap (tie_break_below p n x y e s (suc (digits - 1)) h) (count_down t q) ∙ (unfold tie_break_below in refl))

module _ (digits t : ℕ) where
  pub tie_break_below_span_one : 0 < digits → t ≡ 0 → tie_break_below_span digits t ≡ compare_span (digits - 1)
  tie_break_below_span_one h e = ap (λ (d : ℕ). tie_break_below_span d t) (count_down digits h)
      ∙ ap (tie_break_below_span (suc (digits - 1))) e ∙ (unfold tie_break_below_span in refl)

  pub tie_break_below_span_more : 0 < digits → 0 < t → tie_break_below_span digits t ≡ resolve_at 0 (digits - 1) (t - 1) + 14
  tie_break_below_span_more h k = ap (λ (d : ℕ). tie_break_below_span d t) (count_down digits h)
      ∙ ap (tie_break_below_span (suc (digits - 1))) (count_down t k) ∙ (unfold tie_break_below_span in refl)
