-- What the wires of the blocks say, for every width; the lengths of the blocks, and that they are well-formed.
-- Assumes nothing.
use mathlib.Core.Path.{◌≡◌, ◌∙◌, refl, sym, ap, subst}
use mathlib.Core.Logic.{⊎_elim}
use mathlib.Core.List.{List, [], ◌∷◌, ◌++◌}
use Prim.Native.Nat.{ℕ, zero, suc, min, max, ◌+◌, ◌-◌, ◌*◌, ◌^◌, ◌%◌, ◌≤◌, ◌<◌}
use native.Mathlib.Nat.{add-zero, mul-suc, mul-le-mul_left}
use native.Mathlib.Omega.{arith}
use lib.ListN.{length, length-append}
use Rattle.gates.specs.Gate.{Gate}
use Rattle.gates.proofs.Laws.{AllGood, Holds, holds_append, good_two, operand_counts_lem, mux_zero, mux_one}
use Rattle.gate_words.specs.Gates.{and_of, xor_of, mux_of}
use Rattle.gate_words.specs.Word.{number}
use Rattle.gate_words.specs.Choice.{choose, chain_end}
use Rattle.gate_words.specs.Comparison.{first_digit, compare_words, up_end, down_end, differences, above}
use Rattle.gate_words.specs.Halves.{compare_halves, unequal_at, unequal_span, above_at}
use Rattle.gate_words.proofs.Laws.{Binary, Tells, bit_cases, number_more, number_split, number_less, compare_halves_law, compare_halves_good, length_compare_halves, choose_one, choose_zero, first_up, first_down, words_up, words_down, above_law, above_one, above_zero, length_choose, length_first_digit, length_compare, length_differences, length_above, first_digit_good, compare_good, differences_good, above_good, choose_good}
use Rattle.gate_words.proofs.GateValues.{value_on, holds_first, holds_rest, and_is, xor_is}
use Rattle.gate_words.proofs.Ends.{chain_below}
use Rattle.ranked_circuit.specs.Blocks.{compare, strictly, order, order_end, order_cut, order_size, cut_end, smaller, larger, larger_if}
use Rattle.gate_words.proofs.ComparisonLaws.{not_one}
use Rattle.gate_words.proofs.ComparisonLaws.{not_zero}
use Rattle.gate_words.proofs.PointsBack.{behind, good_mux}
use Rattle.basics.proofs.Cases.{below_or_not}

-- the numbers of gates of the blocks
pub length_whole : (n x y w : ℕ) → length (compare n x y w) ≡ 3 + 3 * w
unfolding compare
length_whole n x y w =
    length-append (first_digit n x y) (compare_words (n + 3) (x + 1) (y + 1) (n + 1) (n + 2) w)
    ∙ omega (arith, length_first_digit n x y, length_compare (n + 3) (x + 1) (y + 1) (n + 1) (n + 2) w)

pub length_strictly : (n x y w : ℕ) → length (strictly n x y w) ≡ 2 + 2 * w
unfolding strictly
length_strictly n x y w =
    omega (
      arith,
      length-append (differences (x + 1) (y + 1) w) (above (n + 2 + w) (n + 2) (x + 1) (n + 1) w),
      length_differences (x + 1) (y + 1) w,
      length_above (n + 2 + w) (n + 2) (x + 1) (n + 1) w,
    )

pub length_order : (n x y w : ℕ) → length (order n x y w) ≡ 2 * w
unfolding order
length_order n x y w =
    length-append (differences (x + 1) (y + 1) w) (above (n + w) n (x + 1) x w)
    ∙ omega (arith, length_differences (x + 1) (y + 1) w, length_above (n + w) n (x + 1) x w)

-- the high half of a word that is cut: its block, and where this starts
module _ (n x y l h : ℕ) where
  abbrev high_at : ℕ
  high_at = n + 2 * l

  abbrev high_part : List Gate
  high_part = compare_halves high_at (x + suc l) (y + suc l) h 0

  abbrev decision : List Gate
  decision = mux_of (unequal_at high_at h) (above_at high_at (x + suc l) h) (order_end n x l) ∷ []

  high_long : length high_part ≡ 3 * h + 1
  high_long = length_compare_halves high_at (x + suc l) (y + suc l) h 0 ∙ omega arith

  halves_long : length (order n x y l ++ high_part) ≡ 2 * l + (3 * h + 1)
  halves_long = omega (arith, length-append (order n x y l) high_part, length_order n x y l, high_long)

  cut_long : length (order n x y l ++ high_part ++ decision) ≡ 2 * l + (3 * h + 2)
  cut_long = omega (arith, length-append (order n x y l ++ high_part) decision, halves_long)

pub length_cut : (n x y w h : ℕ) → h ≤ w → length (order_cut n x y w h) ≡ order_size w h
unfolding order_cut
length_cut n x y w zero q = omega (arith, length_order n x y w)
length_cut n x y w (suc h) q = omega (arith, cut_long n x y (w - suc h) h)

pub length_smaller : (n x y w h : ℕ) → h ≤ w → length (smaller n x y w h) ≡ order_size w h + suc w
unfolding smaller
length_smaller n x y w h q =
    length-append (order_cut n x y w h) (choose (cut_end n x w h) y x (suc w))
    ∙ omega (arith, length_cut n x y w h q, length_choose (cut_end n x w h) y x (suc w))

pub length_larger : (n x y w h : ℕ) → h ≤ w → length (larger n x y w h) ≡ order_size w h + suc w
unfolding larger
length_larger n x y w h q =
    length-append (order_cut n x y w h) (choose (cut_end n x w h) x y (suc w))
    ∙ omega (arith, length_cut n x y w h q, length_choose (cut_end n x w h) x y (suc w))

pub length_larger_if : (n f x y w h : ℕ) → h ≤ w → length (larger_if n f x y w h) ≡ order_size w h + 1 + suc w
unfolding larger_if
length_larger_if n f x y w h q =
    length-append (order_cut n x y w h) (and_of f (cut_end n x w h) ∷ choose (n + order_size w h) x y (suc w))
    ∙ omega (arith, length_cut n x y w h q, length_choose (n + order_size w h) x y (suc w))

pub whole_good : (n x y w : ℕ) → x + suc w ≤ n → y + suc w ≤ n → AllGood n (compare n x y w)
unfolding compare
whole_good n x y w hx hy =
    behind n 3 (first_digit n x y) (compare_words (n + 3) (x + 1) (y + 1) (n + 1) (n + 2) w)
    (length_first_digit n x y) (first_digit_good n x y (omega arith) (omega arith))
    (compare_good (n + 3) (x + 1) (y + 1) (n + 1) (n + 2) w (omega arith) (omega arith) (omega arith) (omega arith))

pub strictly_good : (n x y w : ℕ) → x + suc w ≤ n → y + suc w ≤ n → AllGood n (strictly n x y w)
unfolding strictly
strictly_good n x y w hx hy =
    let place : n + 2 ≡ suc (suc n) = omega arith in
    let rest : AllGood (n + 2) (differences (x + 1) (y + 1) w ++ above (n + 2 + w) (n + 2) (x + 1) (n + 1) w) =
    behind (n + 2) w (differences (x + 1) (y + 1) w) (above (n + 2 + w) (n + 2) (x + 1) (n + 1) w) (length_differences (x + 1) (y + 1) w)
    (differences_good (n + 2) (x + 1) (y + 1) w (omega arith) (omega arith))
    (above_good (n + 2 + w) (n + 2) (x + 1) (n + 1) w (omega arith) (omega arith) (omega arith)) in (
      good_two n 6 x y (omega arith) operand_counts_lem.6 (omega arith) (omega arith),
      (
        good_two (suc n) 4 x n (omega arith) operand_counts_lem.4 (omega arith) (omega arith),
        subst (λ (m : ℕ). AllGood m (differences (x + 1) (y + 1) w ++ above (n + 2 + w) (n + 2) (x + 1) (n + 1) w)) place rest,
      ),
    )

pub order_good : (n x y w : ℕ) → x + suc w ≤ n → y + suc w ≤ n → AllGood n (order n x y w)
unfolding order
order_good n x y w hx hy =
    behind n w (differences (x + 1) (y + 1) w) (above (n + w) n (x + 1) x w) (length_differences (x + 1) (y + 1) w)
    (differences_good n (x + 1) (y + 1) w (omega arith) (omega arith))
    (above_good (n + w) n (x + 1) x w (omega arith) (omega arith) (omega arith))

pub end_low : (n x w : ℕ) → x + suc w ≤ n → order_end n x w < n + 2 * w
unfolding order_end
end_low n x w h = chain_below (n + w) x w (n + 2 * w) (omega arith) (omega arith)

pub cut_low : (n x w h : ℕ) → x + suc w ≤ n → cut_end n x w h < n + order_size w h
unfolding cut_end
cut_low n x w h q = chain_below n x (order_size w h) (n + order_size w h) (omega arith) (omega arith)

pub cut_good : (n x y w h : ℕ) → h ≤ w → x + suc w ≤ n → y + suc w ≤ n → AllGood n (order_cut n x y w h)
unfolding order_cut
cut_good n x y w zero q hx hy = order_good n x y w hx hy
cut_good n x y w (suc h) q hx hy =
    let l = w - suc h in
    let at = n + 2 * l in
    behind n (2 * l + (3 * h + 1)) (order n x y l ++ high_part n x y l h) (decision n x y l h) (halves_long n x y l h)
    (behind n (2 * l) (order n x y l) (high_part n x y l h) (length_order n x y l) (order_good n x y l (omega arith) (omega arith))
    (compare_halves_good at (x + suc l) (y + suc l) h 0 (omega arith) (omega arith))) (
      good_mux (n + (2 * l + (3 * h + 1))) (unequal_at at h) (above_at at (x + suc l) h) (order_end n x l)
          (chain_below (at + suc h) at h (n + (2 * l + (3 * h + 1))) (omega arith) (omega arith))
          (chain_below (at + unequal_span h) (x + suc l) h (n + (2 * l + (3 * h + 1))) (omega arith) (omega arith))
          (let low = end_low n x l (omega arith) in omega arith),
      tt,
    )

pub smaller_good : (n x y w h : ℕ) → h ≤ w → x + suc w ≤ n → y + suc w ≤ n → AllGood n (smaller n x y w h)
unfolding smaller
smaller_good n x y w h q hx hy =
    behind n (order_size w h) (order_cut n x y w h) (choose (cut_end n x w h) y x (suc w)) (length_cut n x y w h q)
    (cut_good n x y w h q hx hy)
    (choose_good (n + order_size w h) (cut_end n x w h) y x (suc w) (cut_low n x w h hx) (omega arith) (omega arith))

pub larger_good : (n x y w h : ℕ) → h ≤ w → x + suc w ≤ n → y + suc w ≤ n → AllGood n (larger n x y w h)
unfolding larger
larger_good n x y w h q hx hy =
    behind n (order_size w h) (order_cut n x y w h) (choose (cut_end n x w h) x y (suc w)) (length_cut n x y w h q)
    (cut_good n x y w h q hx hy)
    (choose_good (n + order_size w h) (cut_end n x w h) x y (suc w) (cut_low n x w h hx) (omega arith) (omega arith))

pub larger_if_good : (n f x y w h : ℕ) → h ≤ w → f < n → x + suc w ≤ n → y + suc w ≤ n → AllGood n (larger_if n f x y w h)
unfolding larger_if
larger_if_good n f x y w h q hf hx hy =
    behind n (order_size w h) (order_cut n x y w h)
    (and_of f (cut_end n x w h) ∷ choose (n + order_size w h) x y (suc w)) (length_cut n x y w h q)
    (cut_good n x y w h q hx hy) (
      good_two (n + order_size w h) 4 f (cut_end n x w h) (omega arith) operand_counts_lem.4 (omega arith) (cut_low n x w h hx),
      choose_good (suc (n + order_size w h)) (n + order_size w h) x y (suc w) (omega arith) (omega arith) (omega arith),
    )

-- the last wire of a chain
chain_last : (n s m : ℕ) → 0 < m → chain_end n s m ≡ n + m - 1
unfolding chain_end
chain_last n s zero l = absurd (omega arith)
chain_last n s (suc m) l = omega arith

-- if the high digits differ, they decide, whatever the low ones are
unequal_parts : (p lx ly hx hy : ℕ) → lx < p → hx < hy → lx + p * hx ≤ ly + p * hy
unequal_parts p lx ly hx hy q l = omega (arith, mul-le-mul_left {m = suc hx} {n = hy} p (omega arith), mul-suc p hx)

module _ (W : ℕ → ℕ) (b : Binary W) where
  module _ (n x y w : ℕ) (h : Holds W n (compare n x y w)) where
    parts : Holds W n (first_digit n x y) × Holds W (n + 3) (compare_words (n + 3) (x + 1) (y + 1) (n + 1) (n + 2) w)
    unfolding compare
    parts =
        let rest = compare_words (n + 3) (x + 1) (y + 1) (n + 1) (n + 2) w in
        let p = holds_append W n (first_digit n x y) rest h in
        (p.0, subst (λ (l : ℕ). Holds W (n + l) rest) (length_first_digit n x y) p.1)

    -- the wire up says whether the word at x is above the word at y, and the wire down whether it is below
    pub compare_up : (number W y 1 (suc w) < number W x 1 (suc w) → W (up_end (n + 3) (n + 1) w) ≡ 1)
        × (number W x 1 (suc w) ≤ number W y 1 (suc w) → W (up_end (n + 3) (n + 1) w) ≡ 0)
    compare_up =
        let d = first_up W b n x y parts.0 in
        let r = words_up W b (n + 3) (x + 1) (y + 1) (n + 1) (n + 2) w parts.1 in
        let mx = number_more W x 1 w in
        let my = number_more W y 1 w in (
          (λ (l : number W y 1 (suc w) < number W x 1 (suc w)).
              r.0 (⊎_elim (λ (z : W (n + 1) ≡ 0). let k : W x ≤ W y = not_one z d.0 in omega arith)
              (λ (z : W (n + 1) ≡ 1). omega (arith, b x)) (bit_cases (W (n + 1)) (b (n + 1))))),
          (λ (l : number W x 1 (suc w) ≤ number W y 1 (suc w)).
              r.1 (⊎_elim (λ (z : W (n + 1) ≡ 0). omega (arith, b y))
              (λ (z : W (n + 1) ≡ 1). let k : W y < W x = not_zero z d.1 in omega arith)
              (bit_cases (W (n + 1)) (b (n + 1))))),
        )

    pub compare_down : (number W x 1 (suc w) < number W y 1 (suc w) → W (down_end (n + 3) (n + 2) w) ≡ 1)
        × (number W y 1 (suc w) ≤ number W x 1 (suc w) → W (down_end (n + 3) (n + 2) w) ≡ 0)
    compare_down =
        let d = first_down W b n x y parts.0 in
        let r = words_down W b (n + 3) (x + 1) (y + 1) (n + 1) (n + 2) w parts.1 in
        let mx = number_more W x 1 w in
        let my = number_more W y 1 w in (
          (λ (l : number W x 1 (suc w) < number W y 1 (suc w)).
              r.0 (⊎_elim (λ (z : W (n + 2) ≡ 0). let k : W y ≤ W x = not_one z d.0 in omega arith)
              (λ (z : W (n + 2) ≡ 1). omega (arith, b y)) (bit_cases (W (n + 2)) (b (n + 2))))),
          (λ (l : number W y 1 (suc w) ≤ number W x 1 (suc w)).
              r.1 (⊎_elim (λ (z : W (n + 2) ≡ 0). omega (arith, b x))
              (λ (z : W (n + 2) ≡ 1). let k : W x < W y = not_zero z d.1 in omega arith)
              (bit_cases (W (n + 2)) (b (n + 2))))),
        )

  module _ (n x y w : ℕ) (h : Holds W n (strictly n x y w)) where
    abbrev high_digits : List Gate
    high_digits = differences (x + 1) (y + 1) w ++ above (n + 2 + w) (n + 2) (x + 1) (n + 1) w

    opened : Holds W n (xor_of x y ∷ and_of x n ∷ high_digits)
    opened = unfold strictly in h

    differ_is : W n ≡ (W x + W y) % 2
    differ_is = holds_first W n (xor_of x y) (and_of x n ∷ high_digits) opened ∙ xor_is W b x y

    lowest_is : W (n + 1) ≡ min (W x) (W n)
    lowest_is = holds_first W (n + 1) (and_of x n) high_digits (holds_rest W n (xor_of x y) (and_of x n ∷ high_digits) opened) ∙ and_is W b x n

    highs : Holds W (n + 2) (differences (x + 1) (y + 1) w) × Holds W (n + 2 + w) (above (n + 2 + w) (n + 2) (x + 1) (n + 1) w)
    highs =
        let place : n + 1 + 1 ≡ n + 2 = omega arith in
        let rest = above (n + 2 + w) (n + 2) (x + 1) (n + 1) w in
        let all = subst (λ (m : ℕ). Holds W m high_digits) place
        (holds_rest W (n + 1) (and_of x n) high_digits
        (holds_rest W n (xor_of x y) (and_of x n ∷ high_digits) opened)) in
        let p = holds_append W (n + 2) (differences (x + 1) (y + 1) w) rest all in
        (p.0, subst (λ (l : ℕ). Holds W (n + 2 + l) rest) (length_differences (x + 1) (y + 1) w) p.1)

    last_is : chain_end (n + 2 + w) (n + 1) w ≡ n + 2 * w + 1
    last_is = ends w
      where
        ends : (w : ℕ) → chain_end (n + 2 + w) (n + 1) w ≡ n + 2 * w + 1
        ends zero = unfold chain_end in (omega arith)
        ends (suc w) = unfold chain_end in (omega arith)

    -- the last wire says whether the word at x is above the word at y
    pub strictly_law : (number W y 1 (suc w) < number W x 1 (suc w) → W (n + 2 * w + 1) ≡ 1)
        × (number W x 1 (suc w) ≤ number W y 1 (suc w) → W (n + 2 * w + 1) ≡ 0)
    strictly_law =
        let r = above_law W b (n + 2 + w) (n + 2) (x + 1) (y + 1) (n + 1) w highs.0 highs.1 in
        let e = ap W last_is in
        let mx = number_more W x 1 w in
        let my = number_more W y 1 w in
        let d = differ_is in
        let s = lowest_is in
        ((λ l. sym e ∙ r.0 (omega (arith, b x, b y))), (λ l. sym e ∙ r.1 (omega (arith, b x, b y))))

  -- what the answer of an order says: 1 that x is at least y, 0 that it is at most y
  order_law : (n x y w : ℕ) → Holds W n (order n x y w)
      → (W (order_end n x w) ≡ 1 → number W y 1 (suc w) ≤ number W x 1 (suc w))
      × (W (order_end n x w) ≡ 0 → number W x 1 (suc w) ≤ number W y 1 (suc w))
  unfolding order order_end
  order_law n x y w h =
      let p = holds_append W n (differences (x + 1) (y + 1) w) (above (n + w) n (x + 1) x w) h in
      let q = subst (λ (l : ℕ). Holds W (n + l) (above (n + w) n (x + 1) x w)) (length_differences (x + 1) (y + 1) w) p.1 in
      (above_one W b (n + w) n x y w p.0 q, above_zero W b (n + w) n x y w p.0 q)

  -- the same for words that are cut
  module _ (n x y l h : ℕ) (g : Holds W n (order n x y l ++ high_part n x y l h ++ decision n x y l h)) where
    decided : Holds W n (order n x y l ++ high_part n x y l h) × Holds W (n + (2 * l + (3 * h + 1))) (decision n x y l h)
    decided =
        let p = holds_append W n (order n x y l ++ high_part n x y l h) (decision n x y l h) g in
        (p.0, subst (λ (m : ℕ). Holds W (n + m) (decision n x y l h)) (halves_long n x y l h) p.1)

    halves : Holds W n (order n x y l) × Holds W (n + 2 * l) (high_part n x y l h)
    halves =
        let p = holds_append W n (order n x y l) (high_part n x y l h) decided.0 in
        (p.0, subst (λ (m : ℕ). Holds W (n + m) (high_part n x y l h)) (length_order n x y l) p.1)

    abbrev low_of : ℕ → ℕ
    low_of z = number W z 1 (suc l)

    abbrev high_of : ℕ → ℕ
    high_of z = number W (z + suc l) 1 (suc h)

    high_tells : Tells (W (unequal_at (n + 2 * l) h)) (W (above_at (n + 2 * l) (x + suc l) h)) (high_of x) (high_of y)
    high_tells =
        subst (λ (m : ℕ). Tells (W (unequal_at (n + 2 * l) m)) (W (above_at (n + 2 * l) (x + suc l) m))
        (number W (x + suc l) 1 (suc m)) (number W (y + suc l) 1 (suc m))) (add-zero h)
        (compare_halves_law W b (n + 2 * l) (x + suc l) (y + suc l) h 0 halves.1)

    answer : W (n + (2 * l + (3 * h + 1)))
        ≡ value_on W (mux_of (unequal_at (n + 2 * l) h) (above_at (n + 2 * l) (x + suc l) h) (order_end n x l))
    answer = holds_first W (n + (2 * l + (3 * h + 1)))
        (mux_of (unequal_at (n + 2 * l) h) (above_at (n + 2 * l) (x + suc l) h) (order_end n x l)) [] decided.1

    whole : (z : ℕ) → number W z 1 (suc l + suc h) ≡ low_of z + 2 ^ suc l * high_of z
    whole z = number_split W z (suc l) (suc h)

    halves_law : (W (n + (2 * l + (3 * h + 1))) ≡ 1 → number W y 1 (suc l + suc h) ≤ number W x 1 (suc l + suc h))
        × (W (n + (2 * l + (3 * h + 1))) ≡ 0 → number W x 1 (suc l + suc h) ≤ number W y 1 (suc l + suc h))
    halves_law =
        ⊎_elim less (λ (q : high_of y ≤ high_of x). ⊎_elim more (λ (r : high_of x ≤ high_of y). same (omega arith))
        (below_or_not (high_of y) (high_of x))) (below_or_not (high_of x) (high_of y))
      where
        f : ℕ
        f = W (unequal_at (n + 2 * l) h)

        less : high_of x < high_of y → (W (n + (2 * l + (3 * h + 1))) ≡ 1 → number W y 1 (suc l + suc h)
            ≤ number W x 1 (suc l + suc h))
            × (W (n + (2 * l + (3 * h + 1))) ≡ 0 → number W x 1 (suc l + suc h) ≤ number W y 1 (suc l + suc h))
        less q =
            let one = high_tells.differ (λ z. omega arith) in
            let zero : W (n + (2 * l + (3 * h + 1))) ≡ 0 = answer
            ∙ mux_one (W (unequal_at (n + 2 * l) h)) (W (above_at (n + 2 * l) (x + suc l) h)) (W (order_end n x l))
            one ∙ high_tells.under q in (
              (λ e. absurd (omega arith)),
              (λ e.
                  omega (
                    arith,
                    whole x,
                    whole y,
                    unequal_parts (2 ^ suc l) (low_of x) (low_of y) (high_of x) (high_of y) (number_less W b x 1 (suc l)) q,
                  )),
            )

        more : high_of y < high_of x → (W (n + (2 * l + (3 * h + 1))) ≡ 1 → number W y 1 (suc l + suc h)
            ≤ number W x 1 (suc l + suc h))
            × (W (n + (2 * l + (3 * h + 1))) ≡ 0 → number W x 1 (suc l + suc h) ≤ number W y 1 (suc l + suc h))
        more q =
            let one = high_tells.differ (λ z. omega arith) in
            let two : W (n + (2 * l + (3 * h + 1))) ≡ 1 = answer
            ∙ mux_one (W (unequal_at (n + 2 * l) h)) (W (above_at (n + 2 * l) (x + suc l) h)) (W (order_end n x l))
            one ∙ high_tells.over q in (
              (λ e. omega (
                arith,
                whole x,
                whole y,
                unequal_parts (2 ^ suc l) (low_of y) (low_of x) (high_of y) (high_of x) (number_less W b y 1 (suc l)) q,
              )),
              (λ e. absurd (omega arith)),
            )

        same : high_of x ≡ high_of y → (W (n + (2 * l + (3 * h + 1))) ≡ 1 → number W y 1 (suc l + suc h)
            ≤ number W x 1 (suc l + suc h))
            × (W (n + (2 * l + (3 * h + 1))) ≡ 0 → number W x 1 (suc l + suc h) ≤ number W y 1 (suc l + suc h))
        same q =
            let low : W (n + (2 * l + (3 * h + 1))) ≡ W (order_end n x l) = answer
            ∙ mux_zero (W (unequal_at (n + 2 * l) h)) (W (above_at (n + 2 * l) (x + suc l) h))
            (W (order_end n x l)) (high_tells.same q) in
            let o = order_law n x y l halves.0 in
            let even = ap (λ (m : ℕ). 2 ^ suc l * m) q in (
              (λ e. let k = o.0 (sym low ∙ e) in omega (arith, whole x, whole y)),
              (λ e. let k = o.1 (sym low ∙ e) in omega (arith, whole x, whole y)),
            )

  cut_law : (n x y w h : ℕ) → h ≤ w → Holds W n (order_cut n x y w h)
      → (W (cut_end n x w h) ≡ 1 → number W y 1 (suc w) ≤ number W x 1 (suc w))
      × (W (cut_end n x w h) ≡ 0 → number W x 1 (suc w) ≤ number W y 1 (suc w))
  cut_law n x y w zero q g =
      subst (λ (m : ℕ). (W m ≡ 1 → number W y 1 (suc w) ≤ number W x 1 (suc w))
      × (W m ≡ 0 → number W x 1 (suc w) ≤ number W y 1 (suc w))) (chain_whole w)
      (order_law n x y w (unfold order_cut in g))
    where
      chain_whole : (w : ℕ) → order_end n x w ≡ cut_end n x w 0
      chain_whole zero = unfold order_end cut_end chain_end in refl
      chain_whole (suc w) = unfold order_end cut_end in
          (chain_last (n + suc w) x (suc w) (omega arith)
          ∙ sym (chain_last n x (order_size (suc w) 0) (omega arith) ∙ omega arith))
  cut_law n x y w (suc h) q g =
      let l = w - suc h in
      let r = halves_law n x y l h (unfold order_cut in g) in
      let digits : suc l + suc h ≡ suc w = omega arith in
      subst (λ (d : ℕ). (W (cut_end n x w (suc h)) ≡ 1 → number W y 1 d ≤ number W x 1 d)
      × (W (cut_end n x w (suc h)) ≡ 0 → number W x 1 d ≤ number W y 1 d)) digits
      (subst (λ (m : ℕ). (W m ≡ 1 → number W y 1 (suc l + suc h) ≤ number W x 1 (suc l + suc h))
      × (W m ≡ 0 → number W x 1 (suc l + suc h) ≤ number W y 1 (suc l + suc h))) last r)
    where
      last : n + (2 * (w - suc h) + (3 * h + 1)) ≡ cut_end n x w (suc h)
      last = unfold cut_end in sym (chain_last n x (order_size w (suc h)) (omega arith) ∙ omega arith)

  -- the order at the front of a list, and the rest
  ordered : (n x y w h : ℕ) (gs : List Gate) → h ≤ w → Holds W n (order_cut n x y w h ++ gs)
      → Holds W n (order_cut n x y w h) × Holds W (n + order_size w h) gs
  ordered n x y w h gs q g =
      let p = holds_append W n (order_cut n x y w h) gs g in
      (p.0, subst (λ (m : ℕ). Holds W (n + m) gs) (length_cut n x y w h q) p.1)

  pub smaller_law : (n x y w h : ℕ) → h ≤ w → Holds W n (smaller n x y w h) → number W (n + order_size w h) 1 (suc w)
      ≡ min (number W x 1 (suc w)) (number W y 1 (suc w))
  unfolding smaller
  smaller_law n x y w h q g =
      let p = ordered n x y w h (choose (cut_end n x w h) y x (suc w)) q g in
      let o = cut_law n x y w h q p.0 in
      ⊎_elim (λ (z : W (cut_end n x w h) ≡ 0).
      omega (arith, o.1 z, choose_zero W b (n + order_size w h) (cut_end n x w h) y x (suc w) z p.1))
      (λ (z : W (cut_end n x w h) ≡ 1). omega (arith, o.0 z, choose_one W b (n + order_size w h) (cut_end n x w h) y x (suc w) z p.1))
      (bit_cases (W (cut_end n x w h)) (b (cut_end n x w h)))

  pub larger_law : (n x y w h : ℕ) → h ≤ w → Holds W n (larger n x y w h) → number W (n + order_size w h) 1 (suc w)
      ≡ max (number W x 1 (suc w)) (number W y 1 (suc w))
  unfolding larger
  larger_law n x y w h q g =
      let p = ordered n x y w h (choose (cut_end n x w h) x y (suc w)) q g in
      let o = cut_law n x y w h q p.0 in
      ⊎_elim (λ (z : W (cut_end n x w h) ≡ 0).
      omega (arith, o.1 z, choose_zero W b (n + order_size w h) (cut_end n x w h) x y (suc w) z p.1))
      (λ (z : W (cut_end n x w h) ≡ 1). omega (arith, o.0 z, choose_one W b (n + order_size w h) (cut_end n x w h) x y (suc w) z p.1))
      (bit_cases (W (cut_end n x w h)) (b (cut_end n x w h)))

  module _ (n f x y w h : ℕ) (q : h ≤ w) (g : Holds W n (larger_if n f x y w h)) where
    abbrev flagged : List Gate
    flagged = and_of f (cut_end n x w h) ∷ choose (n + order_size w h) x y (suc w)

    pieces : Holds W n (order_cut n x y w h) × Holds W (n + order_size w h) flagged
    unfolding larger_if
    pieces = ordered n x y w h flagged q g

    flag_is : W (n + order_size w h) ≡ min (W f) (W (cut_end n x w h))
    flag_is = holds_first W (n + order_size w h) (and_of f (cut_end n x w h)) (choose (n + order_size w h) x y (suc w))
        pieces.1 ∙ and_is W b f (cut_end n x w h)

    chosen : Holds W (n + order_size w h + 1) (choose (n + order_size w h) x y (suc w))
    chosen = holds_rest W (n + order_size w h) (and_of f (cut_end n x w h)) (choose (n + order_size w h) x y (suc w)) pieces.1

    pub larger_if_not : W f ≡ 0 → number W (n + order_size w h + 1) 1 (suc w) ≡ number W y 1 (suc w)
    larger_if_not e = choose_zero W b (n + order_size w h + 1) (n + order_size w h) x y (suc w) (omega (arith, flag_is)) chosen

    pub larger_if_lem : W f ≡ 1 → number W (n + order_size w h + 1) 1 (suc w) ≡ max (number W x 1 (suc w)) (number W y 1 (suc w))
    larger_if_lem e =
        let o = cut_law n x y w h q pieces.0 in
        let flag = flag_is in
        ⊎_elim (λ (z : W (cut_end n x w h) ≡ 0).
        omega (
          arith,
          o.1 z,
          choose_zero W b (n + order_size w h + 1) (n + order_size w h) x y (suc w)
              (omega arith) chosen,
        ))
        (λ (z : W (cut_end n x w h) ≡ 1).
        omega (
          arith,
          o.0 z,
          choose_one W b (n + order_size w h + 1) (n + order_size w h) x y (suc w)
              (omega arith) chosen,
        ))
        (bit_cases (W (cut_end n x w h)) (b (cut_end n x w h)))
