-- Which of two median grades is worse: compares the numbers of ones in two rows of wires whose ones come first.
-- Assumes nothing.
use mathlib.Core.Path.{◌≡◌, ◌∙◌, refl, ap, subst, subst₂}
use mathlib.Core.Logic.{⊎_elim}
use mathlib.Core.List.{[], ◌∷◌, ◌++◌}
use Prim.Native.Nat.{ℕ, zero, suc, ◌+◌, ◌-◌, ◌*◌, ◌/◌, ◌%◌, ◌^◌, ◌≤◌, ◌<◌, max}
use native.Mathlib.Nat.{pow-succ', suc-mul, zero-mul, add-mul, mul-add}
use native.Mathlib.Omega.{arith}
use lib.ListN.{length, length-append}
use Rattle.gates.proofs.Laws.{Holds, mux_zero, mux_one}
use Rattle.gate_words.specs.Gates.{or_of, xor_of, mux_of}
use Rattle.gate_words.specs.Word.{ones_at}
use Rattle.gate_words.specs.Choice.{parity, chain_end}
use Rattle.gate_words.proofs.Numbers.{Binary, ones_none, ones_more}
use Rattle.gate_words.proofs.GateValues.{value_on, holds_first, holds_rest, xor_is, or_is}
use Rattle.gate_words.proofs.ChoiceSteps.{length_chain}
use Rattle.gate_words.proofs.CounterLaws.{parity_law}
use Rattle.gate_words.proofs.Ends.{chain_below}
use Rattle.gate_words.proofs.PointsBack.{good_xor, good_or, good_mux}
use Rattle.graded_circuit.specs.Median.{Fits, left_digit, right_digit, differ_at, digit_difference, difference_span, next_digit, later_digits, later_span, compare_ones, ones_span, differ_end, larger_end, ones_differ, ones_larger}
use Rattle.graded_circuit.proofs.Blocks.{Block, none_block, both_block, gate_block, parity_block}
use Rattle.graded_circuit.proofs.Cutting.{cut2, cut3}
use Rattle.basics.proofs.Arithmetic.{next_place}
use Rattle.basics.proofs.Cases.{below_or_not}
use Rattle.gate_words.proofs.CounterSteps.{below_stride}

-- every second wire needs one digit less
pub fits_half : (m w : ℕ) → Fits m (suc w) → Fits (m / 2) w
fits_half m w f = let e = pow-succ' 2 w in record { enough = omega (arith, f.enough); needed = omega (arith, f.needed) }

pub fits_some : (m w : ℕ) → Fits m (suc w) → 0 < m
fits_some m w f = omega (arith, f.needed, pow-succ' 2 w, positive w)
  where
    positive : (w : ℕ) → 0 < 2 ^ w
    positive zero = omega arith
    positive (suc w) = omega (arith, positive w, pow-succ' 2 w)

-- the last of every second wire is no later than the last wire
pub half_apart : (m d : ℕ) → m / 2 * (d + d) ≤ m * d
half_apart m d =
    let k = m / 2 in
    let whole : m ≡ k + k + m % 2 = omega arith in
    omega (arith, ap (λ (x : ℕ). x * d) whole, add-mul (k + k) (m % 2) d, add-mul k k d, mul-add k d d)

-- the first of m wires is below n, and so are the others
pub first_of : (at d m n : ℕ) → 0 < m → at + m * d < n + d → (at < n) × (at + d + (m - 1) * d < n + d)
first_of at d m n some h =
    let one : m ≡ suc (m - 1) = omega arith in
    let e = ap (λ (x : ℕ). x * d) one ∙ suc-mul (m - 1) d in
    (omega arith, omega arith)

pub length_difference : (n x y d m : ℕ) → length (digit_difference n x y d m) ≡ difference_span m
unfolding digit_difference
length_difference n x y d m =
    let a = parity n x (x + d) d (m - 1) in
    let b = parity (n + (m - 1)) y (y + d) d (m - 1) in
    omega (
      arith,
      length-append (a ++ b) (xor_of (left_digit n x m) (right_digit n y m) ∷ []),
      length-append a b,
      length_chain 6 n x (x + d) d (m - 1),
      length_chain 6 (n + (m - 1)) y (y + d) d (m - 1),
    )

pub length_next : (n x y d m e s : ℕ) → length (next_digit n x y d m e s) ≡ difference_span m + 2
unfolding next_digit
length_next n x y d m e s = omega (
  arith,
  length-append (digit_difference n x y d m)
      (or_of e (differ_at n m) ∷ mux_of (differ_at n m) (left_digit n x m) s ∷ []),
  length_difference n x y d m,
)

pub length_later : (n x y d m e s w : ℕ) → length (later_digits n x y d m e s w) ≡ later_span m w
unfolding later_digits later_span
length_later n x y d m e s zero = refl
length_later n x y d m e s (suc w) =
    let q = differ_at n m in
    let rest = later_digits (q + 3) (x + d) (y + d) (d + d) (m / 2) (q + 1) (q + 2) w in
    omega (
      arith,
      length-append (next_digit n x y d m e s) rest,
      length_next n x y d m e s,
      length_later (q + 3) (x + d) (y + d) (d + d) (m / 2) (q + 1) (q + 2) w,
    )

-- the wires of both digits are below the wire of their difference
pub left_below : (n x d m : ℕ) → 0 < m → x + m * d < n + d → left_digit n x m < differ_at n m
left_below n x d m some h = chain_below n x (m - 1) (differ_at n m) (omega (arith, (first_of x d m n some h).0)) (omega arith)

right_below : (n y d m : ℕ) → 0 < m → y + m * d < n + d → right_digit n y m < differ_at n m
right_below n y d m some h = chain_below (n + (m - 1)) y (m - 1) (differ_at n m) (omega (arith, (first_of y d m n some h).0)) (omega arith)

pub difference_block : (n x y d m : ℕ) → 0 < m → x + m * d < n + d → y + m * d < n + d
    → Block n (digit_difference n x y d m) (difference_span m)
unfolding digit_difference
difference_block n x y d m some hx hy =
    let q = first_of x d m n some hx in
    let k = first_of y d m (n + (m - 1)) some (omega arith) in
    let z = differ_at n m in
    both_block (both_block (parity_block n x (x + d) d (m - 1) q.0 (below_stride n (x + d) d (m - 1) q.1)) refl
    (parity_block (n + (m - 1)) y (y + d) d (m - 1) k.0 (below_stride (n + (m - 1)) (y + d) d (m - 1) k.1))) (omega arith)
    (gate_block (good_xor z (left_digit n x m) (right_digit n y m) (left_below n x d m some hx)
    (right_below n y d m some hy)) (none_block (suc z)))

pub next_block : (n x y d m e s : ℕ) → 0 < m → e < n → s < n → x + m * d < n + d → y + m * d < n + d
    → Block n (next_digit n x y d m e s) (difference_span m + 2)
unfolding next_digit
next_block n x y d m e s some he hs hx hy =
    let q = differ_at n m in
    let left = left_below n x d m some hx in
    both_block (difference_block n x y d m some hx hy) (omega arith)
    (gate_block (good_or (q + 1) e q (omega arith) (omega arith))
    (gate_block (good_mux (suc (q + 1)) q (left_digit n x m) s (omega arith) (omega arith) (omega arith))
    (none_block (suc (suc (q + 1))))))

pub later_block : (n x y d m e s w : ℕ) → Fits m w → e < n → s < n → x + m * d < n + d → y + m * d < n + d
    → Block n (later_digits n x y d m e s w) (later_span m w)
unfolding later_digits later_span
later_block n x y d m e s zero f he hs hx hy = none_block n
later_block n x y d m e s (suc w) f he hs hx hy =
    let q = differ_at n m in
    both_block (next_block n x y d m e s (fits_some m w f) he hs hx hy) (omega arith)
    (later_block (q + 3) (x + d) (y + d) (d + d) (m / 2) (q + 1) (q + 2) w (fits_half m w f) (omega arith)
    (omega arith) (omega (arith, half_apart m d)) (omega (arith, half_apart m d)))

pub ones_block : (n x y d m w : ℕ) → Fits m (suc w) → x + m * d < n + d → y + m * d < n + d
    → Block n (compare_ones n x y d m w) (ones_span m w)
unfolding compare_ones ones_span
ones_block n x y d m w f hx hy =
    let some = fits_some m w f in
    let q = differ_at n m in
    both_block (difference_block n x y d m some hx hy) (omega arith)
    (later_block (q + 1) (x + d) (y + d) (d + d) (m / 2) q (left_digit n x m) w (fits_half m w f) (omega arith)
    (omega (arith, left_below n x d m some hx)) (omega (arith, half_apart m d)) (omega (arith, half_apart m d)))

-- the wires of the result are below the end of the block
pub differ_below : (end e w : ℕ) → e < end → differ_end end e w < end
unfolding differ_end
differ_below end e zero h = h
differ_below end e (suc w) h = omega arith

pub larger_below : (end s w : ℕ) → s < end → larger_end end s w < end
unfolding larger_end
larger_below end s zero h = h
larger_below end s (suc w) h = omega arith

-- the block ends where the digits after its first one end
later_more : (n m w : ℕ) → n + later_span m (suc w) ≡ differ_at n m + 3 + later_span (m / 2) w
unfolding later_span
later_more n m w = omega arith

differ_next : (q end e w m : ℕ) → end ≡ q + 3 + later_span m w → differ_end (q + 3 + later_span m w) (q + 1) w ≡ differ_end end e (suc w)
unfolding later_span differ_end
differ_next q end e zero m h = omega arith
differ_next q end e (suc w) m h = omega arith

larger_next : (q end s w m : ℕ) → end ≡ q + 3 + later_span m w → larger_end (q + 3 + later_span m w) (q + 2) w ≡ larger_end end s (suc w)
unfolding later_span larger_end
larger_next q end s zero m h = omega arith
larger_next q end s (suc w) m h = omega arith

pub ones_span_lem : (m w : ℕ) → ones_span m w ≡ difference_span m + later_span (m / 2) w
unfolding ones_span
ones_span_lem m w = refl

-- exactly the first `most` of m wires are 1
pub record Unary (W : ℕ → ℕ) (at d m most : ℕ) : Type 0 where
  pub within : most ≤ m
  pub first : (i : ℕ) → i < most → W (at + i * d) ≡ 1
  pub rest : (i : ℕ) → i < m → most ≤ i → W (at + i * d) ≡ 0

unary_rest : (W : ℕ → ℕ) (at d m most : ℕ) → Unary W at d (suc m) most → Unary W (at + d) d m (most - 1)
unary_rest W at d m most u =
    record {
      within = omega (arith, u.within);
      first = λ i l. ap W (next_place at d i) ∙ u.first (suc i) (omega arith);
      rest = λ i l h. ap W (next_place at d i) ∙ u.rest (suc i) (omega arith) (omega arith);
    }

ones_unary : (W : ℕ → ℕ) (at d m most : ℕ) → Unary W at d m most → ones_at W at d m ≡ most
ones_unary W at d zero most u = omega (arith, ones_none W at d, u.within)
ones_unary W at d (suc m) most u =
    let here : at + 0 * d ≡ at = omega (arith, zero-mul d) in
    let r = ones_unary W (at + d) d m (most - 1) (unary_rest W at d m most u) in
    go most u here r
  where
    go : (most : ℕ) → Unary W at d (suc m) most → at + 0 * d ≡ at → ones_at W (at + d) d m ≡ most - 1 → ones_at W at d (suc m) ≡ most
    go zero u here r = omega (arith, ones_more W at d m, ap W here, u.rest 0 (omega arith) (omega arith))
    go (suc most) u here r = omega (arith, ones_more W at d m, ap W here, u.first 0 (omega arith))

-- if exactly the first wires are 1, so are exactly the first of every second wire
unary_half : (W : ℕ → ℕ) (at d m most : ℕ) → Unary W at d m most → Unary W (at + d) (d + d) (m / 2) (most / 2)
unary_half W at d m most u =
    record {
      within = omega (arith, u.within);
      first = λ i l. ap W (place i) ∙ u.first (suc (i + i)) (omega arith);
      rest = λ i l h. ap W (place i) ∙ u.rest (suc (i + i)) (omega arith) (omega arith);
    }
  where
    place : (i : ℕ) → at + d + i * (d + d) ≡ at + suc (i + i) * d
    place i = omega (arith, mul-add i d d, suc-mul (i + i) d, add-mul i i d)

module _ (W : ℕ → ℕ) (b : Binary W) where
  lowest_digit : (n at d m most : ℕ) → 0 < m → Unary W at d m most → Holds W n (parity n at (at + d) d (m - 1))
      → W (chain_end n at (m - 1)) ≡ most % 2
  lowest_digit n at d m most some u h =
      let one : m ≡ suc (m - 1) = omega arith in
      let all = ap (ones_at W at d) one ∙ ones_more W at d (m - 1) in
      omega (arith, parity_law W b n at (at + d) d (m - 1) h, ones_unary W at d m most u)

  -- what the sums modulo 2 are
  difference_law : (n x y d m i j : ℕ) → 0 < m → Unary W x d m i → Unary W y d m j
      → Holds W n (digit_difference n x y d m) → (W (left_digit n x m) ≡ i % 2) × (W (differ_at n m) ≡ (i % 2 + j % 2) % 2)
  unfolding digit_difference
  difference_law n x y d m i j some u v h =
      let left = left_digit n x m in
      let right = right_digit n y m in
      let c = cut3 W n (parity n x (x + d) d (m - 1)) (parity (n + (m - 1)) y (y + d) d (m - 1))
      (xor_of left right ∷ []) (n + (m - 1)) (differ_at n m)
      (omega (arith, length_chain 6 n x (x + d) d (m - 1))) (omega (arith, length_chain 6 (n + (m - 1)) y (y + d) d (m - 1))) h in
      let a = lowest_digit n x d m i some u c.0 in (
        a,
        omega (
          arith,
          holds_first W (differ_at n m) (xor_of left right) [] c.2 ∙ xor_is W b left right,
          a,
          lowest_digit (n + (m - 1)) y d m j some v c.1,
        ),
      )

  -- Wires e' and s' compare i and j; if these are equal, they repeat what wires e and s say about lower digits.
  pub record Above (i j e s e' s' : ℕ) : Type 0 where
    pub same : i ≡ j → (W e' ≡ W e) × (W s' ≡ W s)
    pub over : j < i → (W e' ≡ 1) × (W s' ≡ 1)
    pub under : i < j → (W e' ≡ 1) × (W s' ≡ 0)

  -- one digit, whose results are wires q + 1 and q + 2, and the digits above it
  one_more : (i j e s q left e' s' : ℕ) → W q ≡ (i % 2 + j % 2) % 2 → W left ≡ i % 2 → W (q + 1) ≡ max (W e) (W q)
      → W (q + 2) ≡ value_on W (mux_of q left s)
      → Above (i / 2) (j / 2) (q + 1) (q + 2) e' s' → Above i j e s e' s'
  one_more i j e s q left e' s' differ first either choice rest =
      record {
        same = λ h.
            let no : W q ≡ 0 = omega arith in
            let r = rest.same (omega arith) in
            (omega (arith, r.0), r.1 ∙ choice ∙ mux_zero (W q) (W left) (W s) no);
        over = λ h. ⊎_elim
            (λ (l : j / 2 < i / 2). rest.over l)
            (λ (l : i / 2 ≤ j / 2).
            let yes : W q ≡ 1 = omega arith in
            let r = rest.same (omega arith) in
            (omega (arith, r.0, b e), r.1 ∙ choice ∙ mux_one (W q) (W left) (W s) yes ∙ first ∙ omega arith))
            (below_or_not (j / 2) (i / 2));
        under = λ h. ⊎_elim
            (λ (l : i / 2 < j / 2). rest.under l)
            (λ (l : j / 2 ≤ i / 2).
            let yes : W q ≡ 1 = omega arith in
            let r = rest.same (omega arith) in
            (omega (arith, r.0, b e), r.1 ∙ choice ∙ mux_one (W q) (W left) (W s) yes ∙ first ∙ omega arith))
            (below_or_not (i / 2) (j / 2));
      }

  later_law : (n x y d m e s w i j : ℕ) → Fits m w → x + m * d < n + d → y + m * d < n + d → Unary W x d m i
      → Unary W y d m j → Holds W n (later_digits n x y d m e s w)
      → Above i j e s (differ_end (n + later_span m w) e w) (larger_end (n + later_span m w) s w)
  unfolding later_digits next_digit
  later_law n x y d m e s zero i j f hx hy u v h = unfold differ_end larger_end in
      record {
        same = λ z. (refl, refl);
        over = λ l. absurd (omega (arith, f.enough, u.within));
        under =
            λ l. absurd (omega (arith, f.enough, v.within));
      }
  later_law n x y d m e s (suc w) i j f hx hy u v h =
      let some = fits_some m w f in
      let q = differ_at n m in
      let left = left_digit n x m in
      let end = q + 3 + later_span (m / 2) w in
      let c = cut3 W n (digit_difference n x y d m) (or_of e q ∷ mux_of q left s ∷ [])
      (later_digits (q + 3) (x + d) (y + d) (d + d) (m / 2) (q + 1) (q + 2) w) (q + 1) (q + 3)
      (omega (arith, (difference_block n x y d m some hx hy).long)) (omega arith) h in
      let a = holds_first W (q + 1) (or_of e q) (mux_of q left s ∷ []) c.1 in
      let place : q + 2 ≡ q + 1 + 1 = omega arith in
      let g = ap W place ∙ holds_first W (q + 1 + 1) (mux_of q left s) [] (holds_rest W (q + 1) (or_of e q) (mux_of q left s ∷ []) c.1) in
      let digits = difference_law n x y d m i j some u v c.0 in
      let rest = later_law (q + 3) (x + d) (y + d) (d + d) (m / 2) (q + 1) (q + 2) w (i / 2) (j / 2)
      (fits_half m w f) (omega (arith, half_apart m d)) (omega (arith, half_apart m d))
      (unary_half W x d m i u) (unary_half W y d m j v) c.2 in
      subst₂ (Above i j e s) (differ_next q (n + later_span m (suc w)) e w (m / 2) (later_more n m w))
      (larger_next q (n + later_span m (suc w)) s w (m / 2) (later_more n m w))
      (one_more i j e s q left (differ_end end (q + 1) w) (larger_end end (q + 2) w) digits.1 digits.0 (a ∙ or_is W b e q) g rest)

  -- Wires e and s compare two numbers: whether they differ and, if they do, whether the first one is larger.
  pub record Compared (i j e s : ℕ) : Type 0 where
    pub same : i ≡ j → W e ≡ 0
    pub over : j < i → (W e ≡ 1) × (W s ≡ 1)
    pub under : i < j → (W e ≡ 1) × (W s ≡ 0)

  -- the lowest digit, and those above it
  all_digits : (i j q left e' s' : ℕ) → W q ≡ (i % 2 + j % 2) % 2 → W left ≡ i % 2 → Above (i / 2) (j / 2) q left e' s' → Compared i j e' s'
  all_digits i j q left e' s' differ first rest =
      record {
        same = λ h. (rest.same (omega arith)).0 ∙ differ ∙ omega arith;
        over = λ h. ⊎_elim
            (λ (l : j / 2 < i / 2). rest.over l)
            (λ (l : i / 2 ≤ j / 2). let r = rest.same (omega arith) in (r.0 ∙ differ ∙ omega arith, r.1 ∙ first ∙ omega arith))
            (below_or_not (j / 2) (i / 2));
        under = λ h. ⊎_elim
            (λ (l : i / 2 < j / 2). rest.under l)
            (λ (l : j / 2 ≤ i / 2). let r = rest.same (omega arith) in (r.0 ∙ differ ∙ omega arith, r.1 ∙ first ∙ omega arith))
            (below_or_not (i / 2) (j / 2));
      }

  pub ones_law : (n x y d m w i j : ℕ) → Fits m (suc w) → x + m * d < n + d → y + m * d < n + d → Unary W x d m i
      → Unary W y d m j → Holds W n (compare_ones n x y d m w)
      → Compared i j (ones_differ n m w) (ones_larger n x m w)
  unfolding compare_ones ones_span
  ones_law n x y d m w i j f hx hy u v h =
      let some = fits_some m w f in
      let q = differ_at n m in
      let left = left_digit n x m in
      let end : q + 1 + later_span (m / 2) w ≡ n + (difference_span m + later_span (m / 2) w) = omega arith in
      let c = cut2 W n (digit_difference n x y d m) (later_digits (q + 1) (x + d) (y + d) (d + d) (m / 2) q left w)
      (q + 1) (omega (arith, (difference_block n x y d m some hx hy).long)) h in
      let digits = difference_law n x y d m i j some u v c.0 in
      let rest = later_law (q + 1) (x + d) (y + d) (d + d) (m / 2) q left w (i / 2) (j / 2) (fits_half m w f)
      (omega (arith, half_apart m d)) (omega (arith, half_apart m d))
      (unary_half W x d m i u) (unary_half W y d m j v) c.1 in
      subst (λ (k : ℕ). Compared i j (differ_end k q w) (larger_end k left w)) end
      (all_digits i j q left (differ_end (q + 1 + later_span (m / 2) w) q w)
      (larger_end (q + 1 + later_span (m / 2) w) left w) digits.1 digits.0 rest)
