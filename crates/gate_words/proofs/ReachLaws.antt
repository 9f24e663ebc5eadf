-- What the carry out of two words says, for every width; the length of its block, and that the block is
-- well-formed.
-- Assumes nothing.
use mathlib.Core.Path.{◌≡◌, ◌∙◌, refl, sym, ap, subst}
use mathlib.Core.Bool.{Bool, true, false, cond}
use mathlib.Core.Logic.{⊎_elim}
use mathlib.Core.List.{List, [], ◌∷◌, ◌++◌}
use Prim.Native.Nat.{ℕ, zero, suc, ◌+◌, ◌-◌, ◌*◌, ◌/◌, ◌^◌, ◌%◌, ◌≤◌, ◌<◌}
use native.Mathlib.Nat.{add-zero, zero-add, suc-add, pow-succ'}
use native.Mathlib.Numerals.{add-one, add-two}
use native.Mathlib.Omega.{arith}
use lib.Dec.{eqb}
use lib.ListN.{length, length-append}
use Rattle.gates.specs.Gate.{Gate}
use Rattle.gates.proofs.Laws.{Holds, AllGood, holds_append, operand_counts_lem, mux_zero, mux_one}
use Rattle.gate_words.specs.Gates.{and_of, or_of, xor_of, mux_of}
use Rattle.gate_words.specs.Word.{number}
use Rattle.gate_words.specs.Choice.{chain_of, all_of, chain_end}
use Rattle.gate_words.specs.Comparison.{differences}
use Rattle.gate_words.specs.Reach.{carry_bit, carries, carries_by, high_reach, reach_halves, reach, reach_last, reach_span}
use Rattle.gate_words.proofs.Numbers.{Binary, number_none, number_more}
use Rattle.gate_words.proofs.GateValues.{holds_first, holds_rest, and_is, or_is, xor_is}
use Rattle.gate_words.proofs.ChoiceSteps.{length_chain, chain_next, left_one, next_place}
use Rattle.gate_words.proofs.WordSteps.{length_differences}
use Rattle.gate_words.proofs.Ends.{chain_below}
use Rattle.gate_words.proofs.HalvesLaws.{beside}
use Rattle.gate_words.proofs.PointsBack.{behind, good_either, good_and, good_or, good_xor, good_mux, chain_good, differences_good}
use Rattle.basics.proofs.Arithmetic.{bit_cases}

-- lengths

pub length_carry_bit : (x y e : ℕ) → length (carry_bit x y e) ≡ 1
unfolding carry_bit
length_carry_bit x y e = either (eqb e 0) (and_of x y ∷ []) (or_of x y ∷ []) refl refl
  where
    either : (b : Bool) (xs ys : List Gate) → length xs ≡ 1 → length ys ≡ 1 → length (cond b xs ys) ≡ 1
    either true xs ys p q = p
    either false xs ys p q = q

pub length_carries : (n x y c w : ℕ) → length (carries n x y c w) ≡ 2 * w
unfolding carries
length_carries n x y c zero = refl
length_carries n x y c (suc w) = omega (arith, length_carries (n + 2) (x + 1) (y + 1) (n + 1) w)

pub length_carries_by : (n f x c w : ℕ) → length (carries_by n f x c w) ≡ w
unfolding carries_by
length_carries_by n f x c zero = refl
length_carries_by n f x c (suc w) = ap suc (length_carries_by (n + 1) (f + 1) (x + 1) n w)

pub length_high_reach : (n x y c h : ℕ) → length (high_reach n x y c h) ≡ 3 * h + 2
unfolding high_reach
length_high_reach n x y c h =
    let d = differences x y (suc h) in
    let v = carries_by (n + suc h) (n + 1) (x + 1) x h in
    let a = all_of (n + suc h + h) n (n + 1) 1 h in
    let m = mux_of (chain_end (n + suc h + h) n h) c (chain_end (n + suc h) x h) ∷ [] in
    omega (
      arith,
      length-append (d ++ v ++ a) m,
      length-append (d ++ v) a,
      length-append d v,
      length_differences x y (suc h),
      length_carries_by (n + suc h) (n + 1) (x + 1) x h,
      length_chain 4 (n + suc h + h) n (n + 1) 1 h,
    )

pub length_reach_halves : (n x y e l h : ℕ) → length (reach_halves n x y e l h) ≡ 2 * l + 3 * h + 3
unfolding reach_halves
length_reach_halves n x y e l h =
    let f = carry_bit x y e in
    let v = carries (n + 1) (x + 1) (y + 1) n l in
    let t = high_reach (n + 1 + 2 * l) (x + 1 + l) (y + 1 + l) (n + 2 * l) h in
    omega (
      arith,
      length-append (f ++ v) t,
      length-append f v,
      length_carry_bit x y e,
      length_carries (n + 1) (x + 1) (y + 1) n l,
      length_high_reach (n + 1 + 2 * l) (x + 1 + l) (y + 1 + l) (n + 2 * l) h,
    )

pub length_reach : (n x y e r : ℕ) → length (reach n x y e r) ≡ reach_span r
unfolding reach reach_last
length_reach n x y e zero = length_carry_bit x y e
length_reach n x y e (suc r) = omega (arith, length_reach_halves n x y e (r / 2) (r - r / 2))

-- the first digit, and the rest

pub carries_step : (n x y c i w : ℕ) → i < w → carries n (x + i) (y + i) c (w - i)
    ≡ (xor_of (x + i) (y + i) ∷ mux_of n c (x + i) ∷ [])
    ++ carries (n + 2) (x + (i + 1)) (y + (i + 1)) (n + 1) (w - (i + 1))
unfolding carries
carries_step n x y c i w h = rw (left_one i w h, next_place x i, next_place y i)

pub carries_none : (n x y c i w : ℕ) → w ≤ i → carries n x y c (w - i) ≡ []
unfolding carries
carries_none n x y c i w h = let e : w - i ≡ 0 = omega arith in rw e

pub carries_by_step : (n f x c i w : ℕ) → i < w → carries_by n (f + i) (x + i) c (w - i)
    ≡ (mux_of (f + i) c (x + i) ∷ []) ++ carries_by (n + 1) (f + (i + 1)) (x + (i + 1)) n (w - (i + 1))
unfolding carries_by
carries_by_step n f x c i w h = rw (left_one i w h, next_place f i, next_place x i)

pub carries_by_none : (n f x c i w : ℕ) → w ≤ i → carries_by n f x c (w - i) ≡ []
unfolding carries_by
carries_by_none n f x c i w h = let e : w - i ≡ 0 = omega arith in rw e

pub reach_one_digit : (n x y e r : ℕ) → r ≡ 0 → carry_bit x y e ≡ reach n x y e r
unfolding reach
reach_one_digit n x y e r q = rw q

pub reach_more_digits : (n x y e r : ℕ) → 0 < r → reach_halves n x y e ((r - 1) / 2) (r - 1 - (r - 1) / 2) ≡ reach n x y e r
reach_more_digits n x y e r q = let k : r ≡ suc (r - 1) = omega arith in sym (ap (reach n x y e) k ∙ (unfold reach in refl))

pub reach_last_none : (r : ℕ) → r ≡ 0 → reach_last r ≡ 0
unfolding reach_last
reach_last_none r q = rw q

pub reach_last_some : (r : ℕ) → 0 < r → reach_last r ≡ 2 * ((r - 1) / 2) + 3 * (r - 1 - (r - 1) / 2) + 2
reach_last_some r q = let k : r ≡ suc (r - 1) = omega arith in ap reach_last k ∙ (unfold reach_last in refl)

pub reach_last_most : (r : ℕ) → reach_last r ≤ 3 * r
unfolding reach_last
reach_last_most zero = omega arith
reach_last_most (suc r) = omega arith

-- well-formed

pub carry_bit_good : (n x y e : ℕ) → x < n → y < n → AllGood n (carry_bit x y e)
unfolding carry_bit
carry_bit_good n x y e hx hy =
    good_either n (eqb e 0) (and_of x y ∷ []) (or_of x y ∷ []) (good_and n x y hx hy, tt) (good_or n x y hx hy, tt)

pub carries_good : (n x y c w : ℕ) → x + w ≤ n → y + w ≤ n → c < n → AllGood n (carries n x y c w)
unfolding carries
carries_good n x y c zero hx hy hc = tt
carries_good n x y c (suc w) hx hy hc =
    let two : n + 2 ≡ suc (suc n) = add-two n in (
      good_xor n x y (omega arith) (omega arith),
      (
        good_mux (suc n) n c x (omega arith) (omega arith) (omega arith),
        subst (λ (j : ℕ). AllGood j (carries (n + 2) (x + 1) (y + 1) (n + 1) w)) two
            (carries_good (n + 2) (x + 1) (y + 1) (n + 1) w (omega arith) (omega arith) (omega arith)),
      ),
    )

pub carries_by_good : (n f x c w : ℕ) → f + w ≤ n → x + w ≤ n → c < n → AllGood n (carries_by n f x c w)
unfolding carries_by
carries_by_good n f x c zero hf hx hc = tt
carries_by_good n f x c (suc w) hf hx hc = (
  good_mux n f c x (omega arith) hc (omega arith),
  subst (λ (j : ℕ). AllGood j (carries_by (n + 1) (f + 1) (x + 1) n w)) (add-one n)
      (carries_by_good (n + 1) (f + 1) (x + 1) n w (omega arith) (omega arith) (omega arith)),
)

pub high_reach_good : (n x y c h : ℕ) → x + suc h ≤ n → y + suc h ≤ n → c < n → AllGood n (high_reach n x y c h)
unfolding high_reach
high_reach_good n x y c h hx hy hc =
    let d = differences x y (suc h) in
    let v = carries_by (n + suc h) (n + 1) (x + 1) x h in
    let a = all_of (n + suc h + h) n (n + 1) 1 h in
    let ld = length_differences x y (suc h) in
    let lv = length_carries_by (n + suc h) (n + 1) (x + 1) x h in
    let la = length_chain 4 (n + suc h + h) n (n + 1) 1 h in
    let q = n + (suc h + h + h) in
    let e₁ : n + suc h + h ≡ n + (suc h + h) = omega arith in
    behind n (suc h + h + h) (d ++ v ++ a) (mux_of (chain_end (n + suc h + h) n h) c (chain_end (n + suc h) x h) ∷ [])
    (omega (arith, length-append (d ++ v) a, length-append d v))
    (behind n (suc h + h) (d ++ v) a (omega (arith, length-append d v))
    (behind n (suc h) d v ld (differences_good n x y (suc h) hx hy)
    (carries_by_good (n + suc h) (n + 1) (x + 1) x h (omega arith) (omega arith) (omega arith)))
    (subst (λ (j : ℕ). AllGood j a) e₁
    (chain_good (n + suc h + h) 4 n (n + 1) 1 h (omega arith) operand_counts_lem.4 (omega arith)
    (beside (n + suc h + h) (n + 1) h (omega arith))))) (
      good_mux q (chain_end (n + suc h + h) n h) c (chain_end (n + suc h) x h)
          (chain_below (n + suc h + h) n h q (omega arith) (omega arith)) (omega arith)
          (chain_below (n + suc h) x h q (omega arith) (omega arith)),
      tt,
    )

pub reach_halves_good : (n x y e l h : ℕ) → x + suc (suc (l + h)) ≤ n → y + suc (suc (l + h)) ≤ n → AllGood n (reach_halves n x y e l h)
unfolding reach_halves
reach_halves_good n x y e l h hx hy =
    let f = carry_bit x y e in
    let v = carries (n + 1) (x + 1) (y + 1) n l in
    let q : n + 1 + 2 * l ≡ n + (1 + 2 * l) = omega arith in
    behind n (1 + 2 * l) (f ++ v) (high_reach (n + 1 + 2 * l) (x + 1 + l) (y + 1 + l) (n + 2 * l) h)
    (omega (arith, length-append f v, length_carry_bit x y e, length_carries (n + 1) (x + 1) (y + 1) n l))
    (behind n 1 f v (length_carry_bit x y e) (carry_bit_good n x y e (omega arith) (omega arith))
    (carries_good (n + 1) (x + 1) (y + 1) n l (omega arith) (omega arith) (omega arith)))
    (subst (λ (j : ℕ). AllGood j (high_reach (n + 1 + 2 * l) (x + 1 + l) (y + 1 + l) (n + 2 * l) h)) q
    (high_reach_good (n + 1 + 2 * l) (x + 1 + l) (y + 1 + l) (n + 2 * l) h (omega arith) (omega arith) (omega arith)))

pub reach_good : (n x y e r : ℕ) → x + suc r ≤ n → y + suc r ≤ n → AllGood n (reach n x y e r)
unfolding reach
reach_good n x y e zero hx hy = carry_bit_good n x y e (omega arith) (omega arith)
reach_good n x y e (suc r) hx hy = reach_halves_good n x y e (r / 2) (r - r / 2) (omega arith) (omega arith)

-- what the carries say

-- one digit: if the two bits are equal, the carry out is that bit; if not, it is the carry in
one_carry : (x y s t k : ℕ) → x ≤ 1 → y ≤ 1 → s ≤ 1 → t ≡ (x + y) % 2 → (t ≡ 0 → k ≡ x) → (t ≡ 1 → k ≡ s) → (k ≤ 1)
    × (2 * k ≤ x + y + s) × (x + y + s ≤ 2 * k + 1)
one_carry x y s t k hx hy hs e k₀ k₁ =
    ⊎_elim (λ (z : t ≡ 0). let p = k₀ z in (omega arith, omega arith, omega arith))
    (λ (z : t ≡ 1). let p = k₁ z in (omega arith, omega arith, omega arith)) (bit_cases t (omega arith))

-- a bit says whether a sum reaches a limit
pub record Reaches (bit limit sum : ℕ) : Type 0 where
  pub reached : limit ≤ sum → bit ≡ 1
  pub missed : sum < limit → bit ≡ 0

-- with one more digit below, the same bit says whether the sum of all digits reaches twice the limit
one_more : (sum k low : ℕ) {bit limit twice whole : ℕ} → Reaches bit limit (sum + k) → twice ≡ 2 * limit → whole
    ≡ low + 2 * sum → 2 * k ≤ low → low ≤ 2 * k + 1 → Reaches bit twice whole
one_more sum k low r e f g h = record { reached = λ q. r.reached (omega arith); missed = λ q. r.missed (omega arith) }

module _ (W : ℕ → ℕ) (b : Binary W) where
  carry_bit_law : (n x y e : ℕ) → e ≤ 1 → Holds W n (carry_bit x y e) → (2 * W n ≤ W x + W y + e) × (W x + W y + e ≤ 2 * W n + 1)
  unfolding carry_bit
  carry_bit_law n x y zero l h = let g = holds_first W n (and_of x y) [] h ∙ and_is W b x y in
      (omega (arith, b x, b y), omega (arith, b x, b y))
  carry_bit_law n x y (suc zero) l h = let g = holds_first W n (or_of x y) [] h ∙ or_is W b x y in
      (omega (arith, b x, b y), omega (arith, b x, b y))
  carry_bit_law n x y (suc (suc e)) l h = absurd (omega arith)

  -- w digits below h others: if a bit is right for the high ones and the carry out of the low ones, it is right for
  -- all
  carries_law : (n x y c w h bit : ℕ) → Holds W n (carries n x y c w)
      → ((k : ℕ) → (w ≡ 0 → k ≡ c) → (0 < w → k + 1 ≡ n + 2 * w) → Reaches bit (2 ^ h) (number W (x + w) 1 h + number W (y + w) 1 h + W k))
      → Reaches bit (2 ^ (w + h)) (number W x 1 (w + h) + number W y 1 (w + h) + W c)
  unfolding carries
  carries_law n x y c zero h bit g top =
      let t = top c (λ z. refl) (λ z. absurd (omega arith)) in
      let px : x + zero ≡ x = add-zero x in
      let py : y + zero ≡ y = add-zero y in
      rw (zero-add h) (subst (λ (i : ℕ). Reaches bit (2 ^ h) (number W x 1 h + number W i 1 h + W c)) py
      (subst (λ (i : ℕ). Reaches bit (2 ^ h) (number W i 1 h + number W (y + zero) 1 h + W c)) px t))
  carries_law n x y c (suc w) h bit g top =
      let rest = carries (n + 2) (x + 1) (y + 1) (n + 1) w in
      let g₁ = holds_first W n (xor_of x y) (mux_of n c x ∷ rest) g ∙ xor_is W b x y in
      let g₂ = holds_rest W n (xor_of x y) (mux_of n c x ∷ rest) g in
      let m = holds_first W (n + 1) (mux_of n c x) rest g₂ in
      let place : n + 1 + 1 ≡ n + 2 = omega arith in
      let g₃ = subst (λ (i : ℕ). Holds W i rest) place (holds_rest W (n + 1) (mux_of n c x) rest g₂) in
      let d = one_carry (W x) (W y) (W c) (W n) (W (n + 1)) (b x) (b y) (b c) g₁
      (λ e. m ∙ mux_zero (W n) (W c) (W x) e) (λ e. m ∙ mux_one (W n) (W c) (W x) e) in
      let px : x + suc w ≡ x + 1 + w = omega arith in
      let py : y + suc w ≡ y + 1 + w = omega arith in
      let r = carries_law (n + 2) (x + 1) (y + 1) (n + 1) w h bit g₃
      (λ k z p. subst (λ (i : ℕ). Reaches bit (2 ^ h) (number W (x + 1 + w) 1 h + number W i 1 h + W k)) py
      (subst (λ (i : ℕ). Reaches bit (2 ^ h) (number W i 1 h + number W (y + suc w) 1 h + W k)) px
      (top k (λ q. absurd (omega arith)) (λ q. last k w z p)))) in
      rw (suc-add w h) (one_more (number W (x + 1) 1 (w + h) + number W (y + 1) 1 (w + h)) (W (n + 1))
      (W x + W y + W c) r (pow-succ' 2 (w + h))
      (omega (arith, number_more W x 1 (w + h), number_more W y 1 (w + h))) d.1 d.2)
    where
      last : (k w : ℕ) → (w ≡ 0 → k ≡ n + 1) → (0 < w → k + 1 ≡ n + 2 + 2 * w) → k + 1 ≡ n + 2 * suc w
      last k zero z p = omega (arith, z refl)
      last k (suc w) z p = omega (arith, p (omega arith))

  carries_by_law : (n f x y c w : ℕ) → Holds W f (differences x y w) → Holds W n (carries_by n f x c w)
      → Reaches (W (chain_end n c w)) (2 ^ w) (number W x 1 w + number W y 1 w + W c)
  unfolding carries_by differences
  carries_by_law n f x y c zero g h = unfold chain_end number in record { reached = λ q. omega (arith, b c); missed = λ q. omega arith }
  carries_by_law n f x y c (suc w) g h =
      let differ = differences (x + 1) (y + 1) w in
      let rest = carries_by (n + 1) (f + 1) (x + 1) n w in
      let m = holds_first W n (mux_of f c x) rest h in
      let d = one_carry (W x) (W y) (W c) (W f) (W n) (b x) (b y) (b c)
      (holds_first W f (xor_of x y) differ g ∙ xor_is W b x y) (λ e. m ∙ mux_zero (W f) (W c) (W x) e)
      (λ e. m ∙ mux_one (W f) (W c) (W x) e) in
      let r = carries_by_law (n + 1) (f + 1) (x + 1) (y + 1) n w (holds_rest W f (xor_of x y) differ g)
      (holds_rest W n (mux_of f c x) rest h) in
      let s : Reaches (W (chain_end (n + 1) n w)) (2 ^ suc w) (number W x 1 (suc w) + number W y 1 (suc w) + W c) =
      one_more (number W (x + 1) 1 w + number W (y + 1) 1 w) (W n) (W x + W y + W c) r (pow-succ' 2 w)
      (omega (arith, number_more W x 1 w, number_more W y 1 w)) d.1 d.2 in
      subst (λ (i : ℕ). Reaches (W i) (2 ^ suc w) (number W x 1 (suc w) + number W y 1 (suc w) + W c)) (chain_next n c w) s

  -- all digits differ exactly if the words add up to all ones
  all_one : (n s f x y w : ℕ) → Holds W f (differences x y w) → Holds W n (all_of n s f 1 w) → W (chain_end n s w) ≡ 1
      → (W s ≡ 1) × (number W x 1 w + number W y 1 w + 1 ≡ 2 ^ w)
  unfolding chain_of differences
  all_one n s f x y zero g h e = unfold chain_end number in (e, omega arith)
  all_one n s f x y (suc w) g h e =
      let differ = differences (x + 1) (y + 1) w in
      let rest = all_of (n + 1) n (f + 1) 1 w in
      let a = holds_first W n (and_of s f) rest h ∙ and_is W b s f in
      let d = holds_first W f (xor_of x y) differ g ∙ xor_is W b x y in
      let r = all_one (n + 1) n (f + 1) (x + 1) (y + 1) w (holds_rest W f (xor_of x y) differ g)
      (holds_rest W n (and_of s f) rest h) (ap W (chain_next n s w) ∙ e) in
      let o : W f ≡ 1 = omega (arith, r.0, b s, b f) in
      (omega (arith, r.0, b s, b f), omega (arith, r.1, pow-succ' 2 w, number_more W x 1 w, number_more W y 1 w, b x, b y))

  all_zero : (n s f x y w : ℕ) → Holds W f (differences x y w) → Holds W n (all_of n s f 1 w) → W (chain_end n s w)
      ≡ 0 → W s ≡ 1 → number W x 1 w + number W y 1 w + 1 ≡ 2 ^ w → ⊥
  unfolding chain_of differences
  all_zero n s f x y zero g h e o q = unfold chain_end in omega arith
  all_zero n s f x y (suc w) g h e o q =
      let differ = differences (x + 1) (y + 1) w in
      let rest = all_of (n + 1) n (f + 1) 1 w in
      let a = holds_first W n (and_of s f) rest h ∙ and_is W b s f in
      let d = holds_first W f (xor_of x y) differ g ∙ xor_is W b x y in
      let mx = number_more W x 1 w in
      let my = number_more W y 1 w in
      let p = pow-succ' 2 w in
      let t : W x + W y ≡ 1 = omega (arith, b x, b y) in
      all_zero (n + 1) n (f + 1) (x + 1) (y + 1) w (holds_rest W f (xor_of x y) differ g)
      (holds_rest W n (and_of s f) rest h) (ap W (chain_next n s w) ∙ e) (omega arith) (omega arith)

  -- four blocks in a row
  cut_high : (n x y c h : ℕ) → Holds W n (high_reach n x y c h)
      → Holds W n (differences x y (suc h)) × Holds W (n + suc h) (carries_by (n + suc h) (n + 1) (x + 1) x h)
      × Holds W (n + suc h + h) (all_of (n + suc h + h) n (n + 1) 1 h)
      × Holds W (n + suc h + h + h) (mux_of (chain_end (n + suc h + h) n h) c (chain_end (n + suc h) x h) ∷ [])
  unfolding high_reach
  cut_high n x y c h g =
      let d = differences x y (suc h) in
      let v = carries_by (n + suc h) (n + 1) (x + 1) x h in
      let a = all_of (n + suc h + h) n (n + 1) 1 h in
      let m = mux_of (chain_end (n + suc h + h) n h) c (chain_end (n + suc h) x h) ∷ [] in
      let ld = length_differences x y (suc h) in
      let lv = length_carries_by (n + suc h) (n + 1) (x + 1) x h in
      let la = length_chain 4 (n + suc h + h) n (n + 1) 1 h in
      let s = holds_append W n (d ++ v ++ a) m g in
      let t = holds_append W n (d ++ v) a s.0 in
      let u = holds_append W n d v t.0 in
      let e₁ : n + length d ≡ n + suc h = omega arith in
      let e₂ : n + length (d ++ v) ≡ n + suc h + h = omega (arith, length-append d v) in
      let e₃ : n + length (d ++ v ++ a) ≡ n + suc h + h + h = omega (arith, length-append (d ++ v) a, length-append d v) in
      (u.0, subst (λ (i : ℕ). Holds W i v) e₁ u.1, subst (λ (i : ℕ). Holds W i a) e₂ t.1, subst (λ (i : ℕ). Holds W i m) e₃ s.1)

  pub high_reach_law : (n x y c h : ℕ) → Holds W n (high_reach n x y c h)
      → Reaches (W (n + suc h + h + h)) (2 ^ suc h) (number W x 1 (suc h) + number W y 1 (suc h) + W c)
  high_reach_law n x y c h g =
      let p = cut_high n x y c h g in
      let first : Holds W n (xor_of x y ∷ differences (x + 1) (y + 1) h) = unfold differences in p.0 in
      let d = holds_first W n (xor_of x y) (differences (x + 1) (y + 1) h) first ∙ xor_is W b x y in
      let rest = holds_rest W n (xor_of x y) (differences (x + 1) (y + 1) h) first in
      let v = carries_by_law (n + suc h) (n + 1) (x + 1) (y + 1) x h rest p.1 in
      let all = chain_end (n + suc h + h) n h in
      let free = chain_end (n + suc h) x h in
      let m = holds_first W (n + suc h + h + h) (mux_of all c free) [] p.3 in
      let mx = number_more W x 1 h in
      let my = number_more W y 1 h in
      let two = pow-succ' 2 h in
      ⊎_elim
      (λ (z : W all ≡ 0).
      let k = m ∙ mux_zero (W all) (W c) (W free) z in
      let no : W n ≡ 1 → number W (x + 1) 1 h + number W (y + 1) 1 h + 1 ≡ 2 ^ h → ⊥ =
      all_zero (n + suc h + h) n (n + 1) (x + 1) (y + 1) h rest p.2 z in
      ⊎_elim
      (λ (u : W n ≡ 0). record {
        reached = λ q. k ∙ v.reached (omega (arith, b x, b y, b c));
        missed = λ q. k
            ∙ v.missed (omega (arith, b x, b y, b c));
      })
      (λ (u : W n ≡ 1). let ne : ¬ (number W (x + 1) 1 h + number W (y + 1) 1 h + 1 ≡ 2 ^ h) = no u in
      record { reached = λ q. k ∙ v.reached (omega (arith, b x, b y, b c)); missed = λ q. k ∙ v.missed (omega (arith, b x, b y, b c)) })
      (bit_cases (W n) (b n)))
      (λ (z : W all ≡ 1).
      let k = m ∙ mux_one (W all) (W c) (W free) z in
      let o = all_one (n + suc h + h) n (n + 1) (x + 1) (y + 1) h rest p.2 z in
      let o₀ = o.0 in
      let o₁ = o.1 in
      record { reached = λ q. k ∙ omega (arith, b x, b y, b c); missed = λ q. k ∙ omega (arith, b x, b y, b c) })
      (bit_cases (W all) (b all))

  pub reach_halves_law : (n x y e l h : ℕ) → e ≤ 1 → Holds W n (reach_halves n x y e l h)
      → Reaches (W (n + (2 * l + 3 * h + 2))) (2 ^ suc (suc (l + h)))
      (number W x 1 (suc (suc (l + h))) + number W y 1 (suc (suc (l + h))) + e)
  unfolding reach_halves
  reach_halves_law n x y e l h le g =
      let f = carry_bit x y e in
      let v = carries (n + 1) (x + 1) (y + 1) n l in
      let m = n + 1 + 2 * l in
      let t = high_reach m (x + 1 + l) (y + 1 + l) (n + 2 * l) h in
      let s = holds_append W n (f ++ v) t g in
      let u = holds_append W n f v s.0 in
      let e₁ : n + length f ≡ n + 1 = omega (arith, length_carry_bit x y e) in
      let e₂ : n + length (f ++ v) ≡ m =
      omega (arith, length-append f v, length_carry_bit x y e, length_carries (n + 1) (x + 1) (y + 1) n l) in
      let c = carry_bit_law n x y e le u.0 in
      let top = high_reach_law m (x + 1 + l) (y + 1 + l) (n + 2 * l) h (subst (λ (i : ℕ). Holds W i t) e₂ s.1) in
      let place : m + suc h + h + h ≡ n + (2 * l + 3 * h + 2) = omega arith in
      let bit = W (n + (2 * l + 3 * h + 2)) in
      let top' = subst (λ (i : ℕ). Reaches (W i) (2 ^ suc h)
      (number W (x + 1 + l) 1 (suc h) + number W (y + 1 + l) 1 (suc h) + W (n + 2 * l))) place top in
      let r = carries_law (n + 1) (x + 1) (y + 1) n l (suc h) bit (subst (λ (i : ℕ). Holds W i v) e₁ u.1)
      (λ k z p. subst (λ (i : ℕ). Reaches bit (2 ^ suc h)
      (number W (x + 1 + l) 1 (suc h) + number W (y + 1 + l) 1 (suc h) + W i)) (sym (last k l z p)) top') in
      let w : l + suc h ≡ suc (l + h) = omega arith in
      let r' = subst (λ (i : ℕ). Reaches bit (2 ^ i) (number W (x + 1) 1 i + number W (y + 1) 1 i + W n)) w r in
      one_more (number W (x + 1) 1 (suc (l + h)) + number W (y + 1) 1 (suc (l + h))) (W n) (W x + W y + e) r'
      (pow-succ' 2 (suc (l + h))) (omega (arith, number_more W x 1 (suc (l + h)), number_more W y 1 (suc (l + h))))
      c.0 c.1
    where
      last : (k l : ℕ) → (l ≡ 0 → k ≡ n) → (0 < l → k + 1 ≡ n + 1 + 2 * l) → k ≡ n + 2 * l
      last k zero z p = omega (arith, z refl)
      last k (suc l) z p = omega (arith, p (omega arith))

  pub reach_law : (n x y e r : ℕ) → e ≤ 1 → Holds W n (reach n x y e r)
      → Reaches (W (n + reach_last r)) (2 ^ suc r) (number W x 1 (suc r) + number W y 1 (suc r) + e)
  unfolding reach reach_last
  reach_law n x y e zero le g =
      let c = carry_bit_law n x y e le g in
      let z : W (n + 0) ≡ W n = ap W (add-zero n) in
      let mx = number_more W x 1 0 in
      let my = number_more W y 1 0 in
      let ox = number_none W (x + 1) 1 in
      let oy = number_none W (y + 1) 1 in
      let two : 2 ^ suc zero ≡ 2 = refl in
      record { reached = λ q. z ∙ omega (arith, c.0, c.1, b n); missed = λ q. z ∙ omega (arith, c.0, c.1) }
  reach_law n x y e (suc r) le g =
      let w : r / 2 + (r - r / 2) ≡ r = omega arith in
      subst (λ (i : ℕ). Reaches (W (n + (2 * (r / 2) + 3 * (r - r / 2) + 2))) (2 ^ suc (suc i))
      (number W x 1 (suc (suc i)) + number W y 1 (suc (suc i)) + e)) w
      (reach_halves_law n x y e (r / 2) (r - r / 2) le g)
