-- What comparisons say, for every width. A wire `up` that says "above so far" counts as 1 added to x's word.
-- Assumes nothing.
use mathlib.Core.Path.{◌≡◌, ◌∙◌, sym, ap}
use mathlib.Core.Logic.{⊎_elim}
use mathlib.Core.List.{[], ◌∷◌}
use Prim.Native.Nat.{ℕ, zero, suc, ◌+◌, ◌%◌, ◌≤◌, ◌<◌}
use native.Mathlib.Omega.{arith}
use Rattle.gates.proofs.Laws.{Holds, mux_zero, mux_one}
use Rattle.gate_words.specs.Gates.{and_of, xor_of, mux_of}
use Rattle.gate_words.specs.Word.{number}
use Rattle.gate_words.specs.Choice.{chain_end}
use Rattle.gate_words.specs.Comparison.{first_digit, compare_words, up_end, down_end, differences, above}
use Rattle.gate_words.proofs.Numbers.{Binary, number_more}
use Rattle.gate_words.proofs.GateValues.{value_on, holds_first, holds_rest, holds_three, and_is, xor_is}
use Rattle.gate_words.proofs.ChoiceSteps.{chain_next}
use Rattle.basics.proofs.Arithmetic.{bit_cases}

-- if t < s would make a bit 1, a bit of 0 says that s is at most t
pub not_one : {y t s : ℕ} → y ≡ 0 → (t < s → y ≡ 1) → s ≤ t
not_one {y} {t} {s} z f = let g : ¬ (t < s) = λ q. let k = f q in omega arith in omega arith

pub not_zero : {y t s : ℕ} → y ≡ 1 → (s ≤ t → y ≡ 0) → t < s
not_zero {y} {t} {s} z f = let g : ¬ (s ≤ t) = λ q. let k = f q in omega arith in omega arith

module _ (W : ℕ → ℕ) (b : Binary W) where
  -- two digits, both ways
  pub first_up : (n x y : ℕ) → Holds W n (first_digit n x y) → (W y < W x → W (n + 1) ≡ 1) × (W x ≤ W y → W (n + 1) ≡ 0)
  unfolding first_digit
  first_up n x y h =
      let g = holds_three W n (xor_of x y) (and_of x n) (xor_of n (n + 1)) [] h in
      let p = g.0 ∙ xor_is W b x y in
      let q = g.1 ∙ and_is W b x n in
      (λ l. omega (arith, p, q, l, b x, b y), λ l. omega (arith, p, q, l, b x, b y))

  pub first_down : (n x y : ℕ) → Holds W n (first_digit n x y) → (W x < W y → W (n + 2) ≡ 1) × (W y ≤ W x → W (n + 2) ≡ 0)
  unfolding first_digit
  first_down n x y h =
      let g = holds_three W n (xor_of x y) (and_of x n) (xor_of n (n + 1)) [] h in
      let p = g.0 ∙ xor_is W b x y in
      let q = g.1 ∙ and_is W b x n in
      let r = g.2 ∙ xor_is W b n (n + 1) in
      (λ l. omega (arith, p, q, r, l, b x, b y), λ l. omega (arith, p, q, r, l, b x, b y))

  up_next : (n up w : ℕ) → up_end (n + 3) (n + 1) w ≡ up_end n up (suc w)
  unfolding up_end
  up_next n up zero = omega arith
  up_next n up (suc w) = omega arith

  down_next : (n down w : ℕ) → down_end (n + 3) (n + 2) w ≡ down_end n down (suc w)
  unfolding down_end
  down_next n down zero = omega arith
  down_next n down (suc w) = omega arith

  -- the result after one digit: x's digit if the digits differ, else the result before
  one_digit : (x y s t k : ℕ) → x ≤ 1 → y ≤ 1 → s ≤ 1 → t ≡ (x + y) % 2 → (t ≡ 0 → k ≡ s) → (t ≡ 1 → k ≡ x)
      → (y < x + s → k ≡ 1) × (x + s ≤ y → k ≡ 0)
  one_digit x y s t k hx hy hs e k₀ k₁ =
      ⊎_elim (λ (z : t ≡ 0). let p = k₀ z in ((λ q. omega arith), (λ q. omega arith)))
      (λ (z : t ≡ 1). let p = k₁ z in ((λ q. omega arith), (λ q. omega arith))) (bit_cases t (omega arith))

  module _ (n x y up down w : ℕ) (h : Holds W n (compare_words n x y up down (suc w))) where
    gates_of : (W n ≡ value_on W (xor_of x y)) × (W (n + 1) ≡ value_on W (mux_of n x up)) × (W (n + 2) ≡ value_on W (mux_of n y down))
        × Holds W (n + 3) (compare_words (n + 3) (x + 1) (y + 1) (n + 1) (n + 2) w)
    gates_of = holds_three W n (xor_of x y) (mux_of n x up) (mux_of n y down)
        (compare_words (n + 3) (x + 1) (y + 1) (n + 1) (n + 2) w) (unfold compare_words in h)

    up_digit : (W y < W x + W up → W (n + 1) ≡ 1) × (W x + W up ≤ W y → W (n + 1) ≡ 0)
    up_digit =
        one_digit (W x) (W y) (W up) (W n) (W (n + 1)) (b x) (b y) (b up) (gates_of.0 ∙ xor_is W b x y)
        (λ e. gates_of.1 ∙ mux_zero (W n) (W x) (W up) e) (λ e. gates_of.1 ∙ mux_one (W n) (W x) (W up) e)

    down_digit : (W x < W y + W down → W (n + 2) ≡ 1) × (W y + W down ≤ W x → W (n + 2) ≡ 0)
    down_digit =
        let swap : (W x + W y) % 2 ≡ (W y + W x) % 2 = omega arith in
        one_digit (W y) (W x) (W down) (W n) (W (n + 2)) (b y) (b x) (b down) (gates_of.0 ∙ xor_is W b x y ∙ swap)
        (λ e. gates_of.2 ∙ mux_zero (W n) (W y) (W down) e) (λ e. gates_of.2 ∙ mux_one (W n) (W y) (W down) e)

  pub words_up : (n x y up down w : ℕ) → Holds W n (compare_words n x y up down w)
      → (number W y 1 w < number W x 1 w + W up → W (up_end n up w) ≡ 1) × (number W x 1 w + W up ≤ number W y 1 w → W (up_end n up w) ≡ 0)
  words_up n x y up down zero h = unfold up_end number in ((λ l. omega (arith, b up, l)), (λ l. omega (arith, l)))
  words_up n x y up down (suc w) h =
      let d = up_digit n x y up down w h in
      let r = words_up (n + 3) (x + 1) (y + 1) (n + 1) (n + 2) w (gates_of n x y up down w h).3 in
      let e = ap W (up_next n up w) in
      let mx = number_more W x 1 w in
      let my = number_more W y 1 w in (
        (λ (l : number W y 1 (suc w) < number W x 1 (suc w) + W up).
            sym e ∙ r.0 (⊎_elim (λ (z : W (n + 1) ≡ 0). let k : W x + W up ≤ W y = not_one z d.0 in omega arith)
            (λ (z : W (n + 1) ≡ 1). omega (arith, b x, b up)) (bit_cases (W (n + 1)) (b (n + 1))))),
        (λ (l : number W x 1 (suc w) + W up ≤ number W y 1 (suc w)).
            sym e ∙ r.1 (⊎_elim (λ (z : W (n + 1) ≡ 0). omega (arith, b y))
            (λ (z : W (n + 1) ≡ 1). let k : W y < W x + W up = not_zero z d.1 in omega arith)
            (bit_cases (W (n + 1)) (b (n + 1))))),
      )

  pub words_down : (n x y up down w : ℕ) → Holds W n (compare_words n x y up down w)
      → (number W x 1 w < number W y 1 w + W down → W (down_end n down w) ≡ 1)
      × (number W y 1 w + W down ≤ number W x 1 w → W (down_end n down w) ≡ 0)
  words_down n x y up down zero h = unfold down_end number in ((λ l. omega (arith, b down, l)), (λ l. omega (arith, l)))
  words_down n x y up down (suc w) h =
      let d = down_digit n x y up down w h in
      let r = words_down (n + 3) (x + 1) (y + 1) (n + 1) (n + 2) w (gates_of n x y up down w h).3 in
      let e = ap W (down_next n down w) in
      let mx = number_more W x 1 w in
      let my = number_more W y 1 w in (
        (λ (l : number W x 1 (suc w) < number W y 1 (suc w) + W down).
            sym e ∙ r.0 (⊎_elim (λ (z : W (n + 2) ≡ 0). let k : W y + W down ≤ W x = not_one z d.0 in
            omega arith) (λ (z : W (n + 2) ≡ 1). omega (arith, b y, b down)) (bit_cases (W (n + 2)) (b (n + 2))))),
        (λ (l : number W y 1 (suc w) + W down ≤ number W x 1 (suc w)).
            sym e ∙ r.1 (⊎_elim (λ (z : W (n + 2) ≡ 0). omega (arith, b x))
            (λ (z : W (n + 2) ≡ 1). let k : W x < W y + W down = not_zero z d.1 in omega arith)
            (bit_cases (W (n + 2)) (b (n + 2))))),
      )

  -- one way: the wires from f on say in which digits the words differ
  pub above_law : (n f x y s w : ℕ) → Holds W f (differences x y w) → Holds W n (above n f x s w)
      → (number W y 1 w < number W x 1 w + W s → W (chain_end n s w) ≡ 1) × (number W x 1 w + W s ≤ number W y 1 w → W (chain_end n s w) ≡ 0)
  above_law n f x y s zero g h = unfold chain_end number in ((λ l. omega (arith, b s, l)), (λ l. omega (arith, l)))
  above_law n f x y s (suc w) g h =
      let differ = differences (x + 1) (y + 1) w in
      let rest = above (n + 1) (f + 1) (x + 1) n w in
      let g' : Holds W f (xor_of x y ∷ differ) = unfold differences in g in
      let h' : Holds W n (mux_of f x s ∷ rest) = unfold above in h in
      let m = holds_first W n (mux_of f x s) rest h' in
      let d = one_digit (W x) (W y) (W s) (W f) (W n) (b x) (b y) (b s) (holds_first W f (xor_of x y) differ g' ∙ xor_is W b x y)
      (λ e. m ∙ mux_zero (W f) (W x) (W s) e) (λ e. m ∙ mux_one (W f) (W x) (W s) e) in
      let r = above_law (n + 1) (f + 1) (x + 1) (y + 1) n w (holds_rest W f (xor_of x y) differ g') (holds_rest W n (mux_of f x s) rest h') in
      let e = ap W (chain_next n s w) in
      let mx = number_more W x 1 w in
      let my = number_more W y 1 w in (
        (λ (l : number W y 1 (suc w) < number W x 1 (suc w) + W s).
            sym e ∙ r.0 (⊎_elim (λ (z : W n ≡ 0). let k : W x + W s ≤ W y = not_one z d.0 in omega arith)
            (λ (z : W n ≡ 1). omega (arith, b x, b s)) (bit_cases (W n) (b n)))),
        (λ (l : number W x 1 (suc w) + W s ≤ number W y 1 (suc w)).
            sym e ∙ r.1 (⊎_elim (λ (z : W n ≡ 0). omega (arith, b y))
            (λ (z : W n ≡ 1). let k : W y < W x + W s = not_zero z d.1 in omega arith) (bit_cases (W n) (b n)))),
      )

  -- words of w + 1 digits, and a chain that starts with x's lowest digit: it gives 1 if x is above, 0 if x is
  -- below, and either if the words are equal
  pub above_words : (n f x y w : ℕ) → Holds W f (differences (x + 1) (y + 1) w) → Holds W n (above n f (x + 1) x w)
      → (number W y 1 (suc w) < number W x 1 (suc w) → W (chain_end n x w) ≡ 1)
      × (number W x 1 (suc w) < number W y 1 (suc w) → W (chain_end n x w) ≡ 0)
  above_words n f x y w g h =
      let r = above_law n f (x + 1) (y + 1) x w g h in
      let mx = number_more W x 1 w in
      let my = number_more W y 1 w in
      ((λ l. r.0 (omega (arith, mx, my, l, b x, b y))), (λ l. r.1 (omega (arith, mx, my, l, b x, b y))))

  -- so a result of 1 says that x is at least y, and 0 that it is at most y
  pub above_one : (n f x y w : ℕ) → Holds W f (differences (x + 1) (y + 1) w) → Holds W n (above n f (x + 1) x w)
      → W (chain_end n x w) ≡ 1 → number W y 1 (suc w) ≤ number W x 1 (suc w)
  above_one n f x y w g h e = let no : ¬ (number W x 1 (suc w) < number W y 1 (suc w)) = λ l. let z =
      (above_words n f x y w g h).1 l in omega arith in omega arith

  pub above_zero : (n f x y w : ℕ) → Holds W f (differences (x + 1) (y + 1) w) → Holds W n (above n f (x + 1) x w)
      → W (chain_end n x w) ≡ 0 → number W x 1 (suc w) ≤ number W y 1 (suc w)
  above_zero n f x y w g h e = let no : ¬ (number W y 1 (suc w) < number W x 1 (suc w)) = λ l. let z =
      (above_words n f x y w g h).0 l in omega arith in omega arith
