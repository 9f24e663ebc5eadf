-- What comparisons in two halves say, for every width and cut; their lengths, and that they are well-formed.
-- Assumes nothing.
use mathlib.Core.Path.{◌≡◌, ◌∙◌, refl, sym, ap, subst}
use mathlib.Core.Logic.{◌⊎◌, inl, inr, ⊎_elim, ◌≢◌}
use mathlib.Core.List.{List, [], ◌∷◌, ◌++◌}
use Prim.Native.Nat.{ℕ, zero, suc, ◌+◌, ◌-◌, ◌*◌, ◌^◌, ◌≤◌, ◌<◌}
use native.Mathlib.Nat.{add-zero, zero-add, suc-add, mul-suc, mul-le-mul_left}
use native.Mathlib.Omega.{arith}
use lib.ListN.{length, length-append}
use Rattle.gates.specs.Gate.{Gate}
use Rattle.gates.proofs.Laws.{Holds, AllGood, holds_append, mux_zero, mux_one}
use Rattle.gate_words.specs.Gates.{or_of, xor_of, mux_of}
use Rattle.gate_words.specs.Word.{ones_at, number, Below}
use Rattle.gate_words.specs.Choice.{any_of, chain_end}
use Rattle.gate_words.specs.Comparison.{differences, above}
use Rattle.gate_words.specs.Halves.{any_of_halves, unequal_halves, unequal_span, unequal_at, above_halves, high_unequal_at, compare_halves, compare_span, above_at, unequal_cut, compare_cut}
use Rattle.gate_words.proofs.Numbers.{Binary, number_none, number_more, number_split, number_less, ones_none, ones_more}
use Rattle.gate_words.proofs.GateValues.{holds_first, holds_rest, or_is, xor_is}
use Rattle.gate_words.proofs.ChoiceLaws.{any_one, any_zero}
use Rattle.gate_words.proofs.ChoiceSteps.{length_chain}
use Rattle.gate_words.proofs.WordSteps.{length_differences, length_above}
use Rattle.gate_words.proofs.ComparisonLaws.{above_words}
use Rattle.gate_words.proofs.Ends.{chain_below}
use Rattle.gate_words.proofs.PointsBack.{behind, good_or, good_mux, any_good, differences_good, above_good}

-- e says whether two numbers differ; if they do, s says whether the first is larger
pub record Tells (e s a c : ℕ) : Type 0 where
  pub same : a ≡ c → e ≡ 0
  pub differ : a ≢ c → e ≡ 1
  pub over : c < a → s ≡ 1
  pub under : a < c → s ≡ 0

-- a is below c, equal to it, or above it
three_ways : (P : Type 0) (a c : ℕ) → (a < c → P) → (a ≡ c → P) → (c < a → P) → P
three_ways P zero zero l e g = e refl
three_ways P zero (suc c) l e g = l (omega arith)
three_ways P (suc a) zero l e g = g (omega arith)
three_ways P (suc a) (suc c) l e g = three_ways P a c (λ h. l (omega arith)) (λ h. e (ap suc h)) (λ h. g (omega arith))

some_or_none : (o : ℕ) → (0 < o) ⊎ (o ≤ 0)
some_or_none zero = inr (omega arith)
some_or_none (suc o) = inl (omega arith)

positive : (o v : ℕ) → o ≡ v → (o ≡ 0 → ⊥) → 0 < v
positive zero v p z = absurd (z refl)
positive (suc o) v p z = omega arith

-- m neighbouring wires are below n if the last one is
pub beside : (n at m : ℕ) → at + m ≤ n → Below n at 1 m
beside n at zero h = tt
beside n at (suc m) h = (omega arith, beside n (at + 1) m (omega arith))

-- lengths

pub length_any_halves : (n s at l h : ℕ) → length (any_of_halves n s at l h) ≡ l + h
unfolding any_of_halves
length_any_halves n s at l zero = omega (arith, length_chain 5 n s at 1 l)
length_any_halves n s at l (suc h) =
    let low = any_of n s at 1 l in
    let high = any_of (n + l) (at + l) (at + l + 1) 1 h in
    let last = or_of (chain_end (n + l) (at + l) h) (chain_end n s l) ∷ [] in
    omega (
      arith,
      length-append (low ++ high) last,
      length-append low high,
      length_chain 5 n s at 1 l,
      length_chain 5 (n + l) (at + l) (at + l + 1) 1 h,
    )

pub length_unequal_halves : (n x y l h : ℕ) → length (unequal_halves n x y l h) ≡ unequal_span (l + h)
unfolding unequal_halves
length_unequal_halves n x y l h =
    omega (
      arith,
      length-append (differences x y (suc (l + h))) (any_of_halves (n + suc (l + h)) n (n + 1) l h),
      length_differences x y (suc (l + h)),
      length_any_halves (n + suc (l + h)) n (n + 1) l h,
    )

pub length_above_halves : (n f x e l h : ℕ) → length (above_halves n f x e l h) ≡ l + h
unfolding above_halves
length_above_halves n f x e l zero = omega (arith, length_above n (f + 1) (x + 1) x l)
length_above_halves n f x e l (suc h) =
    let low = above n (f + 1) (x + 1) x l in
    let high = above (n + l) (f + 1 + l + 1) (x + 1 + l + 1) (x + 1 + l) h in
    let last = mux_of e (chain_end (n + l) (x + 1 + l) h) (chain_end n x l) ∷ [] in
    omega (
      arith,
      length-append (low ++ high) last,
      length-append low high,
      length_above n (f + 1) (x + 1) x l,
      length_above (n + l) (f + 1 + l + 1) (x + 1 + l + 1) (x + 1 + l) h,
    )

pub length_compare_halves : (n x y l h : ℕ) → length (compare_halves n x y l h) ≡ compare_span (l + h)
unfolding compare_halves
length_compare_halves n x y l h =
    omega (
      arith,
      length-append (unequal_halves n x y l h)
          (above_halves (n + unequal_span (l + h)) n x (high_unequal_at n l h) l h),
      length_unequal_halves n x y l h,
      length_above_halves (n + unequal_span (l + h)) n x (high_unequal_at n l h) l h,
    )

-- with and without a high half

pub any_halves_none : (n s at l h : ℕ) → h ≡ 0 → any_of n s at 1 l ≡ any_of_halves n s at l h
unfolding any_of_halves
any_halves_none n s at l h e = rw e

pub any_halves_some : (n s at l h : ℕ) → 0 < h
    → any_of n s at 1 l ++ any_of (n + l) (at + l) (at + l + 1) 1 (h - 1)
    ++ (or_of (chain_end (n + l) (at + l) (h - 1)) (chain_end n s l) ∷ []) ≡ any_of_halves n s at l h
any_halves_some n s at l h p = let e : h ≡ suc (h - 1) = omega arith in sym (ap (any_of_halves n s at l) e ∙ (unfold any_of_halves in refl))

pub above_halves_none : (n f x e l h : ℕ) → h ≡ 0 → above n (f + 1) (x + 1) x l ≡ above_halves n f x e l h
unfolding above_halves
above_halves_none n f x e l h q = rw q

pub above_halves_some : (n f x e l h : ℕ) → 0 < h
    → above n (f + 1) (x + 1) x l ++ above (n + l) (f + 1 + l + 1) (x + 1 + l + 1) (x + 1 + l) (h - 1)
    ++ (mux_of e (chain_end (n + l) (x + 1 + l) (h - 1)) (chain_end n x l) ∷ []) ≡ above_halves n f x e l h
above_halves_some n f x e l h p = let q : h ≡ suc (h - 1) = omega arith in sym (ap (above_halves n f x e l) q ∙ (unfold above_halves in refl))

pub high_unequal_none : (n l h : ℕ) → h ≡ 0 → n ≡ high_unequal_at n l h
unfolding high_unequal_at
high_unequal_none n l h q = rw q

pub high_unequal_some : (n l h m : ℕ) → 0 < h → m ≡ n + suc (l + h) + l → chain_end m (n + 1 + l) (h - 1) ≡ high_unequal_at n l h
high_unequal_some n l h m p e =
    let q : h ≡ suc (h - 1) = omega arith in
    let f : m ≡ n + suc (l + suc (h - 1)) + l = omega arith in
    ap (λ (i : ℕ). chain_end i (n + 1 + l) (h - 1)) f ∙ sym (ap (high_unequal_at n l) q ∙ (unfold high_unequal_at in refl))

-- the wires with the results are below the end of the block

end_more : (n s l h : ℕ) → chain_end n s (l + suc h) ≡ n + l + h
unfolding chain_end
end_more n s l h =
    let e : l + suc h ≡ suc (l + h) = omega arith in
    let f : chain_end n s (suc (l + h)) ≡ n + l + h = omega arith in
    ap (chain_end n s) e ∙ f

pub high_unequal_below : (n l h m : ℕ) → n + unequal_span (l + h) ≤ m → high_unequal_at n l h < m
unfolding high_unequal_at
high_unequal_below n l zero m q = omega arith
high_unequal_below n l (suc h) m q = chain_below (n + suc (l + suc h) + l) (n + 1 + l) h m (omega arith) (omega arith)

-- well-formed

pub any_halves_good : (n s at l h : ℕ) → s < n → at + (l + h) ≤ n → AllGood n (any_of_halves n s at l h)
unfolding any_of_halves
any_halves_good n s at l zero hs ha = any_good n s at 1 l hs (beside n at l (omega arith))
any_halves_good n s at l (suc h) hs ha =
    let low = any_of n s at 1 l in
    let high = any_of (n + l) (at + l) (at + l + 1) 1 h in
    behind n (l + h) (low ++ high) (or_of (chain_end (n + l) (at + l) h) (chain_end n s l) ∷ [])
    (omega (arith, length-append low high, length_chain 5 n s at 1 l, length_chain 5 (n + l) (at + l) (at + l + 1) 1 h))
    (behind n l low high (length_chain 5 n s at 1 l) (any_good n s at 1 l hs (beside n at l (omega arith)))
    (any_good (n + l) (at + l) (at + l + 1) 1 h (omega arith) (beside (n + l) (at + l + 1) h (omega arith)))) (
      good_or (n + (l + h)) (chain_end (n + l) (at + l) h) (chain_end n s l)
          (chain_below (n + l) (at + l) h (n + (l + h)) (omega arith) (omega arith))
          (chain_below n s l (n + (l + h)) (omega arith) (omega arith)),
      tt,
    )

pub unequal_halves_good : (n x y l h : ℕ) → x + suc (l + h) ≤ n → y + suc (l + h) ≤ n → AllGood n (unequal_halves n x y l h)
unfolding unequal_halves
unequal_halves_good n x y l h hx hy =
    behind n (suc (l + h)) (differences x y (suc (l + h))) (any_of_halves (n + suc (l + h)) n (n + 1) l h)
    (length_differences x y (suc (l + h)))
    (differences_good n x y (suc (l + h)) hx hy) (any_halves_good (n + suc (l + h)) n (n + 1) l h (omega arith) (omega arith))

pub above_halves_good : (n f x e l h : ℕ) → f + suc (l + h) ≤ n → x + suc (l + h) ≤ n → e < n → AllGood n (above_halves n f x e l h)
unfolding above_halves
above_halves_good n f x e l zero hf hx he = above_good n (f + 1) (x + 1) x l (omega arith) (omega arith) (omega arith)
above_halves_good n f x e l (suc h) hf hx he =
    let low = above n (f + 1) (x + 1) x l in
    let high = above (n + l) (f + 1 + l + 1) (x + 1 + l + 1) (x + 1 + l) h in
    behind n (l + h) (low ++ high) (mux_of e (chain_end (n + l) (x + 1 + l) h) (chain_end n x l) ∷ [])
    (omega (
      arith,
      length-append low high,
      length_above n (f + 1) (x + 1) x l,
      length_above (n + l) (f + 1 + l + 1) (x + 1 + l + 1) (x + 1 + l) h,
    ))
    (behind n l low high (length_above n (f + 1) (x + 1) x l) (above_good n (f + 1) (x + 1) x l (omega arith) (omega arith) (omega arith))
    (above_good (n + l) (f + 1 + l + 1) (x + 1 + l + 1) (x + 1 + l) h (omega arith) (omega arith) (omega arith))) (
      good_mux (n + (l + h)) e (chain_end (n + l) (x + 1 + l) h) (chain_end n x l) (omega arith)
          (chain_below (n + l) (x + 1 + l) h (n + (l + h)) (omega arith) (omega arith))
          (chain_below n x l (n + (l + h)) (omega arith) (omega arith)),
      tt,
    )

pub compare_halves_good : (n x y l h : ℕ) → x + suc (l + h) ≤ n → y + suc (l + h) ≤ n → AllGood n (compare_halves n x y l h)
unfolding compare_halves
compare_halves_good n x y l h hx hy =
    behind n (unequal_span (l + h)) (unequal_halves n x y l h) (above_halves (n + unequal_span (l + h)) n x (high_unequal_at n l h) l h)
    (length_unequal_halves n x y l h) (unequal_halves_good n x y l h hx hy)
    (above_halves_good (n + unequal_span (l + h)) n x (high_unequal_at n l h) l h (omega arith) (omega arith)
    (high_unequal_below n l h (n + unequal_span (l + h)) (omega arith)))

-- the differences of v low digits, and of the w digits above them
differences_parts : (x y v w : ℕ) → differences x y (v + w) ≡ differences x y v ++ differences (x + v) (y + v) w
unfolding differences
differences_parts x y zero w = rw (zero-add w, add-zero x, add-zero y)
differences_parts x y (suc v) w =
    let e₁ : x + suc v ≡ x + 1 + v = omega arith in
    let e₂ : y + suc v ≡ y + 1 + v = omega arith in
    rw (suc-add v w, e₁, e₂) (ap (λ (gs : List Gate). xor_of x y ∷ gs) (differences_parts (x + 1) (y + 1) v w))

-- three blocks in a row
cut3 : (W : ℕ → ℕ) (n : ℕ) (gs hs is : List Gate) (k l : ℕ) → n + length gs ≡ k → k + length hs ≡ l
    → Holds W n (gs ++ hs ++ is) → Holds W n gs × Holds W k hs × Holds W l is
cut3 W n gs hs is k l e₁ e₂ h =
    let s = holds_append W n (gs ++ hs) is h in
    let t = holds_append W n gs hs s.0 in
    let e₃ : n + length (gs ++ hs) ≡ l = omega (arith, length-append gs hs) in
    (t.0, subst (λ (i : ℕ). Holds W i hs) e₁ t.1, subst (λ (i : ℕ). Holds W i is) e₃ s.1)

-- what both halves say together: if the high halves differ, they decide
joined : {e₁ s₁ a₁ c₁ e₀ s₀ a₀ c₀ e s a c : ℕ} → Tells e₁ s₁ a₁ c₁ → Tells e₀ s₀ a₀ c₀
    → (a₁ < c₁ → a < c) → (c₁ < a₁ → c < a) → (a₁ ≡ c₁ → a + c₀ ≡ c + a₀)
    → (e₁ ≡ 1 → e ≡ 1) → (e₁ ≡ 0 → e ≡ e₀) → (e₁ ≡ 1 → s ≡ s₁) → (e₁ ≡ 0 → s ≡ s₀) → Tells e s a c
joined {e₁} {s₁} {a₁} {c₁} {e₀} {s₀} {a₀} {c₀} {e} {s} {a} {c} t₁ t₀ less more even e_high e_low s_high s_low =
    three_ways (Tells e s a c) a₁ c₁
    (λ h. let l = less h in let d = t₁.differ (λ z. unlike h z) in
    record {
      same = λ z. absurd (omega arith);
      differ = λ z. e_high d;
      over = λ z. absurd (omega arith);
      under =
          λ z. s_high d ∙ t₁.under h;
    })
    (λ h. let z₁ = t₁.same h in let q = even h in
    record {
      same = λ z. e_low z₁ ∙ t₀.same (omega arith);
      differ = λ z. e_low z₁ ∙ t₀.differ (λ k. z (omega arith));
      over = λ z. s_low z₁ ∙ t₀.over (omega arith);
      under = λ z. s_low z₁ ∙ t₀.under (omega arith);
    })
    (λ h. let l = more h in let d = t₁.differ (λ z. unlike h (sym z)) in
    record {
      same = λ z. absurd (omega arith);
      differ = λ z. e_high d;
      over = λ z. s_high d ∙ t₁.over h;
      under =
          λ z. absurd (omega arith);
    })
  where
    unlike : {u v : ℕ} → u < v → u ≡ v → ⊥
    unlike h z = omega arith

module _ (W : ℕ → ℕ) (b : Binary W) where
  -- words are equal exactly if no digit differs
  differ_none : (n x y w : ℕ) → number W x 1 w ≡ number W y 1 w → Holds W n (differences x y w) → ones_at W n 1 w ≡ 0
  unfolding differences
  differ_none n x y zero e h = ones_none W n 1
  differ_none n x y (suc w) e h =
      let rest = differences (x + 1) (y + 1) w in
      let g = holds_first W n (xor_of x y) rest h ∙ xor_is W b x y in
      let mx = number_more W x 1 w in
      let my = number_more W y 1 w in
      let r = differ_none (n + 1) (x + 1) (y + 1) w (omega (arith, b x, b y)) (holds_rest W n (xor_of x y) rest h) in
      omega (arith, g, r, mx, my, e, b x, b y, ones_more W n 1 w)

  same_none : (n x y w : ℕ) → ones_at W n 1 w ≡ 0 → Holds W n (differences x y w) → number W x 1 w ≡ number W y 1 w
  unfolding differences
  same_none n x y zero e h = omega (arith, number_none W x 1, number_none W y 1)
  same_none n x y (suc w) e h =
      let rest = differences (x + 1) (y + 1) w in
      let g = holds_first W n (xor_of x y) rest h ∙ xor_is W b x y in
      let o = ones_more W n 1 w in
      let r = same_none (n + 1) (x + 1) (y + 1) w (omega arith) (holds_rest W n (xor_of x y) rest h) in
      omega (arith, g, r, number_more W x 1 w, number_more W y 1 w, b x, b y)

  rest_of : (d x y w : ℕ) → Holds W d (differences x y (suc w)) → Holds W (d + 1) (differences (x + 1) (y + 1) w)
  rest_of d x y w g = holds_rest W d (xor_of x y) (differences (x + 1) (y + 1) w) (unfold differences in g)

  -- whether a half differs
  half_zero : (d n x y w : ℕ) → number W x 1 (suc w) ≡ number W y 1 (suc w) → Holds W d (differences x y (suc w))
      → Holds W n (any_of n d (d + 1) 1 w) → W (chain_end n d w) ≡ 0
  half_zero d n x y w e g h = any_zero W b n d (d + 1) 1 w (omega (arith, differ_none d x y (suc w) e g, ones_more W d 1 w)) h

  half_one : (d n x y w : ℕ) → number W x 1 (suc w) ≢ number W y 1 (suc w) → Holds W d (differences x y (suc w))
      → Holds W n (any_of n d (d + 1) 1 w) → W (chain_end n d w) ≡ 1
  half_one d n x y w e g h =
      any_one W b n d (d + 1) 1 w (positive (ones_at W d 1 (suc w)) (W d + ones_at W (d + 1) 1 w) (ones_more W d 1 w)
      (λ z. e (same_none d x y (suc w) z g))) h

  -- words in two parts: the high parts decide; if they are equal, the low parts do
  high_less : (x y v w : ℕ) → number W (x + v) 1 w < number W (y + v) 1 w → number W x 1 (v + w) < number W y 1 (v + w)
  high_less x y v w h =
      let p = 2 ^ v in
      let hx = number W (x + v) 1 w in
      let hy = number W (y + v) 1 w in
      omega (
        arith,
        number_split W x v w,
        number_split W y v w,
        number_less W b x 1 v,
        mul-le-mul_left {m = suc hx} {n = hy} p (omega arith),
        mul-suc p hx,
      )

  high_same : (x y v w : ℕ) → number W (x + v) 1 w ≡ number W (y + v) 1 w → number W x 1 (v + w) + number W y 1 v
      ≡ number W y 1 (v + w) + number W x 1 v
  high_same x y v w e = omega (arith, number_split W x v w, number_split W y v w, ap (λ (k : ℕ). 2 ^ v * k) e)

  -- the differences of both halves
  both_halves : (n x y l h : ℕ) → Holds W n (differences x y (suc (l + suc h)))
      → Holds W n (differences x y (suc l)) × Holds W (n + 1 + l) (differences (x + 1 + l) (y + 1 + l) (suc h))
  both_halves n x y l h g =
      let low = differences x y (suc l) in
      let high = differences (x + suc l) (y + suc l) (suc h) in
      let e : suc (l + suc h) ≡ suc l + suc h = sym (suc-add l (suc h)) in
      let s = holds_append W n low high
      (subst (λ (gs : List Gate). Holds W n gs) (ap (differences x y) e ∙ differences_parts x y (suc l) (suc h))
      g) in
      let p : n + length low ≡ n + 1 + l = omega (arith, length_differences x y (suc l)) in
      let qx : x + suc l ≡ x + 1 + l = omega arith in
      let qy : y + suc l ≡ y + 1 + l = omega arith in (
        s.0,
        subst (λ (i : ℕ). Holds W i (differences (x + 1 + l) (y + 1 + l) (suc h))) p
            (subst (λ (gs : List Gate). Holds W (n + length low) gs)
            (ap (λ (i : ℕ). differences i (y + suc l) (suc h)) qx
            ∙ ap (λ (i : ℕ). differences (x + 1 + l) i (suc h)) qy) s.1),
      )

  cut_unequal : (n x y l h : ℕ) → Holds W n (unequal_halves n x y l h) → Holds W n (differences x y (suc (l + h)))
      × Holds W (n + suc (l + h)) (any_of_halves (n + suc (l + h)) n (n + 1) l h)
  unfolding unequal_halves
  cut_unequal n x y l h g =
      let s = holds_append W n (differences x y (suc (l + h))) (any_of_halves (n + suc (l + h)) n (n + 1) l h) g in
      (s.0, subst (λ (i : ℕ). Holds W (n + i) (any_of_halves (n + suc (l + h)) n (n + 1) l h)) (length_differences x y (suc (l + h))) s.1)

  -- the two chains and the gate that joins them
  cut_any : (n s at l h : ℕ) → Holds W n (any_of_halves n s at l (suc h))
      → Holds W n (any_of n s at 1 l) × Holds W (n + l) (any_of (n + l) (at + l) (at + l + 1) 1 h)
      × Holds W (n + l + h) (or_of (chain_end (n + l) (at + l) h) (chain_end n s l) ∷ [])
  unfolding any_of_halves
  cut_any n s at l h g =
      cut3 W n (any_of n s at 1 l) (any_of (n + l) (at + l) (at + l + 1) 1 h)
      (or_of (chain_end (n + l) (at + l) h) (chain_end n s l) ∷ []) (n + l) (n + l + h)
      (omega (arith, length_chain 5 n s at 1 l)) (omega (arith, length_chain 5 (n + l) (at + l) (at + l + 1) 1 h)) g

  cut_above : (n f x e l h : ℕ) → Holds W n (above_halves n f x e l (suc h))
      → Holds W n (above n (f + 1) (x + 1) x l) × Holds W (n + l) (above (n + l) (f + 1 + l + 1) (x + 1 + l + 1) (x + 1 + l) h)
      × Holds W (n + l + h) (mux_of e (chain_end (n + l) (x + 1 + l) h) (chain_end n x l) ∷ [])
  unfolding above_halves
  cut_above n f x e l h g =
      cut3 W n (above n (f + 1) (x + 1) x l) (above (n + l) (f + 1 + l + 1) (x + 1 + l + 1) (x + 1 + l) h)
      (mux_of e (chain_end (n + l) (x + 1 + l) h) (chain_end n x l) ∷ []) (n + l) (n + l + h)
      (omega (arith, length_above n (f + 1) (x + 1) x l))
      (omega (arith, length_above (n + l) (f + 1 + l + 1) (x + 1 + l + 1) (x + 1 + l) h)) g

  cut_compare : (n x y l h : ℕ) → Holds W n (compare_halves n x y l h)
      → Holds W n (unequal_halves n x y l h)
      × Holds W (n + unequal_span (l + h)) (above_halves (n + unequal_span (l + h)) n x (high_unequal_at n l h) l h)
  unfolding compare_halves
  cut_compare n x y l h g =
      let s = holds_append W n (unequal_halves n x y l h) (above_halves (n + unequal_span (l + h)) n x (high_unequal_at n l h) l h) g in (
        s.0,
        subst (λ (i : ℕ). Holds W (n + i)
            (above_halves (n + unequal_span (l + h)) n x (high_unequal_at n l h) l h)) (length_unequal_halves n x y l h)
            s.1,
      )

  -- one half: whether it differs, and which word is above
  half_tells : (d n m x y w : ℕ) → Holds W d (differences x y (suc w)) → Holds W n (any_of n d (d + 1) 1 w)
      → Holds W m (above m (d + 1) (x + 1) x w)
      → Tells (W (chain_end n d w)) (W (chain_end m x w)) (number W x 1 (suc w)) (number W y 1 (suc w))
  half_tells d n m x y w g h k =
      let r = above_words W b m (d + 1) x y w (rest_of d x y w g) k in
      record { same = λ e. half_zero d n x y w e g h; differ = λ e. half_one d n x y w e g h; over = r.0; under = r.1 }

  pub compare_halves_law : (n x y l h : ℕ) → Holds W n (compare_halves n x y l h)
      → Tells (W (unequal_at n (l + h))) (W (above_at n x (l + h))) (number W x 1 (suc (l + h))) (number W y 1 (suc (l + h)))
  compare_halves_law n x y l zero g =
      let s = cut_compare n x y l zero g in
      let u = cut_unequal n x y l zero s.0 in
      let z : suc (l + zero) ≡ suc l = ap suc (add-zero l) in
      let t = half_tells n (n + suc (l + zero)) (n + unequal_span (l + zero)) x y l
      (subst (λ (i : ℕ). Holds W n (differences x y i)) z u.0) (unfold any_of_halves in u.1)
      (unfold above_halves in s.1) in
      let z' : l ≡ l + zero = sym (add-zero l) in
      subst (λ (i : ℕ). Tells (W (chain_end (n + suc (l + zero)) n i))
      (W (chain_end (n + unequal_span (l + zero)) x i)) (number W x 1 (suc i)) (number W y 1 (suc i))) z' t
  compare_halves_law n x y l (suc h) g =
      let s = cut_compare n x y l (suc h) g in
      let u = cut_unequal n x y l (suc h) s.0 in
      let d = both_halves n x y l h u.0 in
      let m = n + suc (l + suc h) in
      let k = n + unequal_span (l + suc h) in
      let e₁ = high_unequal_at n l (suc h) in
      let i = cut_any m n (n + 1) l h u.1 in
      let j = cut_above k n x e₁ l h s.1 in
      let low = half_tells n m k x y l d.0 i.0 j.0 in
      let high = half_tells (n + 1 + l) (m + l) (k + l) (x + 1 + l) (y + 1 + l) h d.1 i.1 j.1 in
      let lo = chain_end m n l in
      let hi = chain_end (m + l) (n + 1 + l) h in
      let ge = holds_first W (m + l + h) (or_of hi lo) [] i.2 ∙ or_is W b hi lo in
      let same : e₁ ≡ hi = unfold high_unequal_at in refl in
      let gs = holds_first W (k + l + h) (mux_of e₁ (chain_end (k + l) (x + 1 + l) h) (chain_end k x l)) [] j.2 in
      let px : x + suc l ≡ x + 1 + l = omega arith in
      let py : y + suc l ≡ y + 1 + l = omega arith in
      let whole : suc l + suc h ≡ suc (l + suc h) = suc-add l (suc h) in
      rw (end_more m n l h, end_more k x l h) (joined high low
      (λ q. parts_less x y l h whole px py q)
      (λ q. parts_less y x l h whole py px q)
      (λ q. parts_same x y l h whole px py q)
      (λ q. omega (arith, ge, b lo))
      (λ q. omega (arith, ge, b lo))
      (λ q. gs ∙ mux_one (W e₁) (W (chain_end (k + l) (x + 1 + l) h)) (W (chain_end k x l)) (ap W same ∙ q))
      (λ q. gs ∙ mux_zero (W e₁) (W (chain_end (k + l) (x + 1 + l) h)) (W (chain_end k x l)) (ap W same ∙ q)))
    where
      parts_less : (x y l h : ℕ) → suc l + suc h ≡ suc (l + suc h) → x + suc l ≡ x + 1 + l → y + suc l ≡ y + 1 + l
          → number W (x + 1 + l) 1 (suc h) < number W (y + 1 + l) 1 (suc h) → number W x 1 (suc (l + suc h))
          < number W y 1 (suc (l + suc h))
      parts_less x y l h e px py q = rw (← e) (high_less x y (suc l) (suc h) (rw (px, py) q))

      parts_same : (x y l h : ℕ) → suc l + suc h ≡ suc (l + suc h) → x + suc l ≡ x + 1 + l → y + suc l ≡ y + 1 + l
          → number W (x + 1 + l) 1 (suc h) ≡ number W (y + 1 + l) 1 (suc h) → number W x 1 (suc (l + suc h))
          + number W y 1 (suc l) ≡ number W y 1 (suc (l + suc h)) + number W x 1 (suc l)
      parts_same x y l h e px py q = rw (← e) (high_same x y (suc l) (suc h) (rw (px, py) q))

  -- whether words differ, without which is above
  ones_parts : (at l h : ℕ) → ones_at W at 1 (l + h) ≡ ones_at W at 1 l + ones_at W (at + l) 1 h
  ones_parts at zero h = rw (zero-add h, add-zero at) (omega (arith, ones_none W at 1))
  ones_parts at (suc l) h =
      let place : at + suc l ≡ at + 1 + l = omega arith in
      rw (suc-add l h, place) (omega (arith, ones_more W at 1 (l + h), ones_more W at 1 l, ones_parts (at + 1) l h))

  pub any_halves_zero : (n s at l h : ℕ) → W s + ones_at W at 1 (l + h) ≡ 0 → Holds W n (any_of_halves n s at l h) → W (chain_end n s (l + h)) ≡ 0
  any_halves_zero n s at l zero e g =
      ap (λ (i : ℕ). W (chain_end n s i)) (add-zero l)
      ∙ any_zero W b n s at 1 l (omega (arith, ap (ones_at W at 1) (add-zero l))) (unfold any_of_halves in g)
  any_halves_zero n s at l (suc h) e g =
      let i = cut_any n s at l h g in
      let p = ones_parts at l (suc h) in
      let m = ones_more W (at + l) 1 h in
      let lo = any_zero W b n s at 1 l (omega arith) i.0 in
      let hi = any_zero W b (n + l) (at + l) (at + l + 1) 1 h (omega arith) i.1 in
      let o = holds_first W (n + l + h) (or_of (chain_end (n + l) (at + l) h) (chain_end n s l)) [] i.2
      ∙ or_is W b (chain_end (n + l) (at + l) h) (chain_end n s l) in
      ap W (end_more n s l h) ∙ omega arith

  pub any_halves_one : (n s at l h : ℕ) → 0 < W s + ones_at W at 1 (l + h) → Holds W n (any_of_halves n s at l h) → W (chain_end n s (l + h)) ≡ 1
  any_halves_one n s at l zero e g =
      ap (λ (i : ℕ). W (chain_end n s i)) (add-zero l)
      ∙ any_one W b n s at 1 l (omega (arith, ap (ones_at W at 1) (add-zero l))) (unfold any_of_halves in g)
  any_halves_one n s at l (suc h) e g =
      let i = cut_any n s at l h g in
      let lo = chain_end n s l in
      let hi = chain_end (n + l) (at + l) h in
      let o = holds_first W (n + l + h) (or_of hi lo) [] i.2 ∙ or_is W b hi lo in
      ap W (end_more n s l h) ∙ ⊎_elim
      (λ (z : 0 < W s + ones_at W at 1 l). omega (arith, any_one W b n s at 1 l z i.0, b hi))
      (λ (z : W s + ones_at W at 1 l ≤ 0).
      omega (
        arith,
        b lo,
        any_one W b (n + l) (at + l) (at + l + 1) 1 h
            (omega (arith, ones_parts at l (suc h), ones_more W (at + l) 1 h)) i.1,
      ))
      (some_or_none (W s + ones_at W at 1 l))

  pub unequal_halves_zero : (n x y l h : ℕ) → number W x 1 (suc (l + h)) ≡ number W y 1 (suc (l + h))
      → Holds W n (unequal_halves n x y l h) → W (unequal_at n (l + h)) ≡ 0
  unequal_halves_zero n x y l h e g =
      let u = cut_unequal n x y l h g in
      any_halves_zero (n + suc (l + h)) n (n + 1) l h
      (omega (arith, differ_none n x y (suc (l + h)) e u.0, ones_more W n 1 (l + h))) u.1

  pub unequal_halves_one : (n x y l h : ℕ) → number W x 1 (suc (l + h)) ≢ number W y 1 (suc (l + h))
      → Holds W n (unequal_halves n x y l h) → W (unequal_at n (l + h)) ≡ 1
  unequal_halves_one n x y l h e g =
      let u = cut_unequal n x y l h g in
      any_halves_one (n + suc (l + h)) n (n + 1) l h
      (positive (ones_at W n 1 (suc (l + h))) (W n + ones_at W (n + 1) 1 (l + h)) (ones_more W n 1 (l + h))
      (λ z. e (same_none n x y (suc (l + h)) z u.0))) u.1

-- the two parts of a cut word have all its digits
whole_word : (w h : ℕ) → h ≤ w → w - h + h ≡ w
whole_word w h q = omega arith

module _ (n x y w h : ℕ) (q : h ≤ w) where
  pub length_unequal_cut : length (unequal_cut n x y w h) ≡ unequal_span w
  length_unequal_cut = length_unequal_halves n x y (w - h) h ∙ ap unequal_span (whole_word w h q)

  pub length_compare_cut : length (compare_cut n x y w h) ≡ compare_span w
  length_compare_cut = length_compare_halves n x y (w - h) h ∙ ap compare_span (whole_word w h q)

  pub unequal_cut_good : x + suc w ≤ n → y + suc w ≤ n → AllGood n (unequal_cut n x y w h)
  unequal_cut_good hx hy = unequal_halves_good n x y (w - h) h (omega (arith, whole_word w h q)) (omega (arith, whole_word w h q))

  pub compare_cut_good : x + suc w ≤ n → y + suc w ≤ n → AllGood n (compare_cut n x y w h)
  compare_cut_good hx hy = compare_halves_good n x y (w - h) h (omega (arith, whole_word w h q)) (omega (arith, whole_word w h q))

  module _ (W : ℕ → ℕ) (b : Binary W) where
    pub unequal_cut_zero : number W x 1 (suc w) ≡ number W y 1 (suc w) → Holds W n (unequal_cut n x y w h) → W (unequal_at n w) ≡ 0
    unequal_cut_zero =
        subst (λ (i : ℕ). number W x 1 (suc i) ≡ number W y 1 (suc i) → Holds W n (unequal_cut n x y w h)
        → W (unequal_at n i) ≡ 0) (whole_word w h q) (unequal_halves_zero W b n x y (w - h) h)

    pub unequal_cut_one : number W x 1 (suc w) ≢ number W y 1 (suc w) → Holds W n (unequal_cut n x y w h) → W (unequal_at n w) ≡ 1
    unequal_cut_one =
        subst (λ (i : ℕ). number W x 1 (suc i) ≢ number W y 1 (suc i) → Holds W n (unequal_cut n x y w h)
        → W (unequal_at n i) ≡ 1) (whole_word w h q) (unequal_halves_one W b n x y (w - h) h)

    pub compare_cut_law : Holds W n (compare_cut n x y w h)
        → Tells (W (unequal_at n w)) (W (above_at n x w)) (number W x 1 (suc w)) (number W y 1 (suc w))
    compare_cut_law g =
        subst (λ (i : ℕ). Tells (W (unequal_at n i)) (W (above_at n x i)) (number W x 1 (suc i))
        (number W y 1 (suc i))) (whole_word w h q) (compare_halves_law W b n x y (w - h) h g)
