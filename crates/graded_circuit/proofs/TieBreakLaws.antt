-- Which of two keys with equal medians comes first, by the wires of their comparison.
-- Assumes nothing.
use mathlib.Core.Path.{◌≡◌, ◌∙◌, sym, ap, subst}
use mathlib.Core.Logic.{◌⊎◌, inl, inr, ⊎_elim, ◌≢◌}
use mathlib.Core.List.{[], ◌∷◌}
use Prim.Native.Nat.{ℕ, zero, suc, ◌+◌, ◌-◌, ◌*◌, ◌%◌, ◌^◌, ◌≤◌, ◌<◌, min, max}
use native.Mathlib.Nat.{suc-mul, zero-mul}
use native.Mathlib.Omega.{arith}
use Rattle.gates.proofs.Laws.{Holds, mux_zero, mux_one}
use Rattle.basics.proofs.Cases.{below_or_not}
use Rattle.gate_words.specs.Gates.{not_of, and_of, or_of, xor_of, mux_of}
use Rattle.gate_words.specs.Halves.{unequal_at, compare_cut, compare_span, above_at}
use Rattle.gate_words.specs.Reach.{reach, reach_last, reach_span}
use Rattle.gate_words.proofs.Numbers.{Binary}
use Rattle.gate_words.proofs.GateValues.{value_on, holds_first, holds_three, not_is, and_is, or_is, xor_is}
use Rattle.gate_words.proofs.HalvesLaws.{Tells, compare_cut_law}
use Rattle.gate_words.proofs.ReachLaws.{Reaches, length_reach, reach_law}
use Rattle.graded_circuit.specs.declared.plan.Plan.{Plan}
use Rattle.graded_circuit.specs.Plan.{Planned}
use Rattle.graded_circuit.specs.Nearest.{stride, sides, side_span, below_at, from_at, last_words, first_words}
use Rattle.graded_circuit.specs.TieBreak.{down_at, up_at, nearest_end, far_at, nearest, down_left, down_right, up_left, up_right, chosen_high, compare_and_reach, left_carry, right_carry, resolve, resolve_at, tie_break}
use Rattle.graded_circuit.proofs.Cutting.{cut3, cut4}
use Rattle.graded_circuit.proofs.Blocks.{compare_block}
use Rattle.graded_circuit.proofs.SumLaws.{Sums, Word, Spells}
use Rattle.graded_circuit.proofs.NearestLaws.{Side, sides_block, last_of_block, sides_law, spelled, flag_at, word_of, Absent, LastAt, FirstAt, last_of_law, first_of_law}
use Rattle.graded_circuit.proofs.Near.{Near, near_flip, Decides, lower_decides, upper_decides, all_same}
use Rattle.graded_circuit.proofs.TieBreakBlocks.{chosen_high_lem, nearest_block, compare_and_reach_block, down_left_below, down_right_below, up_left_below, up_right_below}
use Rattle.basics.proofs.Arithmetic.{bit_cases}

-- some grade decides for the row A
pub record Ahead (n d : ℕ) (A C : ℕ → ℕ) : Type 0 where
  pub grade : ℕ
  pub decides : Decides n d A C grade

-- e says whether two rows differ; if they do, s says whether A comes first
abbrev pub Outcome : ℕ → ℕ → ℕ → ℕ → (ℕ → ℕ) → (ℕ → ℕ) → Type 0
Outcome e s n d A C = ((e ≡ 0) × ((g : ℕ) → g < d → A g ≡ C g)) ⊎
    (((e ≡ 1) × (s ≡ 1) × Ahead n d A C) ⊎ ((e ≡ 1) × (s ≡ 0) × Ahead n d C A))

-- two numbers: equal, the first larger, or the second larger
pub three_ways : (a c : ℕ) → (a ≡ c) ⊎ ((c < a) ⊎ (a < c))
three_ways a c = ⊎_elim (λ (l : a < c). inr (inr l))
    (λ (l : c ≤ a). ⊎_elim (λ (k : c < a). inr (inl k)) (λ (k : a ≤ c). inl (omega arith)) (below_or_not c a))
    (below_or_not a c)

-- what single gates compute
xor_one : (x y z : ℕ) → z ≡ (x + y) % 2 → x + y ≡ 1 → z ≡ 1
xor_one x y z p q = omega arith

xor_same : (x y z : ℕ) → z ≡ (x + y) % 2 → x ≡ y → z ≡ 0
xor_same x y z p q = omega arith

xor_none : (x y z v : ℕ) → z ≡ (x + y) % 2 → x ≡ v → v ≤ 1 → y ≡ 0 → z ≡ v
xor_none x y z v p q l o = omega arith

xor_back : (x y d u t z : ℕ) → x ≤ 1 → y ≤ 1 → d ≡ (x + y) % 2 → u ≡ y → t ≡ d → z ≡ (u + t) % 2 → z ≡ x
xor_back x y d u t z hx hy p q o r = omega arith

not_of_lem : (x z : ℕ) → z ≡ 1 - x → x ≡ 1 → z ≡ 0
not_of_lem x z p q = omega arith

not_of' : (x z : ℕ) → z ≡ 1 - x → x ≡ 0 → z ≡ 1
not_of' x z p q = omega arith

not_sum : (x z : ℕ) → x ≤ 1 → z ≡ 1 - x → z + x ≡ 1
not_sum x z l p = omega arith

or_left : (x y z : ℕ) → z ≡ max x y → x ≡ 1 → y ≤ 1 → z ≡ 1
or_left x y z p q l = omega arith

or_right : (x y z : ℕ) → z ≡ max x y → x ≡ 0 → z ≡ y
or_right x y z p q = omega arith

and_none : (x y z : ℕ) → z ≡ min x y → y ≡ 0 → z ≡ 0
and_none x y z p q = omega arith

and_none' : (x y z : ℕ) → z ≡ min x y → x ≡ 0 → z ≡ 0
and_none' x y z p q = omega arith

and_both : (x y z : ℕ) → z ≡ min x y → x ≡ 1 → y ≡ 1 → z ≡ 1
and_both x y z p q r = omega arith

-- "or" of two bits, from their "and" and their sum modulo 2
either_of : (x y u v z : ℕ) → x ≤ 1 → y ≤ 1 → u ≡ min x y → v ≡ (x + y) % 2 → z ≡ (v + u) % 2
    → (x ≡ 0 → y ≡ 0 → z ≡ 0) × (x ≡ 1 → z ≡ 1) × (y ≡ 1 → z ≡ 1)
either_of x y u v z hx hy p q r = ((λ i k. omega arith), (λ i. omega arith), (λ i. omega arith))

-- the conjunction of four bits, by three gates: 0 if o, m or l is 0, otherwise c
turns : (c o t m u l v : ℕ) → c ≤ 1 → t ≡ min c o → u ≡ min m t → v ≡ min u l → (o ≡ 0 → v ≡ 0) × (m ≡ 0 → v ≡ 0)
    × (l ≡ 0 → v ≡ 0) × (o ≡ 1 → m ≡ 1 → l ≡ 1 → v ≡ c)
turns c o t m u l v hc p q r = ((λ i. omega arith), (λ i. omega arith), (λ i. omega arith), (λ i k h. omega arith))

module _ (W : ℕ → ℕ) (b : Binary W) where
  -- What `resolve` says, in terms of the wires that it is given.
  pub record Resolved (n e s e₁ s₁ e₂ s₂ j k f g : ℕ) : Type 0 where
    pub left_sum : W f + W g ≡ 1 → W s₁ ≡ 1 → W (n + 3) ≡ W j
    pub right_sum : W f + W g ≡ 1 → W s₁ ≡ 0 → W (n + 3) ≡ W k
    pub one_side : W f ≡ W g → W (n + 3) + W f ≡ 1
    pub medians : W e ≡ 1 → (W (n + 14) ≡ 1) × (W (n + 15) ≡ W s)
    pub neither : W e ≡ 0 → W e₁ ≡ 0 → W e₂ ≡ 0 → W (n + 14) ≡ 0
    pub lower_only : W e ≡ 0 → W e₁ ≡ 1 → W e₂ ≡ 0 → (W (n + 14) ≡ 1) × (W (n + 15) ≡ W s₁)
    pub upper_only : W e ≡ 0 → W e₁ ≡ 0 → W e₂ ≡ 1 → (W (n + 14) ≡ 1) × (W (n + 15) ≡ W s₂)
    pub lower_first : W e ≡ 0 → W e₁ ≡ 1 → W e₂ ≡ 1 → W (n + 3) ≡ 1 → (W (n + 14) ≡ 1) × (W (n + 15) ≡ W s₁)
    pub upper_first : W e ≡ 0 → W e₁ ≡ 1 → W e₂ ≡ 1 → W (n + 3) ≡ 0 → (W (n + 14) ≡ 1) × (W (n + 15) ≡ W s₂)

  pub resolve_law : (n e s e₁ s₁ e₂ s₂ j k f g : ℕ) → Holds W n (resolve n e s e₁ s₁ e₂ s₂ j k f g) → Resolved n e s e₁ s₁ e₂ s₂ j k f g
  unfolding resolve
  resolve_law n e s e₁ s₁ e₂ s₂ j k f g h =
      let g₃ = mux_of (n + 2) n (n + 1) in
      let g₄ = and_of e₁ e₂ in
      let g₅ = xor_of e₁ e₂ in
      let g₆ = xor_of (n + 5) (n + 4) in
      let g₇ = mux_of e₂ s₂ s₁ in
      let g₈ = xor_of s₁ s₂ in
      let g₉ = not_of e in
      let g₁₀ = and_of (n + 8) (n + 9) in
      let g₁₁ = and_of (n + 4) (n + 10) in
      let g₁₂ = and_of (n + 11) (n + 3) in
      let g₁₃ = mux_of e s (n + 7) in
      let g₁₄ = or_of e (n + 6) in
      let g₁₅ = xor_of (n + 13) (n + 12) in
      let a = holds_three W n (mux_of s₁ j k) (not_of f) (xor_of f g)
      (g₃ ∷ g₄ ∷ g₅ ∷ g₆ ∷ g₇ ∷ g₈ ∷ g₉ ∷ g₁₀ ∷ g₁₁ ∷ g₁₂ ∷ g₁₃ ∷ g₁₄ ∷ g₁₅ ∷ []) h in
      let c = holds_three W (n + 3) g₃ g₄ g₅ (g₆ ∷ g₇ ∷ g₈ ∷ g₉ ∷ g₁₀ ∷ g₁₁ ∷ g₁₂ ∷ g₁₃ ∷ g₁₄ ∷ g₁₅ ∷ []) a.3 in
      let d = holds_three W (n + 3 + 3) g₆ g₇ g₈ (g₉ ∷ g₁₀ ∷ g₁₁ ∷ g₁₂ ∷ g₁₃ ∷ g₁₄ ∷ g₁₅ ∷ []) c.3 in
      let i = holds_three W (n + 3 + 3 + 3) g₉ g₁₀ g₁₁ (g₁₂ ∷ g₁₃ ∷ g₁₄ ∷ g₁₅ ∷ []) d.3 in
      let l = holds_three W (n + 3 + 3 + 3 + 3) g₁₂ g₁₃ g₁₄ (g₁₅ ∷ []) i.3 in
      let at : (x y : ℕ) → x ≡ y → W y ≡ W x = λ x y q. sym (ap W q) in
      let w₁ = a.1 ∙ not_is W b f in
      let w₂ = a.2 ∙ xor_is W b f g in
      let w₃ = c.0 in
      let w₄ : W (n + 4) ≡ min (W e₁) (W e₂) = at (n + 3 + 1) (n + 4) (omega arith) ∙ c.1 ∙ and_is W b e₁ e₂ in
      let w₅ : W (n + 5) ≡ (W e₁ + W e₂) % 2 = at (n + 3 + 2) (n + 5) (omega arith) ∙ c.2 ∙ xor_is W b e₁ e₂ in
      let w₆ : W (n + 6) ≡ (W (n + 5) + W (n + 4)) % 2 = at (n + 3 + 3) (n + 6) (omega arith) ∙ d.0 ∙ xor_is W b (n + 5) (n + 4) in
      let w₇ : W (n + 7) ≡ value_on W g₇ = at (n + 3 + 3 + 1) (n + 7) (omega arith) ∙ d.1 in
      let w₈ : W (n + 8) ≡ (W s₁ + W s₂) % 2 = at (n + 3 + 3 + 2) (n + 8) (omega arith) ∙ d.2 ∙ xor_is W b s₁ s₂ in
      let w₉ : W (n + 9) ≡ 1 - W e = at (n + 3 + 3 + 3) (n + 9) (omega arith) ∙ i.0 ∙ not_is W b e in
      let w₁₀ : W (n + 10) ≡ min (W (n + 8)) (W (n + 9)) = at (n + 3 + 3 + 3 + 1) (n + 10) (omega arith) ∙ i.1
      ∙ and_is W b (n + 8) (n + 9) in
      let w₁₁ : W (n + 11) ≡ min (W (n + 4)) (W (n + 10)) = at (n + 3 + 3 + 3 + 2) (n + 11) (omega arith) ∙ i.2
      ∙ and_is W b (n + 4) (n + 10) in
      let w₁₂ : W (n + 12) ≡ min (W (n + 11)) (W (n + 3)) = at (n + 3 + 3 + 3 + 3) (n + 12) (omega arith) ∙ l.0
      ∙ and_is W b (n + 11) (n + 3) in
      let w₁₃ : W (n + 13) ≡ value_on W g₁₃ = at (n + 3 + 3 + 3 + 3 + 1) (n + 13) (omega arith) ∙ l.1 in
      let w₁₄ : W (n + 14) ≡ max (W e) (W (n + 6)) = at (n + 3 + 3 + 3 + 3 + 2) (n + 14) (omega arith) ∙ l.2 ∙ or_is W b e (n + 6) in
      let w₁₅ : W (n + 15) ≡ (W (n + 13) + W (n + 12)) % 2 = at (n + 3 + 3 + 3 + 3 + 3) (n + 15) (omega arith)
      ∙ holds_first W (n + 3 + 3 + 3 + 3 + 3) g₁₅ [] l.3 ∙ xor_is W b (n + 13) (n + 12) in
      let equal : W e ≡ 0 → W (n + 13) ≡ W (n + 7) = λ z. w₁₃ ∙ mux_zero (W e) (W s) (W (n + 7)) z in
      let upper : W e₂ ≡ 1 → W (n + 7) ≡ W s₂ = λ z. w₇ ∙ mux_one (W e₂) (W s₂) (W s₁) z in
      let lower : W e₂ ≡ 0 → W (n + 7) ≡ W s₁ = λ z. w₇ ∙ mux_zero (W e₂) (W s₂) (W s₁) z in
      let one = either_of (W e₁) (W e₂) (W (n + 4)) (W (n + 5)) (W (n + 6)) (b e₁) (b e₂) w₄ w₅ w₆ in
      let turn = turns (W (n + 8)) (W (n + 9)) (W (n + 10)) (W (n + 4)) (W (n + 11)) (W (n + 3)) (W (n + 12)) (b (n + 8)) w₁₀ w₁₁ w₁₂ in
      let stays : (v : ℕ) → W (n + 13) ≡ v → v ≤ 1 → W (n + 12) ≡ 0 → W (n + 15) ≡ v =
      λ v q l z. xor_none (W (n + 13)) (W (n + 12)) (W (n + 15)) v w₁₅ q l z in
      let differs : W e ≡ 0 → W (n + 6) ≡ 1 → W (n + 14) ≡ 1 = λ z q. or_right (W e) (W (n + 6)) (W (n + 14)) w₁₄ z ∙ q in
      record {
        left_sum = λ q z. w₃ ∙ mux_one (W (n + 2)) (W n) (W (n + 1)) (xor_one (W f) (W g) (W (n + 2)) w₂ q) ∙ a.0
            ∙ mux_one (W s₁) (W j) (W k) z;
        right_sum = λ q z. w₃ ∙ mux_one (W (n + 2)) (W n) (W (n + 1)) (xor_one (W f) (W g) (W (n + 2)) w₂ q) ∙ a.0
            ∙ mux_zero (W s₁) (W j) (W k) z;
        one_side = λ q. not_sum (W f) (W (n + 3)) (b f)
            (w₃ ∙ mux_zero (W (n + 2)) (W n) (W (n + 1)) (xor_same (W f) (W g) (W (n + 2)) w₂ q) ∙ w₁);
        medians = λ z. (
          or_left (W e) (W (n + 6)) (W (n + 14)) w₁₄ z (b (n + 6)),
          stays (W s) (w₁₃ ∙ mux_one (W e) (W s) (W (n + 7)) z) (b s) (turn.0 (not_of_lem (W e) (W (n + 9)) w₉ z)),
        );
        neither = λ o y z. or_right (W e) (W (n + 6)) (W (n + 14)) w₁₄ o ∙ one.0 y z;
        lower_only = λ o y z. (
          differs o (one.1 y),
          stays (W s₁) (equal o ∙ lower z) (b s₁) (turn.1 (and_none (W e₁) (W e₂) (W (n + 4)) w₄ z)),
        );
        upper_only = λ o y z. (
          differs o (one.2 z),
          stays (W s₂) (equal o ∙ upper z) (b s₂) (turn.1 (and_none' (W e₁) (W e₂) (W (n + 4)) w₄ y)),
        );
        lower_first = λ o y z q. (
          differs o (one.1 y),
          xor_back (W s₁) (W s₂) (W (n + 8)) (W (n + 13)) (W (n + 12)) (W (n + 15)) (b s₁) (b s₂) w₈
              (equal o ∙ upper z) (turn.3 (not_of' (W e) (W (n + 9)) w₉ o) (and_both (W e₁) (W e₂) (W (n + 4)) w₄ y z)
              q) w₁₅,
        );
        upper_first = λ o y z q. (differs o (one.1 y), stays (W s₂) (equal o ∙ upper z) (b s₂) (turn.2 q));
      }

  -- the three parts of the comparison
  tie_break_parts : (p : Plan) (r t n x y : ℕ) → x + suc (suc t) * stride r ≤ n → y + suc (suc t) * stride r ≤ n
      → (high : ℕ) → high ≤ r → (e s : ℕ) → Holds W n (tie_break (p.ballots % 2) n x y e s r high t)
      → let m = nearest_end n r t in Holds W n (nearest n x y r high t)
      × Holds W m (compare_and_reach m (down_left n x r t) (down_right n y r t) (up_left n x r t) (up_right n y r t)
      (p.ballots % 2) r (chosen_high r high t))
      × Holds W (resolve_at n r t) (resolve (resolve_at n r t) e s (unequal_at m r) (above_at m (down_left n x r t) r)
      (unequal_at (m + compare_span r) r) (above_at (m + compare_span r) (up_left n x r t) r) (left_carry m r)
      (right_carry m r) (x + suc r) (far_at x r t + suc r))
  unfolding tie_break
  tie_break_parts p r t n x y hx hy high hr e s h =
      let m = nearest_end n r t in
      let dl = down_left n x r t in
      let dr = down_right n y r t in
      let ul = up_left n x r t in
      let ur = up_right n y r t in
      let ch = chosen_high r high t in
      cut3 W n (nearest n x y r high t) (compare_and_reach m dl dr ul ur (p.ballots % 2) r ch)
      (resolve (resolve_at n r t) e s (unequal_at m r) (above_at m dl r) (unequal_at (m + compare_span r) r)
      (above_at (m + compare_span r) ul r) (left_carry m r) (right_carry m r) (x + suc r) (far_at x r t + suc r)) m
      (resolve_at n r t)
      (omega (arith, (nearest_block n x y r high t hr hx hy).long))
      (omega (
        arith,
        (compare_and_reach_block m dl dr ul ur (p.ballots % 2) r ch (chosen_high_lem r high t hr)
            (down_left_below n x y r t hx hy) (down_right_below n x y r t hx hy) (up_left_below n x y r t hx hy)
            (up_right_below n x y r t hx hy)).long,
      )) h

  -- if the medians differ, they decide
  pub tie_break_medians : (p : Plan) (r t n x y : ℕ) → x + suc (suc t) * stride r ≤ n → y + suc (suc t) * stride r
      ≤ n → (high : ℕ) → high ≤ r → (e s : ℕ) → Holds W n (tie_break (p.ballots % 2) n x y e s r high t)
      → W e ≡ 1 → (W (resolve_at n r t + 14) ≡ 1) × (W (resolve_at n r t + 15) ≡ W s)
  tie_break_medians p r t n x y hx hy high hr e s h =
      let m = nearest_end n r t in
      (resolve_law (resolve_at n r t) e s (unequal_at m r) (above_at m (down_left n x r t) r)
      (unequal_at (m + compare_span r) r) (above_at (m + compare_span r) (up_left n x r t) r)
      (left_carry m r) (right_carry m r) (x + suc r) (far_at x r t + suc r) (tie_break_parts p r t n x y hx hy high hr e s h).2).medians

  -- two keys of sums with the same median, with r + 1 low digits and t + 2 grades
  module _ (p : Plan) (f : Planned p) (r t : ℕ) (er : p.digits ≡ suc r) (et : p.grades - 2 ≡ suc t)
      (A C : ℕ → ℕ) (median : ℕ) (a : Sums p.ballots p.grades A median) (c : Sums p.ballots p.grades C median)
      (n x y : ℕ) (hx : x + suc (suc t) * stride r ≤ n) (hy : y + suc (suc t) * stride r ≤ n)
      (kx : Spells W b p f x A) (ky : Spells W b p f y C) (top : ℕ) (hr : top ≤ r) where
    -- the word of grade g, at its place in the key
    word : (z : ℕ) (S : ℕ → ℕ) → Spells W b p f z S → (g : ℕ) → g < suc (suc t) → Word W b p f (suc r) (z + g * stride r) (S g)
    word z S k g l =
        let same : suc r + 1 ≡ stride r = omega arith in
        subst (λ (i : ℕ). Word W b p f (suc r) (z + g * i) (S g)) same
        (subst (λ (i : ℕ). Word W b p f i (z + g * (i + 1)) (S g)) er (k g (omega arith)))

    -- the low digits of the two keys differ by as much as the sums do
    matched : (g : ℕ) → g < suc (suc t) → word_of W b x r g + C g ≡ word_of W b y r g + A g
    matched g l = ⊎_elim
        (λ (m : g < median). omega (arith, (word x A kx g l).low_worse (a.passed g m), (word y C ky g l).low_worse (c.passed g m)))
        (λ (m : median ≤ g). omega (arith, (word x A kx g l).low_better (a.reached g m), (word y C ky g l).low_better (c.reached g m)))
        (below_or_not g median)

    -- the flag after x's word: whether the median is worse
    worse_one : (g : ℕ) → g < suc (suc t) → g < median → W (x + g * stride r + suc r) ≡ 1
    worse_one g l m = (word x A kx g l).worse (a.passed g m)

    worse_zero : (g : ℕ) → g < suc (suc t) → median ≤ g → W (x + g * stride r + suc r) ≡ 0
    worse_zero g l m = (word x A kx g l).better (a.reached g m)

    one_worse : (g : ℕ) → g < suc (suc t) → W (x + g * stride r + suc r) ≡ 1 → g < median
    one_worse g l z = ⊎_elim (λ (m : g < median). m) (λ (m : median ≤ g). absurd (omega (arith, worse_zero g l m))) (below_or_not g median)

    zero_worse : (g : ℕ) → g < suc (suc t) → W (x + g * stride r + suc r) ≡ 0 → median ≤ g
    zero_worse g l z = ⊎_elim (λ (m : g < median). absurd (omega (arith, worse_one g l m))) (λ (m : median ≤ g). m) (below_or_not g median)

    parts : Holds W n (nearest n x y r top t)
        → Holds W n (sides n (x + stride r) (y + stride r) r top t)
        × Holds W (down_at n r t) (last_words (down_at n r t) (below_at n r) (x + stride r) (y + stride r) x y r t)
        × Holds W (up_at n r t) (first_words (up_at n r t) (from_at n r) (x + stride r) (y + stride r) (far_at x r t) (far_at y r t) r t)
    unfolding nearest
    parts h =
        let e = suc-mul (suc t) (stride r) in
        let e' = suc-mul t (stride r) in
        cut3 W n (sides n (x + stride r) (y + stride r) r top t) (last_words (down_at n r t) (below_at n r) (x + stride r) (y + stride r) x y r t)
        (first_words (up_at n r t) (from_at n r) (x + stride r) (y + stride r) (far_at x r t) (far_at y r t) r t) (down_at n r t) (up_at n r t)
        (omega (arith, (sides_block n (x + stride r) (y + stride r) r top t hr (omega arith) (omega arith)).long))
        (omega (
          arith,
          (last_of_block (down_at n r t) (below_at n r) (x + stride r) (y + stride r) x y r t
              (omega arith) (omega arith) (omega arith) (omega arith) (omega arith)).long,
        )) h

    module _ (h : Holds W n (nearest n x y r top t)) where
      sided : (i : ℕ) → i < t → Side W b (n + i * side_span r) (x + suc i * stride r) (y + suc i * stride r) r
      sided i l =
          let e = suc-mul (suc t) (stride r) in
          let e' = suc-mul t (stride r) in
          let px : x + stride r + i * stride r ≡ x + suc i * stride r = omega (arith, suc-mul i (stride r)) in
          let py : y + stride r + i * stride r ≡ y + suc i * stride r = omega (arith, suc-mul i (stride r)) in
          subst (λ (k : ℕ). Side W b (n + i * side_span r) (x + suc i * stride r) k r) py
          (subst (λ (k : ℕ). Side W b (n + i * side_span r) k (y + stride r + i * stride r) r) px
          (sides_law W b n (x + stride r) (y + stride r) r top t hr (omega arith) (omega arith) (parts h).0 i l))

      below_place : (i : ℕ) → flag_at W b (below_at n r) r i ≡ W (below_at (n + i * side_span r) r)
      below_place i = let e : below_at n r + i * side_span r ≡ below_at (n + i * side_span r) r = omega arith in ap W e

      from_place : (i : ℕ) → flag_at W b (from_at n r) r i ≡ W (from_at (n + i * side_span r) r)
      from_place i = let e : from_at n r + i * side_span r ≡ from_at (n + i * side_span r) r = omega arith in ap W e

      -- what the flags of a grade say about the sums
      below_found : (i : ℕ) → i < t → flag_at W b (below_at n r) r i ≡ 1 → (suc i < median) × (A (suc i) ≢ C (suc i))
      below_found i l z =
          let q = (sided i l).below_one (sym (below_place i) ∙ z) in
          (one_worse (suc i) (omega arith) q.1, λ e. q.0 (omega (arith, matched (suc i) (omega arith))))

      below_none : (i : ℕ) → i < t → flag_at W b (below_at n r) r i ≡ 0 → suc i < median → A (suc i) ≡ C (suc i)
      below_none i l z m = omega (
        arith,
        (sided i l).below_zero (sym (below_place i) ∙ z) (worse_one (suc i) (omega arith) m),
        matched (suc i) (omega arith),
      )

      from_found : (i : ℕ) → i < t → flag_at W b (from_at n r) r i ≡ 1 → (median ≤ suc i) × (A (suc i) ≢ C (suc i))
      from_found i l z =
          let q = (sided i l).from_one (sym (from_place i) ∙ z) in
          (zero_worse (suc i) (omega arith) q.1, λ e. q.0 (omega (arith, matched (suc i) (omega arith))))

      from_none : (i : ℕ) → i < t → flag_at W b (from_at n r) r i ≡ 0 → median ≤ suc i → A (suc i) ≡ C (suc i)
      from_none i l z m = omega (
        arith,
        (sided i l).from_zero (sym (from_place i) ∙ z) (worse_zero (suc i) (omega arith) m),
        matched (suc i) (omega arith),
      )

      -- The grade below the median whose words are chosen.
      record DownIs : Type 0 where
        down : ℕ
        down_in : down < suc t
        down_rest : (g : ℕ) → down < g → g < suc t → g < median → A g ≡ C g
        down_far : 0 < down → (down < median) × (A down ≢ C down)
        left : spelled W b r (down_left n x r t) ≡ word_of W b x r down
        right : spelled W b r (down_right n y r t) ≡ word_of W b y r down

      down_is : DownIs
      down_is = ⊎_elim absent found
          (let e = suc-mul (suc t) (stride r) in let e' = suc-mul t (stride r) in
          last_of_law W b (down_at n r t) (below_at n r) (x + stride r) (y + stride r) x y r t (omega arith)
          (omega arith) (omega arith) (omega arith) (omega arith) (parts h).1)
        where
          absent : Absent (flag_at W b (below_at n r) r) t (spelled W b r x) (spelled W b r y)
              (spelled W b r (down_left n x r t)) (spelled W b r (down_right n y r t)) → DownIs
          absent q =
              let px : x ≡ x + 0 * stride r = omega (arith, zero-mul (stride r)) in
              let py : y ≡ y + 0 * stride r = omega (arith, zero-mul (stride r)) in
              record {
                down = 0;
                down_in = omega arith;
                down_rest = rest;
                down_far = λ l. absurd (omega arith);
                left = q.stays_left ∙ ap (spelled W b r) px;
                right = q.stays_right ∙ ap (spelled W b r) py;
              }
            where
              rest : (g : ℕ) → 0 < g → g < suc t → g < median → A g ≡ C g
              rest zero k l m = absurd (omega arith)
              rest (suc i) k l m = below_none i (omega arith) (q.none i (omega arith)) m

          found : LastAt (flag_at W b (below_at n r) r) (word_of W b (x + stride r) r) (word_of W b (y + stride r) r) t
              (spelled W b r (down_left n x r t)) (spelled W b r (down_right n y r t)) → DownIs
          found q =
              let i = q.place in
              let px : x + stride r + i * stride r ≡ x + suc i * stride r = omega (arith, suc-mul i (stride r)) in
              let py : y + stride r + i * stride r ≡ y + suc i * stride r = omega (arith, suc-mul i (stride r)) in
              record {
                down = suc i;
                down_in = omega (arith, q.inside);
                down_rest = rest;
                down_far = λ l. below_found i q.inside q.found;
                left = q.is_left ∙ ap (spelled W b r) px;
                right = q.is_right ∙ ap (spelled W b r) py;
              }
            where
              rest : (g : ℕ) → suc q.place < g → g < suc t → g < median → A g ≡ C g
              rest zero k l m = absurd (omega arith)
              rest (suc i) k l m = below_none i (omega arith) (q.later i (omega arith) (omega arith)) m

      -- The grade from the median on whose words are chosen.
      record UpIs : Type 0 where
        up : ℕ
        up_in : up < suc (suc t)
        up_rest : (g : ℕ) → 0 < g → g < up → median ≤ g → A g ≡ C g
        up_far : up < suc t → (median ≤ up) × (A up ≢ C up)
        left : spelled W b r (up_left n x r t) ≡ word_of W b x r up
        right : spelled W b r (up_right n y r t) ≡ word_of W b y r up

      up_is : UpIs
      up_is = ⊎_elim absent found
          (let e = suc-mul (suc t) (stride r) in let e' = suc-mul t (stride r) in
          first_of_law W b (up_at n r t) (from_at n r) (x + stride r) (y + stride r) (far_at x r t) (far_at y r t) r t
          (omega arith) (omega arith) (omega arith) (omega arith) (omega arith) (parts h).2)
        where
          absent : Absent (flag_at W b (from_at n r) r) t (spelled W b r (far_at x r t)) (spelled W b r (far_at y r t))
              (spelled W b r (up_left n x r t)) (spelled W b r (up_right n y r t)) → UpIs
          absent q = record {
            up = suc t;
            up_in = omega arith;
            up_rest = rest;
            up_far = λ l. absurd (omega arith);
            left = q.stays_left;
            right = q.stays_right;
          }
            where
              rest : (g : ℕ) → 0 < g → g < suc t → median ≤ g → A g ≡ C g
              rest zero k l m = absurd (omega arith)
              rest (suc i) k l m = from_none i (omega arith) (q.none i (omega arith)) m

          found : FirstAt (flag_at W b (from_at n r) r) (word_of W b (x + stride r) r) (word_of W b (y + stride r) r) t
              (spelled W b r (up_left n x r t)) (spelled W b r (up_right n y r t)) → UpIs
          found q =
              let i = q.place in
              let px : x + stride r + i * stride r ≡ x + suc i * stride r = omega (arith, suc-mul i (stride r)) in
              let py : y + stride r + i * stride r ≡ y + suc i * stride r = omega (arith, suc-mul i (stride r)) in
              record {
                up = suc i;
                up_in = omega (arith, q.inside);
                up_rest = rest;
                up_far = λ l. from_found i q.inside q.found;
                left = q.is_left ∙ ap (spelled W b r) px;
                right = q.is_right ∙ ap (spelled W b r) py;
              }
            where
              rest : (g : ℕ) → 0 < g → g < suc q.place → median ≤ g → A g ≡ C g
              rest zero k l m = absurd (omega arith)
              rest (suc i) k l m = from_none i (omega (arith, q.inside)) (q.earlier i (omega arith)) m

    -- the sums of a row at both grades, and the carry that says whether together they reach n
    module _ (S : ℕ → ℕ) (s : Sums p.ballots p.grades S median) (z : ℕ) (k : Spells W b p f z S) (down up : ℕ)
        (hd : down < suc (suc t)) (hu : up < suc (suc t)) where
      reach_is : (m u v : ℕ) → down < median → median ≤ up → spelled W b r u ≡ word_of W b z r down → spelled W b r v ≡ word_of W b z r up
          → Holds W m (reach m u v (p.ballots % 2) r) → Reaches (W (m + reach_last r)) p.ballots (S down + S up)
      reach_is m u v l l' eu ev h =
          let q = reach_law W b m u v (p.ballots % 2) r (omega arith) h in
          let low = (word z S k down hd).low_worse (s.passed down l) in
          let up' = (word z S k up hu).low_better (s.reached up l') in
          let o = f.offset_is in
          let power = ap (λ (i : ℕ). 2 ^ i) er in
          record { reached = λ i. q.reached (omega arith); missed = λ i. q.missed (omega arith) }

    -- the flags that say whether the median is worse than the first grade, and than the last
    first_wire : x + 0 * stride r + suc r ≡ x + suc r
    first_wire = omega (arith, zero-mul (stride r))

    -- the bit says whether the two sums of the row S reach n, that is, whether the lower grade is struck first
    abbrev pub LowerFirst : (ℕ → ℕ) → ℕ → ℕ → ℕ → Type 0
    LowerFirst S down up bit = Reaches bit p.ballots (S down + S up)

    lower_first_is : (S : ℕ → ℕ) → Sums p.ballots p.grades S median → (down up bit carry : ℕ) → down < suc (suc t) → up < suc (suc t)
        → (0 < down → down < median) → (up < suc t → median ≤ up)
        → (down < median → median ≤ up → LowerFirst S down up carry)
        → (W (x + suc r) + W (far_at x r t + suc r) ≡ 1 → bit ≡ carry) → (W (x + suc r) ≡ W (far_at x r t + suc r) → bit + W (x + suc r) ≡ 1)
        → LowerFirst S down up bit
    lower_first_is S s down up bit carry hd hu far_down far_up carried apart one_side =
        ⊎_elim
        (λ (m : 0 < median). let w₀ = sym (ap W first_wire) ∙ worse_one 0 (omega arith) m in
        ⊎_elim
        (λ (m' : suc t < median). let w₁ = worse_one (suc t) (omega arith) m' in
        let i = one_side (w₀ ∙ sym w₁) in
        record {
          reached = λ q. absurd (omega (arith, s.passed down (omega arith), s.passed up (omega arith)));
          missed = λ q. omega arith;
        })
        (λ (m' : median ≤ suc t). let w₁ = worse_zero (suc t) (omega arith) m' in
        let i = apart (omega (arith, w₀, w₁)) in
        let l : down < median = ⊎_elim (λ (j : 0 < down). far_down j) (λ (j : down ≤ 0). omega arith) (below_or_not 0 down) in
        let l' : median ≤ up = ⊎_elim (λ (j : up < suc t). far_up j) (λ (j : suc t ≤ up). omega arith) (below_or_not up (suc t)) in
        let k = carried l l' in
        record { reached = λ q. i ∙ k.reached q; missed = λ q. i ∙ k.missed q })
        (below_or_not (suc t) median))
        (λ (m : median ≤ 0). let w₀ = sym (ap W first_wire) ∙ worse_zero 0 (omega arith) m in
        let w₁ = worse_zero (suc t) (omega arith) (omega arith) in
        let i = one_side (w₀ ∙ sym w₁) in
        record {
          reached = λ q. omega arith;
          missed =
              λ q. absurd (omega (arith, s.reached down (omega arith), s.reached up (omega arith)));
        })
        (below_or_not 0 median)

    -- if words differ by as much as sums do, comparing the words compares the sums
    tells_sums : {e s i j u v : ℕ} → i + v ≡ j + u → Tells e s i j → Tells e s u v
    tells_sums q k = record {
      same = λ z. k.same (omega arith);
      differ = λ z. k.differ (λ y. z (omega arith));
      over = λ l. k.over (omega arith);
      under = λ l. k.under (omega arith);
    }

    -- what the two grades decide
    module _ (down up q e s e₁ s₁ e₂ s₂ j k i i' : ℕ) (near : Near t median A C down up)
        (set : Resolved q e s e₁ s₁ e₂ s₂ j k i i') (even : W e ≡ 0)
        (low : Tells (W e₁) (W s₁) (A down) (C down)) (high : Tells (W e₂) (W s₂) (A up) (C up))
        (left : W s₁ ≡ 1 → LowerFirst A down up (W (q + 3))) (right : W s₁ ≡ 0 → LowerFirst C down up (W (q + 3))) where
      Result : Type 0
      Result = Outcome (W (q + 14)) (W (q + 15)) p.ballots (suc (suc t)) A C

      x_first : W (q + 14) ≡ 1 → W (q + 15) ≡ 1
          → Decides p.ballots (suc (suc t)) A C down ⊎ Decides p.ballots (suc (suc t)) A C up → Result
      unfolding Result
      x_first e s d =
          inr (inl (
            e,
            s,
            ⊎_elim (λ (g : Decides p.ballots (suc (suc t)) A C down).
                record { grade = down; decides = g })
                (λ (g : Decides p.ballots (suc (suc t)) A C up). record { grade = up; decides = g }) d,
          ))

      y_first : W (q + 14) ≡ 1 → W (q + 15) ≡ 0
          → Decides p.ballots (suc (suc t)) C A down ⊎ Decides p.ballots (suc (suc t)) C A up → Result
      unfolding Result
      y_first e s d =
          inr (inr (
            e,
            s,
            ⊎_elim (λ (g : Decides p.ballots (suc (suc t)) C A down).
                record { grade = down; decides = g })
                (λ (g : Decides p.ballots (suc (suc t)) C A up). record { grade = up; decides = g }) d,
          ))

      x_lower : C down < A down → (p.ballots ≤ A down + A up) ⊎ (A up ≡ C up) → Decides p.ballots (suc (suc t)) A C down
      x_lower = lower_decides p.ballots p.grades t median A C a c down up near

      y_lower : A down < C down → (p.ballots ≤ C down + C up) ⊎ (C up ≡ A up) → Decides p.ballots (suc (suc t)) C A down
      y_lower = lower_decides p.ballots p.grades t median C A c a down up (near_flip near)

      x_upper : C up < A up → (C down + C up < p.ballots) ⊎ (A down ≡ C down) → Decides p.ballots (suc (suc t)) A C up
      x_upper = upper_decides p.ballots p.grades t median A C a c down up near

      y_upper : A up < C up → (A down + A up < p.ballots) ⊎ (C down ≡ A down) → Decides p.ballots (suc (suc t)) C A up
      y_upper = upper_decides p.ballots p.grades t median C A c a down up (near_flip near)

      unlike : (u v : ℕ) → u < v → u ≢ v
      unlike u v l e = omega arith

      unlike' : (u v : ℕ) → v < u → u ≢ v
      unlike' u v l e = omega arith

      -- the sum reaches the limit if the bit is 1, and does not if it is 0
      long : {bit limit sum : ℕ} → Reaches bit limit sum → bit ≡ 1 → limit ≤ sum
      long {bit} {limit} {sum} w z = let no : ¬ (sum < limit) = λ m. let y = w.missed m in omega arith in omega arith

      short : {bit limit sum : ℕ} → Reaches bit limit sum → bit ≡ 0 → sum < limit
      short {bit} {limit} {sum} w z = let no : ¬ (limit ≤ sum) = λ m. let y = w.reached m in omega arith in omega arith

      second_bit : (W (q + 3) ≡ 0) ⊎ (W (q + 3) ≡ 1)
      second_bit = bit_cases (W (q + 3)) (b (q + 3))

      tie_below : A down ≡ C down → Result
      unfolding Result
      tie_below e = ⊎_elim
          (λ (o : A up ≡ C up). inl (
            set.neither even (low.same e) (high.same o),
            all_same p.ballots p.grades t median A C a c down up near e o,
          ))
          (⊎_elim
          (λ (o : C up < A up). let v = set.upper_only even (low.same e)
          (high.differ (unlike' (A up) (C up) o)) in
          x_first v.0 (v.1 ∙ high.over o) (inr (x_upper o (inr e))))
          (λ (o : A up < C up). let v = set.upper_only even (low.same e)
          (high.differ (unlike (A up) (C up) o)) in
          y_first v.0 (v.1 ∙ high.under o) (inr (y_upper o (inr (sym e))))))
          (three_ways (A up) (C up))

      x_above : C down < A down → Result
      x_above l =
          let e₁ = low.differ (unlike' (A down) (C down) l) in
          let s = low.over l in
          let w = left s in
          ⊎_elim
          (λ (o : A up ≡ C up). let v = set.lower_only even e₁ (high.same o) in x_first v.0 (v.1 ∙ s) (inl (x_lower l (inr o))))
          (⊎_elim
          (λ (o : C up < A up). let e₂ = high.differ (unlike' (A up) (C up) o) in
          ⊎_elim
          (λ (z : W (q + 3) ≡ 0). let v = set.upper_first even e₁ e₂ z in
          x_first v.0 (v.1 ∙ high.over o) (inr (x_upper o (inl (omega (arith, short w z))))))
          (λ (z : W (q + 3) ≡ 1). let v = set.lower_first even e₁ e₂ z in x_first v.0 (v.1 ∙ s) (inl (x_lower l (inl (long w z)))))
          second_bit)
          (λ (o : A up < C up). let e₂ = high.differ (unlike (A up) (C up) o) in
          ⊎_elim
          (λ (z : W (q + 3) ≡ 0). let v = set.upper_first even e₁ e₂ z in
          y_first v.0 (v.1 ∙ high.under o) (inr (y_upper o (inl (short w z)))))
          (λ (z : W (q + 3) ≡ 1). let v = set.lower_first even e₁ e₂ z in x_first v.0 (v.1 ∙ s) (inl (x_lower l (inl (long w z)))))
          second_bit))
          (three_ways (A up) (C up))

      y_above : A down < C down → Result
      y_above l =
          let e₁ = low.differ (unlike (A down) (C down) l) in
          let s = low.under l in
          let w = right s in
          ⊎_elim
          (λ (o : A up ≡ C up). let v = set.lower_only even e₁ (high.same o) in y_first v.0 (v.1 ∙ s) (inl (y_lower l (inr (sym o)))))
          (⊎_elim
          (λ (o : C up < A up). let e₂ = high.differ (unlike' (A up) (C up) o) in
          ⊎_elim
          (λ (z : W (q + 3) ≡ 0). let v = set.upper_first even e₁ e₂ z in
          x_first v.0 (v.1 ∙ high.over o) (inr (x_upper o (inl (short w z)))))
          (λ (z : W (q + 3) ≡ 1). let v = set.lower_first even e₁ e₂ z in y_first v.0 (v.1 ∙ s) (inl (y_lower l (inl (long w z)))))
          second_bit)
          (λ (o : A up < C up). let e₂ = high.differ (unlike (A up) (C up) o) in
          ⊎_elim
          (λ (z : W (q + 3) ≡ 0). let v = set.upper_first even e₁ e₂ z in
          y_first v.0 (v.1 ∙ high.under o) (inr (y_upper o (inl (omega (arith, short w z))))))
          (λ (z : W (q + 3) ≡ 1). let v = set.lower_first even e₁ e₂ z in y_first v.0 (v.1 ∙ s) (inl (y_lower l (inl (long w z)))))
          second_bit))
          (three_ways (A up) (C up))

      decided : Outcome (W (q + 14)) (W (q + 15)) p.ballots (suc (suc t)) A C
      unfolding Result
      decided = ⊎_elim tie_below (⊎_elim x_above y_above) (three_ways (A down) (C down))

    pub tie_break_law : (e s : ℕ) → W e ≡ 0 → Holds W n (tie_break (p.ballots % 2) n x y e s r top t)
        → Outcome (W (resolve_at n r t + 14)) (W (resolve_at n r t + 15)) p.ballots (suc (suc t)) A C
    unfolding compare_and_reach
    tie_break_law e s even h =
        let m = nearest_end n r t in
        let m' = m + compare_span r in
        let q = resolve_at n r t in
        let dl = down_left n x r t in
        let dr = down_right n y r t in
        let ul = up_left n x r t in
        let ur = up_right n y r t in
        let bit = p.ballots % 2 in
        let ch = chosen_high r top t in
        let hc = chosen_high_lem r top t hr in
        let hdl = down_left_below n x y r t hx hy in
        let hdr = down_right_below n x y r t hx hy in
        let hul = up_left_below n x y r t hx hy in
        let hur = up_right_below n x y r t hx hy in
        let o = tie_break_parts p r t n x y hx hy top hr e s h in
        let v = cut4 W m (compare_cut m dl dr r ch) (compare_cut m' ul ur r ch)
        (reach (m + 2 * compare_span r) dl ul bit r) (reach (m + 2 * compare_span r + reach_span r) dr ur bit r)
        m' (m + 2 * compare_span r) (m + 2 * compare_span r + reach_span r)
        (omega (arith, (compare_block m dl dr r ch hc hdl hdr).long))
        (omega (arith, (compare_block m' ul ur r ch hc (omega arith) (omega arith)).long))
        (omega (arith, length_reach (m + 2 * compare_span r) dl ul bit r)) o.1 in
        let d = down_is o.0 in
        let u = up_is o.0 in
        let i = d.down in
        let i' = u.up in
        let hd : i < suc (suc t) = omega (arith, d.down_in) in
        let set = resolve_law q e s (unequal_at m r) (above_at m dl r) (unequal_at m' r) (above_at m' ul r)
        (left_carry m r) (right_carry m r) (x + suc r) (far_at x r t + suc r) o.2 in
        decided i i' q e s (unequal_at m r) (above_at m dl r) (unequal_at m' r) (above_at m' ul r) (left_carry m r)
        (right_carry m r) (x + suc r) (far_at x r t + suc r)
        (record {
          down_in = hd;
          up_in = u.up_in;
          down_rest = d.down_rest;
          down_far = d.down_far;
          up_rest =
              u.up_rest;
          up_far = u.up_far;
        })
        set even
        (tells_sums (omega (arith, matched i hd, d.left, d.right)) (compare_cut_law m dl dr r ch hc W b v.0))
        (tells_sums (omega (arith, matched i' u.up_in, u.left, u.right)) (compare_cut_law m' ul ur r ch hc W b v.1))
        (λ z. lower_first_is A a i i' (W (q + 3)) (W (left_carry m r)) hd u.up_in (λ l. (d.down_far l).0) (λ l. (u.up_far l).0)
        (λ l l'. reach_is A a x kx i i' hd u.up_in (m + 2 * compare_span r) dl ul l l' d.left u.left v.2)
        (λ k. set.left_sum k z) set.one_side)
        (λ z. lower_first_is C c i i' (W (q + 3)) (W (right_carry m r)) hd u.up_in (λ l. (d.down_far l).0) (λ l. (u.up_far l).0)
        (λ l l'. reach_is C c y ky i i' hd u.up_in (m + 2 * compare_span r + reach_span r) dr ur l l' d.right u.right v.3)
        (λ k. set.right_sum k z) set.one_side)
