-- A contest of two keys is well-formed, and says which key comes first.
-- Assumes nothing.
use mathlib.Core.Path.{◌≡◌, ◌∙◌, refl, sym, ap, subst}
use mathlib.Core.Logic.{inl, inr, ⊎_elim}
use mathlib.Core.List.{[], ◌∷◌}
use Prim.Native.Nat.{ℕ, zero, suc, ◌+◌, ◌-◌, ◌*◌, ◌%◌, ◌^◌, ◌≤◌, ◌<◌}
use native.Mathlib.Nat.{pow-succ', suc-mul, zero-mul, add-zero}
use native.Mathlib.Omega.{arith}
use Rattle.gates.proofs.Laws.{Holds, mux_zero, mux_one}
use Rattle.basics.proofs.Cases.{below_or_not}
use Rattle.gate_words.specs.Gates.{copy_of, or_of, mux_of}
use Rattle.gate_words.specs.Halves.{unequal_span, unequal_at, compare_cut, compare_span, above_at}
use Rattle.gate_words.specs.Word.{number}
use Rattle.gate_words.proofs.Numbers.{Binary}
use Rattle.gate_words.proofs.GateValues.{holds_first, holds_rest, copy_is, or_is}
use Rattle.gate_words.proofs.Ends.{chain_below}
use Rattle.gate_words.proofs.HalvesLaws.{compare_cut_law}
use Rattle.graded_circuit.specs.declared.plan.Plan.{Plan}
use Rattle.graded_circuit.specs.Plan.{Planned}
use Rattle.graded_circuit.specs.RunningSums.{word_span}
use Rattle.graded_circuit.specs.Key.{key_span}
use Rattle.graded_circuit.specs.Median.{Fits, left_digit, differ_at, compare_ones, ones_differ, ones_larger}
use Rattle.graded_circuit.specs.Nearest.{stride}
use Rattle.graded_circuit.specs.TieBreak.{resolve_at}
use Rattle.graded_circuit.specs.Contest.{tie_break_below, tie_break_below_span, tie_break_below_at, result_at, contest, contest_span}
use Rattle.graded_circuit.proofs.Blocks.{Block, none_block, both_block, sized, gate_block, compare_block}
use Rattle.graded_circuit.proofs.Cutting.{cut2}
use Rattle.graded_circuit.proofs.MedianLaws.{Unary, left_below, ones_block, differ_below, larger_below, ones_span_lem, ones_law}
use Rattle.graded_circuit.proofs.SumLaws.{Sums, Word, Spells}
use Rattle.graded_circuit.proofs.Near.{Decides}
use Rattle.graded_circuit.proofs.TieBreakBlocks.{tie_break_block}
use Rattle.graded_circuit.proofs.TieBreakLaws.{Ahead, Outcome, three_ways, tie_break_medians, tie_break_law}
use Rattle.gate_words.proofs.PointsBack.{good_copy}
use Rattle.gate_words.proofs.PointsBack.{good_or}
use Rattle.gate_words.proofs.PointsBack.{good_mux}

-- a key of t + 2 words, by the distance between its words
strided : (x t r m : ℕ) → x + suc (suc t) * (suc r + 1) ≤ m → x + suc (suc t) * stride r ≤ m
strided x t r m h = let e : suc r + 1 ≡ stride r = omega arith in subst (λ (k : ℕ). x + suc (suc t) * k ≤ m) e h

single : (x r m : ℕ) → x + suc zero * (suc r + 1) ≤ m → x + suc r ≤ m
single x r m h = omega (arith, suc-mul 0 (suc r + 1), zero-mul (suc r + 1))

-- the high half leaves a digit for the low half
abbrev pub Leaves : ℕ → ℕ → Type 0
Leaves digits h = h ≤ digits - 1

pub tie_break_below_block : (p : Plan) (n x y e s digits h t : ℕ) → Leaves digits h → e < n → s < n → x + suc t
    * (digits + 1) ≤ n → y + suc t * (digits + 1) ≤ n
    → Block n (tie_break_below p n x y e s digits h t) (tie_break_below_span digits t + 2)
unfolding tie_break_below tie_break_below_span
tie_break_below_block p n x y e s zero h t hr he hs hx hy =
    gate_block (good_copy n e he) (gate_block (good_copy (suc n) s (omega arith)) (none_block (suc (suc n))))
tie_break_below_block p n x y e s (suc r) h zero hr he hs hx hy =
    let q = n + compare_span r in
    let fx = single x r n hx in
    let em = chain_below (n + suc r) n r q (omega arith) (omega arith) in
    let sm = chain_below (n + unequal_span r) x r q (omega arith) (omega arith) in
    both_block (compare_block n x y r h (omega arith) fx (single y r n hy)) refl
    (gate_block (good_or q e (unequal_at n r) (omega arith) em)
    (gate_block (good_mux (suc q) e s (above_at n x r) (omega arith) (omega arith) (omega arith))
    (none_block (suc (suc q)))))
tie_break_below_block p n x y e s (suc r) h (suc t) hr he hs hx hy =
    sized (omega arith) (tie_break_block n x y r t (strided x t r n hx) (strided y t r n hy) (p.ballots % 2) h e s
    (omega arith) he hs)

module _ (p : Plan) (f : Planned p) where
  grades_are : p.grades - 1 ≡ suc (p.grades - 2)
  grades_are = omega (arith, f.d_least)

  -- a key has a word for each grade but the worst
  pub key_words_lem : (x m : ℕ) → x + key_span p ≤ m → x + suc (p.grades - 2) * (p.digits + 1) ≤ m
  key_words_lem x m h = subst (λ (k : ℕ). x + k * (p.digits + 1) ≤ m) grades_are h

  -- the flags of a key end with the key
  pub flags_end : (x m : ℕ) → x + key_span p ≤ m → x + p.digits + (p.grades - 1) * word_span p < m + word_span p
  flags_end x m h = omega arith

  -- the number of a median grade needs `places` + 1 digits
  pub grade_fits : Fits (p.grades - 1) (suc p.places)
  grade_fits = record { enough = f.median_high; needed = omega (arith, f.median_low, pow-succ' 2 p.places) }

  -- a key has at least one word
  pub key_some : word_span p ≤ key_span p
  key_some = omega (arith, ap (λ (k : ℕ). k * word_span p) grades_are, suc-mul (p.grades - 2) (word_span p))

  pub contest_block : (n x y h : ℕ) → Leaves p.digits h → x + key_span p ≤ n → y + key_span p ≤ n
      → Block n (contest p n x y h) (contest_span p)
  unfolding contest
  contest_block n x y h hr hx hy =
      let d = p.grades - 1 in
      let r = p.places in
      let l = tie_break_below_at p n in
      let z = y + p.digits in
      let some : 0 < d = omega (arith, grades_are) in
      let span = ones_span_lem d r in
      let em : ones_differ n d r < l = differ_below l (differ_at n d) r (omega arith) in
      let sm : ones_larger n z d r < l =
      larger_below l (left_digit n z d) r (omega (arith, left_below n z (word_span p) d some (flags_end y n hy))) in
      sized (omega arith)
      (both_block (ones_block n z (x + p.digits) (word_span p) d r grade_fits (flags_end y n hy) (flags_end x n hx)) refl
      (tie_break_below_block p l x y (ones_differ n d r) (ones_larger n z d r) p.digits h (p.grades - 2) hr em sm
      (key_words_lem x l (omega arith)) (key_words_lem y l (omega arith))))

  module _ (W : ℕ → ℕ) (b : Binary W) where
    -- the flags that say which grades the median is worse than: exactly the first ones are 1
    unary : (x median : ℕ) (S : ℕ → ℕ) → Sums p.ballots p.grades S median → Spells W b p f x S
        → Unary W (x + p.digits) (word_span p) (p.grades - 1) median
    unary x median S s k =
        record {
          within = omega (arith, s.inside);
          first = λ i l. ap W (place i) ∙ (k i (omega (arith, s.inside))).worse (s.passed i l);
          rest = λ i l m. ap W (place i) ∙ (k i l).better (s.reached i m);
        }
      where
        place : (i : ℕ) → x + p.digits + i * word_span p ≡ x + i * word_span p + p.digits
        place i = omega arith

    -- a key ends before wire n, by the distance between its words
    key_bound : (r t n : ℕ) → p.digits ≡ suc r → p.grades - 2 ≡ suc t → (i : ℕ) → i + key_span p ≤ n → i + suc (suc t) * stride r ≤ n
    key_bound r t n e z i l =
        let many : suc (suc t) ≡ p.grades - 1 = omega (arith, grades_are) in
        strided i t r n (subst (λ (j : ℕ). i + suc (suc t) * (j + 1) ≤ n) e (subst (λ (j : ℕ). i + j * (p.digits + 1) ≤ n) (sym many) l))

    -- if the medians differ, they decide
    tie_break_below_medians : (x y digits t n k e s : ℕ) → Leaves digits k → p.digits ≡ digits → p.grades - 2 ≡ t
        → x + key_span p ≤ n → y + key_span p ≤ n → W e ≡ 1 → Holds W n (tie_break_below p n x y e s digits k t)
        → (W (n + tie_break_below_span digits t) ≡ 1) × (W (n + tie_break_below_span digits t + 1) ≡ W s)
    unfolding tie_break_below tie_break_below_span
    tie_break_below_medians x y zero t n k e s hr q z hx hy one h =
        let w₁ = holds_first W n (copy_of e) (copy_of s ∷ []) h ∙ copy_is W b e in
        let w₂ = holds_first W (n + 1) (copy_of s) [] (holds_rest W n (copy_of e) (copy_of s ∷ []) h) ∙ copy_is W b s in
        let at : n + 0 + 1 ≡ n + 1 = omega arith in
        (ap W (add-zero n) ∙ w₁ ∙ one, ap W at ∙ w₂)
    tie_break_below_medians x y (suc r) zero n k e s hr q z hx hy one h =
        let m = n + compare_span r in
        let em = unequal_at n r in
        let sm = above_at n x r in
        let fx : x + suc r ≤ n = omega (arith, key_some) in
        let fy : y + suc r ≤ n = omega (arith, key_some) in
        let o = cut2 W n (compare_cut n x y r k) (or_of e em ∷ mux_of e s sm ∷ []) m
        (omega (arith, (compare_block n x y r k (omega arith) fx fy).long)) h in
        let w₁ = holds_first W m (or_of e em) (mux_of e s sm ∷ []) o.1 ∙ or_is W b e em in
        let w₂ = holds_first W (m + 1) (mux_of e s sm) [] (holds_rest W m (or_of e em) (mux_of e s sm ∷ []) o.1)
        ∙ mux_one (W e) (W s) (W sm) one in
        (omega (arith, b em), w₂)
    tie_break_below_medians x y (suc r) (suc t) n k e s hr q z hx hy one h =
        let at : n + (resolve_at 0 r t + 14) ≡ resolve_at n r t + 14 = omega arith in
        let at' : n + (resolve_at 0 r t + 14) + 1 ≡ resolve_at n r t + 15 = omega arith in
        let o = tie_break_medians W b p r t n x y (key_bound r t n q z x hx) (key_bound r t n q z y hy) k (omega arith) e s h one in
        (ap W at ∙ o.0, ap W at' ∙ o.1)

    module _ (A C : ℕ → ℕ) (x y : ℕ) (kx : Spells W b p f x A) (ky : Spells W b p f y C) where
      -- keys with equal medians
      module _ (median : ℕ) (a : Sums p.ballots p.grades A median) (c : Sums p.ballots p.grades C median) where
        -- a single ballot: its grade is the median
        one_ballot : p.digits ≡ 0 → (g : ℕ) → A g ≡ C g
        one_ballot e g =
            let one : p.ballots ≡ 1 = omega (arith, f.n_least, f.high, ap (λ (k : ℕ). 2 ^ suc k) e) in
            ⊎_elim
            (λ (l : g < median). omega (arith, a.passed g l, c.passed g l))
            (λ (l : median ≤ g). omega (arith, a.reached g l, c.reached g l, a.most g, c.most g))
            (below_or_not g median)

        -- a single sum
        alone : (r n h : ℕ) → h ≤ r → p.digits ≡ suc r → p.grades - 2 ≡ 0 → Holds W n (compare_cut n x y r h)
            → Outcome (W (unequal_at n r)) (W (above_at n x r)) p.ballots (p.grades - 1) A C
        alone r n k hr e z h =
            let d : 0 < p.grades - 1 = omega (arith, f.d_least) in
            let px : x + 0 * word_span p ≡ x = omega (arith, zero-mul (word_span p)) in
            let py : y + 0 * word_span p ≡ y = omega (arith, zero-mul (word_span p)) in
            let wx = subst (λ (i : ℕ). Word W b p f i x (A 0)) e (subst (λ (i : ℕ). Word W b p f p.digits i (A 0)) px (kx 0 d)) in
            let wy = subst (λ (i : ℕ). Word W b p f i y (C 0)) e (subst (λ (i : ℕ). Word W b p f p.digits i (C 0)) py (ky 0 d)) in
            let matched : number W x 1 (suc r) + C 0 ≡ number W y 1 (suc r) + A 0 = ⊎_elim
            (λ (m : 0 < median). omega (arith, wx.low_worse (a.passed 0 m), wy.low_worse (c.passed 0 m)))
            (λ (m : median ≤ 0). omega (arith, wx.low_better (a.reached 0 m), wy.low_better (c.reached 0 m)))
            (below_or_not 0 median) in
            let t = compare_cut_law n x y r k hr W b h in
            ⊎_elim
            (λ (o : A 0 ≡ C 0). inl (t.same (omega arith), λ g l. let q : 0 ≡ g = omega arith in sym (ap A q) ∙ o ∙ ap C q))
            (⊎_elim
            (λ (o : C 0 < A 0). inr (inl (
              t.differ (λ q. unlike (A 0) (C 0) o (omega arith)),
              t.over (omega arith),
              record { grade = 0; decides = first A C d o z },
            )))
            (λ (o : A 0 < C 0). inr (inr (
              t.differ (λ q. unlike (C 0) (A 0) o (omega arith)),
              t.under (omega arith),
              record { grade = 0; decides = first C A d o z },
            ))))
            (three_ways (A 0) (C 0))
          where
            unlike : (u v : ℕ) → v < u → u ≡ v → ⊥
            unlike u v l e = omega arith

            first : (A C : ℕ → ℕ) → 0 < p.grades - 1 → C 0 < A 0 → p.grades - 2 ≡ 0 → Decides p.ballots (p.grades - 1) A C 0
            first A C d l z = record {
              inside = d;
              larger = l;
              worse_later = λ j h k m. absurd (omega arith);
              better_later = λ j h m. absurd (omega arith);
            }

        tie_break_below_law : (digits t n k e' s' : ℕ) → Leaves digits k → p.digits ≡ digits → p.grades - 2 ≡ t
            → x + key_span p ≤ n → y + key_span p ≤ n → W e' ≡ 0 → Holds W n (tie_break_below p n x y e' s' digits k t)
            → Outcome (W (n + tie_break_below_span digits t)) (W (n + tie_break_below_span digits t + 1)) p.ballots (p.grades - 1) A C
        unfolding tie_break_below tie_break_below_span
        tie_break_below_law zero t n k e' s' hr e z hx hy even h =
            inl (ap W (add-zero n) ∙ holds_first W n (copy_of e') (copy_of s' ∷ []) h ∙ copy_is W b e' ∙ even, λ g l. one_ballot e g)
        tie_break_below_law (suc r) zero n k e' s' hr e z hx hy even h =
            let q = n + compare_span r in
            let em = unequal_at n r in
            let sm = above_at n x r in
            let o = cut2 W n (compare_cut n x y r k) (or_of e' em ∷ mux_of e' s' sm ∷ []) q
            (omega (
              arith,
              (compare_block n x y r k (omega arith) (single_of r x n z hx e)
                  (single_of r y n z hy e)).long,
            )) h in
            let w₁ = holds_first W q (or_of e' em) (mux_of e' s' sm ∷ []) o.1 ∙ or_is W b e' em in
            let w₂ = holds_first W (q + 1) (mux_of e' s' sm) []
            (holds_rest W q (or_of e' em) (mux_of e' s' sm ∷ []) o.1) ∙ mux_zero (W e') (W s') (W sm) even in
            let w₁' : W em ≡ W q = omega (arith, b em) in
            subst (λ (u : ℕ). Outcome (W q) u p.ballots (p.grades - 1) A C) (sym w₂)
            (subst (λ (u : ℕ). Outcome u (W sm) p.ballots (p.grades - 1) A C) w₁' (alone r n k (omega arith) e z o.0))
          where
            single_of : (r v m : ℕ) → p.grades - 2 ≡ 0 → v + key_span p ≤ m → p.digits ≡ suc r → v + suc r ≤ m
            single_of r v m z q e = omega (arith, key_some)
        tie_break_below_law (suc r) (suc t) n k e' s' hr e z hx hy even h =
            let many : suc (suc t) ≡ p.grades - 1 = omega (arith, grades_are) in
            let bound : (i : ℕ) → i + key_span p ≤ n → i + suc (suc t) * stride r ≤ n = λ i l. key_bound r t n e z i l in
            let at : resolve_at n r t + 14 ≡ n + (resolve_at 0 r t + 14) = omega arith in
            let at' : resolve_at n r t + 15 ≡ n + (resolve_at 0 r t + 14) + 1 = omega arith in
            subst (λ (i : ℕ). Outcome (W (n + (resolve_at 0 r t + 14))) (W i) p.ballots (p.grades - 1) A C) at'
            (subst (λ (i : ℕ). Outcome (W i) (W (resolve_at n r t + 15)) p.ballots (p.grades - 1) A C) at
            (subst (λ (i : ℕ). Outcome (W (resolve_at n r t + 14)) (W (resolve_at n r t + 15)) p.ballots i A C) many
            (tie_break_law W b p f r t e z A C median a c n x y (bound x hx) (bound y hy) kx ky k (omega arith) e' s' even h)))

      -- a better median comes first
      ahead : (A C : ℕ → ℕ) (i j : ℕ) → Sums p.ballots p.grades A i → Sums p.ballots p.grades C j → i
          < j → Ahead p.ballots (p.grades - 1) A C
      ahead A C i j a c l =
          let half = a.reached i (omega arith) in
          let less = c.passed i l in
          record {
            grade = i;
            decides = record {
              inside = omega (arith, c.inside);
              larger = omega arith;
              worse_later = λ k h m q. omega (arith, half, a.grows i k (omega arith));
              better_later = λ k h m. omega (arith, less, c.grows k i (omega arith));
            };
          }

      pub contest_law : (i j n k : ℕ) → Leaves p.digits k → Sums p.ballots p.grades A i
          → Sums p.ballots p.grades C j → x + key_span p ≤ n → y + key_span p ≤ n → Holds W n (contest p n x y k)
          → Outcome (W (result_at p n)) (W (result_at p n + 1)) p.ballots (p.grades - 1) A C
      unfolding contest
      contest_law i j n k hr a c hx hy h =
          let d = p.grades - 1 in
          let r = p.places in
          let l = tie_break_below_at p n in
          let z = y + p.digits in
          let em = ones_differ n d r in
          let sm = ones_larger n z d r in
          let medians = compare_ones n z (x + p.digits) (word_span p) d r in
          let o = cut2 W n medians (tie_break_below p l x y em sm p.digits k (p.grades - 2)) l
          (omega (arith, (ones_block n z (x + p.digits) (word_span p) d r grade_fits (flags_end y n hy) (flags_end x n hx)).long)) h in
          let t = ones_law W b n z (x + p.digits) (word_span p) d r j i grade_fits (flags_end y n hy)
          (flags_end x n hx) (unary y j C c ky) (unary x i A a kx) o.0 in
          let decide : W em ≡ 1 → (W (result_at p n) ≡ 1) × (W (result_at p n + 1) ≡ W sm) =
          λ z. tie_break_below_medians x y p.digits (p.grades - 2) l k em sm hr refl refl (omega arith) (omega arith) z o.1 in
          ⊎_elim
          (λ (q : i ≡ j).
          tie_break_below_law i a (subst (λ (u : ℕ). Sums p.ballots p.grades C u) (sym q) c) p.digits
          (p.grades - 2) l k em sm hr refl refl (omega arith) (omega arith) (t.same (sym q)) o.1)
          (⊎_elim
          (λ (q : j < i). let u = t.under q in let v = decide u.0 in inr (inr (v.0, v.1 ∙ u.1, ahead C A j i c a q)))
          (λ (q : i < j). let u = t.over q in let v = decide u.0 in inr (inl (v.0, v.1 ∙ u.1, ahead A C i j a c q))))
          (three_ways i j)
