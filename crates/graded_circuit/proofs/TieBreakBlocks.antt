-- The comparison of two keys with equal medians is well-formed.
-- Assumes nothing.
use mathlib.Core.Path.{◌≡◌, refl}
use Prim.Native.Nat.{ℕ, zero, suc, ◌+◌, ◌*◌, ◌≤◌, ◌<◌}
use native.Mathlib.Nat.{suc-mul}
use native.Mathlib.Omega.{arith}
use Rattle.gate_words.proofs.Ends.{chain_below}
use Rattle.gate_words.specs.Halves.{unequal_span, unequal_at, compare_span, above_at}
use Rattle.gate_words.specs.Reach.{reach_span}
use Rattle.graded_circuit.specs.Nearest.{stride, side_span, below_at, from_at, either_span}
use Rattle.graded_circuit.specs.TieBreak.{down_at, up_at, nearest_end, far_at, nearest, down_left, down_right, up_left, up_right, chosen_high, compare_and_reach, compare_and_reach_span, left_carry, right_carry, resolve, resolve_span, resolve_at, tie_break, tie_break_span}
use Rattle.graded_circuit.proofs.Blocks.{Block, none_block, both_block, sized, gate_block, compare_block, reach_block}
use Rattle.graded_circuit.proofs.NearestLaws.{sides_block, last_of_block, first_of_block, left_below, right_below}
use Rattle.gate_words.proofs.PointsBack.{good_not}
use Rattle.gate_words.proofs.PointsBack.{good_and}
use Rattle.gate_words.proofs.PointsBack.{good_or}
use Rattle.gate_words.proofs.PointsBack.{good_xor}
use Rattle.gate_words.proofs.PointsBack.{good_mux}

-- the high half of a word leaves a digit for the low half
pub chosen_high_lem : (r h t : ℕ) → h ≤ r → chosen_high r h t ≤ r
unfolding chosen_high
chosen_high_lem r h zero q = q
chosen_high_lem r h (suc t) q = omega arith

pub nearest_block : (n x y r h t : ℕ) → h ≤ r → x + suc (suc t) * stride r ≤ n → y + suc (suc t) * stride r ≤ n
    → Block n (nearest n x y r h t) (t * side_span r + t * either_span r + t * either_span r)
unfolding nearest
nearest_block n x y r h t hr hx hy =
    let e = suc-mul (suc t) (stride r) in
    let e' = suc-mul t (stride r) in
    both_block (both_block (sides_block n (x + stride r) (y + stride r) r h t hr (omega arith) (omega arith)) refl
    (last_of_block (down_at n r t) (below_at n r) (x + stride r) (y + stride r) x y r t (omega arith) (omega arith)
    (omega arith) (omega arith) (omega arith))) (omega arith)
    (first_of_block (up_at n r t) (from_at n r) (x + stride r) (y + stride r) (far_at x r t) (far_at y r t) r t
    (omega arith) (omega arith) (omega arith) (omega arith) (omega arith))

pub compare_and_reach_block : (n a c u v e r h : ℕ) → h ≤ r → a + suc r ≤ n → c + suc r ≤ n → u + suc r ≤ n → v + suc r ≤ n
    → Block n (compare_and_reach n a c u v e r h) (compare_and_reach_span r)
unfolding compare_and_reach
compare_and_reach_block n a c u v e r h hr ha hc hu hv =
    sized (omega arith)
    (both_block (both_block (both_block (compare_block n a c r h hr ha hc) refl
    (compare_block (n + compare_span r) u v r h hr (omega arith) (omega arith))) (omega arith)
    (reach_block (n + 2 * compare_span r) a u e r (omega arith) (omega arith))) (omega arith)
    (reach_block (n + 2 * compare_span r + reach_span r) c v e r (omega arith) (omega arith)))

-- the sixteen gates of `resolve`
module _ (n : ℕ) where
  abbrev place : ℕ → ℕ
  place zero = n
  place (suc i) = suc (place i)

  place_is : (i : ℕ) → place i ≡ n + i
  place_is zero = omega arith
  place_is (suc i) = omega (arith, place_is i)

  here : (i j : ℕ) → i < j → n + i < place j
  here i j l = omega (arith, place_is j)

  earlier : (i x : ℕ) → x < n → x < place i
  earlier i x l = omega (arith, place_is i)

pub resolve_block : (n e s e₁ s₁ e₂ s₂ j k f g : ℕ) → e < n → s < n → e₁ < n → s₁ < n → e₂ < n → s₂ < n → j < n → k < n → f < n → g < n
    → Block n (resolve n e s e₁ s₁ e₂ s₂ j k f g) resolve_span
unfolding resolve
resolve_block n e s e₁ s₁ e₂ s₂ j k f g he hs a₁ b₁ a₂ b₂ hj hk hf hg =
    let p = place n in
    let old = earlier n in
    let new : (i m : ℕ) → i < m → n + i < p m = here n in
    gate_block (good_mux n s₁ j k b₁ hj hk)
    (gate_block (good_not (p 1) f (old 1 f hf))
    (gate_block (good_xor (p 2) f g (old 2 f hf) (old 2 g hg))
    (gate_block (good_mux (p 3) (n + 2) n (n + 1) (new 2 3 (omega arith)) (omega (arith, place_is n 3)) (new 1 3 (omega arith)))
    (gate_block (good_and (p 4) e₁ e₂ (old 4 e₁ a₁) (old 4 e₂ a₂))
    (gate_block (good_xor (p 5) e₁ e₂ (old 5 e₁ a₁) (old 5 e₂ a₂))
    (gate_block (good_xor (p 6) (n + 5) (n + 4) (new 5 6 (omega arith)) (new 4 6 (omega arith)))
    (gate_block (good_mux (p 7) e₂ s₂ s₁ (old 7 e₂ a₂) (old 7 s₂ b₂) (old 7 s₁ b₁))
    (gate_block (good_xor (p 8) s₁ s₂ (old 8 s₁ b₁) (old 8 s₂ b₂))
    (gate_block (good_not (p 9) e (old 9 e he))
    (gate_block (good_and (p 10) (n + 8) (n + 9) (new 8 10 (omega arith)) (new 9 10 (omega arith)))
    (gate_block (good_and (p 11) (n + 4) (n + 10) (new 4 11 (omega arith)) (new 10 11 (omega arith)))
    (gate_block (good_and (p 12) (n + 11) (n + 3) (new 11 12 (omega arith)) (new 3 12 (omega arith)))
    (gate_block (good_mux (p 13) e s (n + 7) (old 13 e he) (old 13 s hs) (new 7 13 (omega arith)))
    (gate_block (good_or (p 14) e (n + 6) (old 14 e he) (new 6 14 (omega arith)))
    (gate_block (good_xor (p 15) (n + 13) (n + 12) (new 13 15 (omega arith)) (new 12 15 (omega arith)))
    (none_block (p 16)))))))))))))))))

-- the chosen words end before the part that compares them
module _ (n x y r t : ℕ) (hx : x + suc (suc t) * stride r ≤ n) (hy : y + suc (suc t) * stride r ≤ n) where
  pub down_left_below : down_left n x r t + suc r ≤ nearest_end n r t
  down_left_below = let e = suc-mul (suc t) (stride r) in left_below (down_at n r t) x r t (nearest_end n r t) (omega arith) (omega arith)

  pub down_right_below : down_right n y r t + suc r ≤ nearest_end n r t
  down_right_below = let e = suc-mul (suc t) (stride r) in right_below (down_at n r t) y r t (nearest_end n r t) (omega arith) (omega arith)

  pub up_left_below : up_left n x r t + suc r ≤ nearest_end n r t
  up_left_below = let e = suc-mul (suc t) (stride r) in
      left_below (up_at n r t) (far_at x r t) r t (nearest_end n r t) (omega arith) (omega arith)

  pub up_right_below : up_right n y r t + suc r ≤ nearest_end n r t
  up_right_below = let e = suc-mul (suc t) (stride r) in
      right_below (up_at n r t) (far_at y r t) r t (nearest_end n r t) (omega arith) (omega arith)

  pub tie_break_block : (bit h e s : ℕ) → h ≤ r → e < n → s < n → Block n (tie_break bit n x y e s r h t) (tie_break_span r t)
  unfolding tie_break
  tie_break_block bit h e s hr he hs =
      let m = nearest_end n r t in
      let m' = m + compare_span r in
      let q = resolve_at n r t in
      let k = suc-mul (suc t) (stride r) in
      let dl = down_left_below in
      let dr = down_right_below in
      let ul = up_left_below in
      let ur = up_right_below in
      both_block (both_block (nearest_block n x y r h t hr hx hy) (omega arith)
      (compare_and_reach_block m (down_left n x r t) (down_right n y r t) (up_left n x r t) (up_right n y r t) bit r
      (chosen_high r h t) (chosen_high_lem r h t hr) dl dr ul ur)) (omega arith)
      (resolve_block q e s (unequal_at m r) (above_at m (down_left n x r t) r) (unequal_at m' r)
      (above_at m' (up_left n x r t) r) (left_carry m r) (right_carry m r) (x + suc r) (far_at x r t + suc r)
      (omega arith) (omega arith)
      (chain_below (m + suc r) m r q (omega arith) (omega arith))
      (chain_below (m + unequal_span r) (down_left n x r t) r q (omega arith) (omega arith))
      (chain_below (m' + suc r) m' r q (omega arith) (omega arith))
      (chain_below (m' + unequal_span r) (up_left n x r t) r q (omega arith) (omega arith))
      (omega arith) (omega arith) (omega arith) (omega arith))
