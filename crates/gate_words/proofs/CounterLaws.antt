-- What counters compute, for every number of bits, start and stride.
-- Assumes nothing.
use mathlib.Core.Path.{◌≡◌, ◌∙◌, refl, sym, ap, subst}
use mathlib.Core.List.{[]}
use Prim.Native.Nat.{ℕ, zero, suc, ◌+◌, ◌-◌, ◌*◌, ◌/◌, ◌^◌, ◌%◌, ◌≤◌, ◌<◌}
use native.Mathlib.Nat.{pow-succ'}
use native.Mathlib.Omega.{arith}
use borrow.Author.Tests.{eq-eqb, ne_eqb}
use Rattle.gates.proofs.Laws.{Holds, holds_append}
use Rattle.gate_words.specs.Gates.{copy_of, xor_of}
use Rattle.gate_words.specs.Word.{ones_at, number}
use Rattle.gate_words.specs.Adder.{full_adder}
use Rattle.gate_words.specs.Choice.{chain_of, chain_end, parity}
use Rattle.gate_words.specs.Counter.{level, adders, level_sum, count_levels, count_digits_as, count_digits, counter, count_size, Countable}
use Rattle.gate_words.proofs.Numbers.{Binary, ones_none, ones_more, number_one, number_more}
use Rattle.gate_words.proofs.GateValues.{holds_first, holds_rest, copy_is, xor_is}
use Rattle.gate_words.proofs.ChoiceSteps.{chain_next}
use Rattle.gate_words.proofs.WordSteps.{length_full}
use Rattle.gate_words.proofs.CounterSteps.{length_level, length_count, suc_not_zero}
use Rattle.gate_words.proofs.AdderLaws.{full_law, half_law, increment_law}

-- the wire of a level's sum
sum_none : (n s m e : ℕ) → adders m e ≡ 0 → level_sum n s m e ≡ s
unfolding level_sum
sum_none n s m e p = rw (eq-eqb (adders m e) 0 p)

sum_some : (n s m e t : ℕ) → adders m e ≡ suc t → level_sum n s m e ≡ n + 3 * t + 1
unfolding level_sum
sum_some n s m e t p = rw (ne_eqb (adders m e) 0 (λ q. suc_not_zero p q), p) (omega arith)

two_more : (m e : ℕ) → adders (suc (suc m)) e ≡ suc (adders m e)
unfolding adders
two_more m e = omega arith

-- a level of two more bits has the same sum as the level after its first adder
sum_next : (n s m e : ℕ) → level_sum (n + 3) (n + 1) m e ≡ level_sum n s (suc (suc m)) e
sum_next n s m e = go (adders m e) refl
  where
    go : (t : ℕ) → adders m e ≡ t → level_sum (n + 3) (n + 1) m e ≡ level_sum n s (suc (suc m)) e
    go zero p = let q : n + 1 ≡ n + 3 * 0 + 1 = omega arith in sum_none (n + 3) (n + 1) m e p ∙ q
        ∙ sym (sum_some n s (suc (suc m)) e 0 (two_more m e ∙ ap suc p))
    go (suc t) p = let q : n + 3 + 3 * t + 1 ≡ n + 3 * suc t + 1 = omega arith in sum_some (n + 3) (n + 1) m e t p
        ∙ q ∙ sym (sum_some n s (suc (suc m)) e (suc t) (two_more m e ∙ ap suc p))

module _ (W : ℕ → ℕ) (b : Binary W) where
  -- a level of one adder
  one_adder : (n s m e k : ℕ) → adders m e ≡ 1 → W (n + 1) + 2 * W (n + 2) ≡ k → W (level_sum n s m e) + 2
      * ones_at W (n + 2) 3 (adders m e) ≡ k
  one_adder n s m e k p f =
      let place : n + 3 * 0 + 1 ≡ n + 1 = omega arith in
      rw (sum_some n s m e 0 p, place, p) (omega (arith, ones_more W (n + 2) 3 0, ones_none W (n + 2 + 3) 3))

  -- the bits of a level and e add up to its sum plus twice its carries
  pub level_law : (n s at d e m : ℕ) → e ≤ 1 → Holds W n (level n s at d e m)
      → W (level_sum n s m e) + 2 * ones_at W (n + 2) 3 (adders m e) ≡ W s + ones_at W at d m + e
  unfolding level
  level_law n s at d zero zero l h = unfold adders in (rw (sum_none n s 0 0 refl, ones_none W (n + 2) 3, ones_none W at d) (omega arith))
  level_law n s at d (suc zero) zero l h =
      one_adder n s 0 1 (W s + ones_at W at d 0 + 1) (unfold adders in refl)
      (omega (arith, increment_law W b n s h, ones_none W at d))
  level_law n s at d (suc (suc e)) zero l h = absurd (omega arith)
  level_law n s at d e (suc zero) l h =
      one_adder n s 1 e (W s + ones_at W at d 1 + e) (unfold adders in (omega arith))
      (omega (arith, half_law W b n s at e l h, ones_more W at d 0, ones_none W (at + d) d))
  level_law n s at d e (suc (suc m)) l h =
      let rest = level (n + 3) (n + 1) (at + d + d) d e m in
      let p = holds_append W n (full_adder n s at (at + d)) rest h in
      let f = full_law W b n s at (at + d) p.0 in
      let r = level_law (n + 3) (n + 1) (at + d + d) d e m l
      (subst (λ (k : ℕ). Holds W k rest) (ap (λ (k : ℕ). n + k) (length_full n s at (at + d))) p.1) in
      let place : n + 3 + 2 ≡ n + 2 + 3 = omega arith in
      omega (
        arith,
        f,
        r,
        ap W (sum_next n s m e),
        ap (ones_at W (n + 2) 3) (two_more m e),
        ones_more W (n + 2) 3 (adders m e),
        ap (λ (k : ℕ). ones_at W k 3 (adders m e)) place,
        ones_more W at d (suc m),
        ones_more W (at + d) d m,
      )

  -- the digits of a count: the levels start at n, and the copies of their sums at q
  pub count_law : (n at d m x r q : ℕ) → Countable m x r → Holds W n (count_levels n at d m x r) → Holds W q (count_digits n at m x r)
      → number W q 1 (suc r) ≡ ones_at W at d m + x
  unfolding count_levels count_digits_as
  count_law n at d m x zero q k h g =
      rw (k.0, k.1) (omega (
        arith,
        number_one W q 1,
        holds_first W q (copy_of at) [] g,
        copy_is W b at,
        ones_more W at d 0,
        ones_none W (at + d) d,
      ))
  count_law n at d m x (suc r) q k h g =
      let e = x % 2 in
      let t = adders (m - 1) e in
      let lev = level n at (at + d) d e (m - 1) in
      let rest = count_levels (n + 3 * t) (n + 2) 3 t (x / 2) r in
      let digits = count_digits (n + 3 * t) (n + 2) t (x / 2) r in
      let p = holds_append W n lev rest h in
      let f = level_law n at (at + d) d e (m - 1) (omega arith) p.0 in
      let above = count_law (n + 3 * t) (n + 2) 3 t (x / 2) r (q + 1) k.1
      (subst (λ (z : ℕ). Holds W z rest) (ap (λ (z : ℕ). n + z) (length_level n at (at + d) d e (m - 1) (omega arith))) p.1)
      (holds_rest W q (copy_of (level_sum n at (m - 1) e)) digits g) in
      let first : m ≡ suc (m - 1) = omega (arith, k.0) in
      omega (
        arith,
        f,
        above,
        number_more W q 1 (suc r),
        holds_first W q (copy_of (level_sum n at (m - 1) e)) digits g,
        copy_is W b (level_sum n at (m - 1) e),
        ap (ones_at W at d) first,
        ones_more W at d (m - 1),
      )

  pub counter_law : (n at d m x r : ℕ) → Countable m x r → Holds W n (counter n at d m x r)
      → number W (n + count_size m x r) 1 (suc r) ≡ ones_at W at d m + x
  unfolding counter
  counter_law n at d m x r k h =
      let p = holds_append W n (count_levels n at d m x r) (count_digits n at m x r) h in
      count_law n at d m x r (n + count_size m x r) k p.0
      (subst (λ (z : ℕ). Holds W z (count_digits n at m x r)) (ap (λ (z : ℕ). n + z) (length_count n at d m x r)) p.1)

  -- a chain of "xor" is the sum modulo 2
  pub parity_law : (n s at d m : ℕ) → Holds W n (parity n s at d m) → W (chain_end n s m) ≡ (W s + ones_at W at d m) % 2
  unfolding chain_of
  parity_law n s at d zero h = unfold chain_end in (omega (arith, b s, ones_none W at d))
  parity_law n s at d (suc m) h =
      let g = holds_first W n (xor_of s at) (parity (n + 1) n (at + d) d m) h ∙ xor_is W b s at in
      let r = parity_law (n + 1) n (at + d) d m (holds_rest W n (xor_of s at) (parity (n + 1) n (at + d) d m) h) in
      omega (arith, g, r, ap W (chain_next n s m), ones_more W at d m)

-- m bits and the number x can be counted in r + 1 digits if m + x has exactly r + 1 digits and x has at most r
pub countable : (m x r : ℕ) → 2 ^ r ≤ m + x → m + x < 2 ^ suc r → x < 2 ^ r → Countable m x r
countable m x zero low high small = (omega arith, omega arith)
countable m x (suc r) low high small =
    let e = pow-succ' 2 r in
    let f = pow-succ' 2 (suc r) in
    let t : adders (m - 1) (x % 2) ≡ (m + x % 2) / 2 = next m x (omega arith) in
    (omega arith, rw t (countable ((m + x % 2) / 2) (x / 2) r (omega arith) (omega arith) (omega arith)))
  where
    next : (m x : ℕ) → 0 < m → adders (m - 1) (x % 2) ≡ (m + x % 2) / 2
    next m x h = unfold adders in (omega arith)
