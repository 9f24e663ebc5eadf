-- Rows of sums modulo 2, and counts whose digits are copied or complemented: what they compute, their lengths, and
-- that they are well-formed.
-- Assumes nothing.
use mathlib.Core.Path.{◌≡◌, ◌∙◌, refl, sym, ap, subst}
use mathlib.Core.List.{[]}
use Prim.Native.Nat.{ℕ, zero, suc, ◌+◌, ◌-◌, ◌*◌, ◌/◌, ◌%◌, ◌^◌, ◌<◌}
use native.Mathlib.Nat.{add-zero, zero-mul, suc-mul, pow-succ'}
use native.Mathlib.Omega.{arith}
use lib.ListN.{length}
use Rattle.gates.proofs.Laws.{Holds, AllGood, holds_append}
use Rattle.gate_words.specs.Gates.{copy_of, not_of, xor_of}
use Rattle.gate_words.specs.Word.{ones_at, number, Below}
use Rattle.gate_words.specs.Rows.{xor_rows}
use Rattle.gate_words.specs.Counter.{level, adders, level_sum, count_levels, count_digits_as, Countable}
use Rattle.gate_words.proofs.Numbers.{Binary, number_none, number_more, ones_none, ones_more}
use Rattle.gate_words.proofs.GateValues.{holds_first, holds_rest, copy_is, not_is, xor_is}
use Rattle.gate_words.proofs.CounterSteps.{length_level}
use Rattle.gate_words.proofs.CounterLaws.{level_law}
use Rattle.gate_words.proofs.Places.{below_more}
use Rattle.gate_words.proofs.PointsBack.{good_xor}

pub length_rows : (x dx y dy m : ℕ) → length (xor_rows x dx y dy m) ≡ m
unfolding xor_rows
length_rows x dx y dy zero = refl
length_rows x dx y dy (suc m) = ap suc (length_rows (x + dx) dx (y + dy) dy m)

pub rows_good : (n x dx y dy m : ℕ) → Below n x dx m → Below n y dy m → AllGood n (xor_rows x dx y dy m)
unfolding xor_rows
rows_good n x dx y dy zero hx hy = tt
rows_good n x dx y dy (suc m) hx hy = (
  good_xor n x y hx.0 hy.0,
  rows_good (suc n) (x + dx) dx (y + dy) dy m (below_more n (suc n) (x + dx) dx m (omega arith) hx.1)
      (below_more n (suc n) (y + dy) dy m (omega arith) hy.1),
)

module _ (W : ℕ → ℕ) (b : Binary W) where
  pub rows_law : (n x dx y dy m i : ℕ) → i < m → Holds W n (xor_rows x dx y dy m) → W (n + i) ≡ (W (x + i * dx) + W (y + i * dy)) % 2
  unfolding xor_rows
  rows_law n x dx y dy zero i l h = absurd (omega arith)
  rows_law n x dx y dy (suc m) zero l h =
      let px : x + 0 * dx ≡ x = omega (arith, zero-mul dx) in
      let py : y + 0 * dy ≡ y = omega (arith, zero-mul dy) in
      rw (add-zero n, px, py) (holds_first W n (xor_of x y) (xor_rows (x + dx) dx (y + dy) dy m) h ∙ xor_is W b x y)
  rows_law n x dx y dy (suc m) (suc i) l h =
      let pn : n + suc i ≡ n + 1 + i = omega arith in
      let px : x + suc i * dx ≡ x + dx + i * dx = omega (arith, suc-mul i dx) in
      let py : y + suc i * dy ≡ y + dy + i * dy = omega (arith, suc-mul i dy) in
      rw (pn, px, py) (rows_law (n + 1) (x + dx) dx (y + dy) dy m i (omega arith)
      (holds_rest W n (xor_of x y) (xor_rows (x + dx) dx (y + dy) dy m) h))

  -- if two rows have no 1 in common, their sum has as many ones as both together
  pub ones_both : (z x dx y dy m : ℕ) → ((i : ℕ) → i < m → W (z + i * 1) ≡ W (x + i * dx) + W (y + i * dy))
      → ones_at W z 1 m ≡ ones_at W x dx m + ones_at W y dy m
  ones_both z x dx y dy zero h = omega (arith, ones_none W z 1, ones_none W x dx, ones_none W y dy)
  ones_both z x dx y dy (suc m) h =
      let pz : z + 0 * 1 ≡ z = omega arith in
      let px : x + 0 * dx ≡ x = omega (arith, zero-mul dx) in
      let py : y + 0 * dy ≡ y = omega (arith, zero-mul dy) in
      let first = sym (ap W pz) ∙ h 0 (omega arith) in
      let rest = ones_both (z + 1) (x + dx) dx (y + dy) dy m
      (λ i l. let qz : z + 1 + i * 1 ≡ z + suc i * 1 = omega arith in
      let qx : x + dx + i * dx ≡ x + suc i * dx = omega (arith, suc-mul i dx) in
      let qy : y + dy + i * dy ≡ y + suc i * dy = omega (arith, suc-mul i dy) in
      rw (qz, qx, qy) (h (suc i) (omega arith))) in
      omega (arith, first, ap W px, ap W py, rest, ones_more W z 1 m, ones_more W x dx m, ones_more W y dy m)

  -- one level: its sum is the lowest digit of the count, and the other levels count its carries
  carried : (n at d m x r : ℕ) → 0 < m → Holds W n (count_levels n at d m x (suc r))
      → (W (level_sum n at (m - 1) (x % 2)) + 2 * (ones_at W (n + 2) 3 (adders (m - 1) (x % 2)) + x / 2) ≡ ones_at W at d m + x)
      × Holds W (n + 3 * adders (m - 1) (x % 2)) (count_levels (n + 3 * adders (m - 1) (x % 2)) (n + 2) 3 (adders (m - 1) (x % 2)) (x / 2) r)
  unfolding count_levels
  carried n at d m x r k h =
      let e = x % 2 in
      let t = adders (m - 1) e in
      let lev = level n at (at + d) d e (m - 1) in
      let rest = count_levels (n + 3 * t) (n + 2) 3 t (x / 2) r in
      let p = holds_append W n lev rest h in
      let f = level_law W b n at (at + d) d e (m - 1) (omega arith) p.0 in
      let first : m ≡ suc (m - 1) = omega arith in (
        omega (arith, f, ap (ones_at W at d) first, ones_more W at d (m - 1)),
        subst (λ (z : ℕ). Holds W z rest)
            (ap (λ (z : ℕ). n + z) (length_level n at (at + d) d e (m - 1) (omega arith))) p.1,
      )

  -- The low digits of a total are at q, and the complement of its top digit is at q + r.
  pub record Told (q r total : ℕ) : Type 0 where
    pub short : W (q + r) ≡ 1 → number W q 1 r ≡ total
    pub long : W (q + r) ≡ 0 → number W q 1 r + 2 ^ r ≡ total

  -- a count whose low digits are copied and whose top digit is complemented
  pub copied_law : (n at d m x r q : ℕ) → Countable m x r → Holds W n (count_levels n at d m x r)
      → Holds W q (count_digits_as 2 3 n at m x r) → Told q r (ones_at W at d m + x)
  unfolding count_digits_as
  copied_law n at d m x zero q k h g =
      let e = holds_first W q (not_of at) [] g ∙ not_is W b at in
      let z = ap W (add-zero q) in
      let k₀ = k.0 in
      let k₁ = k.1 in
      let o = ap (ones_at W at d) k₀ ∙ ones_more W at d 0 in
      record {
        short = λ i. omega (arith, e, z, o, ones_none W (at + d) d, number_none W q 1, b at);
        long =
            λ i. omega (arith, e, z, o, ones_none W (at + d) d, number_none W q 1, b at);
      }
  copied_law n at d m x (suc r) q k h g =
      let t = adders (m - 1) (x % 2) in
      let s = level_sum n at (m - 1) (x % 2) in
      let digits = count_digits_as 2 3 (n + 3 * t) (n + 2) t (x / 2) r in
      let c = carried n at d m x r k.0 h in
      let a = copied_law (n + 3 * t) (n + 2) 3 t (x / 2) r (q + 1) k.1 c.1 (holds_rest W q (copy_of s) digits g) in
      let e = holds_first W q (copy_of s) digits g ∙ copy_is W b s in
      let place : q + suc r ≡ q + 1 + r = omega arith in
      let w = ap W place in
      record {
        short = λ i. omega (arith, e, c.0, a.short (sym w ∙ i), number_more W q 1 r);
        long =
            λ i. omega (arith, e, c.0, a.long (sym w ∙ i), number_more W q 1 r, pow-succ' 2 r);
      }

  -- a count whose low digits are complemented and whose top digit is copied: the total is then 2 ^ (r + 1) - 1 -
  -- count
  pub complemented_law : (n at d m x r q total : ℕ) → Countable m x r → total + 1 + (ones_at W at d m + x) ≡ 2 ^ suc r
      → Holds W n (count_levels n at d m x r) → Holds W q (count_digits_as 3 2 n at m x r)
      → Told q r total
  unfolding count_digits_as
  complemented_law n at d m x zero q total k sum h g =
      let e = holds_first W q (copy_of at) [] g ∙ copy_is W b at in
      let z = ap W (add-zero q) in
      let k₀ = k.0 in
      let k₁ = k.1 in
      let o = ap (ones_at W at d) k₀ ∙ ones_more W at d 0 in
      let two = pow-succ' 2 0 in
      record {
        short = λ i. omega (arith, e, z, o, ones_none W (at + d) d, number_none W q 1);
        long =
            λ i. omega (arith, e, z, o, ones_none W (at + d) d, number_none W q 1);
      }
  complemented_law n at d m x (suc r) q total k sum h g =
      let t = adders (m - 1) (x % 2) in
      let s = level_sum n at (m - 1) (x % 2) in
      let digits = count_digits_as 3 2 (n + 3 * t) (n + 2) t (x / 2) r in
      let c = carried n at d m x r k.0 h in
      let c₀ = c.0 in
      let half : total / 2 + 1 + (ones_at W (n + 2) 3 t + x / 2) ≡ 2 ^ suc r = omega (arith, b s, pow-succ' 2 (suc r)) in
      let a = complemented_law (n + 3 * t) (n + 2) 3 t (x / 2) r (q + 1) (total / 2) k.1 half c.1
      (holds_rest W q (not_of s) digits g) in
      let e = holds_first W q (not_of s) digits g ∙ not_is W b s in
      let place : q + suc r ≡ q + 1 + r = omega arith in
      let w = ap W place in
      let low = number_more W q 1 r in
      let size = pow-succ' 2 (suc r) in
      record {
        short = λ i. omega (arith, e, b s, half, a.short (sym w ∙ i));
        long =
            λ i. omega (arith, e, b s, half, a.long (sym w ∙ i), pow-succ' 2 r);
      }
