-- The lanes of a word after each operation, and those of the word of ones; and that a word is determined by its 64
-- bits.
-- Assumes nothing.
use mathlib.Core.Path.{◌≡◌, ◌∙◌, refl, sym, ap, ap₂}
use Prim.Native.Nat.{ℕ, zero, suc, ◌+◌, ◌-◌, ◌*◌, ◌/◌, ◌%◌, ◌^◌, ◌≤◌, ◌<◌, min, max}
use native.Mathlib.Nat.{div-one, mod-lt, pow-suc, zero-lt-suc}
use native.Mathlib.Numerals.{one-add}
use native.Mathlib.Omega.{arith}
use lib.Arith.{digits_mod}
use lib.Pow.{pow_pos, shr-shr}
use lib.Bits.{bit_and, bit_or, bit_xor, differ, and_step, or_step, xor_step, and_shr, or_shr, xor_shr}
use Rattle.batch_lanes.specs.Lane.{lane, packed}

two_pos : 0 < 2
two_pos = zero-lt-suc 1

pub lane_bit : (j w : ℕ) → lane j w ≤ 1
unfolding lane
lane_bit j w = omega (arith, mod-lt (w / 2 ^ j) two_pos)

pub lane_first : (w : ℕ) → lane 0 w ≡ w % 2
unfolding lane
lane_first w = ap (λ (x : ℕ). x % 2) (div-one w)

-- the next lane is this lane of half the word
pub lane_next : (j w : ℕ) → lane (suc j) w ≡ lane j (w / 2)
unfolding lane
lane_next j w = ap (λ (n : ℕ). w / 2 ^ n % 2) (sym (one-add j)) ∙ ap (λ (x : ℕ). x % 2) (sym (shr-shr w 1 j))

pub lane_none : (j : ℕ) → lane j 0 ≡ 0
lane_none zero = lane_first 0
lane_none (suc j) = lane_next j 0 ∙ lane_none j

-- the first m bits of 2 ^ m − 1 are 1
pub lane_all : (m j : ℕ) → j < m → lane j (2 ^ m - 1) ≡ 1
lane_all zero j h = absurd (omega arith)
lane_all (suc m) zero h = lane_first (2 ^ suc m - 1) ∙ omega (arith, pow-suc 2 m, pow_pos m)
lane_all (suc m) (suc j) h =
    let half : (2 ^ suc m - 1) / 2 ≡ 2 ^ m - 1 = omega (arith, pow-suc 2 m, pow_pos m) in
    lane_next j (2 ^ suc m - 1) ∙ ap (lane j) half ∙ lane_all m j (omega arith)

-- an operation that works digit by digit works lane by lane
module _ (op f : ℕ → ℕ → ℕ) (small : (x y : ℕ) → x < 2 → y < 2 → f x y < 2)
    (step : (a b : ℕ) → op a b ≡ op (a / 2) (b / 2) * 2 + f (a % 2) (b % 2))
    (shr : (a b k : ℕ) → op a b / 2 ^ k ≡ op (a / 2 ^ k) (b / 2 ^ k)) where
  lane_op : (j a b : ℕ) → lane j (op a b) ≡ f (lane j a) (lane j b)
  unfolding lane
  lane_op j a b =
      let x = a / 2 ^ j in
      let y = b / 2 ^ j in
      ap (λ (n : ℕ). n % 2) (shr a b j ∙ step x y)
      ∙ digits_mod (op (x / 2) (y / 2)) (small (x % 2) (y % 2) (mod-lt x two_pos) (mod-lt y two_pos))

differ_small : (x y : ℕ) → x < 2 → y < 2 → differ x y < 2
differ_small zero y hx hy = hy
differ_small (suc x) zero hx hy = hx
differ_small (suc x) (suc y) hx hy = differ_small x y (omega arith) (omega arith)

-- two bits differ exactly if their sum is odd
differ_sum : (x y : ℕ) → x ≤ 1 → y ≤ 1 → differ x y ≡ (x + y) % 2
differ_sum zero zero hx hy = refl
differ_sum zero (suc zero) hx hy = refl
differ_sum (suc zero) zero hx hy = refl
differ_sum (suc zero) (suc zero) hx hy = refl
differ_sum zero (suc (suc y)) hx hy = absurd (omega arith)
differ_sum (suc zero) (suc (suc y)) hx hy = absurd (omega arith)
differ_sum (suc (suc x)) y hx hy = absurd (omega arith)

pub lane_and : (j a b : ℕ) → lane j (bit_and a b) ≡ min (lane j a) (lane j b)
lane_and j a b = lane_op bit_and min (λ x y hx hy. omega arith) and_step and_shr j a b

pub lane_or : (j a b : ℕ) → lane j (bit_or a b) ≡ max (lane j a) (lane j b)
lane_or j a b = lane_op bit_or max (λ x y hx hy. omega arith) or_step or_shr j a b

pub lane_xor : (j a b : ℕ) → lane j (bit_xor a b) ≡ (lane j a + lane j b) % 2
lane_xor j a b = lane_op bit_xor differ differ_small xor_step xor_shr j a b ∙ differ_sum (lane j a) (lane j b) (lane_bit j a) (lane_bit j b)

-- numbers with equal bits are equal
pub packed_same : (m : ℕ) (f g : ℕ → ℕ) → ((j : ℕ) → j < m → f j ≡ g j) → packed m f ≡ packed m g
unfolding packed
packed_same zero f g e = refl
packed_same (suc m) f g e = ap₂ (λ (x y : ℕ). x + 2 * y) (e 0 (omega arith))
    (packed_same m (λ j. f (suc j)) (λ j. g (suc j)) (λ j h. e (suc j) (omega arith)))

-- packing the lanes of a word gives the word
pub packed_lanes : (m w : ℕ) → w < 2 ^ m → packed m (λ j. lane j w) ≡ w
unfolding packed
packed_lanes zero w h = omega arith
packed_lanes (suc m) w h =
    let rest : packed m (λ j. lane (suc j) w) ≡ w / 2 =
    packed_same m (λ j. lane (suc j) w) (λ j. lane j (w / 2)) (λ j l. lane_next j w)
    ∙ packed_lanes m (w / 2) (omega (arith, pow-suc 2 m)) in
    omega (arith, lane_first w, rest)

-- lane j of a packed number is its bit j
pub lane_packed : (m j : ℕ) (bit : ℕ → ℕ) → j < m → ((i : ℕ) → bit i ≤ 1) → lane j (packed m bit) ≡ bit j
unfolding packed
lane_packed zero j bit h small = absurd (omega arith)
lane_packed (suc m) zero bit h small = lane_first (bit 0 + 2 * packed m (λ j. bit (suc j))) ∙ omega (arith, small 0)
lane_packed (suc m) (suc j) bit h small =
    let half : (bit 0 + 2 * packed m (λ j. bit (suc j))) / 2 ≡ packed m (λ j. bit (suc j)) = omega (arith, small 0) in
    lane_next j (bit 0 + 2 * packed m (λ j. bit (suc j))) ∙ ap (lane j) half
    ∙ lane_packed m j (λ j. bit (suc j)) (omega arith) (λ i. small (suc i))
