-- The value of each kind, lane by lane.
-- Assumes nothing.
use mathlib.Core.Path.{◌≡◌, ◌∙◌, refl, sym}
use Prim.Native.Nat.{ℕ, zero, suc, ◌+◌, ◌-◌, ◌%◌, ◌≤◌, ◌<◌, min}
use native.Mathlib.Omega.{arith}
use lib.Bits.{bit_and, bit_or, bit_xor}
use Rattle.gates.specs.Kind.{value_of}
use Rattle.gates.proofs.Laws.{zero_value, one_value, copy_value, not_value, and_value, or_value, xor_value, mux_zero, mux_one}
use Rattle.batch_lanes.specs.Lane.{lane_count, lane}
use Rattle.batch_lanes.proofs.LaneLaws.{lane_bit, lane_none, lane_all, lane_and, lane_or, lane_xor}

module _ (j : ℕ) (h : j < lane_count) (a b c : ℕ) where
  pub zero_lane : lane j 0 ≡ value_of 0 (lane j a) (lane j b) (lane j c)
  zero_lane = lane_none j ∙ sym (zero_value (lane j a) (lane j b) (lane j c))

  pub one_lane : lane j 18446744073709551615 ≡ value_of 1 (lane j a) (lane j b) (lane j c)
  one_lane = lane_all 64 j h ∙ sym (one_value (lane j a) (lane j b) (lane j c))

  pub copy_lane : lane j a ≡ value_of 2 (lane j a) (lane j b) (lane j c)
  copy_lane = sym (copy_value (lane j a) (lane j b) (lane j c))

  -- adding 1 modulo 2 gives the complement
  pub not_lane : lane j (bit_xor a 18446744073709551615) ≡ value_of 3 (lane j a) (lane j b) (lane j c)
  not_lane =
      let one : lane j 18446744073709551615 ≡ 1 = lane_all 64 j h in
      let e : (lane j a + lane j 18446744073709551615) % 2 ≡ 1 - lane j a = omega (arith, lane_bit j a) in
      lane_xor j a 18446744073709551615 ∙ e ∙ sym (not_value (lane j a) (lane j b) (lane j c))

  pub and_lane : lane j (bit_and a b) ≡ value_of 4 (lane j a) (lane j b) (lane j c)
  and_lane = lane_and j a b ∙ sym (and_value (lane j a) (lane j b) (lane j c))

  pub or_lane : lane j (bit_or a b) ≡ value_of 5 (lane j a) (lane j b) (lane j c)
  or_lane = lane_or j a b ∙ sym (or_value (lane j a) (lane j b) (lane j c))

  pub xor_lane : lane j (bit_xor a b) ≡ value_of 6 (lane j a) (lane j b) (lane j c)
  xor_lane = lane_xor j a b ∙ sym (xor_value (lane j a) (lane j b) (lane j c) (lane_bit j a) (lane_bit j b))

  -- c, or b if a is 1
  pub choice_lane : lane j (bit_xor c (bit_and a (bit_xor b c))) ≡ value_of 7 (lane j a) (lane j b) (lane j c)
  choice_lane = lane_xor j c (bit_and a (bit_xor b c))
      ∙ rw (lane_and j a (bit_xor b c), lane_xor j b c)
      (chosen (lane j a) (lane j b) (lane j c) (lane_bit j a) (lane_bit j b) (lane_bit j c))
    where
      chosen : (x y z : ℕ) → x ≤ 1 → y ≤ 1 → z ≤ 1 → (z + min x ((y + z) % 2)) % 2 ≡ value_of 7 x y z
      chosen zero y z hx hy hz = let e : (z + min 0 ((y + z) % 2)) % 2 ≡ z = omega arith in e ∙ sym (mux_zero 0 y z refl)
      chosen (suc zero) y z hx hy hz = let e : (z + min 1 ((y + z) % 2)) % 2 ≡ y = omega arith in e ∙ sym (mux_one 1 y z refl)
      chosen (suc (suc x)) y z hx hy hz = absurd (omega arith)
