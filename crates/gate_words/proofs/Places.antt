-- Wires that exist already.
-- Assumes nothing.
use mathlib.Core.Path.{◌≡◌}
use Prim.Native.Nat.{ℕ, zero, suc, ◌+◌, ◌-◌, ◌*◌, ◌/◌, ◌<◌, ◌≤◌}
use native.Mathlib.Omega.{arith}
use Rattle.gate_words.specs.Word.{Below}

-- wires below wire n are also below any later wire
pub below_more : (n n' at d m : ℕ) → n ≤ n' → Below n at d m → Below n' at d m
below_more n n' at d zero h b = tt
below_more n n' at d (suc m) h b = (omega arith, below_more n n' (at + d) d m h b.1)

-- the first of some wires, and those after it
pub below_first : (n at d m : ℕ) → 0 < m → Below n at d m → at < n
below_first n at d zero h b = absurd (omega arith)
below_first n at d (suc m) h b = b.0

pub below_rest : (n at d m : ℕ) → 0 < m → Below n at d m → Below n (at + d) d (m - 1)
below_rest n at d zero h b = absurd (omega arith)
below_rest n at d (suc m) h b = let e : suc m - 1 ≡ m = omega arith in rw e b.1

pub below_next : (n at d i m : ℕ) → i < m → Below n at d (m - i) → Below n (at + d) d (m - (i + 1))
below_next n at d i m h b = let e : m - i ≡ suc (m - (i + 1)) = omega arith in (rw e at b).1

-- the first two after i pairs, and those after them
pub below_two : (n at d i m : ℕ) → i < m / 2 → Below n at d (m - 2 * i)
    → (at + d < n) × Below n (at + d + d) d (m - 2 * (i + 1))
below_two n at d i m h b = let e : m - 2 * i ≡ suc (suc (m - 2 * (i + 1))) = omega arith in (rw e at b).1
