-- What the wire of a single gate is, from the values of its operands.
-- Assumes nothing.
use mathlib.Core.Path.{◌≡◌}
use mathlib.Core.List.{List, ◌∷◌}
use Prim.Native.Nat.{ℕ, zero, suc, ◌+◌, ◌-◌, ◌%◌, ◌≤◌, min, max}
use native.Mathlib.Numerals.{add-one, add-two, add-three}
use native.Mathlib.Omega.{arith}
use Rattle.gates.specs.Kind.{value_of}
use Rattle.gates.specs.Gate.{Gate}
use Rattle.gates.proofs.Laws.{Holds, zero_value, one_value, copy_value, not_value, and_value, or_value, xor_value}
use Rattle.gate_words.specs.Gates.{constant, copy_of, not_of, and_of, or_of, xor_of}
use Rattle.gate_words.proofs.Numbers.{Binary}

-- a gate's value on the wires W
abbrev pub value_on : (ℕ → ℕ) → Gate → ℕ
value_on W g = value_of g.kind (W g.a) (W g.b) (W g.c)

-- the first gate, and the gates after it, with wires written as n + 1, n + 2 and n + 3
pub holds_first : (W : ℕ → ℕ) (n : ℕ) (g : Gate) (gs : List Gate) → Holds W n (g ∷ gs) → W n ≡ value_on W g
holds_first W n g gs h = h.0

pub holds_rest : (W : ℕ → ℕ) (n : ℕ) (g : Gate) (gs : List Gate) → Holds W n (g ∷ gs) → Holds W (n + 1) gs
holds_rest W n g gs h = rw (add-one n) h.1

pub holds_three : (W : ℕ → ℕ) (n : ℕ) (g₁ g₂ g₃ : Gate) (gs : List Gate) → Holds W n (g₁ ∷ g₂ ∷ g₃ ∷ gs)
    → (W n ≡ value_on W g₁) × (W (n + 1) ≡ value_on W g₂) × (W (n + 2) ≡ value_on W g₃) × Holds W (n + 3) gs
holds_three W n g₁ g₂ g₃ gs h = (h.0, rw (add-one n) h.1.0, rw (add-two n) h.1.1.0, rw (add-three n) h.1.1.1)

module _ (W : ℕ → ℕ) (b : Binary W) where
  pub constant_is : (v : ℕ) → value_on W (constant v) ≡ v % 2
  constant_is v = go (v % 2) (omega arith)
    where
      go : (d : ℕ) → d ≤ 1 → value_of d (W 0) (W 0) (W 0) ≡ d
      go zero h = zero_value (W 0) (W 0) (W 0)
      go (suc zero) h = one_value (W 0) (W 0) (W 0)
      go (suc (suc d)) h = absurd (omega arith)

  pub copy_is : (a : ℕ) → value_on W (copy_of a) ≡ W a
  copy_is a = copy_value (W a) (W 0) (W 0)

  pub not_is : (a : ℕ) → value_on W (not_of a) ≡ 1 - W a
  not_is a = not_value (W a) (W 0) (W 0)

  pub and_is : (x y : ℕ) → value_on W (and_of x y) ≡ min (W x) (W y)
  and_is x y = and_value (W x) (W y) (W 0)

  pub or_is : (x y : ℕ) → value_on W (or_of x y) ≡ max (W x) (W y)
  or_is x y = or_value (W x) (W y) (W 0)

  pub xor_is : (x y : ℕ) → value_on W (xor_of x y) ≡ (W x + W y) % 2
  xor_is x y = xor_value (W x) (W y) (W 0) (b x) (b y)
