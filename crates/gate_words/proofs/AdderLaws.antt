-- What adders compute.
-- Assumes nothing.
use mathlib.Core.Path.{◌≡◌, ◌∙◌}
use mathlib.Core.Logic.{⊎_elim}
use mathlib.Core.List.{[]}
use Prim.Native.Nat.{ℕ, zero, suc, ◌+◌, ◌*◌, ◌%◌, ◌≤◌}
use native.Mathlib.Omega.{arith}
use Rattle.gates.proofs.Laws.{Holds, mux_zero, mux_one}
use Rattle.gate_words.specs.Gates.{copy_of, not_of, and_of, or_of, xor_of, mux_of}
use Rattle.gate_words.specs.Adder.{full_adder, half_adder, increment}
use Rattle.gate_words.proofs.Numbers.{Binary}
use Rattle.gate_words.proofs.GateValues.{holds_three, copy_is, not_is, and_is, or_is, xor_is}
use Rattle.basics.proofs.Arithmetic.{bit_cases}

-- three bits: x is the sum modulo 2 of the first two, t that of all; the carry is v if x is 1, s if it is 0
full_sum : (s u v x t c : ℕ) → s ≤ 1 → u ≤ 1 → v ≤ 1 → x ≡ (s + u) % 2 → t ≡ (x + v) % 2 → (x ≡ 0 → c ≡ s)
    → (x ≡ 1 → c ≡ v) → t + 2 * c ≡ s + u + v
full_sum s u v x t c hs hu hv ex et c₀ c₁ =
    ⊎_elim (λ (e : x ≡ 0). let k = c₀ e in omega arith) (λ (e : x ≡ 1). let k = c₁ e in omega arith) (bit_cases x (omega arith))

module _ (W : ℕ → ℕ) (b : Binary W) where
  pub full_law : (n s u v : ℕ) → Holds W n (full_adder n s u v) → W (n + 1) + 2 * W (n + 2) ≡ W s + W u + W v
  unfolding full_adder
  full_law n s u v h =
      let g = holds_three W n (xor_of s u) (xor_of n v) (mux_of n v s) [] h in
      full_sum (W s) (W u) (W v) (W n) (W (n + 1)) (W (n + 2)) (b s) (b u) (b v) (g.0 ∙ xor_is W b s u) (g.1 ∙ xor_is W b n v)
      (λ e. g.2 ∙ mux_zero (W n) (W v) (W s) e) (λ e. g.2 ∙ mux_one (W n) (W v) (W s) e)

  pub half_law : (n s u e : ℕ) → e ≤ 1 → Holds W n (half_adder n s u e) → W (n + 1) + 2 * W (n + 2) ≡ W s + W u + e
  unfolding half_adder
  half_law n s u zero l h =
      let g = holds_three W n (xor_of s u) (copy_of n) (and_of s u) [] h in
      omega (arith, b s, b u, g.0 ∙ xor_is W b s u, g.1 ∙ copy_is W b n, g.2 ∙ and_is W b s u)
  half_law n s u (suc zero) l h =
      let g = holds_three W n (xor_of s u) (not_of n) (or_of s u) [] h in
      omega (arith, b s, b u, g.0 ∙ xor_is W b s u, g.1 ∙ not_is W b n, g.2 ∙ or_is W b s u)
  half_law n s u (suc (suc e)) l h = absurd (omega arith)

  pub increment_law : (n s : ℕ) → Holds W n (increment n s) → W (n + 1) + 2 * W (n + 2) ≡ W s + 1
  unfolding increment
  increment_law n s h =
      let g = holds_three W n (not_of s) (copy_of n) (copy_of s) [] h in
      omega (arith, b s, g.0 ∙ not_is W b s, g.1 ∙ copy_is W b n, g.2 ∙ copy_is W b s)
