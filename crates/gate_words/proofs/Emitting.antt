-- The gates of the blocks, as the writer writes them.
-- Assumes nothing.
use mathlib.Core.Path.{◌≡◌, ap}
use mathlib.Core.List.{List, [], ◌∷◌}
use Prim.Native.Nat.{ℕ, zero, suc, ◌%◌, ◌<◌}
use native.Mathlib.Omega.{arith}
use Rattle.gates.specs.Kind.{operands_of}
use Rattle.gates.specs.Gate.{Gate}
use Rattle.gates.proofs.Laws.{operand_counts_lem}
use Rattle.gate_words.specs.Gates.{gate, constant, copy_of, not_of, and_of, or_of, xor_of, mux_of}
use Rattle.gate_words.specs.Emitted.{emitted}
use Rattle.gate_words.specs.Writing.{Room, Wrote}
use Rattle.gate_words.specs.declared.writer.Writer.{Writer}
use Rattle.gate_words.proofs.Writing.{wrote_both, wrote_as, room_after}

none_used : (kind a b c : ℕ) → operands_of kind ≡ 0 → emitted kind a b c ≡ gate kind 0 0 0
unfolding emitted
none_used kind a b c e = rw e

one_used : (kind a b c : ℕ) → operands_of kind ≡ 1 → emitted kind a b c ≡ gate kind a 0 0
unfolding emitted
one_used kind a b c e = rw e

two_used : (kind a b c : ℕ) → operands_of kind ≡ 2 → emitted kind a b c ≡ gate kind a b 0
unfolding emitted
two_used kind a b c e = rw e

three_used : (kind a b c : ℕ) → operands_of kind ≡ 3 → emitted kind a b c ≡ gate kind a b c
unfolding emitted
three_used kind a b c e = rw e

pub bit_none_used : (v : ℕ) → v < 2 → operands_of v ≡ 0
bit_none_used zero h = operand_counts_lem.0
bit_none_used (suc zero) h = operand_counts_lem.1
bit_none_used (suc (suc v)) h = absurd (omega arith)

module _ (w : Writer) (t t₁ : List ℕ) (w₁ : Writer) (a b c : ℕ) where
  pub constant_wrote : (v : ℕ) → Wrote w t (emitted (v % 2) a b c ∷ []) t₁ w₁ → Wrote w t (constant v ∷ []) t₁ w₁
  constant_wrote v = wrote_as w t (emitted (v % 2) a b c ∷ []) (constant v ∷ []) t₁ w₁
      (ap (λ (g : Gate). g ∷ []) (none_used (v % 2) a b c (bit_none_used (v % 2) (omega arith))))

  pub one_wrote : (kind : ℕ) → operands_of kind ≡ 1 → Wrote w t (emitted kind a b c ∷ []) t₁ w₁ → Wrote w t (gate kind a 0 0 ∷ []) t₁ w₁
  one_wrote kind e = wrote_as w t (emitted kind a b c ∷ []) (gate kind a 0 0 ∷ []) t₁ w₁ (ap (λ (g : Gate). g ∷ []) (one_used kind a b c e))

  pub two_wrote : (kind : ℕ) → operands_of kind ≡ 2 → Wrote w t (emitted kind a b c ∷ []) t₁ w₁ → Wrote w t (gate kind a b 0 ∷ []) t₁ w₁
  two_wrote kind e = wrote_as w t (emitted kind a b c ∷ []) (gate kind a b 0 ∷ []) t₁ w₁ (ap (λ (g : Gate). g ∷ []) (two_used kind a b c e))

  pub copy_wrote : Wrote w t (emitted 2 a b c ∷ []) t₁ w₁ → Wrote w t (copy_of a ∷ []) t₁ w₁
  copy_wrote = wrote_as w t (emitted 2 a b c ∷ []) (copy_of a ∷ []) t₁ w₁ (ap (λ (g : Gate). g ∷ []) (one_used 2 a b c operand_counts_lem.2))

  pub not_wrote : Wrote w t (emitted 3 a b c ∷ []) t₁ w₁ → Wrote w t (not_of a ∷ []) t₁ w₁
  not_wrote = wrote_as w t (emitted 3 a b c ∷ []) (not_of a ∷ []) t₁ w₁ (ap (λ (g : Gate). g ∷ []) (one_used 3 a b c operand_counts_lem.3))

  pub and_wrote : Wrote w t (emitted 4 a b c ∷ []) t₁ w₁ → Wrote w t (and_of a b ∷ []) t₁ w₁
  and_wrote = wrote_as w t (emitted 4 a b c ∷ []) (and_of a b ∷ []) t₁ w₁ (ap (λ (g : Gate). g ∷ []) (two_used 4 a b c operand_counts_lem.4))

  pub or_wrote : Wrote w t (emitted 5 a b c ∷ []) t₁ w₁ → Wrote w t (or_of a b ∷ []) t₁ w₁
  or_wrote = wrote_as w t (emitted 5 a b c ∷ []) (or_of a b ∷ []) t₁ w₁ (ap (λ (g : Gate). g ∷ []) (two_used 5 a b c operand_counts_lem.5))

  pub xor_wrote : Wrote w t (emitted 6 a b c ∷ []) t₁ w₁ → Wrote w t (xor_of a b ∷ []) t₁ w₁
  xor_wrote = wrote_as w t (emitted 6 a b c ∷ []) (xor_of a b ∷ []) t₁ w₁ (ap (λ (g : Gate). g ∷ []) (two_used 6 a b c operand_counts_lem.6))

  pub mux_wrote : Wrote w t (emitted 7 a b c ∷ []) t₁ w₁ → Wrote w t (mux_of a b c ∷ []) t₁ w₁
  mux_wrote = wrote_as w t (emitted 7 a b c ∷ []) (mux_of a b c ∷ []) t₁ w₁
      (ap (λ (g : Gate). g ∷ []) (three_used 7 a b c operand_counts_lem.7))

-- room for the second and for the third of three gates
pub room_second : (w : Writer) (t : List ℕ) (g₁ : Gate) (t₁ : List ℕ) (w₁ : Writer)
    → Wrote w t (g₁ ∷ []) t₁ w₁ → Room w 3 → Room w₁ 1
room_second w t g₁ t₁ w₁ a r = room_after w t (g₁ ∷ []) t₁ w₁ 1 3 a (omega arith) r

pub room_third : (w : Writer) (t : List ℕ) (g₁ : Gate) (t₁ : List ℕ) (w₁ : Writer) (g₂ : Gate) (t₂ : List ℕ) (w₂ : Writer)
    → Wrote w t (g₁ ∷ []) t₁ w₁ → Wrote w₁ t₁ (g₂ ∷ []) t₂ w₂ → Room w 3 → Room w₂ 1
room_third w t g₁ t₁ w₁ g₂ t₂ w₂ a b r =
    room_after w₁ t₁ (g₂ ∷ []) t₂ w₂ 1 2 b (omega arith) (room_after w t (g₁ ∷ []) t₁ w₁ 2 3 a (omega arith) r)

-- three gates, one after the other
pub wrote_three : (w : Writer) (t : List ℕ) (g₁ : Gate) (t₁ : List ℕ) (w₁ : Writer) (g₂ : Gate) (t₂ : List ℕ)
    (w₂ : Writer) (g₃ : Gate) (t₃ : List ℕ) (w₃ : Writer)
    → Wrote w t (g₁ ∷ []) t₁ w₁ → Wrote w₁ t₁ (g₂ ∷ []) t₂ w₂ → Wrote w₂ t₂ (g₃ ∷ []) t₃ w₃ → Wrote w t (g₁ ∷ g₂ ∷ g₃ ∷ []) t₃ w₃
wrote_three w t g₁ t₁ w₁ g₂ t₂ w₂ g₃ t₃ w₃ a b c =
    wrote_both w t (g₁ ∷ []) t₁ w₁ (g₂ ∷ g₃ ∷ []) t₃ w₃ a (wrote_both w₁ t₁ (g₂ ∷ []) t₂ w₂ (g₃ ∷ []) t₃ w₃ b c)

-- and four
pub wrote_four : (w : Writer) (t : List ℕ) (g₁ : Gate) (t₁ : List ℕ) (w₁ : Writer) (g₂ : Gate) (t₂ : List ℕ)
    (w₂ : Writer) (g₃ : Gate) (t₃ : List ℕ) (w₃ : Writer) (g₄ : Gate) (t₄ : List ℕ) (w₄ : Writer)
    → Wrote w t (g₁ ∷ []) t₁ w₁ → Wrote w₁ t₁ (g₂ ∷ []) t₂ w₂ → Wrote w₂ t₂ (g₃ ∷ []) t₃ w₃
    → Wrote w₃ t₃ (g₄ ∷ []) t₄ w₄ → Wrote w t (g₁ ∷ g₂ ∷ g₃ ∷ g₄ ∷ []) t₄ w₄
wrote_four w t g₁ t₁ w₁ g₂ t₂ w₂ g₃ t₃ w₃ g₄ t₄ w₄ a b c d =
    wrote_both w t (g₁ ∷ []) t₁ w₁ (g₂ ∷ g₃ ∷ g₄ ∷ []) t₄ w₄ a (wrote_three w₁ t₁ g₂ t₂ w₂ g₃ t₃ w₃ g₄ t₄ w₄ b c d)
