-- The writer after a block: its wire and its room.
-- Assumes nothing.
use mathlib.Core.Path.{◌≡◌}
use mathlib.Core.List.{List}
use Prim.Native.Nat.{ℕ, ◌+◌, ◌≤◌}
use native.Mathlib.Omega.{arith}
use lib.ListN.{length}
use Rattle.gates.specs.Gate.{Gate}
use Rattle.gate_words.specs.declared.writer.Writer.{Writer}
use Rattle.gate_words.specs.Writing.{Room, Wrote}
use Rattle.gate_words.proofs.Writing.{room_after}

-- the writer after a block of l gates: its wire and its room
pub behind : (w : Writer) (t : List ℕ) (gs : List Gate) (t₁ : List ℕ) (w₁ : Writer) (l : ℕ) → Wrote w t gs t₁ w₁
    → length gs ≡ l → w₁.wire ≡ w.wire + l
behind w t gs t₁ w₁ l a e = omega (arith, a.wires)

pub room_behind : (w : Writer) (t : List ℕ) (gs : List Gate) (t₁ : List ℕ) (w₁ : Writer) (l m n : ℕ)
    → Wrote w t gs t₁ w₁ → length gs ≡ l → l + m ≤ n → Room w n → Room w₁ m
room_behind w t gs t₁ w₁ l m n a e h r = room_after w t gs t₁ w₁ m n a (omega arith) r
