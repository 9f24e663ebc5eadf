-- What the writers of blocks share: the place and the room of a writer, and blocks one after the other.
-- Assumes nothing.
use mathlib.Core.Path.{◌≡◌, ◌∙◌, ap}
use mathlib.Core.List.{List, [], ◌∷◌, ◌++◌}
use Prim.Native.Nat.{ℕ, ◌+◌, ◌≤◌}
use native.Mathlib.Omega.{arith}
use lib.ListN.{length}
use Rattle.gates.specs.Gate.{Gate}
use Rattle.gate_words.specs.Gates.{gate}
use Rattle.gate_words.specs.declared.writer.Writer.{Writer}
use Rattle.gate_words.specs.Writing.{Room, Wrote}
use Rattle.gate_words.proofs.Writing.{wrote_both, wrote_as, room_less, room_after}

-- the writer is at wire n and has room for m gates
pub record Stands (w : Writer) (n m : ℕ) : Type 0 where
  pub place : w.wire ≡ n
  pub left : Room w m

pub stands : (w : Writer) (n l m : ℕ) → w.wire ≡ n → m ≤ l → Room w l → Stands w n m
stands w n l m e h r = record { place = e; left = room_less w m l h r }

-- the same after a block of l gates
pub stands_after : (w : Writer) (t : List ℕ) (gs : List Gate) (t₁ : List ℕ) (w₁ : Writer) (n l m : ℕ)
    → Wrote w t gs t₁ w₁ → length gs ≡ l → Stands w n (l + m) → Stands w₁ (n + l) m
stands_after w t gs t₁ w₁ n l m a e s =
    record { place = omega (arith, a.wires, s.place); left = room_after w t gs t₁ w₁ m (l + m) a (omega arith) s.left }

pub room_of : (w : Writer) (n l m : ℕ) → Stands w n l → m ≤ l → Room w m
room_of w n l m s h = room_less w m l h s.left

-- a block, and an equal of the next one
pub wrote_then : (w : Writer) (t : List ℕ) (gs : List Gate) (t₁ : List ℕ) (w₁ : Writer) (hs hs' : List Gate) (t₂ : List ℕ) (w₂ : Writer)
    → Wrote w t gs t₁ w₁ → Wrote w₁ t₁ hs t₂ w₂ → hs ≡ hs' → Wrote w t (gs ++ hs') t₂ w₂
wrote_then w t gs t₁ w₁ hs hs' t₂ w₂ a b e = wrote_both w t gs t₁ w₁ hs' t₂ w₂ a (wrote_as w₁ t₁ hs hs' t₂ w₂ e b)

-- two gates are equal if their operands are
pub one_gate : (kind : ℕ) {a a' b b' c c' : ℕ} → a ≡ a' → b ≡ b' → c ≡ c' → gate kind a b c ∷ [] ≡ gate kind a' b' c' ∷ []
one_gate kind {a} {a'} {b} {b'} {c} {c'} p q r =
    ap (λ (i : ℕ). gate kind i b c ∷ []) p ∙ ap (λ (i : ℕ). gate kind a' i c ∷ []) q ∙ ap (λ (i : ℕ). gate kind a' b' i ∷ []) r
