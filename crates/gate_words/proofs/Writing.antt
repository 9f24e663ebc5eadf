-- Writing blocks one after the other.
-- Assumes nothing.
use mathlib.Core.Path.{◌≡◌, ◌∙◌, refl, sym, ap}
use mathlib.Core.Bool.{Bool, true, false, cond}
use mathlib.Core.List.{List, [], ◌∷◌, ◌++◌}
use Prim.Native.Nat.{ℕ, ◌+◌, ◌*◌, ◌≤◌, ◌<◌}
use native.Mathlib.Omega.{arith}
use lib.Dec.{ltb}
use lib.ListN.{length, length-append}
use lib.Seq.{sets, length-sets}
use borrow.Author.Tests.{lt-ltb}
use Rattle.gates.specs.Kind.{operands_of, conditional_of}
use Rattle.gates.specs.Gate.{Gate, numbers_of}
use Rattle.gates.proofs.Counting.{count_nil, count_one, count_append, count_most}
use Rattle.gates.proofs.Laws.{length_numbers, numbers_append, numbers_nil, numbers_one}
use Rattle.gate_words.specs.Emitted.{emitted}
use Rattle.gate_words.specs.Writing.{Room, Wrote}
use Rattle.gate_words.specs.declared.writer.Writer.{Writer}
use Rattle.basics.proofs.Tables.{sets_append}

-- a block of no gates
pub wrote_nothing : (w : Writer) (t : List ℕ) → Wrote w t [] t w
wrote_nothing w t =
    record {
      long = refl;
      numbers = λ h. ap (sets t (4 * w.gate)) (sym numbers_nil);
      gates = omega arith;
      wires = omega arith;
      conditionals = omega (arith, count_nil);
    }

-- two blocks, one after the other
pub wrote_both : (w : Writer) (t : List ℕ) (gs : List Gate) (t₁ : List ℕ) (w₁ : Writer) (hs : List Gate) (t₂ : List ℕ) (w₂ : Writer)
    → Wrote w t gs t₁ w₁ → Wrote w₁ t₁ hs t₂ w₂ → Wrote w t (gs ++ hs) t₂ w₂
wrote_both w t gs t₁ w₁ hs t₂ w₂ a b =
    record {
      long = b.long ∙ a.long;
      numbers =
          λ (h : 4 * (w.gate + length (gs ++ hs)) ≤ length t).
          b.numbers (omega (arith, h, a.long, a.gates, length-append gs hs))
          ∙ ap (λ (l : List ℕ). sets l (4 * w₁.gate) (numbers_of hs))
          (a.numbers (omega (arith, h, length-append gs hs)))
          ∙ sets_append (numbers_of gs) (numbers_of hs) t (4 * w.gate) (4 * w₁.gate) (omega (arith, a.gates, length_numbers gs))
          ∙ ap (sets t (4 * w.gate)) (sym (numbers_append gs hs));
      gates = omega (arith, a.gates, b.gates, length-append gs hs);
      wires = omega (arith, a.wires, b.wires, length-append gs hs);
      conditionals = omega (arith, a.conditionals, b.conditionals, count_append gs hs);
    }

-- equal blocks
pub wrote_as : (w : Writer) (t : List ℕ) (gs hs : List Gate) (t₁ : List ℕ) (w₁ : Writer) → gs ≡ hs → Wrote w t gs t₁ w₁ → Wrote w t hs t₁ w₁
wrote_as w t gs hs t₁ w₁ e a = rw (← e) a

-- room for a part of a block, and for the rest after a part is written
pub room_less : (w : Writer) (m n : ℕ) → m ≤ n → Room w n → Room w m
room_less w m n h r = record { few = omega (arith, r.few); small = omega (arith, r.small); counted = r.counted }

pub room_after : (w : Writer) (t : List ℕ) (gs : List Gate) (t₁ : List ℕ) (w₁ : Writer) (m n : ℕ)
    → Wrote w t gs t₁ w₁ → length gs + m ≤ n → Room w n → Room w₁ m
room_after w t gs t₁ w₁ m n a h r =
    record {
      few = omega (arith, a.gates, r.few);
      small = omega (arith, a.wires, r.small);
      counted = omega (arith, a.conditionals, a.gates, r.counted, count_most gs);
    }

-- the length stays, whether or not the store is made
kept_long : (done : Bool) (t : List ℕ) (i : ℕ) (vs : List ℕ) → length (cond done (sets t i vs) t) ≡ length t
kept_long true t i vs = length-sets t i vs
kept_long false t i vs = refl

-- one gate: its kind, and the operands that its kind uses
pub wrote_gate : (w : Writer) (t : List ℕ) (kind a b c count x y z mark : ℕ) (t₁ : List ℕ) → count ≡ operands_of kind
    → x ≡ cond (ltb 0 count) a 0 → y ≡ cond (ltb 1 count) b 0 → z ≡ cond (ltb 2 count) c 0 → mark ≡ cond (conditional_of kind) 1 0
    → t₁ ≡ cond (ltb (4 * w.gate + 3) (length t)) (sets t (4 * w.gate) (kind ∷ x ∷ y ∷ z ∷ [])) t
    → Wrote w t (emitted kind a b c ∷ []) t₁ (record { gate = w.gate + 1; wire = w.wire + 1; conditional = w.conditional + mark })
unfolding emitted
wrote_gate w t kind a b c count x y z mark t₁ e ex ey ez em et =
    record {
      long = ap length et ∙ kept_long (ltb (4 * w.gate + 3) (length t)) t (4 * w.gate) (kind ∷ x ∷ y ∷ z ∷ []);
      numbers =
          λ (h : 4 * (w.gate + 1) ≤ length t).
          let room : 4 * w.gate + 3 < length t = omega (arith, h) in
          rw (et, lt-ltb (4 * w.gate + 3) (length t) room, ex, ey, ez, e, numbers_one);
      gates = refl;
      wires = refl;
      conditionals = ap (λ (n : ℕ). w.conditional + n) (em ∙ sym (count_one (emitted kind a b c)));
    }
