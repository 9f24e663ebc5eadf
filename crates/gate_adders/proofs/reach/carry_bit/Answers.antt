-- `gate_adders::reach::carry_bit` meets its contract: one gate, chosen by the public bit.
-- Assumes nothing.
use mathlib.Core.Path.{◌≡◌}
use mathlib.Core.List.{List, [], ◌∷◌}
use Prim.Native.Nat.{ℕ}
use borrow.Author.Tests.{eq-eqb, ne_eqb}
use Rattle.gates.specs.Gate.{Gate}
use Rattle.gate_words.specs.Gates.{and_of, or_of}
use Rattle.gate_words.specs.Reach.{carry_bit}
use Rattle.gate_words.proofs.Writing.{wrote_as}
use Rattle.gate_words.proofs.Emitting.{and_wrote, or_wrote}
use Rattle.gate_adders.proofs.reach.carry_bit.Goals as goal

without_bit : (x y e : ℕ) → e ≡ 0 → ◌≡◌ {A = List Gate} (and_of x y ∷ []) (carry_bit x y e)
unfolding carry_bit
without_bit x y e h = rw (eq-eqb e 0 h)

with_bit : (x y e : ℕ) → (e ≡ 0 → ⊥) → ◌≡◌ {A = List Gate} (or_of x y ∷ []) (carry_bit x y e)
unfolding carry_bit
with_bit x y e h = rw (ne_eqb e 0 h)

pub returns-then-bit-eq0 : goal.returns-then-bit-eq0
returns-then-bit-eq0 c =
    let a = c.args in
    wrote_as a.w a.table.now _ _ _ _
    (without_bit a.x a.y a.bit c.if-bit-eq0.true)
    (and_wrote a.w a.table.now c.emit.new.table c.emit.result
    a.x a.y 0 c.emit.ensures)

pub returns : goal.returns
returns c =
    let a = c.args in
    wrote_as a.w a.table.now _ _ _ _
    (with_bit a.x a.y a.bit c.if-bit-eq0.false)
    (or_wrote a.w a.table.now c.emit-2.new.table c.emit-2.result
    a.x a.y 0 c.emit-2.ensures)
