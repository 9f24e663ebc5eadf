-- `gate_adders::adder::half_adder` meets its contract: its three gates are the block's for this public bit.
-- Assumes nothing.
use mathlib.Core.Path.{◌≡◌}
use mathlib.Core.List.{List, [], ◌∷◌}
use Prim.Native.Nat.{ℕ}
use borrow.Author.Tests.{eq-eqb, ne_eqb}
use Rattle.gates.specs.Gate.{Gate}
use Rattle.gate_words.specs.Gates.{copy_of, not_of, and_of, or_of, xor_of}
use Rattle.gate_words.specs.Adder.{half_adder}
use Rattle.gate_words.proofs.Writing.{wrote_as}
use Rattle.gate_words.proofs.Emitting.{xor_wrote, copy_wrote, not_wrote, and_wrote, or_wrote, wrote_three, room_second, room_third}
use Rattle.gate_adders.proofs.adder.half_adder.Goals as goal

without_bit : (n s u e : ℕ) → e ≡ 0 → ◌≡◌ {A = List Gate} (xor_of s u ∷ copy_of n ∷ and_of s u ∷ []) (half_adder n s u e)
unfolding half_adder
without_bit n s u e h = rw (eq-eqb e 0 h)

with_bit : (n s u e : ℕ) → (e ≡ 0 → ⊥) → ◌≡◌ {A = List Gate} (xor_of s u ∷ not_of n ∷ or_of s u ∷ []) (half_adder n s u e)
unfolding half_adder
with_bit n s u e h = rw (ne_eqb e 0 h)

pub emit-second-requires : goal.emit-second-requires
emit-second-requires c = room_second _ _ _ _ _ c.emit-first.ensures c.requires

pub emit-requires : goal.emit-requires
emit-requires c = room_third _ _ _ _ _ _ _ _ c.emit-first.ensures c.emit-second.ensures c.requires

pub returns-then-e-eq0 : goal.returns-then-e-eq0
returns-then-e-eq0 c =
    let a = c.args in
    wrote_as _ _ _ _ _ _ (without_bit a.start.wire a.s a.u a.e c.if-e-eq0.true)
    (wrote_three _ _ _ _ _ _ _ _ _ _ _
    (xor_wrote _ _ _ _ _ _ _ c.emit-first.ensures)
    (copy_wrote _ _ _ _ _ _ _ c.emit-second.ensures)
    (and_wrote _ _ _ _ _ _ _ c.emit.ensures))

pub emit-second-requires-2 : goal.emit-second-requires-2
emit-second-requires-2 c = room_second _ _ _ _ _ c.emit-first.ensures c.requires

pub emit-requires-2 : goal.emit-requires-2
emit-requires-2 c = room_third _ _ _ _ _ _ _ _ c.emit-first.ensures c.emit-second-2.ensures c.requires

pub returns : goal.returns
returns c =
    let a = c.args in
    wrote_as _ _ _ _ _ _ (with_bit a.start.wire a.s a.u a.e c.if-e-eq0.false)
    (wrote_three _ _ _ _ _ _ _ _ _ _ _
    (xor_wrote _ _ _ _ _ _ _ c.emit-first.ensures)
    (not_wrote _ _ _ _ _ _ _ c.emit-second-2.ensures)
    (or_wrote _ _ _ _ _ _ _ c.emit-2.ensures))
