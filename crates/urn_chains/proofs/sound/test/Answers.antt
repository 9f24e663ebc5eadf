-- `urn_chains::sound::test` meets its contract: it tests the length, then the slots.
-- Assumes nothing.
use mathlib.Core.Path.{◌∙◌, sym, ap}
use mathlib.Core.Bool.{Bool, ◌&&◌}
use Prim.Native.Nat.{ℕ, ◌*◌}
use lib.ListN.{length}
use Rattle.urn_chains.specs.Slots.{slots_of}
use Rattle.urn_chains.specs.Chains.{ballot_chain}
use Rattle.urn_chains.specs.Sound.{slot_count, urn_length, urn_slots, sound_slots, sound}
use Rattle.urn_chains.specs.inner.Table.{soundness}
use Rattle.urn_chains.proofs.BytesLaws.{count_least}
use Rattle.urn_chains.proofs.SlotTests.{unsound_is, counted_false, counted_true, counted_is, few_bytes, table}
use native.Mathlib.Omega.{arith}
use Rattle.urn_chains.proofs.sound.test.Goals as goal

pub overflow_mul-k : goal.overflow_mul-k
overflow_mul-k c = omega (arith, few_bytes c.args.k c.args.d c.requires)

pub slots_in-slots-requires : goal.slots_in-slots-requires
slots_in-slots-requires c = few_bytes c.args.k c.args.d c.requires

pub returns-then-slots-eq0 : goal.returns-then-slots-eq0
unfolding sound
returns-then-slots-eq0 c = let a = c.args in
    let b = a.k * a.d in
    let m = length a.urn.now in
    unsound_is _ _ (ap (λ (t : Bool). t && sound_slots a.k a.d (urn_slots a.k a.d a.urn.now))
    (counted_false (urn_length b m) (slot_count b m) _ c.slots_in-slots.ensures c.if-slots-eq0.true
    (count_least b m)))

pub test_slots-requires : goal.test_slots-requires
test_slots-requires c = let a = c.args in
    let b = a.k * a.d in
    let m = length a.urn.now in
    record {
      graded = c.requires;
      table =
          table b a.urn.now _ (few_bytes a.k a.d c.requires)
          (counted_true (urn_length b m) (slot_count b m) _ c.slots_in-slots.ensures c.if-slots-eq0.false)
          (counted_is (urn_length b m) (slot_count b m) _ c.slots_in-slots.ensures c.if-slots-eq0.false);
    }

pub returns : goal.returns
unfolding sound urn_slots
returns c = let a = c.args in
    let b = a.k * a.d in
    let m = length a.urn.now in
    let good = counted_true (urn_length b m) (slot_count b m) _ c.slots_in-slots.ensures c.if-slots-eq0.false in
    c.test_slots.ensures
    ∙ ap (λ (n : ℕ). soundness (sound_slots a.k a.d (slots_of b n a.urn.now))
    (length (ballot_chain (slots_of b n a.urn.now))))
    (counted_is (urn_length b m) (slot_count b m) _ c.slots_in-slots.ensures c.if-slots-eq0.false)
    ∙ ap (λ (t : Bool). soundness (t && sound_slots a.k a.d (slots_of b (slot_count b m) a.urn.now))
    (length (ballot_chain (slots_of b (slot_count b m) a.urn.now)))) (sym good)
