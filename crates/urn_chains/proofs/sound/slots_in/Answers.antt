-- `urn_chains::sound::slots_in` meets its contract: each branch answers what the definition gives for the outcomes
-- of the tests.
-- Assumes nothing.
use mathlib.Core.Path.{sym, ap}
use mathlib.Core.Bool.{Bool, cond}
use Rattle.urn_chains.specs.Slots.{slot_bytes}
use Rattle.urn_chains.specs.Sound.{slot_count}
use Rattle.urn_chains.proofs.BytesLaws.{length_rest, length_few, length_many, length_all}
use Rattle.urn_chains.proofs.sound.slots_in.Goals as goal

pub returns-then-length-size-ne0 : goal.returns-then-length-size-ne0
unfolding slot_bytes
returns-then-length-size-ne0 c = let a = c.args in
    ap (λ (t : Bool). cond t (slot_count a.bytes a.length) 0) (sym (length_rest a.bytes a.length c.if-length-size-ne0.true))

pub returns-then-slots-lt-LEAST_SLOTS : goal.returns-then-slots-lt-LEAST_SLOTS
unfolding slot_bytes slot_count
returns-then-slots-lt-LEAST_SLOTS c = let a = c.args in
    ap (λ (t : Bool). cond t (slot_count a.bytes a.length) 0) (sym (length_few a.bytes a.length c.if-slots-lt-LEAST_SLOTS.true))

pub returns-then-slots-gt-MOST_SLOTS : goal.returns-then-slots-gt-MOST_SLOTS
unfolding slot_bytes slot_count
returns-then-slots-gt-MOST_SLOTS c = let a = c.args in
    ap (λ (t : Bool). cond t (slot_count a.bytes a.length) 0) (sym (length_many a.bytes a.length c.if-slots-gt-MOST_SLOTS.true))

pub returns : goal.returns
unfolding slot_bytes slot_count
returns c = let a = c.args in
    ap (λ (t : Bool). cond t (slot_count a.bytes a.length) 0)
    (sym (length_all a.bytes a.length c.if-length-size-ne0.false c.if-slots-lt-LEAST_SLOTS.false c.if-slots-gt-MOST_SLOTS.false))
