-- What a look at one slot answers, from the slot's bytes.
-- Assumes nothing.
use mathlib.Core.Path.{◌≡◌, ◌∙◌, ap}
use mathlib.Core.Bool.{Bool, true, false, ◌&&◌}
use mathlib.Core.List.{List}
use Prim.Native.Nat.{ℕ, ◌+◌, ◌*◌, ◌≤◌, ◌<◌}
use lib.Dec.{ltb, eqb}
use lib.ListN.{length, get_or, take, drop}
use borrow.Author.Tests.{lt-ltb, le-ltb, ltb-true}
use Rattle.std.specs.Prelude.{Some, None}
use Rattle.basics.proofs.Flags.{and_first, and_second, and_both}
use Rattle.urn_chains.proofs.GoodBallots.{juror_most}
use Rattle.urn_chains.specs.Slots.{Slot, slot_bytes, slots_of, slot_at}
use Rattle.urn_chains.specs.Sound.{good_juror, good_ballot, in_urn, all_zero, empty_slot}
use Rattle.urn_chains.specs.inner.Walk.{looked, ballot_at, free_at}
use Rattle.urn_chains.proofs.SlotLaws.{slots_length, juror_is, ballot_is}

pub look_wrong : (t : Bool) (s : Slot) → t ≡ false → None ≡ looked t s
unfolding looked
look_wrong t s e = rw e

pub look_well : (t : Bool) (s : Slot) (j n : ℕ) → t ≡ true → j ≡ s.juror → n ≡ s.next
    → Some (record { juror = j; next = n }) ≡ looked t s
unfolding looked
look_well t s j n e f g = rw (e, f, g)

pub in_urn_lem : (n i : ℕ) → 0 < i → i < n → in_urn n i ≡ true
unfolding in_urn
in_urn_lem n i p h = and_both (ltb 0 i) (ltb i n) (lt-ltb 0 i p) (lt-ltb i n h)

out_of_urn : (n i : ℕ) → 0 < i → n ≤ i → in_urn n i ≡ false
unfolding in_urn
out_of_urn n i p h = ap (λ (t : Bool). t && ltb i n) (lt-ltb 0 i p) ∙ le-ltb i n h

module _ (b n : ℕ) (urn : List ℕ) (i : ℕ) (p : 0 < i) where
  pub ballot_out : (k d : ℕ) → n ≤ i → ballot_at k d (slots_of b n urn) i ≡ false
  unfolding ballot_at
  ballot_out k d h = rw (slots_length b n urn, out_of_urn n i p h)

  pub free_out : n ≤ i → free_at (slots_of b n urn) i ≡ false
  unfolding free_at
  free_out h = rw (slots_length b n urn, out_of_urn n i p h)

  pub ballot_by_bytes : (k d : ℕ) → i < n → length urn ≡ n * slot_bytes b →
      ballot_at k d (slots_of b n urn) i
      ≡ (good_juror (get_or urn (i * slot_bytes b + 1) 0) && good_ballot k d (take b (drop (i * slot_bytes b + 2) urn)))
  unfolding ballot_at
  ballot_by_bytes k d h e = rw (slots_length b n urn, in_urn_lem n i p h, juror_is b n urn i h, ballot_is b n urn i h e)

  pub free_by_bytes : i < n → length urn ≡ n * slot_bytes b →
      free_at (slots_of b n urn) i ≡ (eqb (get_or urn (i * slot_bytes b + 1) 0) 0 && all_zero (take b (drop (i * slot_bytes b + 2) urn)))
  unfolding free_at empty_slot
  free_by_bytes h e = rw (slots_length b n urn, in_urn_lem n i p h, juror_is b n urn i h, ballot_is b n urn i h e)

-- the slot and the juror of a good ballot are small enough to have marks
pub ballot_below : (k d : ℕ) (slots : List Slot) (i : ℕ) → ballot_at k d slots i ≡ true → i < length slots
unfolding ballot_at in_urn
ballot_below k d slots i e =
    ltb-true i (length slots) (and_second (ltb 0 i) (ltb i (length slots))
    (and_first (in_urn (length slots) i) (good_juror (slot_at slots i).juror)
    (and_first (in_urn (length slots) i && good_juror (slot_at slots i).juror)
    (good_ballot k d (slot_at slots i).ballot) e)))

pub ballot_juror : (k d : ℕ) (slots : List Slot) (i : ℕ) → ballot_at k d slots i ≡ true → (slot_at slots i).juror < 256
unfolding ballot_at
ballot_juror k d slots i e =
    juror_most (slot_at slots i).juror
    (and_second (in_urn (length slots) i) (good_juror (slot_at slots i).juror)
    (and_first (in_urn (length slots) i && good_juror (slot_at slots i).juror)
    (good_ballot k d (slot_at slots i).ballot) e))

pub free_below : (slots : List Slot) (i : ℕ) → free_at slots i ≡ true → i < length slots
unfolding free_at in_urn
free_below slots i e = ltb-true i (length slots)
    (and_second (ltb 0 i) (ltb i (length slots)) (and_first (in_urn (length slots) i) (empty_slot (slot_at slots i)) e))
