-- Reading the two chains of an urn, and writing two given chains into slots.
use Rattle.std.specs.Prelude.{Bool, true, List, [], ◌∷◌, map, ℕ, zero, suc, eqb, length, set, replicate}
use Rattle.urn_chains.specs.Slots.{Slot, slot_at, free_slot}

-- The slots of the chain that begins with slot i. Each slot names the next one; index 0 is the end. At most `most`
-- slots are followed.
unfoldable pub chain : ℕ → ℕ → List Slot → List ℕ
chain zero i slots = []
chain (suc most) zero slots = []
chain (suc most) (suc i) slots = suc i ∷ chain most (slot_at slots (suc i)).next slots

-- Whether that chain ends, with index 0, after at most `most` slots.
unfoldable pub ends : ℕ → ℕ → List Slot → Bool
ends zero i slots = eqb i 0
ends (suc most) zero slots = true
ends (suc most) (suc i) slots = ends most (slot_at slots (suc i)).next slots

-- A ballot in the urn: its slot, its juror, and its bytes.
pub record Entry : Type 0 where
  pub slot : ℕ
  pub juror : ℕ
  pub ballot : List ℕ

-- The ballot in slot i.
unfoldable pub entry_at : List Slot → ℕ → Entry
entry_at slots i = record { slot = i; juror = (slot_at slots i).juror; ballot = (slot_at slots i).ballot }

-- The slots of the ballot chain. Byte 0 of slot 0 names the first of them.
unfoldable pub ballot_slots : List Slot → List ℕ
ballot_slots slots = chain (length slots) (slot_at slots 0).next slots

-- The ballots in chain order.
unfoldable pub ballot_chain : List Slot → List Entry
ballot_chain slots = map (entry_at slots) (ballot_slots slots)

-- The slots of the free chain. Byte 1 of slot 0 names the first of them.
unfoldable pub free_chain : List Slot → List ℕ
free_chain slots = chain (length slots) (slot_at slots 0).juror slots

-- The first slot of a chain of ballots; 0 if the chain is empty.
unfoldable pub first_entry : List Entry → ℕ
first_entry [] = 0
first_entry (e ∷ es) = e.slot

-- The first slot of a chain of free slots; 0 if the chain is empty.
unfoldable pub first_free : List ℕ → ℕ
first_free [] = 0
first_free (i ∷ is) = i

-- The slot that holds ballot e, if the ballots es come after it in the chain.
unfoldable pub entry_slot : Entry → List Entry → Slot
entry_slot e es = record { next = first_entry es; juror = e.juror; ballot = e.ballot }

-- The slots after each ballot of a chain was written into its slot.
unfoldable pub with_ballots : List Entry → List Slot → List Slot
with_ballots [] slots = slots
with_ballots (e ∷ es) slots = set (with_ballots es slots) e.slot (entry_slot e es)

-- The slots after a chain of free slots was written. A ballot has b bytes.
unfoldable pub with_free : ℕ → List ℕ → List Slot → List Slot
with_free b [] slots = slots
with_free b (i ∷ is) slots = set (with_free b is slots) i (free_slot b (first_free is))

-- Slot 0 of an urn with these chains.
unfoldable pub head_slot : ℕ → List Entry → List ℕ → Slot
head_slot b es is = record { next = first_entry es; juror = first_free is; ballot = replicate b 0 }

-- The n slots of the urn whose ballot chain is es and whose free chain is `is`.
unfoldable pub layout : ℕ → ℕ → List Entry → List ℕ → List Slot
layout n b es is = set (with_ballots es (with_free b is (replicate n (free_slot b 0)))) 0 (head_slot b es is)
