-- An urn's bytes as slots. b is the number of bytes of one ballot, k times d.
use Rattle.std.specs.Prelude.{List, [], ◌∷◌, ◌++◌, ℕ, zero, suc, ◌+◌, get_or, take, drop, replicate}

-- A slot: the index of the next slot in its chain (0 at the end), the juror, the ballot [urn]. Slot 0 is different:
-- its `next` is where the ballot chain begins, and its `juror` is where the free chain begins.
pub record Slot : Type 0 where
  pub next : ℕ
  pub juror : ℕ
  pub ballot : List ℕ

-- A slot has two bytes before its ballot.
unfoldable pub slot_bytes : ℕ → ℕ
slot_bytes b = 2 + b

-- The slot in these bytes.
unfoldable pub slot_of : List ℕ → Slot
slot_of bytes = record { next = get_or bytes 0 0; juror = get_or bytes 1 0; ballot = drop 2 bytes }

-- The first n slots of an urn, for ballots of b bytes.
unfoldable pub slots_of : ℕ → ℕ → List ℕ → List Slot
slots_of b zero urn = []
slots_of b (suc n) urn = slot_of (take (slot_bytes b) urn) ∷ slots_of b n (drop (slot_bytes b) urn)

-- The bytes of one slot, and of slots one after the other.
unfoldable pub bytes_of_slot : Slot → List ℕ
bytes_of_slot s = s.next ∷ s.juror ∷ s.ballot

unfoldable pub bytes_of : List Slot → List ℕ
bytes_of [] = []
bytes_of (s ∷ slots) = bytes_of_slot s ++ bytes_of slots

-- Slot i; past the last slot, a slot of zeros without a ballot.
unfoldable pub slot_at : List Slot → ℕ → Slot
slot_at slots i = get_or slots i (record { next = 0; juror = 0; ballot = [] })

-- A free slot: zeros after the next slot's index.
unfoldable pub free_slot : ℕ → ℕ → Slot
free_slot b next = record { next = next; juror = 0; ballot = replicate b 0 }
