-- What a walk along a chain has to find.
use Rattle.std.specs.Prelude.{Bool, true, false, not, ◌&&◌, List, [], ◌∷◌, map, ℕ, ◌<◌, length, get_or, set, replicate, Option, Some, None}
use Rattle.urn_chains.specs.Slots.{Slot, slot_at}
use Rattle.urn_chains.specs.Chains.{chain, ends}
use Rattle.basics.specs.Lists.{all}
use Rattle.urn_chains.specs.Sound.{good_ballot, good_juror, in_urn, empty_slot, most_slots}
use Rattle.urn_chains.specs.declared.walk.Link.{Link}
use Rattle.urn_chains.specs.declared.walk.Walk.{Walk}
use Rattle.urn_chains.specs.inner.Table.{SlotTable, GradedTable}

-- A slot can be looked at: the bytes are n slots, and the index is not 0. It may be past the last slot.
pub record BallotLook (k d n slot : ℕ) (urn : List ℕ) : Type 0 where
  pub bytes : GradedTable k d n urn
  pub chained : 0 < slot

pub record FreeLook (b n slot : ℕ) (urn : List ℕ) : Type 0 where
  pub table : SlotTable b n urn
  pub chained : 0 < slot

-- The answer of a look at a slot: its juror and the next index if it is sound.
unfoldable pub looked : Bool → Slot → Option Link
looked true s = Some (record { juror = s.juror; next = s.next })
looked false s = None

-- Slot i is one of the slots from 1 on, and holds a juror's number and a good ballot.
unfoldable pub ballot_at : ℕ → ℕ → List Slot → ℕ → Bool
ballot_at k d slots i =
    in_urn (length slots) i && good_juror (slot_at slots i).juror && good_ballot k d (slot_at slots i).ballot

-- Slot i is one of the slots from 1 on, and free.
unfoldable pub free_at : List Slot → ℕ → Bool
free_at slots i = in_urn (length slots) i && empty_slot (slot_at slots i)

-- Marks for the numbers below 256, none of them set.
unfoldable pub no_marks : List Bool
no_marks = replicate most_slots false

-- The marks after those of these numbers are set.
unfoldable pub mark_all : List ℕ → List Bool → List Bool
mark_all [] marks = marks
mark_all (i ∷ is) marks = mark_all is (set marks i true)

-- None of these numbers is marked, and none occurs twice.
unfoldable pub fresh : List ℕ → List Bool → Bool
fresh [] marks = true
fresh (i ∷ is) marks = not (get_or marks i false) && fresh is (set marks i true)

-- The jurors of these slots.
unfoldable pub jurors_at : List Slot → List ℕ → List ℕ
jurors_at slots is = map (λ i. (slot_at slots i).juror) is

-- The walk along the ballot chain from slot i on finds nothing wrong. `marks` and `jurors` have the slots and
-- jurors met before.
unfoldable pub ballots_from : ℕ → ℕ → List Slot → ℕ → ℕ → List Bool → List Bool → Bool
ballots_from k d slots most i marks jurors =
    ends most i slots && all (ballot_at k d slots) (chain most i slots) && fresh (chain most i slots) marks
    && fresh (jurors_at slots (chain most i slots)) jurors

-- The walk along the free chain from slot i on finds nothing wrong. `marks` has the slots met before.
unfoldable pub free_from : List Slot → ℕ → ℕ → List Bool → Bool
free_from slots most i marks =
    ends most i slots && all (free_at slots) (chain most i slots) && fresh (chain most i slots) marks

-- What a walk along the slots `is` answers if all is well: the marks with those of `is` added, and their number.
unfoldable pub walked : Bool → List ℕ → List Bool → Option Walk
walked true is before = Some (record { marks = mark_all is before; count = length is })
walked false is before = None
