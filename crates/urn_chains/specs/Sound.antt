-- When an urn is sound. A chain is followed for at most as many slots as there are, so a chain that never ends is
-- found.
use Rattle.std.specs.Prelude.{Bool, true, false, ◌&&◌, List, ◌++◌, map, ℕ, suc, ◌-◌, ◌*◌, ◌/◌, ◌%◌, eqb, leb, ltb, length}
use Rattle.std.proofs.Math.Option.{Option, none, some}
use Rattle.jury.specs.declared.shape.Shape.{Shape}
use Rattle.jury.specs.Shape.{graded_limits}
use Rattle.jury.specs.Reason.{Reason, first_of}
use Rattle.jury.specs.Ballots.{ballot_reasons}
use Rattle.basics.specs.Lists.{tabulate}
use Rattle.urn_chains.specs.Slots.{Slot, slot_bytes, slots_of, slot_at}
use Rattle.urn_chains.specs.Chains.{Entry, ends, ballot_chain, free_chain}
use Rattle.basics.specs.Lists.{all}
use Rattle.basics.specs.Lists.{member}
use Rattle.basics.specs.Lists.{distinct}

-- A jury of one with k candidates and d grades.
unfoldable pub jury_of_one : ℕ → ℕ → Shape
jury_of_one k d = record { candidates = k; grades = d; ballots = 1 }

unfoldable pub no_reason : Option Reason → Bool
no_reason none = true
no_reason (some r) = false

-- k and d are within the limits of a graded jury. Rankings have no urn.
abbrev pub graded_shape : ℕ → ℕ → Bool
graded_shape k d = graded_limits (jury_of_one k d)

-- A good ballot: as the only ballot of a jury of one, it passes all tests of ballots.
unfoldable pub good_ballot : ℕ → ℕ → List ℕ → Bool
good_ballot k d ballot = eqb (length ballot) (k * d) && no_reason (first_of (ballot_reasons (jury_of_one k d) ballot))

-- The largest number of a juror, and the most slots of an urn.
abbrev pub most_jurors : ℕ
most_jurors = 255

abbrev pub most_slots : ℕ
most_slots = 256

-- A juror's number is 1 to 255.
unfoldable pub good_juror : ℕ → Bool
good_juror juror = leb 1 juror && leb juror most_jurors

-- Whether i is one of the slots 1 to n − 1. An urn of n slots has these and slot 0.
unfoldable pub in_urn : ℕ → ℕ → Bool
in_urn n i = ltb 0 i && ltb i n

-- The list has each of the slots 1 to n − 1 exactly once, and nothing else.
unfoldable pub each_once : ℕ → List ℕ → Bool
each_once n is = all (in_urn n) is && distinct is && all (λ i. member i is) (tabulate (n - 1) suc)

-- The ballot chain es and the free chain `is` are good for an urn of n slots: each slot from 1 on is in exactly one
-- of them, and only once; jurors are numbered 1 to 255, none twice; ballots are good.
unfoldable pub good_chains : ℕ → ℕ → ℕ → List Entry → List ℕ → Bool
good_chains k d n es is =
    each_once n (map (λ e. e.slot) es ++ is)
    && all (λ e. good_juror e.juror) es
    && distinct (map (λ e. e.juror) es)
    && all (λ e. good_ballot k d e.ballot) es

unfoldable pub all_zero : List ℕ → Bool
all_zero bytes = all (λ x. eqb x 0) bytes

-- Whether all bytes after the index are 0.
unfoldable pub empty_slot : Slot → Bool
empty_slot s = eqb s.juror 0 && all_zero s.ballot

-- Both chains end and are good; slot 0 has zeros after its two indexes, and each free slot after its one
-- [urn-sound].
unfoldable pub sound_slots : ℕ → ℕ → List Slot → Bool
sound_slots k d slots =
    ends (length slots) (slot_at slots 0).next slots
    && ends (length slots) (slot_at slots 0).juror slots
    && good_chains k d (length slots) (ballot_chain slots) (free_chain slots)
    && all_zero (slot_at slots 0).ballot
    && all (λ i. empty_slot (slot_at slots i)) (free_chain slots)

-- The number of slots in `bytes` bytes, if a ballot has b bytes.
unfoldable pub slot_count : ℕ → ℕ → ℕ
slot_count b bytes = bytes / slot_bytes b

-- Whether an urn can have this length: 2 to 256 slots, and nothing after them.
unfoldable pub urn_length : ℕ → ℕ → Bool
urn_length b bytes = eqb (bytes % slot_bytes b) 0 && leb 2 (slot_count b bytes) && leb (slot_count b bytes) most_slots

-- All slots of an urn for k candidates and d grades.
unfoldable pub urn_slots : ℕ → ℕ → List ℕ → List Slot
urn_slots k d urn = slots_of (k * d) (slot_count (k * d) (length urn)) urn

-- Whether these bytes are a sound urn for k candidates and d grades.
unfoldable pub sound : ℕ → ℕ → List ℕ → Bool
sound k d urn = urn_length (k * d) (length urn) && sound_slots k d (urn_slots k d urn)

-- The ballots of an urn in chain order.
abbrev pub entries_of : ℕ → ℕ → List ℕ → List Entry
entries_of k d urn = ballot_chain (urn_slots k d urn)

-- The free slots of an urn in chain order.
abbrev pub free_of : ℕ → ℕ → List ℕ → List ℕ
free_of k d urn = free_chain (urn_slots k d urn)
