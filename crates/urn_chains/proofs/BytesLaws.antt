-- Reading an urn's bytes as slots, and writing slots as bytes.
-- Assumes nothing.
use mathlib.Core.Path.{◌≡◌, ◌∙◌, refl, sym, ap}
use mathlib.Core.Bool.{true, false, ◌&&◌}
use mathlib.Core.List.{List, [], ◌∷◌, ◌++◌}
use Prim.Native.Nat.{ℕ, zero, suc, ◌*◌, ◌/◌, ◌%◌, ◌≤◌, ◌<◌}
use native.Mathlib.Nat.{zero-mul, suc-mul, mul-div_cancel, div-add-mod'}
use native.Mathlib.Omega.{arith}
use lib.Dec.{eqb, leb}
use lib.ListN.{length, set, take, drop, replicate, length-append, length-take, length-drop, length-replicate, take-append-drop}
use lib.Seq.{take_at, drop_at}
use borrow.Author.Tests.{eqb-true, leb-true, eq-eqb, le-leb}
use Rattle.jury.specs.Reason.{first_of}
use Rattle.jury.specs.Ballots.{ballot_reasons}
use Rattle.basics.proofs.Flags.{and_first, and_second, and_both, never_true}
use Rattle.urn_chains.specs.Slots.{Slot, slot_bytes, slot_of, slots_of, bytes_of_slot, bytes_of, slot_at, free_slot}
use Rattle.urn_chains.specs.Chains.{Entry, entry_slot, first_free, head_slot, with_ballots, with_free, layout}
use Rattle.basics.specs.Lists.{all}
use Rattle.urn_chains.specs.Sound.{jury_of_one, no_reason, good_ballot, slot_count, urn_length}
use Rattle.urn_chains.proofs.SlotLaws.{size_is}
use Rattle.urn_chains.proofs.Lists.{all_first, all_rest}

-- Every slot has a ballot of b bytes.
pub data Sized (b : ℕ) : List Slot → Type 0 where
  none : Sized b []
  more : {s : Slot} {slots : List Slot} → length s.ballot ≡ b → Sized b slots → Sized b (s ∷ slots)

pub sized_at : (b : ℕ) (slots : List Slot) (i : ℕ) → i < length slots → Sized b slots → length (slot_at slots i).ballot ≡ b
unfolding slot_at
sized_at b [] i h none = absurd (omega arith)
sized_at b (s ∷ slots) zero h (more e k) = e
sized_at b (s ∷ slots) (suc i) h (more e k) = sized_at b slots i (omega arith) k

pub sized_set : (b : ℕ) (slots : List Slot) (i : ℕ) (s : Slot) → length s.ballot ≡ b → Sized b slots → Sized b (set slots i s)
sized_set b [] i s h none = none
sized_set b (t ∷ slots) zero s h (more e k) = more h k
sized_set b (t ∷ slots) (suc i) s h (more e k) = more e (sized_set b slots i s h k)

sized_replicate : (b n : ℕ) (s : Slot) → length s.ballot ≡ b → Sized b (replicate n s)
sized_replicate b zero s h = none
sized_replicate b (suc n) s h = more h (sized_replicate b n s h)

-- all slots of an urn have ballots of b bytes
pub slots_sized : (b n : ℕ) (urn : List ℕ) → length urn ≡ n * slot_bytes b → Sized b (slots_of b n urn)
unfolding slots_of slot_of
slots_sized b zero urn e = none
slots_sized b (suc n) urn e =
    more {s = slot_of (take (slot_bytes b) urn)}
    (omega (
      arith,
      length-drop 2 (take (slot_bytes b) urn),
      length-take (slot_bytes b) urn,
      size_is b,
      suc-mul n (slot_bytes b),
    ))
    (slots_sized b n (drop (slot_bytes b) urn) (omega (arith, length-drop (slot_bytes b) urn, suc-mul n (slot_bytes b))))

-- bytes read as slots and written again are the same
slot_back : (xs : List ℕ) → 2 ≤ length xs → bytes_of_slot (slot_of xs) ≡ xs
unfolding bytes_of_slot slot_of
slot_back [] h = absurd (omega arith)
slot_back (x ∷ []) h = absurd (omega arith)
slot_back (x ∷ y ∷ xs) h = refl

pub bytes_back : (b n : ℕ) (urn : List ℕ) → length urn ≡ n * slot_bytes b → bytes_of (slots_of b n urn) ≡ urn
unfolding slots_of bytes_of
bytes_back b zero [] e = refl
bytes_back b zero (x ∷ urn) e = absurd (omega (arith, zero-mul (slot_bytes b)))
bytes_back b (suc n) urn e =
    ap (λ (xs : List ℕ). xs ++ bytes_of (slots_of b n (drop (slot_bytes b) urn)))
    (slot_back (take (slot_bytes b) urn)
    (omega (arith, length-take (slot_bytes b) urn, size_is b, suc-mul n (slot_bytes b))))
    ∙ ap (λ (xs : List ℕ). take (slot_bytes b) urn ++ xs)
    (bytes_back b n (drop (slot_bytes b) urn)
    (omega (arith, length-drop (slot_bytes b) urn, suc-mul n (slot_bytes b))))
    ∙ take-append-drop (slot_bytes b) urn

-- slots written as bytes and read again are the same
slot_bytes_lem : (b : ℕ) (s : Slot) → length s.ballot ≡ b → length (bytes_of_slot s) ≡ slot_bytes b
unfolding bytes_of_slot
slot_bytes_lem b s e = omega (arith, size_is b)

pub bytes_length : (b : ℕ) (slots : List Slot) → Sized b slots → length (bytes_of slots) ≡ length slots * slot_bytes b
unfolding bytes_of
bytes_length b [] none = sym (zero-mul (slot_bytes b))
bytes_length b (s ∷ slots) (more e k) =
    omega (
      arith,
      length-append (bytes_of_slot s) (bytes_of slots),
      slot_bytes_lem b s e,
      bytes_length b slots k,
      suc-mul (length slots) (slot_bytes b),
    )

slot_same : (t : Slot) → slot_of (bytes_of_slot t) ≡ t
unfolding slot_of bytes_of_slot
slot_same t = refl

pub slots_back : (b : ℕ) (slots : List Slot) → Sized b slots → slots_of b (length slots) (bytes_of slots) ≡ slots
unfolding bytes_of slots_of
slots_back b [] none = refl
slots_back b (s ∷ slots) (more e k) =
    let size = slot_bytes_lem b s e in
    ap (λ (xs : List ℕ). slot_of xs ∷ slots_of b (length slots) (drop (slot_bytes b) (bytes_of_slot s ++ bytes_of slots)))
    (take_at (bytes_of_slot s) (bytes_of slots) (slot_bytes b) size)
    ∙ ap (λ (xs : List ℕ). slot_of (bytes_of_slot s) ∷ slots_of b (length slots) xs)
    (drop_at (bytes_of_slot s) (bytes_of slots) (slot_bytes b) size)
    ∙ ap (λ (ss : List Slot). slot_of (bytes_of_slot s) ∷ ss) (slots_back b slots k)
    ∙ ap (λ (t : Slot). t ∷ slots) (slot_same s)

-- a good ballot has k times d bytes
pub good_length : (k d : ℕ) (xs : List ℕ) → good_ballot k d xs ≡ true → length xs ≡ k * d
unfolding good_ballot
good_length k d xs e = eqb-true (length xs) (k * d)
    (and_first (eqb (length xs) (k * d)) (no_reason (first_of (ballot_reasons (jury_of_one k d) xs))) e)

-- slots of good ballots, and free slots, have ballots of b bytes
ballots_sized : (k d b : ℕ) (es : List Entry) (slots : List Slot) → k * d ≡ b
    → all (λ (e : Entry). good_ballot k d e.ballot) es ≡ true → Sized b slots → Sized b (with_ballots es slots)
unfolding with_ballots entry_slot
ballots_sized k d b [] slots q h z = z
ballots_sized k d b (e ∷ es) slots q h z =
    sized_set b (with_ballots es slots) e.slot (entry_slot e es)
    (good_length k d e.ballot (all_first (λ (x : Entry). good_ballot k d x.ballot) e es h) ∙ q)
    (ballots_sized k d b es slots q (all_rest (λ (x : Entry). good_ballot k d x.ballot) e es h) z)

free_sized : (b : ℕ) (is : List ℕ) (slots : List Slot) → Sized b slots → Sized b (with_free b is slots)
unfolding with_free free_slot
free_sized b [] slots z = z
free_sized b (i ∷ is) slots z =
    sized_set b (with_free b is slots) i (free_slot b (first_free is)) (length-replicate b 0) (free_sized b is slots z)

pub layout_sized : (k d n : ℕ) (es : List Entry) (is : List ℕ) → all (λ (e : Entry). good_ballot k d e.ballot) es
    ≡ true → Sized (k * d) (layout n (k * d) es is)
unfolding layout head_slot free_slot
layout_sized k d n es is h =
    sized_set (k * d) (with_ballots es (with_free (k * d) is (replicate n (free_slot (k * d) 0)))) 0
    (head_slot (k * d) es is) (length-replicate (k * d) 0)
    (ballots_sized k d (k * d) es (with_free (k * d) is (replicate n (free_slot (k * d) 0))) refl h
    (free_sized (k * d) is (replicate n (free_slot (k * d) 0))
    (sized_replicate (k * d) n (free_slot (k * d) 0) (length-replicate (k * d) 0))))

-- the number of slots in the bytes of n slots is n
pub count_is : (b n m : ℕ) → m ≡ n * slot_bytes b → slot_count b m ≡ n
unfolding slot_count
count_is b n m e = ap (λ (x : ℕ). x / slot_bytes b) e ∙ mul-div_cancel n {n = slot_bytes b} (omega (arith, size_is b))

no_rest : (b n m : ℕ) → m ≡ n * slot_bytes b → m % slot_bytes b ≡ 0
unfolding slot_count
no_rest b n m e = let q = count_is b n m e in omega (arith, div-add-mod' m (slot_bytes b), ap (λ (x : ℕ). x * slot_bytes b) q)

pub length_good : (b n m : ℕ) → 2 ≤ n → n ≤ 256 → m ≡ n * slot_bytes b → urn_length b m ≡ true
unfolding urn_length
length_good b n m l u e =
    let q = count_is b n m e in
    and_both (eqb (m % slot_bytes b) 0 && leb 2 (slot_count b m)) (leb (slot_count b m) 256)
    (and_both (eqb (m % slot_bytes b) 0) (leb 2 (slot_count b m))
    (eq-eqb (m % slot_bytes b) 0 (no_rest b n m e))
    (le-leb 2 (slot_count b m) (omega arith)))
    (le-leb (slot_count b m) 256 (omega arith))

-- a table with the length of an urn is a table of slots
pub table_is : (b m : ℕ) → urn_length b m ≡ true → m ≡ slot_count b m * slot_bytes b
unfolding urn_length slot_count
table_is b m e =
    let r = eqb-true (m % slot_bytes b) 0
    (and_first (eqb (m % slot_bytes b) 0) (leb 2 (slot_count b m))
    (and_first (eqb (m % slot_bytes b) 0 && leb 2 (slot_count b m)) (leb (slot_count b m) 256) e)) in
    omega (arith, div-add-mod' m (slot_bytes b))

pub count_least : (b m : ℕ) → urn_length b m ≡ true → 2 ≤ slot_count b m
unfolding urn_length
count_least b m e = leb-true 2 (slot_count b m)
    (and_second (eqb (m % slot_bytes b) 0) (leb 2 (slot_count b m))
    (and_first (eqb (m % slot_bytes b) 0 && leb 2 (slot_count b m)) (leb (slot_count b m) 256) e))

pub count_most : (b m : ℕ) → urn_length b m ≡ true → slot_count b m ≤ 256
unfolding urn_length
count_most b m e = leb-true (slot_count b m) 256 (and_second (eqb (m % slot_bytes b) 0 && leb 2 (slot_count b m)) (leb (slot_count b m) 256) e)

pub length_rest : (b m : ℕ) → (m % slot_bytes b ≡ 0 → ⊥) → urn_length b m ≡ false
unfolding urn_length
length_rest b m n = never_true (urn_length b m)
    (λ e. n (eqb-true (m % slot_bytes b) 0
    (and_first (eqb (m % slot_bytes b) 0) (leb 2 (slot_count b m))
    (and_first (eqb (m % slot_bytes b) 0 && leb 2 (slot_count b m)) (leb (slot_count b m) 256) e))))

pub length_few : (b m : ℕ) → slot_count b m < 2 → urn_length b m ≡ false
length_few b m h = never_true (urn_length b m) (λ e. omega (arith, count_least b m e))

pub length_many : (b m : ℕ) → 256 < slot_count b m → urn_length b m ≡ false
length_many b m h = never_true (urn_length b m) (λ e. omega (arith, count_most b m e))

pub length_all : (b m : ℕ) → m % slot_bytes b ≡ 0 → 2 ≤ slot_count b m → slot_count b m ≤ 256 → urn_length b m ≡ true
unfolding urn_length
length_all b m r l u = and_both (eqb (m % slot_bytes b) 0 && leb 2 (slot_count b m)) (leb (slot_count b m) 256)
    (and_both (eqb (m % slot_bytes b) 0) (leb 2 (slot_count b m)) (eq-eqb (m % slot_bytes b) 0 r)
    (le-leb 2 (slot_count b m) l)) (le-leb (slot_count b m) 256 u)
