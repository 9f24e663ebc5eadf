-- Writing one slot of an urn.
-- Assumes nothing.
use mathlib.Core.Path.{◌≡◌, ◌∙◌, refl, sym, ap}
use mathlib.Core.List.{List, [], ◌∷◌, ◌++◌, append_assoc}
use Prim.Native.Nat.{ℕ, zero, suc, ◌+◌, ◌*◌, ◌-◌, ◌≤◌, ◌<◌}
use native.Mathlib.Nat.{zero-mul, suc-mul}
use native.Mathlib.Omega.{arith}
use lib.ListN.{length, set, take, drop, length-take, length-drop}
use lib.Seq.{drop-set-lt, take-set-le, drop-set-add, take-set-lt, drop-drop, take_at, drop_at, take-add, length-take-le}
use Rattle.urn_chains.specs.Slots.{Slot, slot_bytes, slot_of, slots_of, slot_at}
use Rattle.urn_chains.proofs.SlotLaws.{size_is}

regroup : (a b c d : List ℕ) → a ++ b ++ c ++ d ≡ a ++ (b ++ c ++ d)
regroup a b c d = simp append_assoc

first_byte : (xs : List ℕ) (v : ℕ) → 2 ≤ length xs → slot_of (set xs 0 v)
    ≡ record { next = v; juror = (slot_of xs).juror; ballot = (slot_of xs).ballot }
unfolding slot_of
first_byte [] v h = absurd (omega arith)
first_byte (x ∷ []) v h = absurd (omega arith)
first_byte (x ∷ y ∷ xs) v h = refl

second_byte : (xs : List ℕ) (v : ℕ) → 2 ≤ length xs → slot_of (set xs 1 v)
    ≡ record { next = (slot_of xs).next; juror = v; ballot = (slot_of xs).ballot }
unfolding slot_of
second_byte [] v h = absurd (omega arith)
second_byte (x ∷ []) v h = absurd (omega arith)
second_byte (x ∷ y ∷ xs) v h = refl

-- the slots of an urn after one slot's bytes were written
pub put_slots : (i b n : ℕ) (urn bytes : List ℕ) → length urn ≡ n * slot_bytes b → i < n → length bytes ≡ slot_bytes b →
    slots_of b n (take (i * slot_bytes b) urn ++ bytes ++ drop (i * slot_bytes b + slot_bytes b) urn) ≡ set (slots_of b n urn) i (slot_of bytes)
unfolding slots_of
put_slots i b zero urn bytes e h l = absurd (omega arith)
put_slots zero b (suc n) urn bytes e h l =
    ap (λ (m : ℕ). slots_of b (suc n) (take m urn ++ bytes ++ drop (m + slot_bytes b) urn)) (zero-mul (slot_bytes b))
    ∙ ap (λ (m : ℕ). slots_of b (suc n) (bytes ++ drop m urn)) {x = 0 + slot_bytes b} {y = slot_bytes b} (omega arith)
    ∙ ap (λ (xs : List ℕ). slot_of xs ∷ slots_of b n (drop (slot_bytes b) (bytes ++ drop (slot_bytes b) urn)))
    (take_at bytes (drop (slot_bytes b) urn) (slot_bytes b) l)
    ∙ ap (λ (xs : List ℕ). slot_of bytes ∷ slots_of b n xs) (drop_at bytes (drop (slot_bytes b) urn) (slot_bytes b) l)
put_slots (suc i) b (suc n) urn bytes e h l =
    let z = slot_bytes b in
    let size : length (take z urn) ≡ z = length-take-le z urn (omega (arith, suc-mul n z)) in
    ap (λ (m : ℕ). slots_of b (suc n) (take m urn ++ bytes ++ drop (m + z) urn)) {x = suc i * z} {y = z + i * z} (omega (arith, suc-mul i z))
    ∙ ap (λ (xs : List ℕ). slots_of b (suc n) (xs ++ bytes ++ drop (z + i * z + z) urn)) (take-add z (i * z) urn)
    ∙ ap (λ (xs : List ℕ). slots_of b (suc n) (take z urn ++ take (i * z) (drop z urn) ++ bytes ++ xs))
    (ap (λ (m : ℕ). drop m urn) {x = z + i * z + z} {y = z + (i * z + z)} (omega arith)
    ∙ sym (drop-drop (i * z + z) z urn))
    ∙ ap (slots_of b (suc n)) (regroup (take z urn) (take (i * z) (drop z urn)) bytes (drop (i * z + z) (drop z urn)))
    ∙ ap (λ (xs : List ℕ). slot_of xs ∷ slots_of b n
    (drop z (take z urn ++ (take (i * z) (drop z urn) ++ bytes ++ drop (i * z + z) (drop z urn)))))
    (take_at (take z urn) (take (i * z) (drop z urn) ++ bytes ++ drop (i * z + z) (drop z urn)) z size)
    ∙ ap (λ (xs : List ℕ). slot_of (take z urn) ∷ slots_of b n xs)
    (drop_at (take z urn) (take (i * z) (drop z urn) ++ bytes ++ drop (i * z + z) (drop z urn)) z size)
    ∙ ap (λ (ss : List Slot). slot_of (take z urn) ∷ ss)
    (put_slots i b n (drop z urn) bytes (omega (arith, length-drop z urn, suc-mul n z)) (omega arith) l)

-- a store to a slot's first byte, and to its second
pub set_next : (i b n : ℕ) (urn : List ℕ) (v : ℕ) → length urn ≡ n * slot_bytes b → i < n →
    slots_of b n (set urn (i * slot_bytes b) v)
    ≡ set (slots_of b n urn) i (record {
      next = v;
      juror = (slot_at (slots_of b n urn) i).juror;
      ballot =
          (slot_at (slots_of b n urn) i).ballot;
    })
unfolding slots_of slot_at
set_next i b zero urn v e h = absurd (omega arith)
set_next zero b (suc n) urn v e h =
    ap (λ (m : ℕ). slots_of b (suc n) (set urn m v)) (zero-mul (slot_bytes b))
    ∙ ap (λ (xs : List ℕ). slot_of xs ∷ slots_of b n (drop (slot_bytes b) (set urn 0 v)))
    (take-set-lt (slot_bytes b) urn 0 v (omega (arith, size_is b)))
    ∙ ap (λ (xs : List ℕ). slot_of (set (take (slot_bytes b) urn) 0 v) ∷ slots_of b n xs)
    (drop-set-lt (slot_bytes b) urn 0 v (omega (arith, size_is b)))
    ∙ ap (λ (s : Slot). s ∷ slots_of b n (drop (slot_bytes b) urn))
    (first_byte (take (slot_bytes b) urn) v
    (omega (arith, length-take (slot_bytes b) urn, size_is b, suc-mul n (slot_bytes b))))
set_next (suc i) b (suc n) urn v e h =
    let z = slot_bytes b in
    ap (λ (m : ℕ). slots_of b (suc n) (set urn m v)) {x = suc i * z} {y = z + i * z} (omega (arith, suc-mul i z))
    ∙ ap (λ (xs : List ℕ). slot_of xs ∷ slots_of b n (drop z (set urn (z + i * z) v))) (take-set-le z urn (z + i * z) v (omega arith))
    ∙ ap (λ (xs : List ℕ). slot_of (take z urn) ∷ slots_of b n xs) (drop-set-add z urn (i * z) v)
    ∙ ap (λ (ss : List Slot). slot_of (take z urn) ∷ ss)
    (set_next i b n (drop z urn) v (omega (arith, length-drop z urn, suc-mul n z)) (omega arith))

-- a store to the second byte of slot 0
pub set_head_juror : (b n : ℕ) (urn : List ℕ) (v : ℕ) → length urn ≡ n * slot_bytes b → 0 < n →
    slots_of b n (set urn 1 v) ≡ set (slots_of b n urn) 0
    (record { next = (slot_at (slots_of b n urn) 0).next; juror = v; ballot = (slot_at (slots_of b n urn) 0).ballot })
unfolding slots_of slot_at
set_head_juror b zero urn v e h = absurd (omega arith)
set_head_juror b (suc n) urn v e h =
    ap (λ (xs : List ℕ). slot_of xs ∷ slots_of b n (drop (slot_bytes b) (set urn 1 v)))
    (take-set-lt (slot_bytes b) urn 1 v (omega (arith, size_is b)))
    ∙ ap (λ (xs : List ℕ). slot_of (set (take (slot_bytes b) urn) 1 v) ∷ slots_of b n xs)
    (drop-set-lt (slot_bytes b) urn 1 v (omega (arith, size_is b)))
    ∙ ap (λ (s : Slot). s ∷ slots_of b n (drop (slot_bytes b) urn))
    (second_byte (take (slot_bytes b) urn) v
    (omega (arith, length-take (slot_bytes b) urn, size_is b, suc-mul n (slot_bytes b))))
