-- Slots and the bytes that hold them.
-- Assumes nothing.
use mathlib.Core.Path.{◌≡◌, ◌∙◌, refl, sym, ap}
use mathlib.Core.List.{List}
use Prim.Native.Nat.{ℕ, zero, suc, ◌+◌, ◌*◌, ◌≤◌, ◌<◌}
use native.Mathlib.Nat.{zero-mul, suc-mul, mul-le-mul, mul-le-mul_right}
use native.Mathlib.Omega.{arith}
use lib.ListN.{length, get_or, take, drop, length-take, length-drop}
use lib.Seq.{drop-drop, get_or-take, get_or-drop, take-add, drop_at}
use Rattle.urn_chains.specs.Slots.{Slot, slot_bytes, slot_of, slots_of, slot_at}

pub slots_length : (b n : ℕ) (urn : List ℕ) → length (slots_of b n urn) ≡ n
unfolding slots_of
slots_length b zero urn = refl
slots_length b (suc n) urn = ap suc (slots_length b n (drop (slot_bytes b) urn))

-- a slot's bytes lie within the urn
pub slot_within : (i n b : ℕ) → i < n → i * slot_bytes b + slot_bytes b ≤ n * slot_bytes b
slot_within i n b h = let l = mul-le-mul_right (slot_bytes b) h in omega (arith, suc-mul i (slot_bytes b))

-- slot i is made of its bytes
pub slot_is : (i b n : ℕ) (urn : List ℕ) → i < n → slot_at (slots_of b n urn) i ≡ slot_of (take (slot_bytes b) (drop (i * slot_bytes b) urn))
unfolding slot_at slots_of
slot_is i b zero urn h = absurd (omega arith)
slot_is zero b (suc n) urn h = ap (λ (m : ℕ). slot_of (take (slot_bytes b) (drop m urn))) (sym (zero-mul (slot_bytes b)))
slot_is (suc i) b (suc n) urn h =
    slot_is i b n (drop (slot_bytes b) urn) (omega arith)
    ∙ ap (λ (xs : List ℕ). slot_of (take (slot_bytes b) xs)) (drop-drop (i * slot_bytes b) (slot_bytes b) urn)
    ∙ ap (λ (m : ℕ). slot_of (take (slot_bytes b) (drop m urn))) {x = slot_bytes b + i * slot_bytes b}
    {y = suc i * slot_bytes b} (omega (arith, suc-mul i (slot_bytes b)))

pub size_is : (b : ℕ) → slot_bytes b ≡ 2 + b
unfolding slot_bytes
size_is b = refl

-- two slots have at least four bytes
pub size_least : (b n : ℕ) → 2 ≤ n → 4 ≤ n * slot_bytes b
size_least b n h =
    let l = mul-le-mul {n₁ = 2} {m₁ = 2} {n₂ = n} {m₂ = slot_bytes b} h (omega (arith, size_is b)) in omega arith

module _ (b n : ℕ) (urn : List ℕ) (i : ℕ) (h : i < n) where
  pub next_is : (slot_at (slots_of b n urn) i).next ≡ get_or urn (i * slot_bytes b) 0
  unfolding slot_of
  next_is =
      ap (λ (s : Slot). s.next) (slot_is i b n urn h)
      ∙ get_or-take (slot_bytes b) (drop (i * slot_bytes b) urn) 0 0 (omega (arith, size_is b))
      ∙ get_or-drop (i * slot_bytes b) urn 0 0
      ∙ ap (λ (m : ℕ). get_or urn m 0) {x = i * slot_bytes b + 0} {y = i * slot_bytes b} (omega arith)

  pub juror_is : (slot_at (slots_of b n urn) i).juror ≡ get_or urn (i * slot_bytes b + 1) 0
  unfolding slot_of
  juror_is =
      ap (λ (s : Slot). s.juror) (slot_is i b n urn h)
      ∙ get_or-take (slot_bytes b) (drop (i * slot_bytes b) urn) 1 0 (omega (arith, size_is b))
      ∙ get_or-drop (i * slot_bytes b) urn 1 0

  pub ballot_is : length urn ≡ n * slot_bytes b → (slot_at (slots_of b n urn) i).ballot ≡ take b (drop (i * slot_bytes b + 2) urn)
  unfolding slot_of slot_bytes
  ballot_is e =
      let xs = drop (i * (2 + b)) urn in
      ap (λ (s : Slot). s.ballot) (slot_is i b n urn h)
      ∙ ap (drop 2) (take-add 2 b xs)
      ∙ drop_at (take 2 xs) (take b (drop 2 xs)) 2 (omega (arith, length-take 2 xs, length-drop (i * (2 + b)) urn, slot_within i n b h))
      ∙ ap (take b) (drop-drop 2 (i * (2 + b)) urn)
