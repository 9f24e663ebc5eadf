-- Slots that hold given chains: each slot of a chain names the next one.
-- Assumes nothing.
use mathlib.Core.Path.{◌≡◌, ◌∙◌, refl, sym, ap}
use mathlib.Core.Logic.{⊎_elim, ◌≢◌}
use mathlib.Core.Bool.{true, false}
use mathlib.Core.List.{List, [], ◌∷◌, map}
use Prim.Native.Nat.{ℕ, zero, suc, ◌-◌, ◌≤◌, ◌<◌}
use native.Mathlib.Omega.{arith}
use lib.Dec.{eqb, ltb}
use lib.ListN.{length, set}
use lib.Seq.{get_or-set_same, get_or-set_other}
use borrow.Author.Tests.{eqb-true, eq-eqb, ltb-true}
use Rattle.basics.proofs.Flags.{and_first, and_second, or_either, or_first, or_second, never_true}
use Rattle.urn_chains.specs.Slots.{Slot, slot_at, free_slot}
use Rattle.urn_chains.specs.Chains.{Entry, chain, ends, entry_at, first_entry, first_free, entry_slot}
use Rattle.basics.specs.Lists.{all, member}
use Rattle.urn_chains.specs.Sound.{in_urn}
use Rattle.urn_chains.proofs.Lists.{all_member, all_first, all_rest}
use Rattle.urn_chains.proofs.Walks.{chain_step, ends_step, chain_end, ends_end}

abbrev pub slots_in : List Entry → List ℕ
slots_in es = map (λ (e : Entry). e.slot) es

-- The slots hold these ballots as a chain.
pub data Linked (slots : List Slot) : List Entry → Type 0 where
  none : Linked slots []
  more : {e : Entry} {es : List Entry} → slot_at slots e.slot ≡ entry_slot e es → Linked slots es → Linked slots (e ∷ es)

-- The slots hold these free slots as a chain.
pub data FreeLinked (b : ℕ) (slots : List Slot) : List ℕ → Type 0 where
  none : FreeLinked b slots []
  more : {i : ℕ} {is : List ℕ} → slot_at slots i ≡ free_slot b (first_free is) → FreeLinked b slots is → FreeLinked b slots (i ∷ is)

-- reading slots after one of them is written
pub at_set : (slots : List Slot) (i : ℕ) (s : Slot) → i < length slots → slot_at (set slots i s) i ≡ s
unfolding slot_at
at_set slots i s h = get_or-set_same slots i s _ h

pub at_other : (slots : List Slot) (i j : ℕ) (s : Slot) → j ≢ i → slot_at (set slots i s) j ≡ slot_at slots j
unfolding slot_at
at_other slots i j s h = get_or-set_other slots i j s _ h

-- a number that is not in a list is not its first
pub not_first : (x y : ℕ) (ys : List ℕ) → member x (y ∷ ys) ≡ false → y ≢ x
unfolding member
not_first x y ys e q = let t = sym (or_first (eqb x y) (member x ys) (eq-eqb x y (sym q))) ∙ e in
    let z : ◌≡◌ {A = ℕ} 0 1 = cc in omega arith

pub apart_rest : (x y : ℕ) (ys : List ℕ) → member x (y ∷ ys) ≡ false → member x ys ≡ false
unfolding member
apart_rest x y ys e = never_true (member x ys)
    (λ h. let t = sym (or_second (eqb x y) (member x ys) h) ∙ e in let z : ◌≡◌ {A = ℕ} 0 1 = cc in omega arith)

pub linked_set : (slots : List Slot) (x : ℕ) (s : Slot) (es : List Entry) → member x (slots_in es) ≡ false
    → Linked slots es → Linked (set slots x s) es
linked_set slots x s [] h none = none
linked_set slots x s (e ∷ es) h (more q l) =
    more (at_other slots x e.slot s (not_first x e.slot (slots_in es) h) ∙ q)
    (linked_set slots x s es (apart_rest x e.slot (slots_in es) h) l)

pub free_set : (b : ℕ) (slots : List Slot) (x : ℕ) (s : Slot) (is : List ℕ) → member x is ≡ false
    → FreeLinked b slots is → FreeLinked b (set slots x s) is
free_set b slots x s [] h none = none
free_set b slots x s (i ∷ is) h (more q l) =
    more (at_other slots x i s (not_first x i is h) ∙ q) (free_set b slots x s is (apart_rest x i is h) l)

-- following the chain of slots that hold these ballots
pub positive : (n i : ℕ) → in_urn n i ≡ true → 0 < i
unfolding in_urn
positive n i e = ltb-true 0 i (and_first (ltb 0 i) (ltb i n) e)

pub below : (n i : ℕ) → in_urn n i ≡ true → i < n
unfolding in_urn
below n i e = ltb-true i n (and_second (ltb 0 i) (ltb i n) e)

pub linked_chain : (n : ℕ) (slots : List Slot) (es : List Entry) (most : ℕ) → all (in_urn n) (slots_in es) ≡ true
    → length es ≤ most → Linked slots es → chain most (first_entry es) slots ≡ slots_in es
unfolding first_entry entry_slot
linked_chain n slots [] most h l none = chain_end most slots
linked_chain n slots (e ∷ es) most h l (more q k) =
    chain_step most e.slot slots (omega arith) (positive n e.slot (all_first (in_urn n) e.slot (slots_in es) h))
    ∙ ap (λ (is : List ℕ). e.slot ∷ is)
    (ap (λ (s : Slot). chain (most - 1) s.next slots) q
    ∙ linked_chain n slots es (most - 1) (all_rest (in_urn n) e.slot (slots_in es) h) (omega arith) k)

pub linked_ends : (n : ℕ) (slots : List Slot) (es : List Entry) (most : ℕ) → all (in_urn n) (slots_in es) ≡ true
    → length es ≤ most → Linked slots es → ends most (first_entry es) slots ≡ true
unfolding first_entry entry_slot
linked_ends n slots [] most h l none = ends_end most slots
linked_ends n slots (e ∷ es) most h l (more q k) =
    ends_step most e.slot slots (omega arith) (positive n e.slot (all_first (in_urn n) e.slot (slots_in es) h))
    ∙ ap (λ (s : Slot). ends (most - 1) s.next slots) q
    ∙ linked_ends n slots es (most - 1) (all_rest (in_urn n) e.slot (slots_in es) h) (omega arith) k

pub free_chain_lem : (n b : ℕ) (slots : List Slot) (is : List ℕ) (most : ℕ) → all (in_urn n) is ≡ true → length is ≤ most
    → FreeLinked b slots is → chain most (first_free is) slots ≡ is
unfolding first_free free_slot
free_chain_lem n b slots [] most h l none = chain_end most slots
free_chain_lem n b slots (i ∷ is) most h l (more q k) =
    chain_step most i slots (omega arith) (positive n i (all_first (in_urn n) i is h))
    ∙ ap (λ (js : List ℕ). i ∷ js)
    (ap (λ (s : Slot). chain (most - 1) s.next slots) q
    ∙ free_chain_lem n b slots is (most - 1) (all_rest (in_urn n) i is h) (omega arith) k)

pub free_ends : (n b : ℕ) (slots : List Slot) (is : List ℕ) (most : ℕ) → all (in_urn n) is ≡ true → length is ≤ most
    → FreeLinked b slots is → ends most (first_free is) slots ≡ true
unfolding first_free free_slot
free_ends n b slots [] most h l none = ends_end most slots
free_ends n b slots (i ∷ is) most h l (more q k) =
    ends_step most i slots (omega arith) (positive n i (all_first (in_urn n) i is h))
    ∙ ap (λ (s : Slot). ends (most - 1) s.next slots) q
    ∙ free_ends n b slots is (most - 1) (all_rest (in_urn n) i is h) (omega arith) k

-- reading the ballots back from their slots
pub linked_entries : (slots : List Slot) (es : List Entry) → Linked slots es → map (entry_at slots) (slots_in es) ≡ es
unfolding entry_at entry_slot
linked_entries slots [] none = refl
linked_entries slots (e ∷ es) (more q k) =
    ap (λ (s : Slot). record { slot = e.slot; juror = s.juror; ballot = s.ballot } ∷ map (entry_at slots) (slots_in es)) q
    ∙ ap (λ (fs : List Entry). e ∷ fs) (linked_entries slots es k)

-- if a chain ends, its slots hold it
pub first_read : (most i : ℕ) (slots : List Slot) → ends most i slots ≡ true → first_entry (map (entry_at slots) (chain most i slots)) ≡ i
unfolding chain ends first_entry entry_at
first_read zero i slots e = sym (eqb-true i 0 e)
first_read (suc most) zero slots e = refl
first_read (suc most) (suc i) slots e = refl

pub chain_linked : (most i : ℕ) (slots : List Slot) → ends most i slots ≡ true → Linked slots (map (entry_at slots) (chain most i slots))
unfolding chain ends entry_slot entry_at
chain_linked zero i slots e = none
chain_linked (suc most) zero slots e = none
chain_linked (suc most) (suc i) slots e =
    more (ap (λ (n : ℕ). record {
      next = n;
      juror = (slot_at slots (suc i)).juror;
      ballot =
          (slot_at slots (suc i)).ballot;
    }) (sym (first_read most (slot_at slots (suc i)).next slots e)))
    (chain_linked most (slot_at slots (suc i)).next slots e)

pub free_first : (most i : ℕ) (slots : List Slot) → ends most i slots ≡ true → first_free (chain most i slots) ≡ i
unfolding chain ends first_free
free_first zero i slots e = sym (eqb-true i 0 e)
free_first (suc most) zero slots e = refl
free_first (suc most) (suc i) slots e = refl

pub chain_free : (b most i : ℕ) (slots : List Slot) → ends most i slots ≡ true
    → ((j : ℕ) → member j (chain most i slots) ≡ true → slot_at slots j ≡ free_slot b (slot_at slots j).next)
    → FreeLinked b slots (chain most i slots)
unfolding chain ends member
chain_free b zero i slots e f = none
chain_free b (suc most) zero slots e f = none
chain_free b (suc most) (suc i) slots e f =
    more (f (suc i) (or_first (eqb (suc i) (suc i)) (member (suc i) (chain most (slot_at slots (suc i)).next slots))
    (eq-eqb (suc i) (suc i) refl))
    ∙ ap (free_slot b) (sym (free_first most (slot_at slots (suc i)).next slots e)))
    (chain_free b most (slot_at slots (suc i)).next slots e
    (λ j h. f j (or_second (eqb j (suc i)) (member j (chain most (slot_at slots (suc i)).next slots)) h)))

-- two urns that hold the same chain agree on its slots
pub linked_agree : (S R : List Slot) (es : List Entry) (i : ℕ) → Linked S es → Linked R es → member i (slots_in es)
    ≡ true → slot_at S i ≡ slot_at R i
unfolding member
linked_agree S R [] i none none h = let z : ◌≡◌ {A = ℕ} 0 1 = cc in absurd (omega arith)
linked_agree S R (e ∷ es) i (more p k) (more q l) h =
    ⊎_elim (λ t. ap (slot_at S) (eqb-true i e.slot t) ∙ p ∙ sym q ∙ ap (slot_at R) (sym (eqb-true i e.slot t)))
    (λ t. linked_agree S R es i k l t)
    (or_either (eqb i e.slot) (member i (slots_in es)) h)

pub free_agree : (b : ℕ) (S R : List Slot) (is : List ℕ) (i : ℕ) → FreeLinked b S is → FreeLinked b R is
    → member i is ≡ true → slot_at S i ≡ slot_at R i
unfolding member
free_agree b S R [] i none none h = let z : ◌≡◌ {A = ℕ} 0 1 = cc in absurd (omega arith)
free_agree b S R (j ∷ is) i (more p k) (more q l) h =
    ⊎_elim (λ t. ap (slot_at S) (eqb-true i j t) ∙ p ∙ sym q ∙ ap (slot_at R) (sym (eqb-true i j t))) (λ t. free_agree b S R is i k l t)
    (or_either (eqb i j) (member i is) h)

-- slot 0 is in no chain
pub no_zero : (n : ℕ) (js : List ℕ) → all (in_urn n) js ≡ true → member 0 js ≡ false
no_zero n js h = never_true (member 0 js) (λ m. let l = positive n 0 (all_member (in_urn n) 0 js h m) in omega arith)
