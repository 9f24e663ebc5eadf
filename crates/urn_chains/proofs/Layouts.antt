-- Slots into which two chains are written, and the chains that are read from them.
-- Assumes nothing.
use mathlib.Core.Path.{◌≡◌, ◌∙◌, refl, sym, ap}
use mathlib.Core.Logic.{⊎_elim}
use mathlib.Core.Bool.{true, false, ◌&&◌}
use mathlib.Core.List.{List, [], ◌∷◌, ◌++◌, map}
use Prim.Native.Nat.{ℕ, zero, suc, ◌+◌, ◌-◌, ◌≤◌, ◌<◌}
use native.Mathlib.Omega.{arith}
use lib.Dec.{eqb}
use lib.ListN.{length, replicate, length-set, length-replicate, length-append, length-map}
use lib.Seq.{ext_get_or}
use borrow.Author.Tests.{eq-eqb}
use Rattle.basics.specs.Lists.{tabulate}
use Rattle.basics.proofs.Flags.{and_first, and_second, and_both, or_either, or_first, or_second}
use Rattle.urn_chains.specs.Slots.{Slot, slot_at, free_slot}
use Rattle.urn_chains.specs.Chains.{Entry, chain, entry_at, ballot_slots, ballot_chain, free_chain, first_free, entry_slot, with_ballots, with_free, head_slot, layout}
use Rattle.basics.specs.Lists.{all, member, distinct}
use Rattle.urn_chains.specs.Sound.{good_juror, good_ballot, in_urn, each_once, good_chains, empty_slot, sound_slots}
use Rattle.urn_chains.proofs.Zeros.{zeros_zero}
use Rattle.urn_chains.proofs.Lists.{all_first, all_rest, all_append, member_append, distinct_first, distinct_rest, distinct_left, distinct_right, distinct_apart, tabulate_all}
use Rattle.urn_chains.proofs.Marks.{once_most}
use Rattle.urn_chains.proofs.Linked.{no_zero, slots_in, Linked, FreeLinked, none, more, at_set, linked_set, free_set, below, linked_chain, linked_ends, free_chain_lem, free_ends, linked_entries, linked_agree, free_agree}

pub ballots_length : (es : List Entry) (slots : List Slot) → length (with_ballots es slots) ≡ length slots
unfolding with_ballots
ballots_length [] slots = refl
ballots_length (e ∷ es) slots = length-set (with_ballots es slots) e.slot (entry_slot e es) ∙ ballots_length es slots

pub free_length : (b : ℕ) (is : List ℕ) (slots : List Slot) → length (with_free b is slots) ≡ length slots
unfolding with_free
free_length b [] slots = refl
free_length b (i ∷ is) slots = length-set (with_free b is slots) i (free_slot b (first_free is)) ∙ free_length b is slots

pub layout_length : (n b : ℕ) (es : List Entry) (is : List ℕ) → length (layout n b es is) ≡ n
unfolding layout
layout_length n b es is =
    length-set (with_ballots es (with_free b is (replicate n (free_slot b 0)))) 0 (head_slot b es is)
    ∙ ballots_length es (with_free b is (replicate n (free_slot b 0)))
    ∙ free_length b is (replicate n (free_slot b 0))
    ∙ length-replicate n (free_slot b 0)

-- ballots are linked after they are written, and free slots stay linked
put_linked : (n : ℕ) (es : List Entry) (slots : List Slot) → length slots ≡ n → all (in_urn n) (slots_in es) ≡ true
    → distinct (slots_in es) ≡ true → Linked (with_ballots es slots) es
unfolding with_ballots
put_linked n [] slots q h d = none
put_linked n (e ∷ es) slots q h d =
    let l = below n e.slot (all_first (in_urn n) e.slot (slots_in es) h) in
    more (at_set (with_ballots es slots) e.slot (entry_slot e es) (omega (arith, ballots_length es slots)))
    (linked_set (with_ballots es slots) e.slot (entry_slot e es) es (distinct_first e.slot (slots_in es) d)
    (put_linked n es slots q (all_rest (in_urn n) e.slot (slots_in es) h) (distinct_rest e.slot (slots_in es) d)))

put_free : (n b : ℕ) (is : List ℕ) (slots : List Slot) → length slots ≡ n → all (in_urn n) is ≡ true → distinct is
    ≡ true → FreeLinked b (with_free b is slots) is
unfolding with_free
put_free n b [] slots q h d = none
put_free n b (i ∷ is) slots q h d =
    let l = below n i (all_first (in_urn n) i is h) in
    more (at_set (with_free b is slots) i (free_slot b (first_free is)) (omega (arith, free_length b is slots)))
    (free_set b (with_free b is slots) i (free_slot b (first_free is)) is (distinct_first i is d)
    (put_free n b is slots q (all_rest (in_urn n) i is h) (distinct_rest i is d)))

keep_free : (b : ℕ) (es : List Entry) (slots : List Slot) (is : List ℕ)
    → ((x : ℕ) → member x (slots_in es) ≡ true → member x is ≡ false) → FreeLinked b slots is
    → FreeLinked b (with_ballots es slots) is
unfolding with_ballots member
keep_free b [] slots is f l = l
keep_free b (e ∷ es) slots is f l =
    free_set b (with_ballots es slots) e.slot (entry_slot e es) is
    (f e.slot (or_first (eqb e.slot e.slot) (member e.slot (slots_in es)) (eq-eqb e.slot e.slot refl)))
    (keep_free b es slots is (λ x h. f x (or_second (eqb x e.slot) (member x (slots_in es)) h)) l)

-- Chains that have each slot from 1 on once.
pub record Fit (n : ℕ) (es : List Entry) (is : List ℕ) : Type 0 where
  pub least : 2 ≤ n
  pub inside : all (in_urn n) (slots_in es ++ is) ≡ true
  pub once : distinct (slots_in es ++ is) ≡ true
  pub covered : all (λ i. member i (slots_in es ++ is)) (tabulate (n - 1) suc) ≡ true

module _ (n b : ℕ) (es : List Entry) (is : List ℕ) (fit : Fit n es is) where
  pub in_ballots : all (in_urn n) (slots_in es) ≡ true
  in_ballots = and_first (all (in_urn n) (slots_in es)) (all (in_urn n) is) (sym (all_append (in_urn n) (slots_in es) is) ∙ fit.inside)

  pub in_free : all (in_urn n) is ≡ true
  in_free = and_second (all (in_urn n) (slots_in es)) (all (in_urn n) is) (sym (all_append (in_urn n) (slots_in es) is) ∙ fit.inside)

  pub layout_linked : Linked (layout n b es is) es
  unfolding layout
  layout_linked =
      linked_set (with_ballots es (with_free b is (replicate n (free_slot b 0)))) 0 (head_slot b es is) es (no_zero n (slots_in es) in_ballots)
      (put_linked n es (with_free b is (replicate n (free_slot b 0)))
      (free_length b is (replicate n (free_slot b 0)) ∙ length-replicate n (free_slot b 0)) in_ballots
      (distinct_left (slots_in es) is fit.once))

  pub layout_free : FreeLinked b (layout n b es is) is
  unfolding layout
  layout_free =
      free_set b (with_ballots es (with_free b is (replicate n (free_slot b 0)))) 0 (head_slot b es is) is (no_zero n is in_free)
      (keep_free b es (with_free b is (replicate n (free_slot b 0))) is (λ x h. distinct_apart x (slots_in es) is fit.once h)
      (put_free n b is (replicate n (free_slot b 0)) (length-replicate n (free_slot b 0)) in_free
      (distinct_right (slots_in es) is fit.once)))

  pub layout_head : slot_at (layout n b es is) 0 ≡ head_slot b es is
  unfolding layout
  layout_head =
      at_set (with_ballots es (with_free b is (replicate n (free_slot b 0)))) 0 (head_slot b es is)
      (omega (
        arith,
        ballots_length es (with_free b is (replicate n (free_slot b 0))),
        free_length b is (replicate n (free_slot b 0)),
        length-replicate n (free_slot b 0),
        fit.least,
      ))

  -- only the slots of the layout hold these chains
  pub layout_unique : (S : List Slot) → length S ≡ n → slot_at S 0 ≡ head_slot b es is → Linked S es
      → FreeLinked b S is → S ≡ layout n b es is
  unfolding slot_at
  layout_unique S q h l f = ext_get_or _ S (layout n b es is) (q ∙ sym (layout_length n b es is)) (λ i k. at i (omega arith))
    where
      at : (i : ℕ) → i < n → slot_at S i ≡ slot_at (layout n b es is) i
      at zero k = h ∙ sym layout_head
      at (suc i) k =
          ⊎_elim (λ m. linked_agree S (layout n b es is) es (suc i) l layout_linked m)
          (λ m. free_agree b S (layout n b es is) is (suc i) f layout_free m)
          (or_either (member (suc i) (slots_in es)) (member (suc i) is)
          (sym (member_append (suc i) (slots_in es) is)
          ∙ tabulate_all (λ j. member j (slots_in es ++ is)) (n - 1) suc fit.covered i (omega arith)))

  -- the chains that are read are those that were written
  few : length es + length is ≤ n - 1
  few = let h = once_most n (slots_in es ++ is) (omega (arith, fit.least)) fit.inside fit.once in
      omega (arith, length-append (slots_in es) is, length-map es (λ (e : Entry). e.slot))

  pub read_slots : ballot_slots (layout n b es is) ≡ slots_in es
  unfolding ballot_slots head_slot
  read_slots =
      ap (λ (m : ℕ). chain m (slot_at (layout n b es is) 0).next (layout n b es is)) (layout_length n b es is)
      ∙ ap (λ (s : Slot). chain n s.next (layout n b es is)) layout_head
      ∙ linked_chain n (layout n b es is) es n in_ballots (omega (arith, few)) layout_linked

  pub read_ballots : ballot_chain (layout n b es is) ≡ es
  unfolding ballot_chain
  read_ballots = ap (map (entry_at (layout n b es is))) read_slots ∙ linked_entries (layout n b es is) es layout_linked

  pub read_free : free_chain (layout n b es is) ≡ is
  unfolding free_chain head_slot
  read_free =
      ap (λ (m : ℕ). chain m (slot_at (layout n b es is) 0).juror (layout n b es is)) (layout_length n b es is)
      ∙ ap (λ (s : Slot). chain n s.juror (layout n b es is)) layout_head
      ∙ free_chain_lem n b (layout n b es is) is n in_free (omega (arith, few)) layout_free

-- free slots are empty
pub free_empty : (b : ℕ) (S : List Slot) (is : List ℕ) → FreeLinked b S is → all (λ i. empty_slot (slot_at S i)) is ≡ true
unfolding all empty_slot free_slot
free_empty b S [] none = refl
free_empty b S (i ∷ is) (more {is = js} q l) =
    and_both (empty_slot (slot_at S i)) (all (λ j. empty_slot (slot_at S j)) is) (ap empty_slot q ∙ zeros_zero b) (free_empty b S is l)

pub chains_fit : (k d n : ℕ) (es : List Entry) (is : List ℕ) → 2 ≤ n → good_chains k d n es is ≡ true → Fit n es is
unfolding good_chains each_once
chains_fit k d n es is h e =
    let o₁ = all (in_urn n) (slots_in es ++ is) in
    let o₂ = distinct (slots_in es ++ is) in
    let o₃ = all (λ i. member i (slots_in es ++ is)) (tabulate (n - 1) suc) in
    let j = all (λ (x : Entry). good_juror x.juror) es in
    let u = distinct (map (λ (x : Entry). x.juror) es) in
    let v = all (λ (x : Entry). good_ballot k d x.ballot) es in
    let c₀ = and_first (o₁ && o₂ && o₃) j (and_first (o₁ && o₂ && o₃ && j) u (and_first (o₁ && o₂ && o₃ && j && u) v e)) in
    record {
      least = h;
      inside = and_first o₁ o₂ (and_first (o₁ && o₂) o₃ c₀);
      once = and_second o₁ o₂ (and_first (o₁ && o₂) o₃ c₀);
      covered = and_second (o₁ && o₂) o₃ c₀;
    }

-- an urn that is written from good chains is sound
pub layout_sound : (k d n b : ℕ) (es : List Entry) (is : List ℕ) → 2 ≤ n → good_chains k d n es is ≡ true
    → sound_slots k d (layout n b es is) ≡ true
unfolding sound_slots head_slot
layout_sound k d n b es is h e =
    let f = chains_fit k d n es is h e in
    let L = layout n b es is in
    let q = layout_length n b es is in
    let few₂ : length es + length is ≤ n - 1 = few n b es is f in
    rw (
      q,
      layout_head n b es is f,
      read_ballots n b es is f,
      read_free n b es is f,
      e,
      linked_ends n L es n (in_ballots n b es is f) (omega arith) (layout_linked n b es is f),
      free_ends n b L is n (in_free n b es is f) (omega arith) (layout_free n b es is f),
      zeros_zero b,
      free_empty b L is (layout_free n b es is f),
    )
