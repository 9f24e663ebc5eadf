-- The slots of an urn after an admission.
-- Assumes nothing.
use mathlib.Core.Path.{◌≡◌, ◌∙◌, sym, ap}
use mathlib.Core.Logic.{◌≢◌}
use mathlib.Core.Bool.{true, false}
use mathlib.Core.List.{List, ◌∷◌, ◌++◌}
use Prim.Native.Nat.{ℕ, suc, ◌-◌, ◌<◌}
use native.Mathlib.Omega.{arith}
use lib.ListN.{length, set, length-set}
use Rattle.basics.specs.Lists.{tabulate}
use Rattle.basics.proofs.Flags.{and_first, and_second, or_first, or_second, never_true}
use Rattle.urn_chains.specs.Slots.{Slot, slot_at, free_slot}
use Rattle.urn_chains.specs.Chains.{Entry, first_entry, first_free, entry_slot, head_slot, layout}
use Rattle.basics.specs.Lists.{all, member, distinct}
use Rattle.urn_chains.specs.Sound.{in_urn}
use Rattle.urn_chains.proofs.Lists.{all_move, all_weaken, member_move, distinct_move, distinct_first, all_append, all_first, all_rest, member_append}
use Rattle.urn_chains.proofs.Linked.{no_zero, slots_in, Linked, FreeLinked, more, at_set, at_other, linked_set, free_set, positive, below}
use Rattle.urn_chains.proofs.Layouts.{Fit, layout_unique}
use Rattle.urn_chains.proofs.SlotTests.{clash}

-- if the first free slot becomes a ballot's, the chains still have each slot once
pub fit_admit : (n : ℕ) (e : Entry) (es : List Entry) (is : List ℕ) → Fit n es (e.slot ∷ is) → Fit n (e ∷ es) is
fit_admit n e es is f =
    let i = e.slot in
    record {
      least = f.least;
      inside = sym (all_move (in_urn n) (slots_in es) i is) ∙ f.inside;
      once = sym (distinct_move (slots_in es) i is) ∙ f.once;
      covered = all_weaken (λ j. member j (slots_in es ++ (i ∷ is))) (λ j. member j (i ∷ (slots_in es ++ is)))
          (tabulate (n - 1) suc) (λ j h. sym (member_move j (slots_in es) i is) ∙ h) f.covered;
    }

module _ (n b : ℕ) (S : List Slot) (es : List Entry) (i : ℕ) (is : List ℕ) (j : ℕ) (x : List ℕ)
    (size : length S ≡ n) (fit : Fit n es (i ∷ is)) (h : slot_at S 0 ≡ head_slot b es (i ∷ is)) (l : Linked S es)
    (f : FreeLinked b S (i ∷ is)) where
  moved : distinct (i ∷ (slots_in es ++ is)) ≡ true
  moved = sym (distinct_move (slots_in es) i is) ∙ fit.once

  not_in : member i (slots_in es ++ is) ≡ false
  not_in = distinct_first i (slots_in es ++ is) moved

  not_ballot : member i (slots_in es) ≡ false
  not_ballot = never_true (member i (slots_in es))
      (λ m. clash (member i (slots_in es ++ is))
      (member_append i (slots_in es) is ∙ or_first (member i (slots_in es)) (member i is) m) not_in)

  not_free : member i is ≡ false
  not_free = never_true (member i is)
      (λ m. clash (member i (slots_in es ++ is))
      (member_append i (slots_in es) is ∙ or_second (member i (slots_in es)) (member i is) m) not_in)

  in_urn_i : in_urn n i ≡ true
  in_urn_i = all_first (in_urn n) i (slots_in es ++ is) (sym (all_move (in_urn n) (slots_in es) i is) ∙ fit.inside)

  in_es : all (in_urn n) (slots_in es) ≡ true
  in_es = and_first (all (in_urn n) (slots_in es)) (all (in_urn n) (i ∷ is)) (sym (all_append (in_urn n) (slots_in es) (i ∷ is)) ∙ fit.inside)

  in_is : all (in_urn n) is ≡ true
  in_is = all_rest (in_urn n) i is
      (and_second (all (in_urn n) (slots_in es)) (all (in_urn n) (i ∷ is))
      (sym (all_append (in_urn n) (slots_in es) (i ∷ is)) ∙ fit.inside))

  rest_free : (js : List ℕ) → FreeLinked b S (i ∷ js) → (slot_at S i ≡ free_slot b (first_free js)) × FreeLinked b S js
  rest_free js (more q r) = (q, r)

  -- the slots after the ballot of juror j was put into free slot i, which is now the first of the ballot chain
  pub admit_slots : (T : List Slot) → T
      ≡ set (set S i (record { next = first_entry es; juror = j; ballot = x })) 0
      (record { next = i; juror = (slot_at S i).next; ballot = (slot_at S 0).ballot }) →
      T ≡ layout n b (record { slot = i; juror = j; ballot = x } ∷ es) is
  unfolding head_slot entry_slot first_entry free_slot
  admit_slots T q =
      let S₁ = set S i (record { next = first_entry es; juror = j; ballot = x }) in
      let top : Slot = record { next = i; juror = (slot_at S i).next; ballot = (slot_at S 0).ballot } in
      let big : i < length S = omega (arith, below n i in_urn_i) in
      let nonzero : i ≢ 0 = λ e. omega (arith, positive n i in_urn_i) in
      let l₁ = length-set S i (record { next = first_entry es; juror = j; ballot = x }) in
      let r = rest_free is f in
      q
      ∙ layout_unique n b (record { slot = i; juror = j; ballot = x } ∷ es) is
      (fit_admit n (record { slot = i; juror = j; ballot = x }) es is fit) (set S₁ 0 top)
      (length-set S₁ 0 top ∙ l₁ ∙ size)
      (at_set S₁ 0 top (omega (arith, fit.least))
      ∙ ap (λ (m : ℕ). record { next = i; juror = m; ballot = (slot_at S 0).ballot }) (ap (λ (s : Slot). s.next) r.0)
      ∙ ap (λ (ys : List ℕ). record { next = i; juror = first_free is; ballot = ys }) (ap (λ (s : Slot). s.ballot) h))
      (more (at_other S₁ 0 i top nonzero ∙ at_set S i (record { next = first_entry es; juror = j; ballot = x }) big)
      (linked_set S₁ 0 top es (no_zero n (slots_in es) in_es)
      (linked_set S i (record { next = first_entry es; juror = j; ballot = x }) es not_ballot l)))
      (free_set b S₁ 0 top is (no_zero n is in_is)
      (free_set b S i (record { next = first_entry es; juror = j; ballot = x }) is not_free r.1))
