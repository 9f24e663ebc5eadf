-- The facts about a sound urn, from its bytes.
-- Assumes nothing.
use mathlib.Core.Path.{◌≡◌, ◌∙◌, refl, sym, ap}
use mathlib.Core.Logic.{⊎_elim}
use mathlib.Core.Bool.{Bool, true, false, cond, not, ◌||◌}
use mathlib.Core.List.{List, [], ◌∷◌}
use Prim.Native.Nat.{ℕ, zero, suc, ◌*◌, ◌≤◌, ◌<◌}
use native.Mathlib.Omega.{arith}
use lib.Dec.{T, eqb, eqb-suc-zero}
use lib.ListN.{length, get_or}
use borrow.Author.Tests.{eqb-true, not-true}
use Rattle.jury.specs.Shape.{graded_limits}
use Rattle.basics.proofs.Flags.{and_first}
use Rattle.urn_chains.specs.Slots.{Slot, slots_of, slot_at}
use Rattle.urn_chains.specs.Chains.{chain, ballot_slots, ballot_chain, free_chain}
use Rattle.basics.specs.Lists.{all, member}
use Rattle.urn_chains.specs.Sound.{jury_of_one, in_urn, slot_count, urn_slots, sound}
use Rattle.urn.specs.Facts.{is_empty, jurors_of, facts_of, UrnFacts, sound_in, present_in, full_in}
use Rattle.std.specs.Prelude.{Option, Some, None, is_some, Err}
use Rattle.std.specs.Option.{ok_or}
use Rattle.urn_chains.specs.declared.find.ChainPosition.{ChainPosition}
use Rattle.urn_chains.specs.inner.Table.{SlotTable}
use Rattle.urn_chains.specs.inner.Walk.{jurors_at}
use Rattle.urn_chains.specs.inner.Position.{placed_at, position_of}
use Rattle.urn_chains.proofs.Lists.{all_append, eqb_sym}
use Rattle.urn_chains.proofs.Marks.{true_or_false}
use Rattle.urn_chains.proofs.SoundLaws.{parts_found, jurors_of_entries}
use Rattle.urn_chains.proofs.SoundLayouts.{its_urn_length, its_parts, its_length}
use Rattle.urn_chains.proofs.SlotLaws.{size_least}
use Rattle.urn_chains.proofs.SlotTests.{table, few_bytes, slots_by_bytes, free_by_bytes, count_by_bytes}

-- what a place says is not lost
before_in : Option ChainPosition → ℕ
before_in (Some p) = p.before
before_in None = 0

slot_in : Option ChainPosition → ℕ
slot_in (Some p) = p.slot
slot_in None = 0

pub found_parts : (a b p s : ℕ) → placed_at a b ≡ placed_at p s → (p ≡ a) × (s ≡ b)
unfolding before_in slot_in
found_parts a b p s e = (sym (ap before_in e), sym (ap slot_in e))

-- a juror's ballot is found exactly if it is there
pub link_found : (S : List Slot) (j b : ℕ) (is : List ℕ) → is_some (position_of S j b is) ≡ member j (jurors_at S is)
unfolding position_of jurors_at member
link_found S j b [] = refl
link_found S j b (i ∷ is) = rw (eqb_sym j (slot_at S i).juror) (by (eqb (slot_at S i).juror j) (link_found S j i is))
  where
    by : (t : Bool) → is_some (position_of S j i is) ≡ member j (jurors_at S is)
        → is_some (cond t (placed_at b i) (position_of S j i is)) ≡ (t || member j (jurors_at S is))
    by true ih = refl
    by false ih = ih

pub link_juror : (S : List Slot) (j b : ℕ) (is : List ℕ) (p s : ℕ) → position_of S j b is ≡ placed_at p s → (slot_at S s).juror ≡ j
unfolding position_of
link_juror S j b [] p s e = let z : ◌≡◌ {A = ℕ} 0 1 = cc in absurd (omega arith)
link_juror S j b (i ∷ is) p s e =
    ⊎_elim (λ h. ap (λ (m : ℕ). (slot_at S m).juror)
    ((found_parts b i p s (ap (λ (t : Bool). cond t (placed_at b i) (position_of S j i is)) (sym h) ∙ e)).1)
    ∙ eqb-true (slot_at S i).juror j h)
    (λ h. link_juror S j i is p s (ap (λ (t : Bool). cond t (placed_at b i) (position_of S j i is)) (sym h) ∙ e))
    (true_or_false (eqb (slot_at S i).juror j))

empty_chain : (n i : ℕ) (S : List Slot) → 0 < n → is_empty (chain n i S) ≡ eqb i 0
unfolding chain is_empty
empty_chain zero i S h = absurd (omega arith)
empty_chain (suc n) zero S h = refl
empty_chain (suc n) (suc i) S h = sym (eqb-suc-zero i)

module _ (k d : ℕ) (urn : List ℕ) (w : T (graded_limits (jury_of_one k d))) (e : sound k d urn ≡ true) where
  pub its_table : SlotTable (k * d) (slot_count (k * d) (length urn)) urn
  its_table = table (k * d) urn (slot_count (k * d) (length urn)) (few_bytes k d w) (its_urn_length k d urn e) refl

  -- such an urn has at least two slots
  pub its_long : 4 ≤ length urn
  its_long =
      let n = slot_count (k * d) (length urn) in
      omega (arith, its_table.size, size_least (k * d) n its_table.least)

  pub can_find : all (in_urn (slot_count (k * d) (length urn)))
      (chain (slot_count (k * d) (length urn)) (get_or urn 0 0) (slots_of (k * d) (slot_count (k * d) (length urn)) urn))
      ≡ true
  unfolding urn_slots
  can_find =
      let n = slot_count (k * d) (length urn) in
      let S = slots_of (k * d) n urn in
      ap (all (in_urn n)) (sym (slots_by_bytes (k * d) n urn its_table))
      ∙ ap (λ (m : ℕ). all (in_urn m) (ballot_slots S)) (sym (its_length k d urn e))
      ∙ and_first (all (in_urn (length S)) (ballot_slots S)) (all (in_urn (length S)) (free_chain S))
      (sym (all_append (in_urn (length S)) (ballot_slots S) (free_chain S)) ∙ (its_parts k d urn e).inside)

  pub jurors_are : jurors_of (ballot_chain (urn_slots k d urn))
      ≡ jurors_at (slots_of (k * d) (slot_count (k * d) (length urn)) urn)
      (chain (slot_count (k * d) (length urn)) (get_or urn 0 0) (slots_of (k * d) (slot_count (k * d) (length urn)) urn))
  unfolding jurors_of ballot_chain urn_slots
  jurors_are =
      let n = slot_count (k * d) (length urn) in
      let S = slots_of (k * d) n urn in
      jurors_of_entries S (ballot_slots S) ∙ ap (jurors_at S) (slots_by_bytes (k * d) n urn its_table)

  pub full_is : is_empty (free_chain (urn_slots k d urn)) ≡ eqb (get_or urn 1 0) 0
  unfolding urn_slots
  full_is =
      let n = slot_count (k * d) (length urn) in
      ap is_empty (free_by_bytes (k * d) n urn its_table)
      ∙ empty_chain n (get_or urn 1 0) (slots_of (k * d) n urn) (omega (arith, its_table.least))

  pub few_ballots : length (ballot_chain (urn_slots k d urn)) ≤ 256
  unfolding urn_slots
  few_ballots =
      let n = slot_count (k * d) (length urn) in
      let S = slots_of (k * d) n urn in
      let f = parts_found k d S (omega (arith, its_length k d urn e, its_table.least))
      (omega (arith, its_length k d urn e, its_table.most)) (its_parts k d urn e) in
      omega (
        arith,
        count_by_bytes (k * d) n urn its_table,
        ap length (slots_by_bytes (k * d) n urn its_table),
        f.count,
        its_length k d urn e,
        its_table.most,
      )

  pub facts_are : (j : ℕ) → facts_of k d urn j
      ≡ Some (record {
        ballots = length (ballot_chain (urn_slots k d urn));
        present =
            member j (jurors_of (ballot_chain (urn_slots k d urn)));
        full = is_empty (free_chain (urn_slots k d urn));
      })
  unfolding facts_of
  facts_are j = rw e

pub no_facts : (k d : ℕ) (urn : List ℕ) (j : ℕ) → sound k d urn ≡ false → facts_of k d urn j ≡ None
unfolding facts_of
no_facts k d urn j e = rw e

pub same_facts : (m n : ℕ) (p q f g : Bool) → m ≡ n → p ≡ q → f ≡ g
    → ◌≡◌ {A = UrnFacts} (Some (record { ballots = m; present = p; full = f })) (Some (record { ballots = n; present = q; full = g }))
same_facts m n p q f g h i j = rw (h, i, j)

-- what the facts say about the urn
pub facts_sound : (k d : ℕ) (urn : List ℕ) (j : ℕ) → sound_in (facts_of k d urn j) ≡ true → sound k d urn ≡ true
facts_sound k d urn j h =
    ⊎_elim (λ e. e) (λ e. let q = sym h ∙ ap sound_in (no_facts k d urn j e) in
    let z : ◌≡◌ {A = ℕ} 0 1 = cc in absurd (omega arith)) (true_or_false (sound k d urn))

pub facts_free : (k d : ℕ) (urn : List ℕ) (j : ℕ) → sound k d urn ≡ true → not (full_in (facts_of k d urn j)) ≡ true
    → is_empty (free_chain (urn_slots k d urn)) ≡ false
unfolding facts_of
facts_free k d urn j e h = not-true _ (rw e at h)

pub facts_present : (k d : ℕ) (urn : List ℕ) (j : ℕ) → sound k d urn ≡ true → present_in (facts_of k d urn j) ≡ true
    → member j (jurors_of (ballot_chain (urn_slots k d urn))) ≡ true
unfolding facts_of
facts_present k d urn j e h = rw e at h

-- what a check says after an urn that is unsound was refused
pub not_looked : {C E : Type 0} (check : Option C) (e u : E) → Err e ≡ ok_or check u → (e ≡ u) × (check ≡ None)
not_looked None e u h = (cc, refl)
not_looked (Some c) e u h = cc
