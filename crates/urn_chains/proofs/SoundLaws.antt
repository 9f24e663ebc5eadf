-- If both walks find nothing wrong, the slots are sound.
-- Assumes nothing.
use mathlib.Core.Path.{◌≡◌, ◌∙◌, refl, sym, ap}
use mathlib.Core.Bool.{Bool, true, ◌&&◌}
use mathlib.Core.List.{List, [], ◌∷◌, ◌++◌, map}
use Prim.Native.Nat.{ℕ, suc, ◌+◌, ◌-◌, ◌≤◌, ◌<◌}
use native.Mathlib.Omega.{arith}
use lib.Dec.{ltb}
use lib.ListN.{length, length-append}
use borrow.Author.Tests.{ltb-true, lt-ltb}
use Rattle.basics.specs.Lists.{tabulate}
use Rattle.basics.proofs.Flags.{and_first, and_second, and_both}
use Rattle.urn_chains.specs.Slots.{Slot, slot_at}
use Rattle.urn_chains.specs.Chains.{Entry, ends, entry_at, ballot_slots, ballot_chain, free_chain}
use Rattle.basics.specs.Lists.{all, member, distinct}
use Rattle.urn_chains.specs.Sound.{good_juror, good_ballot, in_urn, each_once, good_chains, all_zero, empty_slot, sound_slots}
use Rattle.urn_chains.specs.inner.Walk.{no_marks, mark_all, fresh, jurors_at, ballot_at, free_at, ballots_from, free_from}
use Rattle.urn_chains.proofs.GoodBallots.{juror_most}
use Rattle.urn_chains.proofs.Lists.{all_append, all_map, all_weaken, all_both}
use Rattle.urn_chains.proofs.Marks.{fresh_append, fresh_no_marks, once_all, all_once}

-- the slots, and the jurors, of the ballots along a chain
pub slots_of_entries : (slots : List Slot) (is : List ℕ) → map (λ (e : Entry). e.slot) (map (entry_at slots) is) ≡ is
unfolding entry_at
slots_of_entries slots [] = refl
slots_of_entries slots (i ∷ is) = ap (λ (js : List ℕ). i ∷ js) (slots_of_entries slots is)

pub jurors_of_entries : (slots : List Slot) (is : List ℕ) → map (λ (e : Entry). e.juror) (map (entry_at slots) is) ≡ jurors_at slots is
unfolding entry_at jurors_at
jurors_of_entries slots [] = refl
jurors_of_entries slots (i ∷ is) = ap (λ (js : List ℕ). (slot_at slots i).juror ∷ js) (jurors_of_entries slots is)

-- The parts of soundness, as facts.
pub record Parts (k d : ℕ) (slots : List Slot) : Type 0 where
  pub ballots_end : ends (length slots) (slot_at slots 0).next slots ≡ true
  pub free_end : ends (length slots) (slot_at slots 0).juror slots ≡ true
  pub inside : all (in_urn (length slots)) (ballot_slots slots ++ free_chain slots) ≡ true
  pub once : distinct (ballot_slots slots ++ free_chain slots) ≡ true
  pub covered : all (λ i. member i (ballot_slots slots ++ free_chain slots)) (tabulate (length slots - 1) suc) ≡ true
  pub jurors : all (λ i. good_juror (slot_at slots i).juror) (ballot_slots slots) ≡ true
  pub jurors_once : distinct (jurors_at slots (ballot_slots slots)) ≡ true
  pub ballots : all (λ i. good_ballot k d (slot_at slots i).ballot) (ballot_slots slots) ≡ true
  pub head : all_zero (slot_at slots 0).ballot ≡ true
  pub empty : all (λ i. empty_slot (slot_at slots i)) (free_chain slots) ≡ true

-- the test of the chains, stated about their slots
chains_by_slots : (k d : ℕ) (slots : List Slot) →
    good_chains k d (length slots) (ballot_chain slots) (free_chain slots)
    ≡ (each_once (length slots) (ballot_slots slots ++ free_chain slots)
    && all (λ i. good_juror (slot_at slots i).juror) (ballot_slots slots)
    && distinct (jurors_at slots (ballot_slots slots))
    && all (λ i. good_ballot k d (slot_at slots i).ballot) (ballot_slots slots))
unfolding good_chains ballot_chain entry_at
chains_by_slots k d slots =
    rw (
      slots_of_entries slots (ballot_slots slots),
      jurors_of_entries slots (ballot_slots slots),
      all_map (λ (e : Entry). good_juror e.juror) (entry_at slots) (ballot_slots slots),
      all_map (λ (e : Entry). good_ballot k d e.ballot) (entry_at slots) (ballot_slots slots),
    )

pub sound_parts : (k d : ℕ) (slots : List Slot) → sound_slots k d slots ≡ true → Parts k d slots
unfolding sound_slots each_once
sound_parts k d slots e =
    let n = length slots in
    let xs = ballot_slots slots in
    let ys = free_chain slots in
    let a = ends n (slot_at slots 0).next slots in
    let b = ends n (slot_at slots 0).juror slots in
    let g = good_chains k d n (ballot_chain slots) ys in
    let z = all_zero (slot_at slots 0).ballot in
    let f = all (λ i. empty_slot (slot_at slots i)) ys in
    let e₃ = and_first (a && b && g && z) f e in
    let e₂ = and_first (a && b && g) z e₃ in
    let e₁ = and_first (a && b) g e₂ in
    let o₁ = all (in_urn n) (xs ++ ys) in
    let o₂ = distinct (xs ++ ys) in
    let o₃ = all (λ i. member i (xs ++ ys)) (tabulate (n - 1) suc) in
    let j = all (λ i. good_juror (slot_at slots i).juror) xs in
    let u = distinct (jurors_at slots xs) in
    let v = all (λ i. good_ballot k d (slot_at slots i).ballot) xs in
    let c = sym (chains_by_slots k d slots) ∙ and_second (a && b) g e₂ in
    let c₂ = and_first ((o₁ && o₂ && o₃) && j && u) v c in
    let c₁ = and_first ((o₁ && o₂ && o₃) && j) u c₂ in
    let c₀ = and_first (o₁ && o₂ && o₃) j c₁ in
    let i₁ = and_first (o₁ && o₂) o₃ c₀ in
    record {
      ballots_end = and_first a b e₁;
      free_end = and_second a b e₁;
      inside = and_first o₁ o₂ i₁;
      once = and_second o₁ o₂ i₁;
      covered = and_second (o₁ && o₂) o₃ c₀;
      jurors = and_second (o₁ && o₂ && o₃) j c₁;
      jurors_once = and_second ((o₁ && o₂ && o₃) && j) u c₂;
      ballots = and_second ((o₁ && o₂ && o₃) && j && u) v c;
      head = and_second (a && b && g) z e₃;
      empty = and_second (a && b && g && z) f e;
    }

pub chains_true : (k d : ℕ) (slots : List Slot) → Parts k d slots
    → good_chains k d (length slots) (ballot_chain slots) (free_chain slots) ≡ true
unfolding each_once
chains_true k d slots p = rw (chains_by_slots k d slots, p.inside, p.once, p.covered, p.jurors, p.jurors_once, p.ballots)

pub parts_sound : (k d : ℕ) (slots : List Slot) → Parts k d slots → sound_slots k d slots ≡ true
unfolding sound_slots
parts_sound k d slots p = rw (p.ballots_end, p.free_end, chains_true k d slots p, p.head, p.empty)

-- What the two walks and the other two tests find.
pub record Found (k d : ℕ) (slots : List Slot) : Type 0 where
  pub head : all_zero (slot_at slots 0).ballot ≡ true
  pub ballots : ballots_from k d slots (length slots) (slot_at slots 0).next no_marks no_marks ≡ true
  pub free : free_from slots (length slots) (slot_at slots 0).juror (mark_all (ballot_slots slots) no_marks) ≡ true
  pub count : length (ballot_slots slots) + length (free_chain slots) ≡ length slots - 1

below_256 : (n : ℕ) (is : List ℕ) → n ≤ 256 → all (in_urn n) is ≡ true → all (λ i. ltb i 256) is ≡ true
unfolding in_urn
below_256 n is h e = all_weaken (in_urn n) (λ i. ltb i 256) is
    (λ i f. let l = ltb-true i n (and_second (ltb 0 i) (ltb i n) f) in lt-ltb i 256 (omega arith)) e

jurors_below : (slots : List Slot) (is : List ℕ) → all (λ i. good_juror (slot_at slots i).juror) is ≡ true
    → all (λ j. ltb j 256) (jurors_at slots is) ≡ true
unfolding jurors_at
jurors_below slots is e =
    all_map (λ j. ltb j 256) (λ i. (slot_at slots i).juror) is
    ∙ all_weaken (λ i. good_juror (slot_at slots i).juror) (λ i. ltb (slot_at slots i).juror 256) is
    (λ i f. lt-ltb (slot_at slots i).juror 256 (juror_most (slot_at slots i).juror f)) e

walk_ballots_true : (a b c e : Bool) → a ≡ true → b ≡ true → c ≡ true → e ≡ true → (a && b && c && e) ≡ true
walk_ballots_true a b c e h i j l = rw (h, i, j, l)

walk_free_true : (a b c : Bool) → a ≡ true → b ≡ true → c ≡ true → (a && b && c) ≡ true
walk_free_true a b c h i j = rw (h, i, j)

module _ (k d : ℕ) (slots : List Slot) (least : 0 < length slots) (most : length slots ≤ 256) where
  pub parts_found : Parts k d slots → Found k d slots
  unfolding ballots_from free_from ballot_slots free_chain ballot_at free_at
  parts_found p =
      let n = length slots in
      let xs = ballot_slots slots in
      let ys = free_chain slots in
      let in_both = sym (all_append (in_urn n) xs ys) ∙ p.inside in
      let in_xs = and_first (all (in_urn n) xs) (all (in_urn n) ys) in_both in
      let in_ys = and_second (all (in_urn n) xs) (all (in_urn n) ys) in_both in
      let met = sym (fresh_append xs ys no_marks) ∙ fresh_no_marks (xs ++ ys) (below_256 n (xs ++ ys) most p.inside) ∙ p.once in
      let good_xs = all_both (λ i. in_urn n i && good_juror (slot_at slots i).juror)
      (λ i. good_ballot k d (slot_at slots i).ballot) xs
      (all_both (in_urn n) (λ i. good_juror (slot_at slots i).juror) xs in_xs p.jurors) p.ballots in
      let free_ys = all_both (in_urn n) (λ i. empty_slot (slot_at slots i)) ys in_ys p.empty in
      let js = fresh_no_marks (jurors_at slots xs) (jurors_below slots xs p.jurors) ∙ p.jurors_once in
      record {
        head = p.head;
        ballots = walk_ballots_true _ _ _ _ p.ballots_end good_xs (and_first (fresh xs no_marks) (fresh ys (mark_all xs no_marks)) met) js;
        free = walk_free_true _ _ _ p.free_end free_ys (and_second (fresh xs no_marks) (fresh ys (mark_all xs no_marks)) met);
        count = sym (length-append xs ys) ∙ once_all n (xs ++ ys) least p.inside p.once p.covered;
      }

  pub found_parts : Found k d slots → Parts k d slots
  unfolding ballots_from free_from ballot_slots free_chain ballot_at free_at
  found_parts f =
      let n = length slots in
      let xs = ballot_slots slots in
      let ys = free_chain slots in
      let a = ends n (slot_at slots 0).next slots in
      let b = all (λ i. in_urn n i && good_juror (slot_at slots i).juror && good_ballot k d (slot_at slots i).ballot) xs in
      let c = fresh xs no_marks in
      let e = fresh (jurors_at slots xs) no_marks in
      let w₂ = and_first (a && b && c) e f.ballots in
      let w₁ = and_first (a && b) c w₂ in
      let good_xs = and_second a b w₁ in
      let a' = ends n (slot_at slots 0).juror slots in
      let b' = all (λ i. in_urn n i && empty_slot (slot_at slots i)) ys in
      let c' = fresh ys (mark_all xs no_marks) in
      let v₁ = and_first (a' && b') c' f.free in
      let free_ys = and_second a' b' v₁ in
      let in_xs = all_weaken (λ i. in_urn n i && good_juror (slot_at slots i).juror && good_ballot k d (slot_at slots i).ballot) (in_urn n) xs
      (λ i q. and_first (in_urn n i) (good_juror (slot_at slots i).juror)
      (and_first (in_urn n i && good_juror (slot_at slots i).juror) (good_ballot k d (slot_at slots i).ballot) q))
      good_xs in
      let in_ys = all_weaken (λ i. in_urn n i && empty_slot (slot_at slots i)) (in_urn n) ys
      (λ i q. and_first (in_urn n i) (empty_slot (slot_at slots i)) q) free_ys in
      let inside = all_append (in_urn n) xs ys ∙ and_both (all (in_urn n) xs) (all (in_urn n) ys) in_xs in_ys in
      let once = sym (fresh_no_marks (xs ++ ys) (below_256 n (xs ++ ys) most inside)) ∙ fresh_append xs ys no_marks
      ∙ and_both c c' (and_second (a && b) c w₂) (and_second (a' && b') c' f.free) in
      let jurors = all_weaken (λ i. in_urn n i && good_juror (slot_at slots i).juror && good_ballot k d
      (slot_at slots i).ballot) (λ i. good_juror (slot_at slots i).juror) xs
      (λ i q. and_second (in_urn n i) (good_juror (slot_at slots i).juror)
      (and_first (in_urn n i && good_juror (slot_at slots i).juror) (good_ballot k d (slot_at slots i).ballot) q))
      good_xs in
      record {
        ballots_end = and_first a b w₁;
        free_end = and_first a' b' v₁;
        inside = inside;
        once = once;
        covered = all_once n (xs ++ ys) least inside once (length-append xs ys ∙ f.count);
        jurors = jurors;
        jurors_once = sym (fresh_no_marks (jurors_at slots xs) (jurors_below slots xs jurors)) ∙ and_second (a && b && c) e f.ballots;
        ballots =
            all_weaken (λ i. in_urn n i && good_juror (slot_at slots i).juror && good_ballot k d
            (slot_at slots i).ballot) (λ i. good_ballot k d (slot_at slots i).ballot) xs
            (λ i q. and_second (in_urn n i && good_juror (slot_at slots i).juror) (good_ballot k d (slot_at slots i).ballot) q) good_xs;
        head = f.head;
        empty = all_weaken (λ i. in_urn n i && empty_slot (slot_at slots i)) (λ i. empty_slot (slot_at slots i)) ys
            (λ i q. and_second (in_urn n i) (empty_slot (slot_at slots i)) q) free_ys;
      }
