-- The slots of an empty urn, linked one after the other.
-- Assumes nothing.
use mathlib.Core.Path.{◌≡◌, ◌∙◌, refl, sym, ap}
use mathlib.Core.Bool.{Bool, true, false, ◌||◌}
use mathlib.Core.List.{List, [], ◌∷◌, ◌++◌}
use mathlib.Core.Option.{none, some}
use Prim.Native.Nat.{ℕ, zero, suc, ◌+◌, ◌*◌, ◌-◌, ◌≤◌, ◌<◌}
use native.Mathlib.Nat.{suc-mul}
use native.Mathlib.Omega.{arith}
use lib.Dec.{ltb}
use lib.ListN.{length, set, drop, replicate, length-set, length-replicate, get_or-replicate, replicate-append-replicate}
use lib.Seq.{take_at, drop_at}
use borrow.Author.Tests.{ne_eqb, lt-ltb}
use Rattle.basics.specs.Lists.{tabulate}
use Rattle.jury.specs.Reason.{reason_at, unless, first_of}
use Rattle.basics.proofs.Flags.{and_both}
use Rattle.urn_chains.specs.Slots.{Slot, slot_bytes, slot_of, slots_of, bytes_of, slot_at, free_slot}
use Rattle.urn_chains.specs.Chains.{first_entry, first_free, with_ballots, with_free, head_slot, layout}
use Rattle.basics.specs.Lists.{all, member, distinct}
use Rattle.urn_chains.specs.Sound.{in_urn, urn_length}
use Rattle.urn_chains.proofs.SlotLaws.{size_is}
use Rattle.urn_chains.proofs.Lists.{member_all, distinct_cons}
use Rattle.urn_chains.proofs.Linked.{at_other, not_first, apart_rest}
use Rattle.urn_chains.proofs.Layouts.{Fit}
use Rattle.urn_chains.proofs.BytesLaws.{bytes_back}
use Rattle.urn_chains.specs.Sound.{graded_shape}
use Rattle.urn.specs.Empty.{empty_reasons, all_free}
use Rattle.urn.proofs.SlotBytes.{set_next, set_head_juror}

-- The numbers i, i + 1 and so on, m of them.
pub up_from : ℕ → ℕ → List ℕ
up_from zero i = []
up_from (suc m) i = i ∷ up_from m (suc i)

tabulate_up : (m i : ℕ) (f : ℕ → ℕ) → ((j : ℕ) → f j ≡ i + j) → tabulate m f ≡ up_from m i
unfolding tabulate up_from
tabulate_up zero i f h = refl
tabulate_up (suc m) i f h =
    let e : f 0 ≡ i = omega (arith, h 0) in
    ap (λ (x : ℕ). x ∷ tabulate m (λ j. f (suc j))) e
    ∙ ap (λ (xs : List ℕ). i ∷ xs) (tabulate_up m (suc i) (λ j. f (suc j)) (λ j. omega (arith, h (suc j))))

pub free_order : (n : ℕ) → tabulate (n - 1) suc ≡ up_from (n - 1) 1
free_order n = tabulate_up (n - 1) 1 suc (λ j. omega arith)

all_up : (p : ℕ → Bool) (m i : ℕ) → ((j : ℕ) → i ≤ j → j < i + m → p j ≡ true) → all p (up_from m i) ≡ true
unfolding all up_from
all_up p zero i h = refl
all_up p (suc m) i h = and_both (p i) (all p (up_from m (suc i))) (h i (omega arith) (omega arith))
    (all_up p m (suc i) (λ j a b. h j (omega arith) (omega arith)))

-- a smaller number is not among them
below_up : (m i j : ℕ) → j < i → member j (up_from m i) ≡ false
unfolding member up_from
below_up zero i j h = refl
below_up (suc m) i j h = ap (λ (t : Bool). t || member j (up_from m (suc i))) (ne_eqb j i (λ e. omega arith))
    ∙ below_up m (suc i) j (omega arith)

distinct_up : (m i : ℕ) → distinct (up_from m i) ≡ true
unfolding distinct up_from
distinct_up zero i = refl
distinct_up (suc m) i = distinct_cons i (up_from m (suc i)) (below_up m (suc i) i (omega arith)) (distinct_up m (suc i))

-- all slots from 1 on are free, each once
pub all_fit : (n : ℕ) → 2 ≤ n → Fit n [] (tabulate (n - 1) suc)
unfolding in_urn
all_fit n h =
    let e = free_order n in
    record {
      least = h;
      inside = ap (all (in_urn n)) e ∙ all_up (in_urn n) (n - 1) 1
          (λ j a b. and_both (ltb 0 j) (ltb j n) (lt-ltb 0 j (omega arith)) (lt-ltb j n (omega arith)));
      once = ap distinct e ∙ distinct_up (n - 1) 1;
      covered = member_all (λ i. member i (tabulate (n - 1) suc)) (tabulate (n - 1) suc) (λ i m. m);
    }

-- a slot of zeros is the last free slot of a chain
zero_slot : (b : ℕ) → slot_of (replicate (slot_bytes b) 0) ≡ free_slot b 0
unfolding slot_of free_slot
zero_slot b = ap (λ (m : ℕ). slot_of (replicate m 0)) {x = slot_bytes b} {y = suc (suc b)} (omega (arith, size_is b))

pub zero_slots : (b n : ℕ) → slots_of b n (replicate (n * slot_bytes b) 0) ≡ replicate n (free_slot b 0)
unfolding slots_of
zero_slots b zero = refl
zero_slots b (suc n) =
    let z = slot_bytes b in
    let front : List ℕ = replicate z 0 in
    let back : List ℕ = replicate (n * z) 0 in
    let cut : replicate (suc n * z) 0 ≡ front ++ back =
    ap (λ (m : ℕ). replicate m 0) {x = suc n * z} {y = z + n * z} (omega (arith, suc-mul n z))
    ∙ sym (replicate-append-replicate z (n * z) 0) in
    ap (slots_of b (suc n)) cut
    ∙ ap (λ (xs : List ℕ). slot_of xs ∷ slots_of b n (drop z (front ++ back))) (take_at front back z (length-replicate z 0))
    ∙ ap (λ (xs : List ℕ). slot_of front ∷ slots_of b n xs) (drop_at front back z (length-replicate z 0))
    ∙ ap (λ (s : Slot). s ∷ slots_of b n back) (zero_slot b)
    ∙ ap (λ (ss : List Slot). free_slot b 0 ∷ ss) (zero_slots b n)

-- freeing these slots leaves the others unchanged
free_other : (b : ℕ) (is : List ℕ) (S : List Slot) (i : ℕ) → member i is ≡ false → slot_at (with_free b is S) i ≡ slot_at S i
unfolding with_free
free_other b [] S i h = refl
free_other b (j ∷ is) S i h = at_other (with_free b is S) j i (free_slot b (first_free is))
    (λ e. not_first i j is h (sym e)) ∙ free_other b is S i (apart_rest i j is h)

same_at : (b n i : ℕ) → i < n → slot_at (replicate n (free_slot b 0)) i ≡ free_slot b 0
unfolding slot_at
same_at b n i h = get_or-replicate n i (free_slot b 0) _ h

-- The slots from `slot` on are free, in order, and `first` is the first of them.
pub record Freed (b n : ℕ) (urn : List ℕ) (slot first : ℕ) : Type 0 where
  pub least : 1 ≤ slot
  pub most : slot ≤ n
  pub size : length urn ≡ n * slot_bytes b
  pub linked : slots_of b n urn ≡ with_free b (up_from (n - slot) slot) (replicate n (free_slot b 0))
  pub head : first ≡ first_free (up_from (n - slot) slot)

pub freed_start : (b n : ℕ) (urn : List ℕ) → 2 ≤ n → urn ≡ replicate (n * slot_bytes b) 0 → Freed b n urn n 0
unfolding with_free first_free up_from
freed_start b n urn h e =
    let none : 0 ≡ n - n = omega arith in
    record {
      least = omega arith;
      most = omega arith;
      size = ap length e ∙ length-replicate (n * slot_bytes b) 0;
      linked = ap (slots_of b n) e ∙ zero_slots b n ∙ ap (λ (m : ℕ). with_free b (up_from m n) (replicate n (free_slot b 0))) none;
      head = ap (λ (m : ℕ). first_free (up_from m n)) none;
    }

up_step : (n i slot : ℕ) → suc i ≡ slot → slot ≤ n → i ∷ up_from (n - slot) slot ≡ up_from (n - i) i
unfolding up_from
up_step n i slot e h =
    ap (λ (m : ℕ). i ∷ up_from (n - slot) m) (sym e)
    ∙ ap (λ (m : ℕ). up_from m i) {x = suc (n - slot)} {y = n - i} (omega arith)

pub freed_go : (b n : ℕ) (urn : List ℕ) (i slot first : ℕ) → suc i ≡ slot → 1 ≤ i → Freed b n urn slot first
    → Freed b n (set urn (i * slot_bytes b) first) i i
unfolding with_free first_free free_slot
freed_go b n urn i slot first e p f =
    let l : i < n = omega (arith, f.most) in
    let is = up_from (n - slot) slot in
    let R = replicate n (free_slot b 0) in
    let S = slots_of b n urn in
    let up = up_step n i slot e f.most in
    let here : slot_at S i ≡ free_slot b 0 = ap (λ (ss : List Slot). slot_at ss i) f.linked
    ∙ free_other b is R i (below_up (n - slot) slot i (omega arith)) ∙ same_at b n i l in
    record {
      least = p;
      most = omega arith;
      size = length-set urn (i * slot_bytes b) first ∙ f.size;
      linked =
          set_next i b n urn first f.size l
          ∙ ap (λ (s : Slot). set S i (record { next = first; juror = s.juror; ballot = s.ballot })) here
          ∙ ap (λ (ss : List Slot). set ss i (free_slot b first)) f.linked
          ∙ ap (λ (m : ℕ). set (with_free b is R) i (free_slot b m)) f.head
          ∙ ap (λ (js : List ℕ). with_free b js R) up;
      head = ap first_free up;
    }

-- if all slots from 1 on are free and slot 0 names the first of them, the table is an empty urn
pub freed_done : (b n : ℕ) (urn : List ℕ) (first : ℕ) → 2 ≤ n → Freed b n urn 1 first → set urn 1 first ≡ bytes_of (all_free n b)
unfolding all_free layout with_ballots head_slot first_entry free_slot
freed_done b n urn first h f =
    let is = up_from (n - 1) 1 in
    let R = replicate n (free_slot b 0) in
    let S = slots_of b n urn in
    let here : slot_at S 0 ≡ free_slot b 0 = ap (λ (ss : List Slot). slot_at ss 0) f.linked
    ∙ free_other b is R 0 (below_up (n - 1) 1 0 (omega arith)) ∙ same_at b n 0 (omega arith) in
    let slots : slots_of b n (set urn 1 first) ≡ layout n b [] (tabulate (n - 1) suc) =
    set_head_juror b n urn first f.size (omega arith)
    ∙ ap (λ (s : Slot). set S 0 (record { next = s.next; juror = first; ballot = s.ballot })) here
    ∙ ap (λ (ss : List Slot). set ss 0 (record { next = 0; juror = first; ballot = replicate b 0 })) f.linked
    ∙ ap (λ (m : ℕ). set (with_free b is R) 0 (record { next = 0; juror = m; ballot = replicate b 0 })) f.head
    ∙ ap (layout n b []) (sym (free_order n)) in
    sym (bytes_back b n (set urn 1 first) (length-set urn 1 first ∙ f.size)) ∙ ap bytes_of slots

-- the first reason of the call
module _ (k d : ℕ) (table : List ℕ) where
  pub empty_1 : graded_shape k d ≡ false → first_of (empty_reasons k d table) ≡ some (reason_at 1 0)
  unfolding empty_reasons first_of unless
  empty_1 h = rw h

  pub empty_13 : graded_shape k d ≡ true → urn_length (k * d) (length table) ≡ false → first_of (empty_reasons k d table) ≡ some (reason_at 13 0)
  unfolding empty_reasons first_of unless
  empty_13 h i = rw (h, i)

  pub empty_none : graded_shape k d ≡ true → urn_length (k * d) (length table) ≡ true → first_of (empty_reasons k d table) ≡ none
  unfolding empty_reasons first_of unless
  empty_none h i = rw (h, i)

  pub empty_accepted : first_of (empty_reasons k d table) ≡ none → urn_length (k * d) (length table) ≡ true
  unfolding empty_reasons first_of unless
  empty_accepted e = go (graded_shape k d) (urn_length (k * d) (length table)) e
    where
      go : (a l : Bool) → first_of (unless a 1 ∷ unless l 13 ∷ []) ≡ none → l ≡ true
      go a true h = refl
      go true false h = let z : ◌≡◌ {A = ℕ} 0 1 = cc in absurd (omega arith)
      go false false h = let z : ◌≡◌ {A = ℕ} 0 1 = cc in absurd (omega arith)
