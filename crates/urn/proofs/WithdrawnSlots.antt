-- The slots of an urn after a withdrawal.
-- Assumes nothing.
use mathlib.Core.Path.{◌≡◌, ◌∙◌, refl, sym, ap}
use mathlib.Core.Logic.{⊎_elim, ◌≢◌}
use mathlib.Core.Bool.{Bool, true, false, cond}
use mathlib.Core.List.{List, [], ◌∷◌, ◌++◌, append_assoc}
use Prim.Native.Nat.{ℕ, suc, ◌-◌, ◌<◌}
use native.Mathlib.Omega.{arith}
use lib.Dec.{eqb}
use lib.ListN.{length, set, replicate, length-set}
use borrow.Author.Tests.{eq-eqb}
use Rattle.basics.specs.Lists.{tabulate}
use Rattle.basics.proofs.Cases.{same_or_not}
use Rattle.basics.proofs.Flags.{and_first, and_second, or_first, or_second, never_true}
use Rattle.urn_chains.specs.Slots.{Slot, slot_at, free_slot}
use Rattle.urn_chains.specs.Chains.{Entry, first_entry, first_free, entry_slot, head_slot, layout}
use Rattle.basics.specs.Lists.{all, member, distinct}
use Rattle.urn_chains.specs.Sound.{in_urn}
use Rattle.urn.specs.Withdraw.{without_juror, slot_of_juror}
use Rattle.urn.proofs.FactLaws.{found_parts}
use Rattle.urn_chains.specs.inner.Position.{placed_at, position_of}
use Rattle.urn_chains.proofs.Lists.{all_append, all_move, all_member, all_weaken, member_move, member_append, distinct_move, distinct_first, distinct_rest, distinct_left, distinct_apart}
use Rattle.urn_chains.proofs.Marks.{true_or_false}
use Rattle.urn_chains.proofs.SlotTests.{clash}
use Rattle.urn_chains.proofs.Linked.{no_zero, slots_in, Linked, FreeLinked, none, more, at_set, at_other, apart_rest, linked_set, free_set, positive, below}
use Rattle.urn_chains.proofs.Layouts.{Fit, layout_unique}

-- The last slot of these ballots, or `before` if there are none.
pub last_slot : ℕ → List Entry → ℕ
last_slot before [] = before
last_slot before (q ∷ pre) = last_slot q.slot pre

-- The ballots before a juror's ballot, that ballot, and those after it.
pub record Split (j before p s : ℕ) (es : List Entry) : Type 0 where
  pub front : List Entry
  pub entry : Entry
  pub back : List Entry
  pub whole : es ≡ front ++ (entry ∷ back)
  pub gone : without_juror j es ≡ front ++ back
  pub named : slot_of_juror j es ≡ entry.slot
  pub slot : s ≡ entry.slot
  pub link : p ≡ last_slot before front

pub split : (S : List Slot) (j before p s : ℕ) (es : List Entry) → Linked S es → position_of S j before (slots_in es)
    ≡ placed_at p s → Split j before p s es
unfolding position_of without_juror slot_of_juror last_slot entry_slot
split S j before p s [] none e = let z : ◌≡◌ {A = ℕ} 0 1 = cc in absurd (omega arith)
split S j before p s (e ∷ es) (more q l) h =
    ⊎_elim
    (λ t. let r = found_parts before e.slot p s
    (ap (λ (u : Bool). cond u (placed_at before e.slot) (position_of S j e.slot (slots_in es))) (sym t) ∙ h) in
    let t' : eqb e.juror j ≡ true = ap (λ (x : Slot). eqb x.juror j) (sym q) ∙ t in
    record {
      front = [];
      entry = e;
      back = es;
      whole = refl;
      gone = ap (λ (u : Bool). cond u es (e ∷ without_juror j es)) t';
      named = ap (λ (u : Bool). cond u e.slot (slot_of_juror j es)) t';
      slot = r.1;
      link = r.0;
    })
    (λ t. let w = split S j e.slot p s es l
    (ap (λ (u : Bool). cond u (placed_at before e.slot) (position_of S j e.slot (slots_in es))) (sym t) ∙ h) in
    let t' : eqb e.juror j ≡ false = ap (λ (x : Slot). eqb x.juror j) (sym q) ∙ t in
    record {
      front = e ∷ w.front;
      entry = w.entry;
      back = w.back;
      whole = ap (λ (xs : List Entry). e ∷ xs) w.whole;
      gone = ap (λ (u : Bool). cond u es (e ∷ without_juror j es)) t' ∙ ap (λ (xs : List Entry). e ∷ xs) w.gone;
      named = ap (λ (u : Bool). cond u e.slot (slot_of_juror j es)) t' ∙ w.named;
      slot = w.slot;
      link = w.link;
    })
    (true_or_false (eqb (slot_at S e.slot).juror j))

slots_append : (xs ys : List Entry) → slots_in (xs ++ ys) ≡ slots_in xs ++ slots_in ys
slots_append [] ys = refl
slots_append (x ∷ xs) ys = ap (λ (is : List ℕ). x.slot ∷ is) (slots_append xs ys)

-- a test of a list that does not depend on the place of a number in it
moves : (f : List ℕ → Bool) → ((xs : List ℕ) (y : ℕ) (ys : List ℕ) → f (xs ++ (y ∷ ys)) ≡ f (y ∷ (xs ++ ys)))
    → (pre : List Entry) (e : Entry) (post : List Entry) (is : List ℕ) →
    f (slots_in (pre ++ (e ∷ post)) ++ is) ≡ f (slots_in (pre ++ post) ++ (e.slot ∷ is))
moves f m pre e post is =
    ap (λ (xs : List ℕ). f (xs ++ is)) (slots_append pre (e ∷ post))
    ∙ ap f (append_assoc (slots_in pre) (e.slot ∷ slots_in post) is)
    ∙ m (slots_in pre) e.slot (slots_in post ++ is)
    ∙ ap (λ (xs : List ℕ). f (e.slot ∷ xs))
    (sym (append_assoc (slots_in pre) (slots_in post) is)
    ∙ ap (λ (xs : List ℕ). xs ++ is) (sym (slots_append pre post)))
    ∙ sym (m (slots_in (pre ++ post)) e.slot is)

pub fit_withdraw : (n : ℕ) (pre : List Entry) (e : Entry) (post : List Entry) (is : List ℕ)
    → Fit n (pre ++ (e ∷ post)) is → Fit n (pre ++ post) (e.slot ∷ is)
fit_withdraw n pre e post is f =
    record {
      least = f.least;
      inside = sym (moves (all (in_urn n)) (all_move (in_urn n)) pre e post is) ∙ f.inside;
      once = sym (moves distinct distinct_move pre e post is) ∙ f.once;
      covered = all_weaken (λ i. member i (slots_in (pre ++ (e ∷ post)) ++ is))
          (λ i. member i (slots_in (pre ++ post) ++ (e.slot ∷ is))) (tabulate (n - 1) suc)
          (λ i h. sym (moves (member i) (member_move i) pre e post is) ∙ h) f.covered;
    }

last_member : (r : Entry) (pre : List Entry) → member (last_slot r.slot pre) (slots_in (r ∷ pre)) ≡ true
unfolding last_slot member
last_member r [] = or_first (eqb r.slot r.slot) false (eq-eqb r.slot r.slot refl)
last_member r (q ∷ pre) = or_second (eqb (last_slot q.slot pre) r.slot)
    (member (last_slot q.slot pre) (slots_in (q ∷ pre))) (last_member q pre)

-- The slot with its next index changed.
abbrev pub renext : Slot → ℕ → Slot
renext s n = record { next = n; juror = s.juror; ballot = s.ballot }

behind : (x y : ℕ) (ys : List ℕ) → member x ys ≡ true → member x (y ∷ ys) ≡ true
unfolding member
behind x y ys h = or_second (eqb x y) (member x ys) h

fewer : (x : ℕ) (pre : List Entry) (e : Entry) (post : List Entry) → member x (slots_in (pre ++ (e ∷ post))) ≡ false
    → member x (slots_in (pre ++ post)) ≡ false
fewer x pre e post h =
    never_true (member x (slots_in (pre ++ post))) (λ m. clash (member x (slots_in (pre ++ (e ∷ post))))
    (ap (member x) (slots_append pre (e ∷ post)) ∙ member_move x (slots_in pre) e.slot (slots_in post)
    ∙ behind x e.slot (slots_in pre ++ slots_in post) (ap (member x) (sym (slots_append pre post)) ∙ m)) h)

-- after the slot before a ballot names the slot after it, the chain is linked without that ballot
pub relink : (S : List Slot) (pre : List Entry) (e : Entry) (post : List Entry) (before : ℕ)
    → Linked S (pre ++ (e ∷ post)) → distinct (slots_in (pre ++ (e ∷ post))) ≡ true →
    member before (slots_in (pre ++ post)) ≡ false → ((x : ℕ) → member x (slots_in (pre ++ (e ∷ post))) ≡ true → x < length S) →
    Linked (set S (last_slot before pre) (renext (slot_at S (last_slot before pre)) (first_entry post))) (pre ++ post)
unfolding last_slot entry_slot first_entry member
relink S [] e post before (more q l) h m b = linked_set S before (renext (slot_at S before) (first_entry post)) post m l
relink S (q ∷ []) e post before (more g (more k l)) h m b =
    more (at_set S q.slot (renext (slot_at S q.slot) (first_entry post))
    (b q.slot (or_first (eqb q.slot q.slot) (member q.slot (slots_in (e ∷ post)))
    (eq-eqb q.slot q.slot refl)))
    ∙ ap (λ (s : Slot). renext s (first_entry post)) g)
    (linked_set S q.slot (renext (slot_at S q.slot) (first_entry post)) post
    (apart_rest q.slot e.slot (slots_in post) (distinct_first q.slot (slots_in (e ∷ post)) h)) l)
relink S (q ∷ (r ∷ pre)) e post before (more g l) h m b =
    let p = last_slot r.slot pre in
    let X = renext (slot_at S p) (first_entry post) in
    let inner : member p (slots_in (r ∷ (pre ++ (e ∷ post)))) ≡ true =
    ap (member p) (slots_append (r ∷ pre) (e ∷ post)) ∙ member_append p (slots_in (r ∷ pre)) (slots_in (e ∷ post))
    ∙ or_first (member p (slots_in (r ∷ pre))) (member p (slots_in (e ∷ post))) (last_member r pre) in
    let other : q.slot ≢ p = λ z. clash (member p (slots_in (r ∷ (pre ++ (e ∷ post))))) inner
    (ap (λ (x : ℕ). member x (slots_in (r ∷ (pre ++ (e ∷ post))))) (sym z)
    ∙ distinct_first q.slot (slots_in (r ∷ (pre ++ (e ∷ post)))) h) in
    more (at_other S p q.slot X other ∙ g)
    (relink S (r ∷ pre) e post q.slot l (distinct_rest q.slot (slots_in (r ∷ (pre ++ (e ∷ post)))) h)
    (fewer q.slot (r ∷ pre) e post (distinct_first q.slot (slots_in (r ∷ (pre ++ (e ∷ post)))) h))
    (λ x i. b x (or_second (eqb x q.slot) (member x (slots_in (r ∷ (pre ++ (e ∷ post))))) i)))

-- the slot before a ballot is slot 0 or a slot of the chain
last_in : (q : Entry) (pre : List Entry) (e : Entry) (post : List Entry)
    → member (last_slot 0 (q ∷ pre)) (slots_in ((q ∷ pre) ++ (e ∷ post))) ≡ true
unfolding last_slot
last_in q pre e post =
    ap (member (last_slot q.slot pre)) (slots_append (q ∷ pre) (e ∷ post))
    ∙ member_append (last_slot q.slot pre) (slots_in (q ∷ pre)) (slots_in (e ∷ post))
    ∙ or_first (member (last_slot q.slot pre) (slots_in (q ∷ pre)))
    (member (last_slot q.slot pre) (slots_in (e ∷ post))) (last_member q pre)

last_free : (n : ℕ) (pre : List Entry) (e : Entry) (post : List Entry) (is : List ℕ) → all (in_urn n) is ≡ true
    → distinct (slots_in (pre ++ (e ∷ post)) ++ is) ≡ true → member (last_slot 0 pre) is ≡ false
unfolding last_slot
last_free n [] e post is a d = never_true (member 0 is) (λ m. let q = positive n 0 (all_member (in_urn n) 0 is a m) in omega arith)
last_free n (q ∷ pre) e post is a d =
    distinct_apart (last_slot q.slot pre) (slots_in ((q ∷ pre) ++ (e ∷ post))) is d (last_in q pre e post)

last_below : (n : ℕ) (pre : List Entry) (e : Entry) (post : List Entry) → 0 < n
    → all (in_urn n) (slots_in (pre ++ (e ∷ post))) ≡ true → last_slot 0 pre < n
unfolding last_slot
last_below n [] e post z a = z
last_below n (q ∷ pre) e post z a =
    below n (last_slot q.slot pre)
    (all_member (in_urn n) (last_slot q.slot pre) (slots_in ((q ∷ pre) ++ (e ∷ post))) a (last_in q pre e post))

head_passed : (n : ℕ) (S : List Slot) (pre : List Entry) (e : Entry) (post : List Entry) → length S ≡ n → 0 < n
    → all (in_urn n) (slots_in (pre ++ (e ∷ post))) ≡ true → (slot_at S 0).next ≡ first_entry (pre ++ (e ∷ post)) →
    (slot_at (set S (last_slot 0 pre) (renext (slot_at S (last_slot 0 pre)) (first_entry post))) 0).next ≡ first_entry (pre ++ post)
unfolding last_slot first_entry
head_passed n S [] e post q z a h = ap (λ (s : Slot). s.next) (at_set S 0 (renext (slot_at S 0) (first_entry post)) (omega arith))
head_passed n S (r ∷ pre) e post q z a h =
    let p = last_slot r.slot pre in
    ap (λ (s : Slot). s.next) (at_other S p 0 (renext (slot_at S p) (first_entry post))
    (λ y. omega (
      arith,
      positive n p
          (all_member (in_urn n) p (slots_in ((r ∷ pre) ++ (e ∷ post))) a (last_in r pre e post)),
    ))) ∙ h

head_kept : (S : List Slot) (p v : ℕ) → 0 < length S → (slot_at (set S p (renext (slot_at S p) v)) 0).ballot ≡ (slot_at S 0).ballot
head_kept S p v z =
    ⊎_elim (λ e. ap (λ (i : ℕ). (slot_at (set S i (renext (slot_at S i) v)) 0).ballot) (sym e)
    ∙ ap (λ (s : Slot). s.ballot) (at_set S 0 (renext (slot_at S 0) v) z))
    (λ e. ap (λ (s : Slot). s.ballot) (at_other S p 0 (renext (slot_at S p) v) e)) (same_or_not 0 p)

-- what the slot of a ballot of the chain holds
pub linked_at : (S : List Slot) (pre : List Entry) (e : Entry) (post : List Entry) → Linked S (pre ++ (e ∷ post))
    → slot_at S e.slot ≡ entry_slot e post
linked_at S [] e post (more q l) = q
linked_at S (r ∷ pre) e post (more q l) = linked_at S pre e post l

module _ (n b : ℕ) (S : List Slot) (pre : List Entry) (e : Entry) (post : List Entry) (is : List ℕ)
    (size : length S ≡ n) (fit : Fit n (pre ++ (e ∷ post)) is) (h : slot_at S 0 ≡ head_slot b (pre ++ (e ∷ post)) is)
    (l : Linked S (pre ++ (e ∷ post))) (f : FreeLinked b S is) where
  in_es : all (in_urn n) (slots_in (pre ++ (e ∷ post))) ≡ true
  in_es = and_first (all (in_urn n) (slots_in (pre ++ (e ∷ post)))) (all (in_urn n) is)
      (sym (all_append (in_urn n) (slots_in (pre ++ (e ∷ post))) is) ∙ fit.inside)

  in_is : all (in_urn n) is ≡ true
  in_is = and_second (all (in_urn n) (slots_in (pre ++ (e ∷ post)))) (all (in_urn n) is)
      (sym (all_append (in_urn n) (slots_in (pre ++ (e ∷ post))) is) ∙ fit.inside)

  once : distinct (slots_in (pre ++ (e ∷ post))) ≡ true
  once = distinct_left (slots_in (pre ++ (e ∷ post))) is fit.once

  its_own : member e.slot (slots_in (pre ++ (e ∷ post))) ≡ true
  unfolding member
  its_own = ap (member e.slot) (slots_append pre (e ∷ post))
      ∙ member_move e.slot (slots_in pre) e.slot (slots_in post)
      ∙ or_first (eqb e.slot e.slot) (member e.slot (slots_in pre ++ slots_in post))
      (eq-eqb e.slot e.slot refl)

  its_place : in_urn n e.slot ≡ true
  its_place = all_member (in_urn n) e.slot (slots_in (pre ++ (e ∷ post))) in_es its_own

  not_left : member e.slot (slots_in (pre ++ post)) ≡ false
  not_left =
      ap (member e.slot) (slots_append pre post)
      ∙ distinct_first e.slot (slots_in pre ++ slots_in post)
      (sym (distinct_move (slots_in pre) e.slot (slots_in post)) ∙ ap distinct (sym (slots_append pre (e ∷ post)))
      ∙ once)

  -- the slot before is slot 0, or holds a ballot
  link_free : member (last_slot 0 pre) is ≡ false
  link_free = last_free n pre e post is in_is fit.once

  -- the slots after the ballot's slot was unlinked, emptied and put first in the free chain
  pub withdraw_slots : set (set (set S (last_slot 0 pre) (renext (slot_at S (last_slot 0 pre)) (first_entry post)))
      e.slot (free_slot b (first_free is))) 0
      (record { next = first_entry (pre ++ post); juror = e.slot; ballot = replicate b 0 })
      ≡ layout n b (pre ++ post) (e.slot ∷ is)
  unfolding head_slot first_free
  withdraw_slots =
      let R = set S (last_slot 0 pre) (renext (slot_at S (last_slot 0 pre)) (first_entry post)) in
      let Q = set R e.slot (free_slot b (first_free is)) in
      let top : Slot = record { next = first_entry (pre ++ post); juror = e.slot; ballot = replicate b 0 } in
      let l₁ = length-set S (last_slot 0 pre) (renext (slot_at S (last_slot 0 pre)) (first_entry post)) in
      let l₂ = length-set R e.slot (free_slot b (first_free is)) in
      let fit₂ = fit_withdraw n pre e post is fit in
      let in_left : all (in_urn n) (slots_in (pre ++ post)) ≡ true =
      and_first (all (in_urn n) (slots_in (pre ++ post))) (all (in_urn n) (e.slot ∷ is))
      (sym (all_append (in_urn n) (slots_in (pre ++ post)) (e.slot ∷ is)) ∙ fit₂.inside) in
      let not_free : member e.slot is ≡ false = distinct_apart e.slot (slots_in (pre ++ (e ∷ post))) is fit.once its_own in
      layout_unique n b (pre ++ post) (e.slot ∷ is) fit₂ (set Q 0 top)
      (length-set Q 0 top ∙ l₂ ∙ l₁ ∙ size)
      (at_set Q 0 top (omega (arith, fit.least)))
      (linked_set Q 0 top (pre ++ post) (no_zero n (slots_in (pre ++ post)) in_left)
      (linked_set R e.slot (free_slot b (first_free is)) (pre ++ post) not_left
      (relink S pre e post 0 l once (no_zero n (slots_in (pre ++ post)) in_left)
      (λ x m. let k = below n x (all_member (in_urn n) x (slots_in (pre ++ (e ∷ post))) in_es m) in omega arith))))
      (more (at_other Q 0 e.slot top (λ z. omega (arith, positive n e.slot its_place))
      ∙ at_set R e.slot (free_slot b (first_free is)) (omega (arith, below n e.slot its_place)))
      (free_set b Q 0 top is (no_zero n is in_is)
      (free_set b R e.slot (free_slot b (first_free is)) is not_free
      (free_set b S (last_slot 0 pre) (renext (slot_at S (last_slot 0 pre)) (first_entry post)) is link_free f))))

  -- slot 0 after the ballot was unlinked
  pub passed_next : (slot_at (set S (last_slot 0 pre) (renext (slot_at S (last_slot 0 pre)) (first_entry post))) 0).next
      ≡ first_entry (pre ++ post)
  unfolding head_slot
  passed_next = head_passed n S pre e post size (omega (arith, fit.least)) in_es (ap (λ (s : Slot). s.next) h)

  pub passed_ballot : (slot_at (set S (last_slot 0 pre) (renext (slot_at S (last_slot 0 pre)) (first_entry post))) 0).ballot ≡ replicate b 0
  unfolding head_slot
  passed_ballot = head_kept S (last_slot 0 pre) (first_entry post) (omega (arith, fit.least)) ∙ ap (λ (s : Slot). s.ballot) h

  pub entry_place : e.slot < n
  entry_place = below n e.slot its_place

  pub entry_positive : 0 < e.slot
  entry_positive = positive n e.slot its_place

  pub link_place : last_slot 0 pre < n
  link_place = last_below n pre e post (omega (arith, fit.least)) in_es
