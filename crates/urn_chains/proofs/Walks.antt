-- One step of a walk along a chain.
-- Assumes nothing.
use mathlib.Core.Path.{◌≡◌, ◌∙◌, refl, sym, ap, subst}
use mathlib.Core.Logic.{⊎_elim, ◌≢◌}
use mathlib.Core.Bool.{Bool, true, false, not, ◌&&◌}
use mathlib.Core.List.{List, [], ◌∷◌}
use Prim.Native.Nat.{ℕ, zero, suc, ◌+◌, ◌-◌, ◌≤◌, ◌<◌}
use native.Mathlib.Nat.{sub-zero}
use native.Mathlib.Omega.{arith}
use lib.ListN.{length, get_or, set, length-set, length-replicate}
use borrow.Author.Tests.{ne_eqb}
use Rattle.std.specs.Prelude.{Some, None}
use Rattle.urn_chains.specs.Slots.{Slot, slot_at}
use Rattle.urn_chains.specs.Chains.{chain, ends}
use Rattle.basics.specs.Lists.{all}
use Rattle.urn_chains.specs.declared.walk.Link.{Link}
use Rattle.urn_chains.specs.declared.walk.Walk.{Walk}
use Rattle.urn_chains.specs.inner.Walk.{walked, no_marks, mark_all, fresh, jurors_at, looked, ballot_at, free_at, ballots_from, free_from}
use Rattle.basics.proofs.Cases.{below_or_not}

-- a chain from slot i on: first slot i, then the rest
pub chain_step : (most i : ℕ) (slots : List Slot) → 0 < most → 0 < i → chain most i slots
    ≡ i ∷ chain (most - 1) (slot_at slots i).next slots
unfolding chain
chain_step zero i slots h p = absurd (omega arith)
chain_step (suc most) zero slots h p = absurd (omega arith)
chain_step (suc most) (suc i) slots h p =
    ap (λ (m : ℕ). suc i ∷ chain m (slot_at slots (suc i)).next slots) {x = most} {y = suc most - 1} (omega arith)

pub chain_most : (most i : ℕ) (slots : List Slot) → length (chain most i slots) ≤ most
unfolding chain
chain_most zero i slots = omega arith
chain_most (suc most) zero slots = omega arith
chain_most (suc most) (suc i) slots = let l = chain_most most (slot_at slots (suc i)).next slots in omega arith

pub ends_step : (most i : ℕ) (slots : List Slot) → 0 < most → 0 < i → ends most i slots ≡ ends (most - 1) (slot_at slots i).next slots
unfolding ends
ends_step zero i slots h p = absurd (omega arith)
ends_step (suc most) zero slots h p = absurd (omega arith)
ends_step (suc most) (suc i) slots h p =
    ap (λ (m : ℕ). ends m (slot_at slots (suc i)).next slots) {x = most} {y = suc most - 1} (omega arith)

pub chain_end : (most : ℕ) (slots : List Slot) → chain most 0 slots ≡ []
unfolding chain
chain_end zero slots = refl
chain_end (suc most) slots = refl

pub ends_end : (most : ℕ) (slots : List Slot) → ends most 0 slots ≡ true
unfolding ends
ends_end zero slots = refl
ends_end (suc most) slots = refl

pub ends_never : (i : ℕ) (slots : List Slot) → 0 < i → ends 0 i slots ≡ false
unfolding ends
ends_never i slots h = ne_eqb i 0 (λ e. omega arith)

-- what the answer of a look says about the slot
pub looked_well : (t : Bool) (s : Slot) (l : Link) → Some l ≡ looked t s → (t ≡ true) × (l.juror ≡ s.juror) × (l.next ≡ s.next)
unfolding looked
looked_well true s l e = (refl, cc, cc)
looked_well false s l e = cc

pub looked_wrong : (t : Bool) (s : Slot) → None ≡ looked t s → t ≡ false
unfolding looked
looked_wrong true s e = cc
looked_wrong false s e = refl

-- what a walk answers: nothing if it found something wrong, and else the marks and the number of slots
pub not_walked : (well : Bool) (is : List ℕ) (before : List Bool) → false ≡ well → None ≡ walked well is before
unfolding walked
not_walked well is before f = rw (← f)

well_walked : (well : Bool) (is : List ℕ) (before marks : List Bool) (count : ℕ) → well ≡ true → marks ≡ mark_all is before
    → count ≡ length is → Some (record { marks = marks; count = count }) ≡ walked well is before
unfolding walked
well_walked well is before marks count w m l = rw (w, m, l)

pub walk_told : (well : Bool) (is : List ℕ) (before : List Bool) (w : Walk) → Some w ≡ walked well is before
    → (well ≡ true) × (w.marks ≡ mark_all is before) × (w.count ≡ length is)
unfolding walked
walk_told true is before w e = (refl, cc, cc)
walk_told false is before w e = cc

pub walk_untold : (well : Bool) (is : List ℕ) (before : List Bool) → None ≡ walked well is before → well ≡ false
unfolding walked
walk_untold true is before e = cc
walk_untold false is before e = refl

-- a conjunction with a false part
first_false : (e x : Bool) → (e && (false && x)) ≡ false
first_false true x = refl
first_false false x = refl

module _ (k d : ℕ) (slots : List Slot) (most i : ℕ) (marks jurors : List Bool) (m : 0 < most) (p : 0 < i) where
  ballots_step : ballots_from k d slots most i marks jurors
      ≡ (ends (most - 1) (slot_at slots i).next slots
      && (ballot_at k d slots i && all (ballot_at k d slots) (chain (most - 1) (slot_at slots i).next slots))
      && (not (get_or marks i false) && fresh (chain (most - 1) (slot_at slots i).next slots) (set marks i true))
      && (not (get_or jurors (slot_at slots i).juror false)
      && fresh (jurors_at slots (chain (most - 1) (slot_at slots i).next slots)) (set jurors (slot_at slots i).juror true)))
  unfolding ballots_from jurors_at all fresh
  ballots_step = rw (chain_step most i slots m p, ends_step most i slots m p)

  pub ballots_well : ballot_at k d slots i ≡ true → get_or marks i false ≡ false → get_or jurors (slot_at slots i).juror false ≡ false →
      ballots_from k d slots most i marks jurors
      ≡ ballots_from k d slots (most - 1) (slot_at slots i).next (set marks i true) (set jurors (slot_at slots i).juror true)
  unfolding ballots_from
  ballots_well a f g = ballots_step ∙ rw (a, f, g)

  pub ballots_wrong : ballot_at k d slots i ≡ false → ballots_from k d slots most i marks jurors ≡ false
  ballots_wrong a = ballots_step ∙ rw (a, first_false)

  pub ballots_met : get_or marks i false ≡ true → ballots_from k d slots most i marks jurors ≡ false
  ballots_met f = ballots_step ∙ rw (f, first_false)

  pub ballots_twice : get_or jurors (slot_at slots i).juror false ≡ true → ballots_from k d slots most i marks jurors ≡ false
  ballots_twice g = ballots_step ∙ rw (g, first_false)

pub ballots_stuck : (k d : ℕ) (slots : List Slot) (i : ℕ) (marks jurors : List Bool) → 0 < i
    → ballots_from k d slots 0 i marks jurors ≡ false
unfolding ballots_from
ballots_stuck k d slots i marks jurors p = rw (ends_never i slots p)

pub ballots_end : (k d : ℕ) (slots : List Slot) (most : ℕ) (marks jurors : List Bool) → ballots_from k d slots most 0 marks jurors ≡ true
unfolding ballots_from jurors_at all fresh
ballots_end k d slots most marks jurors = rw (ends_end most slots, chain_end most slots)

-- The walk along the ballot chain after `count` slots, about to look at `slot`: the walk along the rest finds what
-- the walk along the whole chain finds.
pub record OnBallots (k d : ℕ) (slots : List Slot) (n first : ℕ) (marks jurors : List Bool) (count slot : ℕ) : Type 0 where
  pub within : count ≤ n
  pub marks_size : length marks ≡ 256
  pub jurors_size : length jurors ≡ 256
  pub rest : ballots_from k d slots (n - count) slot marks jurors ≡ ballots_from k d slots n first no_marks no_marks
  pub marked : mark_all (chain (n - count) slot slots) marks ≡ mark_all (chain n first slots) no_marks
  pub counted : count + length (chain (n - count) slot slots) ≡ length (chain n first slots)

ballots_begin : (k d : ℕ) (slots : List Slot) (n first : ℕ) → OnBallots k d slots n first no_marks no_marks 0 first
unfolding no_marks
ballots_begin k d slots n first =
    record {
      within = omega arith;
      marks_size = length-replicate 256 false;
      jurors_size = length-replicate 256 false;
      rest = ap (λ (m : ℕ). ballots_from k d slots m first no_marks no_marks) (sub-zero n);
      marked = ap (λ (m : ℕ). mark_all (chain m first slots) no_marks) (sub-zero n);
      counted = omega (arith, ap (λ (m : ℕ). length (chain m first slots)) (sub-zero n));
    }

pub ballots_start : (k d : ℕ) (slots : List Slot) (n first slot : ℕ) → slot ≡ first → OnBallots k d slots n first no_marks no_marks 0 slot
ballots_start k d slots n first slot e =
    subst (λ (i : ℕ). OnBallots k d slots n first no_marks no_marks 0 i) (sym e) (ballots_begin k d slots n first)

-- marking, and counting, the slots of a chain from one slot on
mark_step : (n count slot : ℕ) (slots : List Slot) (marks : List Bool) → count < n → 0 < slot →
    mark_all (chain (n - count) slot slots) marks ≡ mark_all (chain (n - (count + 1)) (slot_at slots slot).next slots) (set marks slot true)
unfolding mark_all
mark_step n count slot slots marks h p =
    ap (λ (is : List ℕ). mark_all is marks) (chain_step (n - count) slot slots (omega arith) p)
    ∙ ap (λ (m : ℕ). mark_all (chain m (slot_at slots slot).next slots) (set marks slot true)) {x = n - count - 1}
    {y = n - (count + 1)} (omega arith)

count_step : (n count slot : ℕ) (slots : List Slot) → count < n → 0 < slot →
    length (chain (n - count) slot slots) ≡ suc (length (chain (n - (count + 1)) (slot_at slots slot).next slots))
count_step n count slot slots h p =
    ap length (chain_step (n - count) slot slots (omega arith) p)
    ∙ ap (λ (m : ℕ). suc (length (chain m (slot_at slots slot).next slots))) {x = n - count - 1} {y = n - (count + 1)} (omega arith)

module _ (k d : ℕ) (slots : List Slot) (n first : ℕ) (marks jurors : List Bool) (count slot : ℕ)
    (on : OnBallots k d slots n first marks jurors count slot) where
  ballots_on : count ≢ n → 0 < slot → ballot_at k d slots slot ≡ true → get_or marks slot false ≡ false
      → get_or jurors (slot_at slots slot).juror false ≡ false →
      OnBallots k d slots n first (set marks slot true) (set jurors (slot_at slots slot).juror true) (count + 1) (slot_at slots slot).next
  ballots_on h p a f g =
      let l : count < n = omega (arith, on.within) in
      let s = mark_step n count slot slots marks l p in
      let t = count_step n count slot slots l p in
      record {
        within = omega arith;
        marks_size = length-set marks slot true ∙ on.marks_size;
        jurors_size = length-set jurors (slot_at slots slot).juror true ∙ on.jurors_size;
        rest =
            ap (λ (m : ℕ). ballots_from k d slots m (slot_at slots slot).next (set marks slot true)
            (set jurors (slot_at slots slot).juror true)) {x = n - (count + 1)} {y = n - count - 1} (omega arith)
            ∙ sym (ballots_well k d slots (n - count) slot marks jurors (omega arith) p a f g)
            ∙ on.rest;
        marked = sym s ∙ on.marked;
        counted = omega (arith, on.counted);
      }

  pub ballots_go : (j next : ℕ) → j ≡ (slot_at slots slot).juror → next ≡ (slot_at slots slot).next → count ≢ n → 0
      < slot → ballot_at k d slots slot ≡ true → get_or marks slot false ≡ false → get_or jurors j false ≡ false →
      OnBallots k d slots n first (set marks slot true) (set jurors j true) (count + 1) next
  ballots_go j next ej en h p a f =
      subst (λ (i : ℕ). get_or jurors j false ≡ false
      → OnBallots k d slots n first (set marks slot true) (set jurors j true) (count + 1) i) (sym en)
      (subst (λ (i : ℕ). get_or jurors i false ≡ false
      → OnBallots k d slots n first (set marks slot true) (set jurors i true) (count + 1)
      (slot_at slots slot).next) (sym ej) (ballots_on h p a f))

  pub ballots_fail : 0 < slot → (count < n → ballots_from k d slots (n - count) slot marks jurors ≡ false) → false
      ≡ ballots_from k d slots n first no_marks no_marks
  ballots_fail p f =
      ⊎_elim (λ l. sym (f l) ∙ on.rest)
      (λ l. sym (ballots_stuck k d slots slot marks jurors p)
      ∙ ap (λ (m : ℕ). ballots_from k d slots m slot marks jurors) {x = 0} {y = n - count} (omega arith)
      ∙ on.rest) (below_or_not count n)

  pub ballots_walked : slot ≡ 0 → Some (record { marks = marks; count = count })
      ≡ walked (ballots_from k d slots n first no_marks no_marks) (chain n first slots) no_marks
  unfolding mark_all
  ballots_walked e =
      let none = ap (λ (i : ℕ). chain (n - count) i slots) e ∙ chain_end (n - count) slots in
      well_walked _ _ _ _ _
      (sym on.rest ∙ ap (λ (i : ℕ). ballots_from k d slots (n - count) i marks jurors) e ∙ ballots_end k d slots (n - count) marks jurors)
      (ap (λ (is : List ℕ). mark_all is marks) (sym none) ∙ on.marked)
      (omega (arith, on.counted, ap length none))

module _ (slots : List Slot) (most i : ℕ) (marks : List Bool) (m : 0 < most) (p : 0 < i) where
  free_step : free_from slots most i marks
      ≡ (ends (most - 1) (slot_at slots i).next slots
      && (free_at slots i && all (free_at slots) (chain (most - 1) (slot_at slots i).next slots))
      && (not (get_or marks i false) && fresh (chain (most - 1) (slot_at slots i).next slots) (set marks i true)))
  unfolding free_from all fresh
  free_step = rw (chain_step most i slots m p, ends_step most i slots m p)

  pub free_well : free_at slots i ≡ true → get_or marks i false ≡ false →
      free_from slots most i marks ≡ free_from slots (most - 1) (slot_at slots i).next (set marks i true)
  unfolding free_from
  free_well a f = free_step ∙ rw (a, f)

  pub free_wrong : free_at slots i ≡ false → free_from slots most i marks ≡ false
  free_wrong a = free_step ∙ rw (a, first_false)

  pub free_met : get_or marks i false ≡ true → free_from slots most i marks ≡ false
  free_met f = free_step ∙ rw (f, first_false)

free_stuck : (slots : List Slot) (i : ℕ) (marks : List Bool) → 0 < i → free_from slots 0 i marks ≡ false
unfolding free_from
free_stuck slots i marks p = rw (ends_never i slots p)

free_end : (slots : List Slot) (most : ℕ) (marks : List Bool) → free_from slots most 0 marks ≡ true
unfolding free_from all fresh
free_end slots most marks = rw (ends_end most slots, chain_end most slots)

-- The same for the walk along the free chain, which begins with the marks `met`.
pub record OnFree (slots : List Slot) (n first : ℕ) (met marks : List Bool) (count slot : ℕ) : Type 0 where
  pub within : count ≤ n
  pub marks_size : length marks ≡ 256
  pub rest : free_from slots (n - count) slot marks ≡ free_from slots n first met
  pub marked : mark_all (chain (n - count) slot slots) marks ≡ mark_all (chain n first slots) met
  pub counted : count + length (chain (n - count) slot slots) ≡ length (chain n first slots)

module _ (slots : List Slot) (n first : ℕ) (met marks : List Bool) (count slot : ℕ) (on : OnFree slots n first met marks count slot) where
  free_on : count ≢ n → 0 < slot → free_at slots slot ≡ true → get_or marks slot false ≡ false →
      OnFree slots n first met (set marks slot true) (count + 1) (slot_at slots slot).next
  free_on h p a f =
      let l : count < n = omega (arith, on.within) in
      let s = mark_step n count slot slots marks l p in
      let t = count_step n count slot slots l p in
      record {
        within = omega arith;
        marks_size = length-set marks slot true ∙ on.marks_size;
        rest =
            ap (λ (m : ℕ). free_from slots m (slot_at slots slot).next (set marks slot true)) {x = n - (count + 1)}
            {y = n - count - 1} (omega arith)
            ∙ sym (free_well slots (n - count) slot marks (omega arith) p a f)
            ∙ on.rest;
        marked = sym s ∙ on.marked;
        counted = omega (arith, on.counted);
      }

  pub free_go : (next : ℕ) → next ≡ (slot_at slots slot).next → count ≢ n → 0 < slot → free_at slots slot ≡ true
      → get_or marks slot false ≡ false →
      OnFree slots n first met (set marks slot true) (count + 1) next
  free_go next en h p a f = subst (λ (i : ℕ). OnFree slots n first met (set marks slot true) (count + 1) i) (sym en) (free_on h p a f)

  pub free_fail : 0 < slot → (count < n → free_from slots (n - count) slot marks ≡ false) → false ≡ free_from slots n first met
  free_fail p f =
      ⊎_elim (λ l. sym (f l) ∙ on.rest)
      (λ l. sym (free_stuck slots slot marks p)
      ∙ ap (λ (m : ℕ). free_from slots m slot marks) {x = 0} {y = n - count} (omega arith) ∙ on.rest)
      (below_or_not count n)

  pub free_walked : slot ≡ 0 → Some (record { marks = marks; count = count }) ≡ walked (free_from slots n first met) (chain n first slots) met
  unfolding mark_all
  free_walked e =
      let none = ap (λ (i : ℕ). chain (n - count) i slots) e ∙ chain_end (n - count) slots in
      well_walked _ _ _ _ _
      (sym on.rest ∙ ap (λ (i : ℕ). free_from slots (n - count) i marks) e ∙ free_end slots (n - count) marks)
      (ap (λ (is : List ℕ). mark_all is marks) (sym none) ∙ on.marked)
      (omega (arith, on.counted, ap length none))
