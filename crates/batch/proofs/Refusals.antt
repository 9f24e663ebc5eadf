-- A refused call for 64 juries, compared with their single runs.
-- Assumes nothing.
use Rattle.std.specs.Prelude.{Some, None}
use Rattle.std.specs.Prelude as prelude
use mathlib.Core.Path.{◌≡◌, ◌∙◌, refl, sym, ap, subst}
use mathlib.Core.Bool.{Bool, true, false, not, true≢false}
use mathlib.Core.Logic.{◌≢◌}
use mathlib.Core.Option.{Option, none, some}
use mathlib.Core.List.{List}
use Prim.Native.Nat.{ℕ, zero, suc, ◌+◌, ◌<◌}
use native.Mathlib.Omega.{arith}
use lib.Dec.{T, eqb}
use lib.ListN.{length}
use Rattle.basics.specs.Lists.{all, member}
use Rattle.basics.proofs.Flags.{T_true, true_T, never_true}
use Rattle.gates.specs.Gate.{gates_of}
use Rattle.gates.proofs.Hiding.{none_above}
use Rattle.jury.specs.declared.shape.Shape.{Shape}
use Rattle.jury.specs.Shape.{is_ranking, ballot_bytes}
use Rattle.jury.specs.Reason.{Reason, reason_at, unless, found_at, first_of}
use Rattle.jury.specs.Rankings.{first_over, or_else}
use Rattle.jury.specs.Ballots.{ballot_kind_reasons, ballot_kind_reason_numbers}
use Rattle.jury.proofs.BallotLaws.{judged, judged_by}
use Rattle.jury.proofs.Searches.{none_first}
use Rattle.tally.specs.Answer.{refused, has_number_in, size_of}
use Rattle.tally.specs.Test.{test_reasons, test_reason_numbers}
use Rattle.tally.specs.Run.{RunResult, buffer_reasons, run_reasons, run_result_after}
use Rattle.tally.proofs.TestReasons as test
use Rattle.tally.proofs.RunReasons as single
use Rattle.tally.proofs.RunReasons.{lent_found}
use Rattle.tally.proofs.Numbering.{first_number, number_passes, test_all}
use Rattle.batch_lanes.specs.Lane.{lane_count, lane_of}
use Rattle.batch_lanes.proofs.ListLaws.{lanes_length, lanes_bits}
use Rattle.batch.specs.Call.{Call}
use Rattle.batch.specs.Ballots.{in_jury, word_ballot_kind_reasons}
use Rattle.batch.specs.Run.{word_buffer_reasons, word_buffer_reason_numbers, batch_reasons, batch_result_after, batch_result}
use Rattle.batch.specs.Theorems.{run_alone, is_of_ballots, RefusedAsAlone, FaultAsAlone}
use Rattle.batch.proofs.Reasons.{in_no_jury, none_over, over, lent_by, buffers_all, bad_row, clash, not_weak_order, kind_found, none_in_juries, ballots_found, alone_kind, word_kind, kind_all, ballots_by, batch_first, result_by}

-- equal reasons have equal numbers
number_is : (n place : ℕ) (r : Reason) → some (reason_at n place) ≡ some r → n ≡ r.number
unfolding reason_at
number_is n place r e = let same : reason_at n place ≡ r = cc in ap (λ (x : Reason). x.number) same

place_is : (n place : ℕ) (r : Reason) → some (reason_at n place) ≡ some r → Some place ≡ Some r.place
unfolding reason_at
place_is n place r e = let same : reason_at n place ≡ r = cc in ap (λ (x : Reason). Some x.place) same

-- a reason with one of these numbers is not about the contents of ballots
other : (ns : List ℕ) → T (all (λ n. not (member n ballot_kind_reason_numbers)) ns) → (r : Reason) → T (has_number_in ns r)
    → is_of_ballots r ≡ false
unfolding is_of_ballots member reason_at
other ns none_of_them r h =
    let its_number = number_passes (λ n. not (member n ballot_kind_reason_numbers)) ns r none_of_them h in
    never_true (is_of_ballots r) (λ e. subst (λ (t : Bool). T (not t)) e its_number)

test_other : (s : Shape) (table : List ℕ) (r : Reason) → first_of (test_reasons s table) ≡ some r → is_of_ballots r ≡ false
unfolding all member reason_at
test_other s table r e = other test_reason_numbers tt r (first_number test_reason_numbers (test_reasons s table) (test_all s table) r e)

-- p is the first of m juries in which something is found
abbrev Found : ℕ → ℕ → (ℕ → prelude.Option ℕ) → Type 0
Found m p f = (p < m) × ((row : ℕ) × (f p ≡ Some row)) × ((j : ℕ) → j < p → f j ≡ None)

found_here : (m p : ℕ) (f : ℕ → prelude.Option ℕ) (q : prelude.Option ℕ) → f m ≡ q → in_jury m q ≡ Some p → ((j : ℕ) → j < m → f j ≡ None) → Found (suc m) p f
unfolding in_jury
found_here m p f (Some row) q e before =
    let same : m ≡ p = cc in
    (omega arith, (row, ap f (sym same) ∙ q), λ j h. before j (omega arith))
found_here m p f None q e before = let z : ◌≡◌ {A = ℕ} 0 1 = cc in absurd (omega arith)

found_by : (m p : ℕ) (f : ℕ → prelude.Option ℕ) (q : prelude.Option ℕ) → first_over m (λ j. in_jury j (f j)) ≡ q → (q ≡ Some p → Found m p f)
    → or_else q (in_jury m (f m)) ≡ Some p → Found (suc m) p f
unfolding or_else
found_by m p f (Some x) q rest e = let r = rest e in (omega (arith, r.0), r.1, r.2)
found_by m p f None q rest e = found_here m p f (f m) refl e (λ j h. in_no_jury j (f j) (none_first (λ j. in_jury j (f j)) m q j h))

first_found : (m p : ℕ) (f : ℕ → prelude.Option ℕ) → first_over m (λ j. in_jury j (f j)) ≡ Some p → Found m p f
unfolding first_over
first_found zero p f e = let z : ◌≡◌ {A = ℕ} 0 1 = cc in absurd (omega arith)
first_found (suc m) p f e = found_by m p f (first_over m (λ j. in_jury j (f j))) refl (first_found m p f) e

-- the first reason of a call and of a single run are equal, unless it is about the contents of ballots
same_otherwise : (t : Option Reason) (sz : Bool) (k q l : Option Reason) (r : Reason) → (k ≡ none → q ≡ none) → (k ≡ some r → ⊥)
    → single.first_of_three t (ballots_found sz k) l ≡ some r → single.first_of_three t (ballots_found sz q) l ≡ some r
unfolding single.first_of_three test.or_else ballots_found unless first_of
same_otherwise (some x) sz k q l r n h e = e
same_otherwise none false k q l r n h e = e
same_otherwise none true (some x) q l r n h e = absurd (h e)
same_otherwise none true none q l r n h e = ap (λ (x : Option Reason). single.first_of_three none (ballots_found true x) l) (n refl) ∙ e

-- a reason that no other test gives comes from the tests of the shape's kind
is_of_kind : (t : Option Reason) (sz : Bool) (k l : Option Reason) (r : Reason) → (t ≡ some r → ⊥) → (l ≡ some r → ⊥) → r.number ≢ 4
    → single.first_of_three t (ballots_found sz k) l ≡ some r → (t ≡ none) × (sz ≡ true) × (k ≡ some r)
unfolding single.first_of_three test.or_else ballots_found unless first_of
is_of_kind (some x) sz k l r ht hl n e = absurd (ht e)
is_of_kind none false k l r ht hl n e = absurd (n (sym (number_is 4 0 r e)))
is_of_kind none true (some x) l r ht hl n e = (refl, refl, e)
is_of_kind none true none l r ht hl n e = absurd (hl e)

kind_alone : (k l : Option Reason) (r : Reason) → k ≡ some r → single.first_of_three none (ballots_found true k) l ≡ some r
unfolding single.first_of_three test.or_else ballots_found unless first_of
kind_alone k l r e = ap (λ (x : Option Reason). single.first_of_three none (ballots_found true x) l) e

-- the reasons of the shape's kind are about the contents of ballots
kind_number : (s : Shape) (words : List ℕ) (r : Reason) → first_of (word_ballot_kind_reasons s words) ≡ some r → is_of_ballots r ≡ true
unfolding is_of_ballots
kind_number s words r e =
    T_true (has_number_in ballot_kind_reason_numbers r) (first_number ballot_kind_reason_numbers (word_ballot_kind_reasons s words) (kind_all s words) r e)

-- a fault over all juries is one of jury j₀, and no jury before has a fault with the same number; if the number is
-- 12, no jury has 11
abbrev Faulty : Bool → (ℕ → prelude.Option ℕ) → (ℕ → prelude.Option ℕ) → (ℕ → prelude.Option ℕ) → ℕ → ℕ → Type 0
Faulty t p c g n j₀ =
    (j₀ < lane_count) × ((place : ℕ) × (kind_found t (p j₀) (c j₀) (g j₀) ≡ some (reason_at n place)))
    × ((j place : ℕ) → j < j₀ → kind_found t (p j) (c j) (g j) ≡ some (reason_at n place) → ⊥)
    × (n ≡ 12 → (j place : ℕ) → j < lane_count → kind_found t (p j) (c j) (g j) ≡ some (reason_at 11 place) → ⊥)

-- the answers of the tests of each kind, given an outcome
row_at : (p c g : prelude.Option ℕ) (i : ℕ) → p ≡ Some i → kind_found false p c g ≡ some (reason_at 6 i)
unfolding kind_found found_at first_of
row_at p c g i e = ap (λ (x : prelude.Option ℕ). kind_found false x c g) e

row_not : (p c g : prelude.Option ℕ) (r : Reason) → p ≡ None → kind_found false p c g ≡ some r → ⊥
unfolding kind_found found_at first_of
row_not p c g r e f = let h = sym (ap (λ (x : prelude.Option ℕ). kind_found false x c g) e) ∙ f in let z : ◌≡◌ {A = ℕ} 0 1 = cc in omega arith

clash_at : (p c g : prelude.Option ℕ) (i : ℕ) → c ≡ Some i → kind_found true p c g ≡ some (reason_at 11 i)
unfolding kind_found found_at first_of
clash_at p c g i e = ap (λ (x : prelude.Option ℕ). kind_found true p x g) e

clash_not : (p c g : prelude.Option ℕ) (i : ℕ) → c ≡ None → kind_found true p c g ≡ some (reason_at 11 i) → ⊥
unfolding kind_found found_at first_of reason_at
clash_not p c g i e f = only g (sym (ap (λ (x : prelude.Option ℕ). kind_found true p x g) e) ∙ f)
  where
    only : (g : prelude.Option ℕ) → kind_found true p None g ≡ some (reason_at 11 i) → ⊥
    only (Some x) f = let z = number_is 12 x (reason_at 11 i) f in omega arith
    only None f = let z : ◌≡◌ {A = ℕ} 0 1 = cc in omega arith

gap_at : (p c g : prelude.Option ℕ) (i : ℕ) → c ≡ None → g ≡ Some i → kind_found true p c g ≡ some (reason_at 12 i)
unfolding kind_found found_at first_of
gap_at p c g i e f = ap (λ (x : prelude.Option ℕ). kind_found true p x g) e ∙ ap (kind_found true p None) f

gap_not : (p c g : prelude.Option ℕ) (r : Reason) → c ≡ None → g ≡ None → kind_found true p c g ≡ some r → ⊥
unfolding kind_found found_at first_of
gap_not p c g r e f h =
    let k = sym (ap (λ (x : prelude.Option ℕ). kind_found true p x g) e ∙ ap (kind_found true p None) f) ∙ h in
    let z : ◌≡◌ {A = ℕ} 0 1 = cc in omega arith

faulty : (t : Bool) (p c g : ℕ → prelude.Option ℕ) (x y z : prelude.Option ℕ) (r : Reason) → over p ≡ x → over c ≡ y → over g ≡ z
    → kind_found t x y z ≡ some r → Faulty t p c g r.number r.place
unfolding kind_found found_at first_of
faulty false p c g (Some i) y z r ep ec eg e =
    let f = first_found lane_count r.place p (ep ∙ place_is 6 i r e) in
    subst (λ (n : ℕ). Faulty false p c g n r.place) (number_is 6 i r e) (
      f.0,
      (f.1.0, row_at (p r.place) (c r.place) (g r.place) f.1.0 f.1.1),
      λ j place h. row_not (p j) (c j) (g j) (reason_at 6 place) (f.2 j h),
      λ n j place h x. omega (arith, n),
    )
faulty false p c g None y z r ep ec eg e = let o : ◌≡◌ {A = ℕ} 0 1 = cc in absurd (omega arith)
faulty true p c g x (Some i) z r ep ec eg e =
    let f = first_found lane_count r.place c (ec ∙ place_is 11 i r e) in
    subst (λ (n : ℕ). Faulty true p c g n r.place) (number_is 11 i r e) (
      f.0,
      (f.1.0, clash_at (p r.place) (c r.place) (g r.place) f.1.0 f.1.1),
      λ j place h. clash_not (p j) (c j) (g j) place (f.2 j h),
      λ n j place h x. omega (arith, n),
    )
faulty true p c g x None (Some i) r ep ec eg e =
    let f = first_found lane_count r.place g (eg ∙ place_is 12 i r e) in
    subst (λ (n : ℕ). Faulty true p c g n r.place) (number_is 12 i r e) (
      f.0,
      (f.1.0, gap_at (p r.place) (c r.place) (g r.place) f.1.0 (none_over c ec r.place f.0) f.1.1),
      λ j place h. gap_not (p j) (c j) (g j) (reason_at 12 place) (none_over c ec j (omega (arith, f.0))) (f.2 j h),
      λ n j place h. clash_not (p j) (c j) (g j) place (none_over c ec j h),
    )
faulty true p c g x None None r ep ec eg e = let o : ◌≡◌ {A = ℕ} 0 1 = cc in absurd (omega arith)

-- if all bytes are bits, 5 never applies
judged_bits : (sz : Bool) (k : Option Reason) → judged sz None k ≡ ballots_found sz k
unfolding judged ballots_found unless found_at first_of
judged_bits true k = refl
judged_bits false k = refl

module _ (c : Call) where
  abbrev size_right : Bool
  size_right = eqb (length c.ballots) (ballot_bytes c.shape)

  abbrev tape_right : Bool
  tape_right = eqb (length c.tape) (size_of (gates_of c.table)).conditional

  abbrev wires_right : Bool
  wires_right = eqb (length c.wires) (ballot_bytes c.shape + (size_of (gates_of c.table)).gates)

  abbrev board_right : Bool
  board_right = eqb (length c.board) ((size_of (gates_of c.table)).conditional + c.shape.candidates)

  batch_reason : first_of (batch_reasons c)
      ≡ single.first_of_three (first_of (test_reasons c.shape c.table))
      (ballots_found size_right (first_of (word_ballot_kind_reasons c.shape c.ballots))) (lent_found tape_right None wires_right board_right)
  batch_reason =
      batch_first c
      ∙ ap (λ (o : Option Reason). single.first_of_three (first_of (test_reasons c.shape c.table)) o
      (first_of (word_buffer_reasons (ballot_bytes c.shape) c.shape.candidates (size_of (gates_of c.table))
      c.tape c.wires c.board)))
      (ballots_by c.shape c.ballots size_right refl)
      ∙ ap (single.first_of_three (first_of (test_reasons c.shape c.table))
      (ballots_found size_right (first_of (word_ballot_kind_reasons c.shape c.ballots))))
      (lent_by (ballot_bytes c.shape) c.shape.candidates (size_of (gates_of c.table)) c.tape c.wires
      c.board tape_right wires_right board_right refl refl refl)

  alone_reason : (j : ℕ) → first_of
      (run_reasons c.shape c.table (lane_of j c.ballots) (lane_of j c.tape) (lane_of j c.wires)
      (lane_of j c.board))
      ≡ single.first_of_three (first_of (test_reasons c.shape c.table))
      (ballots_found size_right (first_of (ballot_kind_reasons c.shape (lane_of j c.ballots))))
      (lent_found tape_right None wires_right board_right)
  alone_reason j =
      single.run_first c.shape c.table (lane_of j c.ballots) (lane_of j c.tape) (lane_of j c.wires) (lane_of j c.board)
      ∙ ap (λ (o : Option Reason). single.first_of_three (first_of (test_reasons c.shape c.table)) o
      (first_of (buffer_reasons (ballot_bytes c.shape) c.shape.candidates (size_of (gates_of c.table))
      (lane_of j c.tape) (lane_of j c.wires) (lane_of j c.board))))
      (judged_by c.shape (lane_of j c.ballots) size_right None
      (first_of (ballot_kind_reasons c.shape (lane_of j c.ballots)))
      (ap (λ (n : ℕ). eqb n (ballot_bytes c.shape)) (lanes_length j c.ballots))
      (none_above 0 (lane_of j c.ballots) (lanes_bits j c.ballots)) refl
      ∙ judged_bits size_right (first_of (ballot_kind_reasons c.shape (lane_of j c.ballots))))
      ∙ ap (single.first_of_three (first_of (test_reasons c.shape c.table))
      (ballots_found size_right (first_of (ballot_kind_reasons c.shape (lane_of j c.ballots)))))
      (single.lent_by (ballot_bytes c.shape) c.shape.candidates (size_of (gates_of c.table))
      (lane_of j c.tape) (lane_of j c.wires) (lane_of j c.board) tape_right None wires_right board_right
      (ap (λ (n : ℕ). eqb n (size_of (gates_of c.table)).conditional) (lanes_length j c.tape))
      (none_above 0 (lane_of j c.tape) (lanes_bits j c.tape))
      (ap (λ (n : ℕ). eqb n (ballot_bytes c.shape + (size_of (gates_of c.table)).gates)) (lanes_length j c.wires))
      (ap (λ (n : ℕ). eqb n ((size_of (gates_of c.table)).conditional + c.shape.candidates)) (lanes_length j c.board)))

  -- no reason of the buffers is about the contents of ballots
  lent_other : (r : Reason) → lent_found tape_right None wires_right board_right ≡ some r → is_of_ballots r ≡ false
  unfolding all member reason_at
  lent_other r e =
      let size = size_of (gates_of c.table) in
      other word_buffer_reason_numbers tt r
      (first_number word_buffer_reason_numbers
      (word_buffer_reasons (ballot_bytes c.shape) c.shape.candidates size c.tape c.wires c.board)
      (buffers_all (ballot_bytes c.shape) c.shape.candidates size c.tape c.wires c.board) r
      (lent_by (ballot_bytes c.shape) c.shape.candidates size c.tape c.wires c.board tape_right wires_right
      board_right refl refl refl ∙ e))

  -- the reason of a refused call, and of a refused single run
  batch_after : (o : Option Reason) (r : Reason) → (batch_result_after o c).answer ≡ refused r → o ≡ some r
  unfolding batch_result_after
  batch_after none r e = test.never (size_of (gates_of c.table)) r (sym e)
  batch_after (some q) r e = let same : q ≡ r = cc in ap some same

  batch_refused : (r : Reason) → (batch_result c).answer ≡ refused r → first_of (batch_reasons c) ≡ some r
  batch_refused r e =
      let o = first_of (batch_reasons c) in
      batch_after o r (sym (ap (λ (z : RunResult). z.answer) (result_by c o refl)) ∙ e)

  module _ (j : ℕ) where
    alone_after : (o : Option Reason) (r : Reason)
        → (run_result_after o c.shape (gates_of c.table) (lane_of j c.ballots) (lane_of j c.tape)
        (lane_of j c.wires) (lane_of j c.board)).answer ≡ refused r → o ≡ some r
    unfolding run_result_after
    alone_after none r e = test.never (size_of (gates_of c.table)) r (sym e)
    alone_after (some q) r e = let same : q ≡ r = cc in ap some same

    alone_refused : (r : Reason) → (run_alone j c).answer ≡ refused r
        → first_of (run_reasons c.shape c.table (lane_of j c.ballots) (lane_of j c.tape)
        (lane_of j c.wires) (lane_of j c.board)) ≡ some r
    alone_refused r e =
        let o = first_of (run_reasons c.shape c.table (lane_of j c.ballots) (lane_of j c.tape)
        (lane_of j c.wires) (lane_of j c.board)) in
        alone_after o r
        (sym (ap (λ (z : RunResult). z.answer)
        (single.ran_by c.shape c.table (lane_of j c.ballots) (lane_of j c.tape) (lane_of j c.wires)
        (lane_of j c.board) o refl)) ∙ e)

    refused_alone : (r : Reason) → first_of
        (run_reasons c.shape c.table (lane_of j c.ballots) (lane_of j c.tape) (lane_of j c.wires)
        (lane_of j c.board)) ≡ some r
        → (run_alone j c).answer ≡ refused r
    unfolding run_result_after
    refused_alone r e = ap (λ (z : RunResult). z.answer)
        (single.ran_by c.shape c.table (lane_of j c.ballots) (lane_of j c.tape) (lane_of j c.wires)
        (lane_of j c.board) (some r) e)

-- the three searches, for jury j
abbrev rows : Shape → List ℕ → ℕ → prelude.Option ℕ
rows s ballots j = bad_row s (lane_of j ballots)

abbrev clashes : Shape → List ℕ → ℕ → prelude.Option ℕ
clashes s ballots j = clash s (lane_of j ballots)

abbrev disorders : Shape → List ℕ → ℕ → prelude.Option ℕ
disorders s ballots j = not_weak_order s (lane_of j ballots)

pub refused_as_alone : RefusedAsAlone
refused_as_alone c r e n j h =
    refused_alone c j r
    (alone_reason c j
    ∙ same_otherwise (first_of (test_reasons c.shape c.table)) _ (first_of (word_ballot_kind_reasons c.shape c.ballots))
    (first_of (ballot_kind_reasons c.shape (lane_of j c.ballots))) _ r
    (λ none. alone_kind c.shape (lane_of j c.ballots)
    ∙ none_in_juries (is_ranking c.shape) (rows c.shape c.ballots) (clashes c.shape c.ballots)
    (disorders c.shape c.ballots) (sym (word_kind c.shape c.ballots) ∙ none) j h)
    (λ k. true≢false (sym (kind_number c.shape c.ballots r k) ∙ n))
    (sym (batch_reason c) ∙ batch_refused c r e))

no_reason : (q : Reason) → none ≡ some q → ⊥
no_reason q z = let o : ◌≡◌ {A = ℕ} 0 1 = cc in omega arith

not_4 : (q : Reason) → is_of_ballots q ≡ true → q.number ≢ 4
unfolding all is_of_ballots
not_4 q h m = subst (λ (n : ℕ). T (not (eqb n 4))) m
    (number_passes (λ n. not (eqb n 4)) ballot_kind_reason_numbers q tt (true_T (has_number_in ballot_kind_reason_numbers q) h))

same_number : (r : Reason) (place : ℕ) → is_of_ballots r ≡ true → is_of_ballots (reason_at r.number place) ≡ true
unfolding is_of_ballots member reason_at
same_number r place n = n

clash_of_ballots : (place : ℕ) → is_of_ballots (reason_at 11 place) ≡ true
unfolding is_of_ballots member reason_at
clash_of_ballots place = refl

pub fault_as_alone : FaultAsAlone
fault_as_alone c r e n =
    let l = lent_found (tape_right c) None (wires_right c) (board_right c) in
    let o = is_of_kind (first_of (test_reasons c.shape c.table)) (size_right c)
    (first_of (word_ballot_kind_reasons c.shape c.ballots)) l r (λ t. true≢false (sym n ∙ test_other c.shape c.table r t))
    (λ t. true≢false (sym n ∙ lent_other c r t)) (not_4 r n) (sym (batch_reason c) ∙ batch_refused c r e) in
    let f = faulty (is_ranking c.shape) (rows c.shape c.ballots) (clashes c.shape c.ballots)
    (disorders c.shape c.ballots) (over (rows c.shape c.ballots))
    (over (clashes c.shape c.ballots)) (over (disorders c.shape c.ballots)) r refl refl
    refl (sym (word_kind c.shape c.ballots) ∙ o.2) in (
      f.0,
      (
        f.1.0,
        refused_alone c r.place (reason_at r.number f.1.0)
            (passed o.0 o.1 r.place
            ∙ kind_alone (first_of (ballot_kind_reasons c.shape (lane_of r.place c.ballots))) l (reason_at r.number f.1.0)
            (alone_kind c.shape (lane_of r.place c.ballots) ∙ f.1.1)),
      ),
      λ j place h x. f.2 j place h (its_kind o.0 o.1 j (reason_at r.number place) (same_number r place n) x),
      λ m j place h x. f.3 m j place h (its_kind o.0 o.1 j (reason_at 11 place) (clash_of_ballots place) x),
    )
  where
    passed : first_of (test_reasons c.shape c.table) ≡ none → size_right c ≡ true → (j : ℕ)
        → first_of (run_reasons c.shape c.table (lane_of j c.ballots) (lane_of j c.tape)
        (lane_of j c.wires) (lane_of j c.board))
        ≡ single.first_of_three none (ballots_found true (first_of (ballot_kind_reasons c.shape (lane_of j c.ballots))))
        (lent_found (tape_right c) None (wires_right c) (board_right c))
    passed a b j = alone_reason c j ∙ rw (a, b)

    -- a single run that is refused for the contents of its ballots
    its_kind : first_of (test_reasons c.shape c.table) ≡ none → size_right c ≡ true → (j : ℕ) (q : Reason) → is_of_ballots q ≡ true
        → (run_alone j c).answer ≡ refused q
        → kind_found (is_ranking c.shape) (rows c.shape c.ballots j)
        (clashes c.shape c.ballots j) (disorders c.shape c.ballots j) ≡ some q
    its_kind a b j q m x =
        sym (alone_kind c.shape (lane_of j c.ballots))
        ∙ (is_of_kind none true (first_of (ballot_kind_reasons c.shape (lane_of j c.ballots)))
        (lent_found (tape_right c) None (wires_right c) (board_right c)) q
        (λ z. no_reason q z) (λ t. true≢false (sym m ∙ lent_other c q t)) (not_4 q m) (sym (passed a b j) ∙ alone_refused c j q x)).2
