-- The reasons of a run for 64 juries: which of them is the first, and what holds if none applies.
-- Assumes nothing.
use Rattle.std.specs.Prelude.{Some, None}
use Rattle.std.specs.Prelude as prelude
use mathlib.Core.Path.{◌≡◌, ◌∙◌, refl, sym, ap, subst}
use mathlib.Core.Bool.{Bool, true, false, cond}
use mathlib.Core.Option.{Option, none, some}
use mathlib.Core.List.{List, [], ◌∷◌, ◌++◌}
use Prim.Native.Nat.{ℕ, ◌+◌, ◌*◌, ◌<◌}
use native.Mathlib.Omega.{arith}
use lib.Dec.{eqb}
use lib.ListN.{length}
use borrow.Author.Tests.{eqb-true, eq-eqb}
use Rattle.basics.specs.Lists.{member}
use Rattle.basics.proofs.Flags.{either}
use Rattle.gates.specs.Gate.{gates_of}
use Rattle.gates.specs.Board.{conditional_count}
use Rattle.gates.specs.inner.Step.{RunReady}
use Rattle.gates.specs.Test.{first_bad}
use Rattle.gates.proofs.Evaluating.{accepted_list}
use Rattle.jury.specs.declared.shape.Shape.{Shape}
use Rattle.jury.specs.Shape.{is_ranking, ballot_bytes}
use Rattle.jury.specs.Reason.{Reason, reason_at, unless, found_at, first_of}
use Rattle.jury.specs.Ballots.{rows_of, first_bad_row, graded_reasons, ranked_reasons, ballot_kind_reasons, ballot_kind_reason_numbers}
use Rattle.jury.specs.Rankings.{first_over, first_not_asymmetric, first_not_weak_order}
use Rattle.jury.proofs.Searches.{none_first, first_none}
use Rattle.tally.specs.Answer.{refused, outcome, Size, size_of}
use Rattle.tally.specs.Run.{RunResult}
use Rattle.tally.specs.Test.{test_reasons, test_outcome}
use Rattle.tally.proofs.TestReasons.{or_else, first_append, TestPassed, test_passed}
use Rattle.tally.proofs.RunReasons.{lent_found, passed_by, first_of_three, outcome_refused}
use Rattle.tally.proofs.Numbering.{All, unless_fine, found_fine}
use Rattle.batch_lanes.specs.Lane.{lane_count, lane_of}
use Rattle.batch.specs.Call.{Call}
use Rattle.batch.specs.Ballots.{in_jury, first_jury, word_graded_reasons, word_ranked_reasons, word_ballot_kind_reasons, word_ballot_reasons}
use Rattle.batch.specs.Run.{word_buffer_reasons, word_buffer_reason_numbers, batch_reasons, batch_result_after, batch_result}
use Rattle.tally.proofs.RunReasons.{three_passed}

module _ (i k : ℕ) (size : Size) (tape wires board : List ℕ) where
  pub lent_by : (t u v : Bool) → eqb (length tape) size.conditional ≡ t → eqb (length wires) (i + size.gates)
      ≡ u → eqb (length board) (size.conditional + k) ≡ v
      → first_of (word_buffer_reasons i k size tape wires board) ≡ lent_found t None u v
  unfolding word_buffer_reasons lent_found unless found_at first_of
  lent_by true u v e f g = rw (e, f, g)
  lent_by false u v e f g = rw e

  pub buffers_all : All word_buffer_reason_numbers (word_buffer_reasons i k size tape wires board)
  unfolding All word_buffer_reasons member reason_at
  buffers_all =
      let ns = word_buffer_reason_numbers in
      (unless_fine ns _ 7 tt, (unless_fine ns _ 9 tt, (unless_fine ns _ 10 tt, tt)))

  pub record LentPassed : Type 0 where
    pub tape_length : length tape ≡ size.conditional
    pub wires_length : length wires ≡ i + size.gates
    pub board_length : length board ≡ size.conditional + k

  lent_passed : first_of (word_buffer_reasons i k size tape wires board) ≡ none → LentPassed
  lent_passed e =
      let t = eqb (length tape) size.conditional in
      let u = eqb (length wires) (i + size.gates) in
      let v = eqb (length board) (size.conditional + k) in
      let q = passed_by t None u v (sym (lent_by t u v refl refl refl) ∙ e) in
      record {
        tape_length = eqb-true (length tape) size.conditional q.0;
        wires_length = eqb-true (length wires) (i + size.gates) q.2;
        board_length = eqb-true (length board) (size.conditional + k) q.3;
      }

  lent_passed_back : LentPassed → first_of (word_buffer_reasons i k size tape wires board) ≡ none
  unfolding lent_found unless found_at first_of
  lent_passed_back l =
      lent_by true true true (eq-eqb (length tape) size.conditional l.tape_length)
      (eq-eqb (length wires) (i + size.gates) l.wires_length)
      (eq-eqb (length board) (size.conditional + k) l.board_length)

-- the searches in the ballots of one jury
abbrev pub bad_row : Shape → List ℕ → prelude.Option ℕ
bad_row s xs = first_bad_row 0 (rows_of s.grades (s.ballots * s.candidates) xs)

abbrev pub clash : Shape → List ℕ → prelude.Option ℕ
clash s = first_not_asymmetric s.candidates s.ballots

abbrev pub not_weak_order : Shape → List ℕ → prelude.Option ℕ
not_weak_order s = first_not_weak_order s.candidates s.ballots

-- the first reason of the tests of the shape's kind, from their outcomes
unfoldable pub kind_found : Bool → prelude.Option ℕ → prelude.Option ℕ → prelude.Option ℕ → Option Reason
kind_found ranking row clash not_weak_order = first_of (cond ranking (found_at 11 clash ∷ found_at 12 not_weak_order ∷ []) (found_at 6 row ∷ []))

-- the tests of the shape's kind find nothing
unfoldable pub Clear : Bool → prelude.Option ℕ → prelude.Option ℕ → prelude.Option ℕ → Type 0
Clear true row clash not_weak_order = (clash ≡ None) × (not_weak_order ≡ None)
Clear false row clash not_weak_order = row ≡ None

kind_clear : (t : Bool) (p c g : prelude.Option ℕ) → kind_found t p c g ≡ none → Clear t p c g
unfolding kind_found Clear found_at first_of
kind_clear true p (Some i) g e = let z : ◌≡◌ {A = ℕ} 0 1 = cc in absurd (omega arith)
kind_clear true p None (Some i) e = let z : ◌≡◌ {A = ℕ} 0 1 = cc in absurd (omega arith)
kind_clear true p None None e = (refl, refl)
kind_clear false (Some i) c g e = let z : ◌≡◌ {A = ℕ} 0 1 = cc in absurd (omega arith)
kind_clear false None c g e = refl

clear_kind : (t : Bool) (p c g : prelude.Option ℕ) → Clear t p c g → kind_found t p c g ≡ none
unfolding kind_found Clear found_at first_of
clear_kind true p c g h = ap (λ (q : prelude.Option ℕ). kind_found true p q g) h.0 ∙ ap (kind_found true p None) h.1
clear_kind false p c g h = ap (λ (q : prelude.Option ℕ). kind_found false q c g) h

-- the first jury in which a search finds something
abbrev pub over : (ℕ → prelude.Option ℕ) → prelude.Option ℕ
over f = first_over lane_count (λ j. in_jury j (f j))

pub in_no_jury : (j : ℕ) (p : prelude.Option ℕ) → in_jury j p ≡ None → p ≡ None
unfolding in_jury
in_no_jury j (Some i) e = let z : ◌≡◌ {A = ℕ} 0 1 = cc in absurd (omega arith)
in_no_jury j None e = refl

not_in_jury : (j : ℕ) (p : prelude.Option ℕ) → p ≡ None → in_jury j p ≡ None
unfolding in_jury
not_in_jury j p e = ap (in_jury j) e

pub none_over : (f : ℕ → prelude.Option ℕ) → over f ≡ None → (j : ℕ) → j < lane_count → f j ≡ None
none_over f e j h = in_no_jury j (f j) (none_first (λ j. in_jury j (f j)) lane_count e j h)

over_none : (f : ℕ → prelude.Option ℕ) → ((j : ℕ) → j < lane_count → f j ≡ None) → over f ≡ None
over_none f e = first_none (λ j. in_jury j (f j)) lane_count (λ j h. not_in_jury j (f j) (e j h))

-- if the tests over all juries find nothing, those of each jury find nothing
pub none_in_juries : (t : Bool) (p c g : ℕ → prelude.Option ℕ) → kind_found t (over p) (over c) (over g) ≡ none → (j : ℕ) → j
    < lane_count → kind_found t (p j) (c j) (g j) ≡ none
unfolding Clear
none_in_juries t p c g e j h = clear_kind t (p j) (c j) (g j) (each t (kind_clear t (over p) (over c) (over g) e))
  where
    each : (t : Bool) → Clear t (over p) (over c) (over g) → Clear t (p j) (c j) (g j)
    each true q = (none_over c q.0 j h, none_over g q.1 j h)
    each false q = none_over p q j h

juries_none : (t : Bool) (p c g : ℕ → prelude.Option ℕ) → ((j : ℕ) → j < lane_count → kind_found t (p j) (c j) (g j) ≡ none)
    → kind_found t (over p) (over c) (over g) ≡ none
unfolding Clear
juries_none t p c g e = clear_kind t (over p) (over c) (over g) (all t (λ j h. kind_clear t (p j) (c j) (g j) (e j h)))
  where
    all : (t : Bool) → ((j : ℕ) → j < lane_count → Clear t (p j) (c j) (g j)) → Clear t (over p) (over c) (over g)
    all true q = (over_none c (λ j h. (q j h).0), over_none g (λ j h. (q j h).1))
    all false q = over_none p q

-- the first reason of test 4 and those of the kind, from their outcomes
unfoldable pub ballots_found : Bool → Option Reason → Option Reason
ballots_found size kind = first_of (unless size 4 ∷ kind ∷ [])

ballots_outcome : (t : Bool) (k : Option Reason) → ballots_found t k ≡ none → (t ≡ true) × (k ≡ none)
unfolding ballots_found unless first_of
ballots_outcome false k e = let z : ◌≡◌ {A = ℕ} 0 1 = cc in absurd (omega arith)
ballots_outcome true (some r) e = let z : ◌≡◌ {A = ℕ} 0 1 = cc in absurd (omega arith)
ballots_outcome true none e = (refl, refl)

pub found_kind : (k : Option Reason) → ballots_found true k ≡ k
unfolding ballots_found unless first_of
found_kind none = refl
found_kind (some r) = refl

first_last : (t : Bool) (os : List (Option Reason)) → first_of (unless t 4 ∷ os) ≡ ballots_found t (first_of os)
unfolding ballots_found unless first_of
first_last false os = refl
first_last true [] = refl
first_last true (none ∷ os) = first_last true os
first_last true (some r ∷ os) = refl

-- what the tests of the kind answer for one jury
pub alone_kind : (s : Shape) (xs : List ℕ) → first_of (ballot_kind_reasons s xs) ≡ kind_found (is_ranking s) (bad_row s xs) (clash s xs) (not_weak_order s xs)
unfolding ballot_kind_reasons kind_found graded_reasons ranked_reasons
alone_kind s xs = refl

module _ (s : Shape) (words : List ℕ) where
  -- what the tests of the kind answer over all juries
  pub word_kind : first_of (word_ballot_kind_reasons s words) ≡ kind_found (is_ranking s) (over (λ j. bad_row s (lane_of j words)))
      (over (λ j. clash s (lane_of j words))) (over (λ j. not_weak_order s (lane_of j words)))
  unfolding word_ballot_kind_reasons kind_found word_graded_reasons word_ranked_reasons first_jury
  word_kind = refl

  pub graded_words : is_ranking s ≡ false → word_ballot_kind_reasons s words ≡ word_graded_reasons s words
  unfolding word_ballot_kind_reasons
  graded_words e = ap (λ (t : Bool). cond t (word_ranked_reasons s words) (word_graded_reasons s words)) e

  pub ranked_words : is_ranking s ≡ true → word_ballot_kind_reasons s words ≡ word_ranked_reasons s words
  unfolding word_ballot_kind_reasons
  ranked_words e = ap (λ (t : Bool). cond t (word_ranked_reasons s words) (word_graded_reasons s words)) e

  graded_all : All ballot_kind_reason_numbers (word_graded_reasons s words)
  unfolding All word_graded_reasons member reason_at
  graded_all = (found_fine ballot_kind_reason_numbers 6 _ (λ j. tt), tt)

  ranked_all : All ballot_kind_reason_numbers (word_ranked_reasons s words)
  unfolding All word_ranked_reasons member reason_at
  ranked_all = (found_fine ballot_kind_reason_numbers 11 _ (λ j. tt), (found_fine ballot_kind_reason_numbers 12 _ (λ j. tt), tt))

  pub kind_all : All ballot_kind_reason_numbers (word_ballot_kind_reasons s words)
  kind_all = either (is_ranking s)
      (λ e. subst (All ballot_kind_reason_numbers) (sym (ranked_words e)) ranked_all)
      (λ e. subst (All ballot_kind_reason_numbers) (sym (graded_words e)) graded_all)

  pub ballots_by : (t : Bool) → eqb (length words) (ballot_bytes s) ≡ t
      → first_of (word_ballot_reasons s words) ≡ ballots_found t (first_of (word_ballot_kind_reasons s words))
  unfolding word_ballot_reasons
  ballots_by t e =
      first_last (eqb (length words) (ballot_bytes s)) (word_ballot_kind_reasons s words)
      ∙ ap (λ (b : Bool). ballots_found b (first_of (word_ballot_kind_reasons s words))) e

  pub record BallotsPassed : Type 0 where
    pub size : length words ≡ ballot_bytes s
    pub kinds : (j : ℕ) → j < lane_count → first_of (ballot_kind_reasons s (lane_of j words)) ≡ none

  ballots_passed : first_of (word_ballot_reasons s words) ≡ none → BallotsPassed
  ballots_passed e =
      let t = eqb (length words) (ballot_bytes s) in
      let q = ballots_outcome t (first_of (word_ballot_kind_reasons s words)) (sym (ballots_by t refl) ∙ e) in
      record {
        size = eqb-true (length words) (ballot_bytes s) q.0;
        kinds = λ j h.
            alone_kind s (lane_of j words)
            ∙ none_in_juries (is_ranking s) (λ j. bad_row s (lane_of j words)) (λ j. clash s (lane_of j words))
            (λ j. not_weak_order s (lane_of j words)) (sym word_kind ∙ q.1) j h;
      }

  ballots_passed_back : BallotsPassed → first_of (word_ballot_reasons s words) ≡ none
  unfolding ballots_found unless first_of
  ballots_passed_back b =
      ballots_by true (eq-eqb (length words) (ballot_bytes s) b.size)
      ∙ ap (ballots_found true)
      (word_kind
      ∙ juries_none (is_ranking s) (λ j. bad_row s (lane_of j words)) (λ j. clash s (lane_of j words))
      (λ j. not_weak_order s (lane_of j words)) (λ j h. sym (alone_kind s (lane_of j words)) ∙ b.kinds j h))

module _ (c : Call) where
  pub batch_first : first_of (batch_reasons c)
      ≡ first_of_three (first_of (test_reasons c.shape c.table))
      (first_of (word_ballot_reasons c.shape c.ballots))
      (first_of (word_buffer_reasons (ballot_bytes c.shape) c.shape.candidates (size_of (gates_of c.table))
      c.tape c.wires c.board))
  unfolding batch_reasons first_of_three
  batch_first =
      let lent = word_buffer_reasons (ballot_bytes c.shape) c.shape.candidates (size_of (gates_of c.table))
      c.tape c.wires c.board in
      first_append (test_reasons c.shape c.table ++ word_ballot_reasons c.shape c.ballots) lent
      ∙ ap (λ (r : Option Reason). or_else r (first_of lent))
      (first_append (test_reasons c.shape c.table) (word_ballot_reasons c.shape c.ballots))

  -- the first group with a reason decides the answer
  pub by_test : (r : Reason) → test_outcome c.shape c.table ≡ refused r → first_of (batch_reasons c) ≡ some r
  unfolding test_outcome first_of_three or_else
  by_test r e =
      batch_first
      ∙ ap (λ (o : Option Reason). first_of_three o (first_of (word_ballot_reasons c.shape c.ballots))
      (first_of (word_buffer_reasons (ballot_bytes c.shape) c.shape.candidates (size_of (gates_of c.table))
      c.tape c.wires c.board)))
      (outcome_refused (first_of (test_reasons c.shape c.table)) (size_of (gates_of c.table)) r e)

  module _ (t : first_of (test_reasons c.shape c.table) ≡ none) where
    pub by_ballots : (r : Reason) → first_of (word_ballot_reasons c.shape c.ballots) ≡ some r → first_of (batch_reasons c) ≡ some r
    unfolding first_of_three or_else
    by_ballots r e = batch_first ∙ rw (t, e)

    pub by_lent : (size : Size) (o : Option Reason) → size ≡ size_of (gates_of c.table)
        → first_of (word_ballot_reasons c.shape c.ballots) ≡ none
        → first_of (word_buffer_reasons (ballot_bytes c.shape) c.shape.candidates size c.tape c.wires
        c.board) ≡ o → first_of (batch_reasons c) ≡ o
    unfolding first_of_three or_else
    by_lent size o f b e =
        batch_first
        ∙ rw (t, b)
        (ap (λ (z : Size). first_of (word_buffer_reasons (ballot_bytes c.shape) c.shape.candidates z
        c.tape c.wires c.board)) (sym f) ∙ e)

  -- an accepted call, as facts
  pub record BatchPassed : Type 0 where
    pub test : TestPassed c.shape c.table (size_of (gates_of c.table))
    pub ballots_passed : BallotsPassed c.shape c.ballots
    pub tape_length : length c.tape ≡ conditional_count (gates_of c.table)
    pub wires_length : length c.wires ≡ ballot_bytes c.shape + length (gates_of c.table)
    pub board_length : length c.board ≡ conditional_count (gates_of c.table) + c.shape.candidates

  pub batch_passed : first_of (batch_reasons c) ≡ none → BatchPassed
  unfolding test_outcome outcome size_of
  batch_passed e =
      let size = size_of (gates_of c.table) in
      let q = three_passed (first_of (test_reasons c.shape c.table))
      (first_of (word_ballot_reasons c.shape c.ballots))
      (first_of (word_buffer_reasons (ballot_bytes c.shape) c.shape.candidates size c.tape c.wires
      c.board)) (sym batch_first ∙ e) in
      let l = lent_passed (ballot_bytes c.shape) c.shape.candidates size c.tape c.wires c.board q.2 in
      record {
        test = test_passed c.shape c.table size (ap (λ (r : Option Reason). outcome r size) q.0);
        ballots_passed = ballots_passed c.shape c.ballots q.1;
        tape_length = l.tape_length;
        wires_length = l.wires_length;
        board_length = l.board_length;
      }

  pub batch_passed_back : BatchPassed → first_of (batch_reasons c) ≡ none
  unfolding first_of_three or_else size_of
  batch_passed_back r =
      batch_first
      ∙ rw (
        r.test.reasons,
        ballots_passed_back c.shape c.ballots r.ballots_passed,
        lent_passed_back (ballot_bytes c.shape) c.shape.candidates (size_of (gates_of c.table)) c.tape c.wires c.board
            (record { tape_length = r.tape_length; wires_length = r.wires_length; board_length = r.board_length }),
      )

  -- if the tests pass, the evaluation has what it requires
  pub batch_ready : BatchPassed → RunReady c.ballots c.table c.shape.candidates c.tape c.wires c.board
  batch_ready r =
      let size = size_of (gates_of c.table) in
      let f = accepted_list (ballot_bytes c.shape) c.shape.candidates c.table size.gates size.conditional r.test.tests in
      let n = r.ballots_passed.size in
      record {
        enough = f.enough;
        good = ap (λ (i : ℕ). first_bad i 0 (gates_of c.table)) n ∙ f.good;
        tape_length = r.tape_length;
        wires_length = omega (arith, n, r.wires_length);
        board_length = r.board_length;
      }

  -- what a call leaves, given its first reason
  pub result_by : (o : Option Reason) → first_of (batch_reasons c) ≡ o → batch_result c ≡ batch_result_after o c
  unfolding batch_result
  result_by o e = ap (λ (r : Option Reason). batch_result_after r c) e

-- two results are equal if their parts are
pub same_result : (x y : RunResult) → x.answer ≡ y.answer → x.wires ≡ y.wires → x.board ≡ y.board → x ≡ y
same_result x y a b c = rw (a, b, c) refl
