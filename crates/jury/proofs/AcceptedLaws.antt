-- Ballots pass their tests exactly if they have the facts of `AcceptedBallots`.
-- Assumes nothing.
use mathlib.Core.Path.{◌≡◌, ◌∙◌, refl, sym, ap}
use mathlib.Core.Bool.{Bool, true, false, cond}
use mathlib.Core.Option.{Option, none, some}
use mathlib.Core.List.{List, [], ◌∷◌}
use Prim.Native.Nat.{ℕ, zero, suc, ◌*◌, ◌<◌}
use native.Mathlib.Nat.{zero-mul, suc-mul, add_comm}
use native.Mathlib.Omega.{arith}
use lib.Dec.{eqb}
use lib.ListN.{length, take, drop}
use lib.Seq.{drop-drop}
use borrow.Author.Tests.{eqb-true, eq-eqb}
use Rattle.std.specs.Prelude as prelude
use Rattle.std.specs.Prelude.{Some, None}
use Rattle.gates.specs.Test.{first_above_one}
use Rattle.gates.proofs.Hiding.{all_bits, none_above}
use Rattle.jury.specs.declared.shape.Shape.{Shape}
use Rattle.jury.specs.Shape.{is_ranking, graded_limits, within_limits, ballot_bytes}
use Rattle.jury.specs.Reason.{Reason, unless, found_at, first_of}
use Rattle.jury.specs.Ballots.{ones, rows_of, first_bad_row, graded_reasons, ranked_reasons, ballot_kind_reasons, ballot_reasons}
use Rattle.jury.specs.Rankings.{before, first_not_asymmetric, first_not_weak_order}
use Rattle.jury.specs.WeakOrder.{StrictWeakOrder}
use Rattle.jury.specs.Accepted.{AcceptedBallots, GradedBallots}
use Rattle.jury.proofs.Limits.{within, graded_is}
use Rattle.jury.proofs.BallotLaws.{judged, judged_by, graded_reasons_lem, ranked_reasons_lem}
use Rattle.jury.proofs.RankingLaws.{passes_orders}

-- if no reason is answered, every test passed
size_passed : (size : Bool) (byte : prelude.Option ℕ) (kind : Option Reason) → judged size byte kind ≡ none → size ≡ true
unfolding judged unless first_of
size_passed true byte kind e = refl
size_passed false byte kind e = let z : ◌≡◌ {A = ℕ} 0 1 = cc in absurd (omega arith)

byte_passed : (byte : prelude.Option ℕ) (kind : Option Reason) → judged true byte kind ≡ none → byte ≡ None
unfolding judged unless found_at first_of
byte_passed (Some i) kind e = let z : ◌≡◌ {A = ℕ} 0 1 = cc in absurd (omega arith)
byte_passed None kind e = refl

kind_passed : (kind : Option Reason) → judged true None kind ≡ none → kind ≡ none
unfolding judged unless found_at first_of
kind_passed (some r) e = let z : ◌≡◌ {A = ℕ} 0 1 = cc in absurd (omega arith)
kind_passed none e = refl

row_passed : (row : prelude.Option ℕ) → first_of (found_at 6 row ∷ []) ≡ none → row ≡ None
unfolding found_at first_of
row_passed (Some r) e = let z : ◌≡◌ {A = ℕ} 0 1 = cc in absurd (omega arith)
row_passed None e = refl

ranks_passed : (clash not_weak_order : prelude.Option ℕ) → first_of (found_at 11 clash ∷ found_at 12 not_weak_order ∷ []) ≡ none
    → (clash ≡ None) × (not_weak_order ≡ None)
unfolding found_at first_of
ranks_passed (Some i) not_weak_order e = let z : ◌≡◌ {A = ℕ} 0 1 = cc in absurd (omega arith)
ranks_passed None (Some b) e = let z : ◌≡◌ {A = ℕ} 0 1 = cc in absurd (omega arith)
ranks_passed None None e = (refl, refl)

-- if a search finds nothing, its test passes here, and the rest of the search finds nothing
passed_over : (t : Bool) (i : ℕ) (rest : prelude.Option ℕ) → cond t rest (Some i) ≡ None → (t ≡ true) × (rest ≡ None)
passed_over true i rest e = (refl, e)
passed_over false i rest e = let z : ◌≡◌ {A = ℕ} 0 1 = cc in absurd (omega arith)

-- row 0 begins at the first byte; row j after the first row is row j + 1
pub row_first : (d : ℕ) (xs : List ℕ) → drop (0 * d) xs ≡ xs
row_first d xs = ap (λ (m : ℕ). drop m xs) (zero-mul d)

pub row_next : (d j : ℕ) (xs : List ℕ) → drop (j * d) (drop d xs) ≡ drop (suc j * d) xs
row_next d j xs = drop-drop (j * d) d xs ∙ ap (λ (m : ℕ). drop m xs) (add_comm d (j * d) ∙ sym (suc-mul j d))

-- if no bad row is found, every row has a single 1
pub all_rows : (d r : ℕ) (xs : List ℕ) (n : ℕ) → first_bad_row n (rows_of d r xs) ≡ None → (j : ℕ) → j < r
    → ones (take d (drop (j * d) xs)) ≡ 1
unfolding first_bad_row rows_of
all_rows d zero xs n e j h = absurd (omega arith)
all_rows d (suc r) xs n e zero h =
    ap (λ (l : List ℕ). ones (take d l)) (row_first d xs)
    ∙ eqb-true (ones (take d xs)) 1 (passed_over (eqb (ones (take d xs)) 1) n (first_bad_row (suc n) (rows_of d r (drop d xs))) e).0
all_rows d (suc r) xs n e (suc j) h =
    ap (λ (l : List ℕ). ones (take d l)) (sym (row_next d j xs))
    ∙ all_rows d r (drop d xs) (suc n)
    (passed_over (eqb (ones (take d xs)) 1) n (first_bad_row (suc n) (rows_of d r (drop d xs))) e).1 j (omega arith)

pub all_rows_back : (d r : ℕ) (xs : List ℕ) (n : ℕ) → ((j : ℕ) → j < r → ones (take d (drop (j * d) xs)) ≡ 1)
    → first_bad_row n (rows_of d r xs) ≡ None
unfolding first_bad_row rows_of
all_rows_back d zero xs n h = refl
all_rows_back d (suc r) xs n h =
    ap (λ (t : Bool). cond t (first_bad_row (suc n) (rows_of d r (drop d xs))) (Some n))
    (eq-eqb (ones (take d xs)) 1 (ap (λ (l : List ℕ). ones (take d l)) (sym (row_first d xs)) ∙ h 0 (omega arith)))
    ∙ all_rows_back d r (drop d xs) (suc n)
    (λ j l. ap (λ (l : List ℕ). ones (take d l)) (row_next d j xs) ∙ h (suc j) (omega arith))

module _ (s : Shape) (xs : List ℕ) where
  -- the outcomes of the tests
  size_test : Bool
  size_test = eqb (length xs) (ballot_bytes s)

  byte_test : prelude.Option ℕ
  byte_test = first_above_one 0 xs

  row_test : prelude.Option ℕ
  row_test = first_bad_row 0 (rows_of s.grades (s.ballots * s.candidates) xs)

  outcome : first_of (ballot_reasons s xs) ≡ none → judged size_test byte_test (first_of (ballot_kind_reasons s xs)) ≡ none
  unfolding size_test byte_test
  outcome e = sym (judged_by s xs size_test byte_test (first_of (ballot_kind_reasons s xs)) refl refl refl) ∙ e

  size_of : first_of (ballot_reasons s xs) ≡ none → size_test ≡ true
  size_of e = size_passed size_test byte_test (first_of (ballot_kind_reasons s xs)) (outcome e)

  byte_of : first_of (ballot_reasons s xs) ≡ none → byte_test ≡ None
  byte_of e = byte_passed byte_test (first_of (ballot_kind_reasons s xs))
      (ap (λ (t : Bool). judged t byte_test (first_of (ballot_kind_reasons s xs))) (sym (size_of e)) ∙ outcome e)

  kind_of : first_of (ballot_reasons s xs) ≡ none → first_of (ballot_kind_reasons s xs) ≡ none
  kind_of e =
      kind_passed (first_of (ballot_kind_reasons s xs))
      (ap (λ (p : prelude.Option ℕ). judged true p (first_of (ballot_kind_reasons s xs))) (sym (byte_of e))
      ∙ ap (λ (t : Bool). judged t byte_test (first_of (ballot_kind_reasons s xs))) (sym (size_of e)) ∙ outcome e)

  rows_of_lem : first_of (ballot_reasons s xs) ≡ none → is_ranking s ≡ false → (r : ℕ) → r < s.ballots * s.candidates
      → ones (take s.grades (drop (r * s.grades) xs)) ≡ 1
  unfolding graded_reasons row_test
  rows_of_lem e f = all_rows s.grades (s.ballots * s.candidates) xs 0 (row_passed row_test (sym (ap first_of (graded_reasons_lem s xs f)) ∙ kind_of e))

  orders_of : first_of (ballot_reasons s xs) ≡ none → is_ranking s ≡ true → (b : ℕ) → b < s.ballots
      → StrictWeakOrder s.candidates (before s.candidates xs b)
  unfolding ranked_reasons
  orders_of e f =
      (passes_orders s.candidates s.ballots xs).0
      (ranks_passed (first_not_asymmetric s.candidates s.ballots xs)
      (first_not_weak_order s.candidates s.ballots xs) (sym (ap first_of (ranked_reasons_lem s xs f)) ∙ kind_of e))

  -- ballots that pass all tests are accepted
  pub accepted : within_limits s ≡ true → first_of (ballot_reasons s xs) ≡ none → AcceptedBallots s xs
  unfolding size_test byte_test
  accepted w e = record {
    within = w;
    size = eqb-true (length xs) (ballot_bytes s) (size_of e);
    bits = all_bits 0 xs (byte_of e);
    rows = rows_of_lem e;
    orders = orders_of e;
  }

  no_kind_reason : AcceptedBallots s xs → (t : Bool) → is_ranking s ≡ t → first_of (ballot_kind_reasons s xs) ≡ none
  unfolding graded_reasons ranked_reasons found_at first_of
  no_kind_reason a false e =
      ap first_of (graded_reasons_lem s xs e) ∙ ap (λ (p : prelude.Option ℕ). first_of (found_at 6 p ∷ []))
      (all_rows_back s.grades (s.ballots * s.candidates) xs 0 (a.rows e))
  no_kind_reason a true e =
      let p = (passes_orders s.candidates s.ballots xs).1 (a.orders e) in
      ap first_of (ranked_reasons_lem s xs e)
      ∙ ap (λ (q : prelude.Option ℕ). first_of (found_at 11 q ∷ found_at 12 (first_not_weak_order s.candidates s.ballots xs) ∷ [])) p.0
      ∙ ap (λ (q : prelude.Option ℕ). first_of (found_at 11 None ∷ found_at 12 q ∷ [])) p.1

  -- the converse
  pub accepted_back : AcceptedBallots s xs → first_of (ballot_reasons s xs) ≡ none
  unfolding judged unless found_at first_of
  accepted_back a =
      judged_by s xs true None none (eq-eqb (length xs) (ballot_bytes s) a.size) (none_above 0 xs a.bits)
      (no_kind_reason a (is_ranking s) refl)

  -- accepted ballots of a graded shape
  pub graded : AcceptedBallots s xs → graded_limits s ≡ true → GradedBallots s xs
  graded a g = record { within = g; size = a.size; bits = a.bits; rows = a.rows (graded_is s (within s g)) }
