-- The reasons of a run: which of them is the first, and what holds if none applies.
-- Assumes nothing.
use Rattle.std.specs.Prelude.{Some, None}
use Rattle.std.specs.Prelude as prelude
use mathlib.Core.Path.{◌≡◌, ◌∙◌, refl, sym, ap}
use mathlib.Core.Bool.{Bool, true, false}
use mathlib.Core.Option.{Option, none, some}
use mathlib.Core.List.{List, [], ◌∷◌, ◌++◌}
use Prim.Native.Nat.{ℕ, ◌+◌}
use native.Mathlib.Nat.{add-zero}
use native.Mathlib.Omega.{arith}
use lib.Dec.{eqb}
use lib.ListN.{length}
use borrow.Author.Tests.{eqb-true, eq-eqb}
use Rattle.gates.specs.Gate.{gates_of}
use Rattle.gates.specs.Board.{conditional_count, MaskTape}
use Rattle.gates.specs.Test.{first_above_one}
use Rattle.gates.proofs.Hiding.{all_bits, none_above}
use Rattle.jury.specs.declared.shape.Shape.{Shape}
use Rattle.jury.specs.Shape.{ballot_bytes}
use Rattle.jury.specs.Reason.{Reason, unless, found_at, first_of}
use Rattle.jury.specs.Ballots.{ballot_reasons}
use Rattle.jury.specs.Accepted.{AcceptedBallots}
use Rattle.jury.proofs.AcceptedLaws as ballots_laws
use Rattle.gates.specs.inner.Step.{RunReady}
use Rattle.gates.specs.Test.{first_bad}
use Rattle.gates.proofs.Evaluating.{accepted_list}
use Rattle.tally.specs.Answer.{Outcome, refused, accepted, outcome, Size, size_of}
use Rattle.tally.specs.Test.{test_reasons, test_outcome}
use Rattle.tally.specs.Run.{RunResult, buffer_reasons, run_reasons, run_result_after, run_result}
use Rattle.tally.proofs.TestReasons.{or_else, first_append, TestPassed, test_passed}

-- what the tests 7 to 10 answer, from their outcomes
unfoldable pub lent_found : Bool → prelude.Option ℕ → Bool → Bool → Option Reason
lent_found tape byte wires board = first_of (unless tape 7 ∷ found_at 8 byte ∷ unless wires 9 ∷ unless board 10 ∷ [])

pub passed_by : (t : Bool) (p : prelude.Option ℕ) (u v : Bool) → lent_found t p u v ≡ none → (t ≡ true) × (p ≡ None) × (u ≡ true) × (v ≡ true)
unfolding lent_found unless found_at first_of
passed_by false p u v e = let z : ◌≡◌ {A = ℕ} 0 1 = cc in absurd (omega arith)
passed_by true (Some j) u v e = let z : ◌≡◌ {A = ℕ} 0 1 = cc in absurd (omega arith)
passed_by true None false v e = let z : ◌≡◌ {A = ℕ} 0 1 = cc in absurd (omega arith)
passed_by true None true false e = let z : ◌≡◌ {A = ℕ} 0 1 = cc in absurd (omega arith)
passed_by true None true true e = (refl, refl, refl, refl)

-- the test of a tape's length asks for its masks and nothing after them
pub tape_test : (n m : ℕ) (b t : Bool) → b ≡ eqb n (m + 0) → b ≡ t → eqb n m ≡ t
tape_test n m b t e f = ap (eqb n) (sym (add-zero m)) ∙ sym e ∙ f

module _ (i k : ℕ) (size : Size) (tape wires board : List ℕ) where
  pub lent_by : (t : Bool) (p : prelude.Option ℕ) (u v : Bool) → eqb (length tape) size.conditional ≡ t → first_above_one 0 tape ≡ p
      → eqb (length wires) (i + size.gates) ≡ u → eqb (length board) (size.conditional + k) ≡ v
      → first_of (buffer_reasons i k size tape wires board) ≡ lent_found t p u v
  unfolding buffer_reasons lent_found
  lent_by t p u v e f g h = rw (e, f, g, h)

  -- what holds if none of them applies
  pub record LentPassed : Type 0 where
    pub tape_length : length tape ≡ size.conditional
    pub tape_bits : first_above_one 0 tape ≡ None
    pub wires_length : length wires ≡ i + size.gates
    pub board_length : length board ≡ size.conditional + k

  pub lent_passed : first_of (buffer_reasons i k size tape wires board) ≡ none → LentPassed
  lent_passed e =
      let t = eqb (length tape) size.conditional in
      let u = eqb (length wires) (i + size.gates) in
      let v = eqb (length board) (size.conditional + k) in
      let q = passed_by t (first_above_one 0 tape) u v (sym (lent_by t (first_above_one 0 tape) u v refl refl refl refl) ∙ e) in
      record {
        tape_length = eqb-true (length tape) size.conditional q.0;
        tape_bits = q.1;
        wires_length = eqb-true (length wires) (i + size.gates) q.2;
        board_length = eqb-true (length board) (size.conditional + k) q.3;
      }

  pub lent_passed_back : LentPassed → first_of (buffer_reasons i k size tape wires board) ≡ none
  unfolding lent_found unless found_at first_of
  lent_passed_back l =
      lent_by true None true true (eq-eqb (length tape) size.conditional l.tape_length) l.tape_bits
      (eq-eqb (length wires) (i + size.gates) l.wires_length) (eq-eqb (length board) (size.conditional + k) l.board_length)

-- the first reason of three groups of tests
unfoldable pub first_of_three : Option Reason → Option Reason → Option Reason → Option Reason
first_of_three test ballots lent = or_else (or_else test ballots) lent

pub three_passed : (a b c : Option Reason) → first_of_three a b c ≡ none → (a ≡ none) × (b ≡ none) × (c ≡ none)
unfolding first_of_three or_else
three_passed none none none e = (refl, refl, refl)
three_passed none none (some r) e = let z : ◌≡◌ {A = ℕ} 0 1 = cc in absurd (omega arith)
three_passed none (some r) c e = let z : ◌≡◌ {A = ℕ} 0 1 = cc in absurd (omega arith)
three_passed (some r) b c e = let z : ◌≡◌ {A = ℕ} 0 1 = cc in absurd (omega arith)

-- two results are equal if their three parts are
pub same_result : {answer answer' : Outcome Size} {wires wires' board board' : List ℕ} → answer ≡ answer' → wires ≡ wires' → board ≡ board'
    → ◌≡◌ {A = RunResult} (record { answer = answer; wires = wires; board = board })
    (record { answer = answer'; wires = wires'; board = board' })
same_result {answer} {answer'} {wires} {wires'} {board} {board'} e f g =
    ap (λ (z : Outcome Size). record { answer = z; wires = wires; board = board }) e
    ∙ ap (λ (z : List ℕ). record { answer = answer'; wires = z; board = board }) f
    ∙ ap (λ (z : List ℕ). record { answer = answer'; wires = wires'; board = z }) g

-- a refusal comes from a reason that applies
pub outcome_refused : {Values : Type 0} (o : Option Reason) (values : Values) (r : Reason) → outcome o values ≡ refused r → o ≡ some r
unfolding outcome
outcome_refused none values r e = let z : ◌≡◌ {A = ℕ} 0 1 = cc in absurd (omega arith)
outcome_refused (some q) values r e = let same : q ≡ r = cc in ap some same

-- if an answer is accepted, no reason applies, and the values are the given ones
pub accepted_values : {A : Type 0} (o : Option Reason) (v w : A) → outcome o v ≡ accepted w → (o ≡ none) × (v ≡ w)
unfolding outcome
accepted_values none v w e = (refl, cc)
accepted_values (some q) v w e = let z : ◌≡◌ {A = ℕ} 0 1 = cc in absurd (omega arith)

pub outcome_accepted : (o : Option Reason) (values size : Size) → outcome o values ≡ accepted size → o ≡ none
outcome_accepted o values size e = (accepted_values o values size e).0

module _ (s : Shape) (table ballots tape wires board : List ℕ) where
  pub run_first : first_of (run_reasons s table ballots tape wires board)
      ≡ first_of_three (first_of (test_reasons s table)) (first_of (ballot_reasons s ballots))
      (first_of (buffer_reasons (ballot_bytes s) s.candidates (size_of (gates_of table)) tape wires board))
  unfolding run_reasons first_of_three
  run_first =
      let lent = buffer_reasons (ballot_bytes s) s.candidates (size_of (gates_of table)) tape wires board in
      first_append (test_reasons s table ++ ballot_reasons s ballots) lent
      ∙ ap (λ (r : Option Reason). or_else r (first_of lent)) (first_append (test_reasons s table) (ballot_reasons s ballots))

  -- the first group with a reason decides the answer
  pub by_test : (r : Reason) → test_outcome s table ≡ refused r → first_of (run_reasons s table ballots tape wires board) ≡ some r
  unfolding test_outcome first_of_three or_else
  by_test r e =
      run_first
      ∙ ap (λ (o : Option Reason). first_of_three o (first_of (ballot_reasons s ballots))
      (first_of (buffer_reasons (ballot_bytes s) s.candidates (size_of (gates_of table)) tape wires board)))
      (outcome_refused (first_of (test_reasons s table)) (size_of (gates_of table)) r e)

  module _ (t : first_of (test_reasons s table) ≡ none) where
    pub by_ballots : (r : Reason) → first_of (ballot_reasons s ballots) ≡ some r
        → first_of (run_reasons s table ballots tape wires board) ≡ some r
    unfolding first_of_three or_else
    by_ballots r e = run_first ∙ rw (t, e)

    pub by_lent : (size : Size) (o : Option Reason) → size ≡ size_of (gates_of table) → first_of (ballot_reasons s ballots) ≡ none
        → first_of (buffer_reasons (ballot_bytes s) s.candidates size tape wires board) ≡ o
        → first_of (run_reasons s table ballots tape wires board) ≡ o
    unfolding first_of_three or_else
    by_lent size o f b e =
        run_first ∙ rw (t, b) (ap (λ (z : Size). first_of (buffer_reasons (ballot_bytes s) s.candidates z tape wires board)) (sym f) ∙ e)

  -- an accepted run, as facts
  pub record RunPassed : Type 0 where
    pub test : TestPassed s table (size_of (gates_of table))
    pub ballots_passed : AcceptedBallots s ballots
    pub mask : MaskTape (gates_of table) tape
    pub wires_length : length wires ≡ ballot_bytes s + length (gates_of table)
    pub board_length : length board ≡ conditional_count (gates_of table) + s.candidates

  pub run_passed : first_of (run_reasons s table ballots tape wires board) ≡ none → RunPassed
  unfolding test_outcome outcome size_of
  run_passed e =
      let size = size_of (gates_of table) in
      let q = three_passed (first_of (test_reasons s table)) (first_of (ballot_reasons s ballots))
      (first_of (buffer_reasons (ballot_bytes s) s.candidates size tape wires board)) (sym run_first ∙ e) in
      let t = test_passed s table size (ap (λ (r : Option Reason). outcome r size) q.0) in
      let l = lent_passed (ballot_bytes s) s.candidates size tape wires board q.2 in
      record {
        test = t;
        ballots_passed = ballots_laws.accepted s ballots t.within q.1;
        mask = record { size = l.tape_length; bits = all_bits 0 tape l.tape_bits };
        wires_length = l.wires_length;
        board_length = l.board_length;
      }

  pub run_passed_back : RunPassed → first_of (run_reasons s table ballots tape wires board) ≡ none
  unfolding first_of_three or_else size_of
  run_passed_back r =
      run_first
      ∙ rw (
        r.test.reasons,
        ballots_laws.accepted_back s ballots r.ballots_passed,
        lent_passed_back (ballot_bytes s) s.candidates (size_of (gates_of table)) tape wires board
            (record {
              tape_length = r.mask.size;
              tape_bits = none_above 0 tape r.mask.bits;
              wires_length =
                  r.wires_length;
              board_length = r.board_length;
            }),
      )

  -- if the tests pass, the evaluation has what it requires
  pub run_ready : RunPassed → RunReady ballots table s.candidates tape wires board
  run_ready r =
      let size = size_of (gates_of table) in
      let f = accepted_list (ballot_bytes s) s.candidates table size.gates size.conditional r.test.tests in
      let n = r.ballots_passed.size in
      record {
        enough = f.enough;
        good = ap (λ (i : ℕ). first_bad i 0 (gates_of table)) n ∙ f.good;
        tape_length = r.mask.size;
        wires_length = omega (arith, n, r.wires_length);
        board_length = r.board_length;
      }

  -- the result of a run, given its first reason
  pub ran_by : (o : Option Reason) → first_of (run_reasons s table ballots tape wires board) ≡ o
      → run_result s table ballots tape wires board ≡ run_result_after o s (gates_of table) ballots tape wires board
  unfolding run_result
  ran_by o e = ap (λ (r : Option Reason). run_result_after r s (gates_of table) ballots tape wires board) e
