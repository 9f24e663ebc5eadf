-- The reasons of the trustees' call: which of them is the first, and what holds if none applies.
-- Assumes nothing.
use mathlib.Core.Path.{◌≡◌, ◌∙◌, refl, sym, ap}
use mathlib.Core.Bool.{Bool, true, false, ◌&&◌}
use mathlib.Core.Option.{Option, none, some}
use mathlib.Core.List.{List, [], ◌∷◌, ◌++◌}
use Prim.Native.Nat.{ℕ, ◌+◌, ◌*◌, ◌≤◌}
use native.Mathlib.Omega.{arith}
use lib.Dec.{eqb, leb}
use lib.ListN.{length}
use borrow.Author.Tests.{eqb-true, eq-eqb, leb-true, le-leb}
use Rattle.gates.specs.Gate.{gates_of}
use Rattle.gates.proofs.Counting.{count_most}
use Rattle.gates.proofs.Evaluating.{accepted_list}
use Rattle.jury.specs.declared.shape.Shape.{Shape}
use Rattle.jury.specs.Shape.{ballot_bytes}
use Rattle.jury.specs.Reason.{Reason, unless, first_of}
use Rattle.jury.specs.Ballots.{ballot_reasons}
use Rattle.jury.specs.Accepted.{AcceptedBallots}
use Rattle.jury.proofs.AcceptedLaws as ballots_laws
use Rattle.basics.proofs.Flags.{and_first, and_second}
use Rattle.jury.proofs.Limits.{bounds, inputs_bound}
use Rattle.tally.specs.Answer.{refused, outcome, Size, size_of}
use Rattle.tally.specs.Test.{test_reasons, test_outcome}
use Rattle.tally.proofs.TestReasons.{or_else, first_append, TestPassed, test_passed}
use Rattle.tally.proofs.RunReasons.{first_of_three, outcome_refused}
use Rattle.trustee_shares.specs.Views.{Dealing, GoodDealing}
use Rattle.trustee_gates.specs.Dealing.{dealt_well}
use Rattle.trustee_gates.proofs.Dealt.{dealt_good, good_dealt}
use Rattle.trustees.specs.inner.Sizes.{SmallSizes}
use Rattle.trustees.specs.Call.{PartTables, Call, dealt_as}
use Rattle.trustees.specs.Reasons.{tables_fit, part_reasons, trustees_reasons}
use Rattle.trustees.specs.Result.{TrusteesResult, trustees_result_after, trustees_result}
use Rattle.tally.proofs.RunReasons.{three_passed}

-- what the tests 16 to 18 answer, from their outcomes
unfoldable pub part_found : Bool → Bool → Bool → Option Reason
part_found trustees tables dealing = first_of (unless trustees 16 ∷ unless tables 17 ∷ unless dealing 18 ∷ [])

pub trustees_most : (t : ℕ) → (leb 2 t && leb t 5) ≡ true → t ≤ 5
trustees_most t e = leb-true t 5 (and_second (leb 2 t) (leb t 5) e)

-- the sizes of an accepted list and of accepted ballots are small
pub small_sizes : (s : Shape) (table ballots : List ℕ) (size : Size) → TestPassed s table size → first_of (ballot_reasons s ballots) ≡ none
    → SmallSizes (length ballots) s.candidates size.gates size.conditional
small_sizes s table ballots size p e =
    let f = accepted_list (ballot_bytes s) s.candidates table size.gates size.conditional p.tests in
    let w = bounds s p.within in
    let a = ballots_laws.accepted s ballots p.within e in
    record {
      inputs_most = omega (arith, a.size, inputs_bound s w);
      outputs_most = w.k_most;
      gates_most = omega (arith, f.few, f.gates_are);
      conditional_most = omega (arith, f.few, f.conditional_are, count_most (gates_of table));
    }

-- the lengths of the four tables
pub record Tables (inputs k : ℕ) (size : Size) (t : ℕ) (lent : PartTables) : Type 0 where
  pub ballot_length : length lent.dealing.ballot_parts ≡ t * inputs
  pub dealer_length : length lent.dealing.dealer_parts ≡ t * (3 * size.conditional)
  pub wires_length : length lent.wire_parts ≡ t * (inputs + size.gates)
  pub published_length : length lent.published ≡ t * (2 * size.conditional + k)

module _ (inputs k : ℕ) (size : Size) (t : ℕ) (lent : PartTables) where
  pub tables_fit_lem : tables_fit inputs k size t lent ≡ true → Tables inputs k size t lent
  unfolding tables_fit
  tables_fit_lem e =
      let a = eqb (length lent.dealing.ballot_parts) (t * inputs) in
      let b = eqb (length lent.dealing.dealer_parts) (t * (3 * size.conditional)) in
      let w = eqb (length lent.wire_parts) (t * (inputs + size.gates)) in
      let q = eqb (length lent.published) (t * (2 * size.conditional + k)) in
      let three = and_first (a && b && w) q e in
      let two = and_first (a && b) w three in
      record {
        ballot_length = eqb-true (length lent.dealing.ballot_parts) (t * inputs) (and_first a b two);
        dealer_length = eqb-true (length lent.dealing.dealer_parts) (t * (3 * size.conditional)) (and_second a b two);
        wires_length = eqb-true (length lent.wire_parts) (t * (inputs + size.gates)) (and_second (a && b) w three);
        published_length = eqb-true (length lent.published) (t * (2 * size.conditional + k)) (and_second (a && b && w) q e);
      }

  pub fit_tables : Tables inputs k size t lent → tables_fit inputs k size t lent ≡ true
  unfolding tables_fit
  fit_tables l =
      rw (
        eq-eqb (length lent.dealing.ballot_parts) (t * inputs) l.ballot_length,
        eq-eqb (length lent.dealing.dealer_parts) (t * (3 * size.conditional)) l.dealer_length,
        eq-eqb (length lent.wire_parts) (t * (inputs + size.gates)) l.wires_length,
        eq-eqb (length lent.published) (t * (2 * size.conditional + k)) l.published_length,
      )

module _ (k : ℕ) (size : Size) (ballots : List ℕ) (t : ℕ) (lent : PartTables) where
  pub part_by : (a b c : Bool) → (leb 2 t && leb t 5) ≡ a → tables_fit (length ballots) k size t lent ≡ b
      → dealt_well t size.conditional ballots lent.dealing ≡ c
      → first_of (part_reasons k size ballots t lent) ≡ part_found a b c
  unfolding part_reasons part_found
  part_by a b c e f g = rw (e, f, g)

  -- what holds if none of them applies
  pub record PartsPassed : Type 0 where
    pub least : 2 ≤ t
    pub most : t ≤ 5
    pub tables : Tables (length ballots) k size t lent
    pub dealt : dealt_well t size.conditional ballots lent.dealing ≡ true

  passed_by : (a b c : Bool) → part_found a b c ≡ none → (a ≡ true) × (b ≡ true) × (c ≡ true)
  unfolding part_found unless first_of
  passed_by false b c e = let z : ◌≡◌ {A = ℕ} 0 1 = cc in absurd (omega arith)
  passed_by true false c e = let z : ◌≡◌ {A = ℕ} 0 1 = cc in absurd (omega arith)
  passed_by true true false e = let z : ◌≡◌ {A = ℕ} 0 1 = cc in absurd (omega arith)
  passed_by true true true e = (refl, refl, refl)

  pub parts_passed : first_of (part_reasons k size ballots t lent) ≡ none → PartsPassed
  parts_passed e =
      let a = leb 2 t && leb t 5 in
      let b = tables_fit (length ballots) k size t lent in
      let c = dealt_well t size.conditional ballots lent.dealing in
      let q = passed_by a b c (sym (part_by a b c refl refl refl) ∙ e) in
      record {
        least = leb-true 2 t (and_first (leb 2 t) (leb t 5) q.0);
        most = leb-true t 5 (and_second (leb 2 t) (leb t 5) q.0);
        tables = tables_fit_lem (length ballots) k size t lent q.1;
        dealt = q.2;
      }

  trustees_fit : PartsPassed → (leb 2 t && leb t 5) ≡ true
  trustees_fit l = rw (le-leb 2 t l.least, le-leb t 5 l.most)

  pub parts_passed_back : PartsPassed → first_of (part_reasons k size ballots t lent) ≡ none
  unfolding part_found unless first_of
  parts_passed_back l = part_by true true true (trustees_fit l) (fit_tables (length ballots) k size t lent l.tables) l.dealt

module _ (c : Call) where
  pub first_reason : first_of (trustees_reasons c)
      ≡ first_of_three (first_of (test_reasons c.shape c.table)) (first_of (ballot_reasons c.shape c.ballots))
      (first_of (part_reasons c.shape.candidates (size_of (gates_of c.table)) c.ballots c.trustees c.lent))
  unfolding trustees_reasons first_of_three
  first_reason =
      let parts = part_reasons c.shape.candidates (size_of (gates_of c.table)) c.ballots c.trustees c.lent in
      first_append (test_reasons c.shape c.table ++ ballot_reasons c.shape c.ballots) parts
      ∙ ap (λ (r : Option Reason). or_else r (first_of parts))
      (first_append (test_reasons c.shape c.table) (ballot_reasons c.shape c.ballots))

  -- the first group with a reason decides the answer
  pub by_test : (r : Reason) → test_outcome c.shape c.table ≡ refused r → first_of (trustees_reasons c) ≡ some r
  unfolding test_outcome first_of_three or_else
  by_test r e =
      first_reason
      ∙ ap (λ (o : Option Reason). first_of_three o (first_of (ballot_reasons c.shape c.ballots))
      (first_of (part_reasons c.shape.candidates (size_of (gates_of c.table)) c.ballots c.trustees
      c.lent)))
      (outcome_refused (first_of (test_reasons c.shape c.table)) (size_of (gates_of c.table)) r e)

  module _ (p : first_of (test_reasons c.shape c.table) ≡ none) where
    pub by_ballots : (r : Reason) → first_of (ballot_reasons c.shape c.ballots) ≡ some r → first_of (trustees_reasons c) ≡ some r
    unfolding first_of_three or_else
    by_ballots r e = first_reason ∙ rw (p, e)

    pub by_parts : (size : Size) (o : Option Reason) → size ≡ size_of (gates_of c.table)
        → first_of (ballot_reasons c.shape c.ballots) ≡ none
        → first_of (part_reasons c.shape.candidates size c.ballots c.trustees c.lent) ≡ o → first_of (trustees_reasons c) ≡ o
    unfolding first_of_three or_else
    by_parts size o f b e =
        first_reason
        ∙ rw (p, b)
        (ap (λ (z : Size). first_of (part_reasons c.shape.candidates z c.ballots c.trustees c.lent))
        (sym f) ∙ e)

  -- an accepted call, as facts
  pub record CallPassed : Type 0 where
    pub test : TestPassed c.shape c.table (size_of (gates_of c.table))
    pub ballots_passed : AcceptedBallots c.shape c.ballots
    pub parts : PartsPassed c.shape.candidates (size_of (gates_of c.table)) c.ballots c.trustees c.lent

  pub call_passed : first_of (trustees_reasons c) ≡ none → CallPassed
  unfolding test_outcome outcome
  call_passed e =
      let size = size_of (gates_of c.table) in
      let q = three_passed (first_of (test_reasons c.shape c.table))
      (first_of (ballot_reasons c.shape c.ballots))
      (first_of (part_reasons c.shape.candidates size c.ballots c.trustees c.lent))
      (sym first_reason ∙ e) in
      let p = test_passed c.shape c.table size (ap (λ (r : Option Reason). outcome r size) q.0) in
      record {
        test = p;
        ballots_passed = ballots_laws.accepted c.shape c.ballots p.within q.1;
        parts = parts_passed c.shape.candidates size c.ballots c.trustees c.lent q.2;
      }

  pub call_passed_back : CallPassed → first_of (trustees_reasons c) ≡ none
  unfolding first_of_three or_else
  call_passed_back r =
      first_reason
      ∙ rw (
        r.test.reasons,
        ballots_laws.accepted_back c.shape c.ballots r.ballots_passed,
        parts_passed_back c.shape.candidates (size_of (gates_of c.table)) c.ballots c.trustees c.lent r.parts,
      )

  -- what a call leaves, given its first reason
  pub result_by : (o : Option Reason) → first_of (trustees_reasons c) ≡ o
      → trustees_result c ≡ trustees_result_after o c
  unfolding trustees_result
  result_by o e = ap (λ (r : Option Reason). trustees_result_after r c) e

  -- the dealing of an accepted call is good
  pub passed_dealing : CallPassed → GoodDealing c.trustees (gates_of c.table) c.ballots c.lent.dealing
  unfolding size_of
  passed_dealing r =
      dealt_good c.trustees (gates_of c.table) c.ballots c.lent.dealing
      r.parts.tables.ballot_length r.parts.tables.dealer_length r.parts.dealt

  -- another good dealing passes the tests too
  pub other_dealing : CallPassed → (e : Dealing) → GoodDealing c.trustees (gates_of c.table) c.ballots e
      → PartsPassed c.shape.candidates (size_of (gates_of c.table)) c.ballots c.trustees (dealt_as c e).lent
  unfolding size_of
  other_dealing r e g =
      record {
        least = r.parts.least;
        most = r.parts.most;
        tables = record {
          ballot_length = g.ballot_size;
          dealer_length = g.dealer_size;
          wires_length = r.parts.tables.wires_length;
          published_length = r.parts.tables.published_length;
        };
        dealt = good_dealt c.trustees (gates_of c.table) c.ballots e g;
      }

-- two results are equal if their parts are
pub same_result : (x y : TrusteesResult) → x.answer ≡ y.answer → x.closing ≡ y.closing → x.wire_parts ≡ y.wire_parts
    → x.published ≡ y.published → x ≡ y
same_result x y a b c d = rw (a, b, c, d) refl
