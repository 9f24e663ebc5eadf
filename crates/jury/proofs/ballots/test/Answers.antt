-- `jury::ballots::test` meets its contract: each branch answers what the definition gives for the outcomes of the
-- tests.
-- Assumes nothing.
use mathlib.Core.Path.{◌≡◌, ◌∙◌, refl, sym, ap}
use mathlib.Core.Bool.{true, false}
use native.Mathlib.Omega.{arith}
use lib.ListN.{length}
use borrow.Author.Tests.{eq-eqb, ne_eqb}
use Rattle.std.specs.Prelude.{List, ℕ, Some, None}
use Rattle.jury.specs.declared.shape.Shape.{Shape}
use Rattle.gates.specs.Test.{first_above_one}
use Rattle.gates.proofs.Hiding.{all_bits}
use Rattle.jury.specs.Shape.{graded_limits, within_limits, ballot_bytes}
use Rattle.jury.specs.Reason.{reason_of, refused_for, unless, found_at, first_of}
use Rattle.jury.specs.Ballots.{ballot_kind_reasons, ballot_reasons}
use Rattle.basics.proofs.Flags.{T_true, true_T}
use Rattle.jury.proofs.Limits.{bounds_T, within, grades_columns, ranked_bytes, graded_kind}
use Rattle.jury.proofs.BallotLaws.{judged, judged_by, judged_kind, graded_reasons_lem, ranked_reasons_lem}
use Rattle.jury.proofs.ballots.test.Goals as goal

pub returns-then-ballots-ballot_bytes : goal.returns-then-ballots-ballot_bytes
unfolding judged refused_for reason_of unless first_of
returns-then-ballots-ballot_bytes c = let s = c.args.shape in
    let xs = c.args.ballots.now in
    sym (judged_by s xs false (first_above_one 0 xs) (first_of (ballot_kind_reasons s xs))
    (ne_eqb (length xs) (ballot_bytes s) (λ e. c.if-ballots-ballot_bytes.true (e ∙ sym c.ballot_bytes.ensures))) refl refl)

pub returns-in-Some : goal.returns-in-Some
unfolding judged refused_for reason_of unless found_at first_of
returns-in-Some c = let s = c.args.shape in
    let xs = c.args.ballots.now in
    sym (judged_by s xs true (Some c.in-Some.i) (first_of (ballot_kind_reasons s xs))
    (eq-eqb (length xs) (ballot_bytes s) (c.if-ballots-ballot_bytes.false ∙ c.ballot_bytes.ensures))
    (sym c.first_above_one.ensures ∙ c.in-Some.is) refl)

-- if the length is right and no byte is above 1, the tests of the shape's kind decide
by_kind : (s : Shape) (xs : List ℕ) → length xs ≡ ballot_bytes s → first_above_one 0 xs ≡ None
    → first_of (ballot_reasons s xs) ≡ first_of (ballot_kind_reasons s xs)
by_kind s xs e f =
    judged_by s xs true None (first_of (ballot_kind_reasons s xs)) (eq-eqb (length xs) (ballot_bytes s) e) f refl
    ∙ judged_kind (first_of (ballot_kind_reasons s xs))

pub test_orders-requires : goal.test_orders-requires
test_orders-requires c = let s = c.args.shape in record {
  some = (bounds_T s c.requires).k_least;
  few = (bounds_T s c.requires).k_most;
  size = c.if-ballots-ballot_bytes.false ∙ c.ballot_bytes.ensures ∙ ranked_bytes s (sym c.is_ranking.ensures ∙ c.if-is_ranking.true);
}

pub test_grades-requires : goal.test_grades-requires
test_grades-requires c = let s = c.args.shape in
    let graded = sym c.is_ranking.ensures ∙ c.if-is_ranking.false in
    record {
      sized = record {
        within = true_T (graded_limits s)
            (graded_kind s (T_true (within_limits s) c.requires) graded);
        size = c.if-ballots-ballot_bytes.false ∙ c.ballot_bytes.ensures
            ∙ grades_columns s graded;
      };
      some = let w = within s (graded_kind s (T_true (within_limits s) c.requires) graded) in omega (arith, w.d_least);
      bits = all_bits 0 c.args.ballots.now (sym c.first_above_one.ensures ∙ c.in_default.is);
    }

pub returns-then-is_ranking : goal.returns-then-is_ranking
returns-then-is_ranking c =
    let s = c.args.shape in
    let xs = c.args.ballots.now in
    let size = c.if-ballots-ballot_bytes.false ∙ c.ballot_bytes.ensures in
    c.test_orders.ensures
    ∙ sym (ap first_of (ranked_reasons_lem s xs (sym c.is_ranking.ensures ∙ c.if-is_ranking.true)))
    ∙ sym (by_kind s xs size (sym c.first_above_one.ensures ∙ c.in_default.is))

pub returns-else-is_ranking : goal.returns-else-is_ranking
returns-else-is_ranking c =
    let s = c.args.shape in
    let xs = c.args.ballots.now in
    let size = c.if-ballots-ballot_bytes.false ∙ c.ballot_bytes.ensures in
    c.test_grades.ensures
    ∙ sym (ap first_of (graded_reasons_lem s xs (sym c.is_ranking.ensures ∙ c.if-is_ranking.false)))
    ∙ sym (by_kind s xs size (sym c.first_above_one.ensures ∙ c.in_default.is))
