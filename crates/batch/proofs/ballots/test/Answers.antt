-- If the length is right, the tests of the shape's kind decide.
use Rattle.std.proofs.Common.{◌≡◌, ◌∙◌, sym, ap, true, false, length}
use borrow.Author.Tests.{eq-eqb, ne_eqb}
use Rattle.basics.proofs.Flags.{T_true, true_T}
use Rattle.jury.specs.Shape.{graded_limits, within_limits, ballot_bytes}
use Rattle.jury.specs.Reason.{reason_of, refused_for, unless, first_of}
use Rattle.jury.proofs.Limits as limits
use Rattle.batch.specs.Ballots.{word_ballot_kind_reasons, word_ballot_reasons}
use Rattle.batch.proofs.Reasons.{ballots_found, found_kind, graded_words, ranked_words, ballots_by}
use Rattle.batch.proofs.ballots.test.Goals as goal
use Rattle.batch.proofs.ballots.test.Goals.{Else-ballots-ballot_bytes}

pub returns-then-ballots-ballot_bytes : goal.returns-then-ballots-ballot_bytes
unfolding ballots_found refused_for reason_of unless first_of
returns-then-ballots-ballot_bytes c =
    let s = c.args.shape in
    let xs = c.args.ballots.now in
    sym (ballots_by s xs false
    (ne_eqb (length xs) (ballot_bytes s) (λ e. c.if-ballots-ballot_bytes.true (e ∙ sym c.ballot_bytes.ensures))))

-- the length is right
size_known : (c : Else-ballots-ballot_bytes) → length c.args.ballots.now ≡ ballot_bytes c.args.shape
size_known c = c.if-ballots-ballot_bytes.false ∙ c.ballot_bytes.ensures

-- so the tests of the shape's kind decide
by_kind : (c : Else-ballots-ballot_bytes) → let a = c.args in
    first_of (word_ballot_reasons a.shape a.ballots.now) ≡ first_of (word_ballot_kind_reasons a.shape a.ballots.now)
by_kind c =
    let a = c.args in
    ballots_by a.shape a.ballots.now true
    (eq-eqb (length a.ballots.now) (ballot_bytes a.shape) (size_known c))
    ∙ found_kind (first_of (word_ballot_kind_reasons a.shape a.ballots.now))

pub test_rankings-requires : goal.test_rankings-requires
test_rankings-requires c =
    let at = goal.at.test_rankings-requires c in
    size_known at.Else-ballots-ballot_bytes
    ∙ limits.ranked_bytes c.args.shape (sym c.is_ranking.ensures ∙ c.if-is_ranking.true)

pub test_grades-requires : goal.test_grades-requires
test_grades-requires c =
    let at = goal.at.test_grades-requires c in
    let s = c.args.shape in
    let graded = sym c.is_ranking.ensures ∙ c.if-is_ranking.false in
    record {
      within = true_T (graded_limits s) (limits.graded_kind s (T_true (within_limits s) c.requires) graded);
      size = size_known at.Else-ballots-ballot_bytes ∙ limits.grades_columns s graded;
    }

pub returns-then-is_ranking : goal.returns-then-is_ranking
returns-then-is_ranking c =
    let at = goal.at.returns-then-is_ranking c in
    let a = c.args in
    c.test_rankings.ensures
    ∙ sym (ap first_of (ranked_words a.shape a.ballots.now (sym c.is_ranking.ensures ∙ c.if-is_ranking.true)))
    ∙ sym (by_kind at.Else-ballots-ballot_bytes)

pub returns-else-is_ranking : goal.returns-else-is_ranking
returns-else-is_ranking c =
    let at = goal.at.returns-else-is_ranking c in
    let a = c.args in
    c.test_grades.ensures
    ∙ sym (ap first_of (graded_words a.shape a.ballots.now (sym c.is_ranking.ensures ∙ c.if-is_ranking.false)))
    ∙ sym (by_kind at.Else-ballots-ballot_bytes)
