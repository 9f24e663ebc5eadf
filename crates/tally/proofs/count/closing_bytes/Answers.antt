-- It counts grades or votes, and applies the rule of the shape's kind.
use mathlib.Core.Path.{◌≡◌, ◌∙◌, sym, ap, subst}
use mathlib.Core.List.{List, []}
use Prim.Native.Nat.{ℕ}
use lib.ListN.{length, get_or}
use Rattle.jury.specs.Shape.{most_candidates, graded_limits}
use Rattle.jury.specs.ClosingBytes.{eight_bytes}
use Rattle.jury.specs.inner.Counts.{rows_in}
use Rattle.jury.proofs.AcceptedLaws as ballots_laws
use Rattle.basics.proofs.Flags.{true_T}
use Rattle.jury.proofs.Limits.{within, bounds, ranked_bytes, graded_kind}
use Rattle.jury.proofs.Matrix.{array_rows, array_eight, array_columns}
use Rattle.rule_judgment.specs.Judgment.{judgment_of}
use Rattle.rule_judgment.specs.Theorems.{EachGets}
use Rattle.rule_judgment.proofs.Theorems.{array_gets}
use Rattle.tally.proofs.Rules.{closing_graded, closing_ranked}
use Rattle.tally.proofs.count.closing_bytes.Goals as goal

pub closing_bytes-requires : goal.closing_bytes-requires
closing_bytes-requires c =
    let s = c.args.shape in
    let b = bounds s c.requires.within in
    record {
      candidates_within = b.k_most;
      ballots_within = b.n_most;
      size = c.requires.size ∙ ranked_bytes s (sym c.is_ranking.ensures ∙ c.if-is_ranking.true);
    }

pub counts-counts-requires : goal.counts-counts-requires
counts-counts-requires c =
    let s = c.args.shape in
    ballots_laws.graded s c.args.ballots.now c.requires
    (graded_kind s c.requires.within (sym c.is_ranking.ensures ∙ c.if-is_ranking.false))

pub winners-requires : goal.winners-requires
winners-requires c =
    let s = c.args.shape in
    let xs = c.args.ballots.now in
    let limits = graded_kind s c.requires.within (sym c.is_ranking.ensures ∙ c.if-is_ranking.false) in
    let array = sym c.counts-counts.ensures.array in
    record {
      within = true_T (graded_limits s) limits;
      eight = subst (λ (m : List (List ℕ)). length m ≡ most_candidates) array (array_eight s xs);
      gets = subst (λ (m : List (List ℕ)). EachGets s.ballots (rows_in s.candidates s.grades m))
          array (array_gets s xs (ballots_laws.graded s xs c.requires limits));
      columns = λ i l. subst (λ (m : List (List ℕ)). length (get_or m i []) ≡ 7) array (array_columns s xs i l);
    }

pub returns-then-is_ranking : goal.returns-then-is_ranking
returns-then-is_ranking c =
    c.closing_bytes.ensures
    ∙ ap eight_bytes (sym (closing_ranked c.args.shape c.args.ballots.now (sym c.is_ranking.ensures ∙ c.if-is_ranking.true)))

pub returns-else-is_ranking : goal.returns-else-is_ranking
returns-else-is_ranking c =
    let s = c.args.shape in
    let xs = c.args.ballots.now in
    let grading = sym c.is_ranking.ensures ∙ c.if-is_ranking.false in
    c.winners.ensures
    ∙ ap (λ (m : List (List ℕ)). eight_bytes (judgment_of (rows_in s.candidates s.grades m))) c.counts-counts.ensures.array
    ∙ ap (λ (m : List (List ℕ)). eight_bytes (judgment_of m)) (array_rows s xs (within s (graded_kind s c.requires.within grading)))
    ∙ ap eight_bytes (sym (closing_graded s xs grading))
