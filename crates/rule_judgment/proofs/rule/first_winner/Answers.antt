-- `rule_judgment::rule::first_winner` meets its contract: none of the candidates seen so far precedes the one kept.
-- Assumes nothing.
use mathlib.Core.Path.{◌≡◌, ◌∙◌, sym, ap, subst}
use mathlib.Core.List.{List, []}
use Prim.Native.Nat.{ℕ, ◌+◌, ◌<◌}
use native.Mathlib.Omega.{arith}
use lib.ListN.{length, get_or, take}
use Rattle.basics.specs.Lists.{sum}
use Rattle.jury.specs.inner.Counts.{rows_in}
use Rattle.jury.proofs.Rows.{rows_length, row_at}
use Rattle.rule_judgment.specs.Judgment.{sequence_of, precedes}
use Rattle.rule_judgment.specs.inner.Ready.{FirstReady, SumsReady}
use Rattle.rule_judgment.proofs.Leading.{Leads, leads_start, leads_next, leads_still}
use Rattle.rule_judgment.proofs.Winners.{byte_one}
use Rattle.rule_judgment.proofs.rule.first_winner.Goals.{then-comes_before, else-comes_before}
use Rattle.rule_judgment.proofs.rule.first_winner.Goals as goal

module _ (k d n : ℕ) (counts : List (List ℕ)) (p : FirstReady counts k d n) where
  abbrev rows : List (List ℕ)
  rows = rows_in k d counts

  rows_are : length rows ≡ k
  rows_are = rows_length k d counts (omega (arith, p.eight, p.few_candidates))

  -- each row has n grades
  row_sum : (i : ℕ) → i < k → sum (take d (get_or counts i [])) ≡ n
  row_sum i l = ap sum (sym (row_at k d counts i l)) ∙ p.gets i (omega (arith, rows_are))

  ready : (i j : ℕ) → i < k → j < k → SumsReady counts i j d n
  ready i j hi hj =
      record {
        first_inside = omega (arith, p);
        second_inside = omega (arith, p);
        few_grades = p.few_grades;
        some_ballot = p.some_ballot;
        few_ballots = p.few_ballots;
        first_sum = row_sum i hi;
        second_sum = row_sum j hj;
      }

  -- which of two comes first, in terms of the rows
  as_rows : (i j : ℕ) → i < k → j < k → precedes (sequence_of (take d (get_or counts i []))) (sequence_of (take d (get_or counts j [])))
      ≡ precedes (sequence_of (get_or rows i [])) (sequence_of (get_or rows j []))
  as_rows i j hi hj = sym (rw (row_at k d counts i hi, row_at k d counts j hj))

pub loop-c-init : goal.loop-c-init
loop-c-init c = let x = c.args in
    (omega arith, leads_start (rows_in x.shape.candidates x.shape.grades x.counts.now))

pub comes_before-requires : goal.comes_before-requires
comes_before-requires c = ready _ _ _ _ c.requires c.loop-c.c c.loop-c.first (omega arith) c.loop-c.invariant.0

pub loop-c-preserved : goal.loop-c-preserved
loop-c-preserved c = let x = c.args in
    let i = c.loop-c.first in
    let m = c.loop-c.c in
    let all = rows_in x.shape.candidates x.shape.grades x.counts.now in
    let told = c.comes_before.ensures ∙ as_rows _ _ _ _ c.requires m i (omega arith) c.loop-c.invariant.0 in (
      elim c.if-comes_before.branch [
        | then-comes_before w ↦ omega (arith, w.first-is)
        | else-comes_before w ↦ omega (arith, w.first-is, c.loop-c.invariant.0)
      ],
      elim c.if-comes_before.branch [
        | then-comes_before w ↦ subst (λ (f : ℕ). Leads all f (m + 1)) (sym w.first-is)
            (leads_next all i m c.loop-c.invariant.1 (sym told ∙ w.if-comes_before.true))
        | else-comes_before w ↦ subst (λ (f : ℕ). Leads all f (m + 1)) (sym w.first-is)
            (leads_still all i m c.loop-c.invariant.1 (sym told ∙ w.if-comes_before.false))
      ],
    )

pub returns : goal.returns
returns c = let x = c.args in
    let size = rows_are _ _ _ _ c.requires in
    record {
      inside = c.loop-c.invariant.0;
      byte = byte_one (rows_in x.shape.candidates x.shape.grades x.counts.now) c.loop-c.first (omega arith)
          (λ j l. c.loop-c.invariant.1 j (omega arith));
    }
