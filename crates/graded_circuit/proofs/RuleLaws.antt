-- Full majority judgment orders candidates as the circuit needs it.
-- Assumes nothing.
use mathlib.Core.Path.{◌≡◌, ◌∙◌, sym, ap, subst}
use mathlib.Core.Bool.{true}
use mathlib.Core.Logic.{⊎_elim}
use mathlib.Core.List.{List}
use Prim.Native.Nat.{ℕ, zero, suc, ◌+◌, ◌-◌, ◌≤◌, ◌<◌}
use native.Mathlib.Omega.{arith}
use lib.ListN.{length}
use lib.Seq.{ext_get_or}
use Rattle.basics.specs.Lists.{sum}
use Rattle.rule_judgment.specs.Median.{median_of}
use Rattle.basics.proofs.Cases.{below_or_not}
use Rattle.rule_judgment.proofs.MedianFacts.{median_passed, median_reached}
use Rattle.rule_judgment.proofs.RunningSums.{running_start, running_next, running_most, running_grows, running_whole, from_median}
use Rattle.rule_judgment.specs.Judgment.{sequence_of, precedes}
use Rattle.rule_judgment.proofs.Statements.{running, Precedes}
use Rattle.rule_judgment.proofs.Order.{precedes_trans}
use Rattle.rule_judgment.proofs.SumRule.{sum_rule}
use Rattle.graded_circuit.proofs.SumLaws.{Sums}
use Rattle.graded_circuit.proofs.TieBreakLaws.{Ahead}
use Rattle.graded_circuit.proofs.MergeLaws.{Same, Rule}

-- A row of d counts that add up to n.
pub record Row (n d : ℕ) (row : List ℕ) : Type 0 where
  pub long : length row ≡ d
  pub total : sum row ≡ n

-- the sum of the counts up to grade g, which is included
abbrev pub up_to : List ℕ → ℕ → ℕ
up_to row g = running row (suc g)

pub row_sums : (n d : ℕ) (row : List ℕ) → 0 < d → Row n d row → Sums n d (up_to row) (median_of row)
row_sums n d row some r =
    let h : 0 < length row = omega (arith, r.long) in
    record {
      passed = λ g l. omega (arith, median_passed row g l, r.total);
      reached = λ g l. omega (arith, from_median row g h l, r.total);
      most = λ g. omega (arith, running_most row (suc g), r.total);
      grows = λ g i l. running_grows row (suc g) (suc i) (omega arith);
      inside = omega (arith, (median_reached row h).0, r.long);
      whole = running_whole row (suc (d - 1)) (omega (arith, r.long)) ∙ r.total;
    }

module _ (n d : ℕ) (some : 0 < d) (a c : List ℕ) (ra : Row n d a) (rc : Row n d c) where
  -- if some grade decides for a, a precedes c
  pub ahead_precedes : Ahead n (d - 1) (up_to a) (up_to c) → Precedes a c
  ahead_precedes h =
      sum_rule n a c (record { sum_a = ra.total; sum_b = rc.total }) (suc h.grade)
      (record { larger = h.decides.larger; above = above; below = below })
    where
      above : (t : ℕ) → suc h.grade < t → running a t < running c t → n ≤ running a (suc h.grade) + running a t
      above zero l m = absurd (omega arith)
      above (suc j) l m = ⊎_elim
          (λ (k : j < d - 1). h.decides.worse_later j k (omega arith) m)
          (λ (k : d - 1 ≤ j). absurd (omega (
            arith,
            running_whole a (suc j) (omega (arith, ra.long)),
            running_whole c (suc j) (omega (arith, rc.long)),
            ra.total,
            rc.total,
          )))
          (below_or_not j (d - 1))

      below : (t : ℕ) → t < suc h.grade → running a t < running c t → running c t + running c (suc h.grade) < n
      below zero l m = absurd (omega (arith, running_start a, running_start c))
      below (suc j) l m = h.decides.better_later j (omega arith) m

  -- rows with the same sums are equal
  pub same_row : ((g : ℕ) → g < d - 1 → up_to a g ≡ up_to c g) → a ≡ c
  same_row same = ext_get_or 0 a c (ra.long ∙ sym rc.long)
      (λ g l. omega (arith, running_next a g, running_next c g, equal g, equal (suc g)))
    where
      equal : (t : ℕ) → running a t ≡ running c t
      equal zero = running_start a ∙ sym (running_start c)
      equal (suc g) = ⊎_elim
          (λ (k : g < d - 1). same g k)
          (λ (k : d - 1 ≤ g). omega (
            arith,
            running_whole a (suc g) (omega (arith, ra.long)),
            running_whole c (suc g) (omega (arith, rc.long)),
            ra.total,
            rc.total,
          ))
          (below_or_not g (d - 1))

module _ (n d k : ℕ) (some : 0 < d) (rows : ℕ → List ℕ) (row_is : (c : ℕ) → c < k → Row n d (rows c)) where
  pub same_sequence : (i j : ℕ) → i < k → j < k → Same (d - 1) (λ c. up_to (rows c)) i j → sequence_of (rows i) ≡ sequence_of (rows j)
  same_sequence i j hi hj s = ap sequence_of (same_row n d some (rows i) (rows j) (row_is i hi) (row_is j hj) s)

  pub judgment_rule : Rule n (d - 1) k (λ c. up_to (rows c)) (λ i j. Precedes (rows i) (rows j))
  judgment_rule =
      record {
        ahead = λ i j hi hj h. ahead_precedes n d some (rows i) (rows j) (row_is i hi) (row_is j hj) h;
        chained = λ h i j hh hi hj x y. precedes_trans (sequence_of (rows h)) (sequence_of (rows i)) (sequence_of (rows j)) x y;
        same_first = λ h i j hh hi hj s x. subst (λ (q : List ℕ). precedes q (sequence_of (rows j)) ≡ true)
            (sym (same_sequence h i hh hi s)) x;
        same_second = λ h i j hh hi hj x s. subst (λ (q : List ℕ). precedes (sequence_of (rows h)) q ≡ true) (same_sequence i j hi hj s) x;
      }
