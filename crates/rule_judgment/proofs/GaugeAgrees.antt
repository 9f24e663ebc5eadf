-- A candidate that beats another by the gauge has the earlier sequence, so the gauge's winner is the only winner.
-- Assumes nothing.
use mathlib.Core.Path.{◌≡◌, ◌∙◌}
use mathlib.Core.Bool.{true, false}
use mathlib.Core.Logic.{⊎_elim, ◌≢◌}
use mathlib.Core.List.{List, []}
use Prim.Native.Nat.{ℕ, suc, ◌+◌, ◌*◌, ◌≤◌, ◌<◌}
use native.Mathlib.Omega.{arith}
use lib.ListN.{length, get_or, get_or-eq_default}
use Rattle.basics.specs.Lists.{sum}
use Rattle.rule_judgment.specs.Median.{median_of}
use Rattle.rule_judgment.specs.Gauge.{p_of, q_of, beats, closing_of}
use Rattle.basics.proofs.Cases.{below_or_not, same_or_not}
use Rattle.basics.proofs.Flags.{never_true}
use Rattle.rule_judgment.proofs.RunningSums.{running_grows, p_is, q_is}
use Rattle.rule_judgment.specs.GaugeWinner.{Beats}
use Rattle.rule_judgment.proofs.GaugeConditions.{beats_iff}
use Rattle.rule_judgment.specs.GaugeWinner.Beats.{by_better_median, by_stronger_median, by_larger_p, by_smaller_q}
use Rattle.rule_judgment.proofs.GaugeClosing.{closing_length, closing_one}
use Rattle.rule_judgment.specs.Judgment.{sequence_of, precedes, judgment_of}
use Rattle.rule_judgment.specs.Theorems.{EachGets}
use Rattle.rule_judgment.proofs.Statements.{running, Precedes, Alike}
use Rattle.rule_judgment.proofs.Positions.{median_at}
use Rattle.rule_judgment.proofs.SumRule.{sum_rule, half_rule}
use Rattle.rule_judgment.proofs.Order.{precedes_one_way, precedes_self}
use Rattle.rule_judgment.proofs.Winners.{byte_one, byte_zero}

module _ (n : ℕ) (a b : List ℕ) (al : Alike n a b) (some : 0 < n) where
  -- p and q of a row, from its running sums at its median m
  record Halves (row : List ℕ) (m : ℕ) : Type 0 where
    passed : 2 * running row m < n
    reached : n ≤ 2 * running row (suc m)
    p_is_running : p_of row ≡ running row m
    q_is_rest : running row (suc m) + q_of row ≡ n

  halves : (row : List ℕ) → sum row ≡ n → Halves row (median_of row)
  halves row e =
      let med = median_at row (omega arith) in
      record {
        passed = omega (arith, med.passed);
        reached = omega (arith, med.reached);
        p_is_running = p_is row;
        q_is_rest = q_is row (omega (arith, med.inside)) ∙ e;
      }

  -- a larger p decides if a has p above q
  by_p : (m : ℕ) → Halves a m → Halves b m → q_of a < p_of a → p_of b < p_of a → Precedes a b
  by_p m ha hb above larger = sum_rule n a b al m (record {
    larger = omega (arith, ha.p_is_running, hb.p_is_running);
    above = λ j l differs. omega (arith, ha.p_is_running, ha.q_is_rest, running_grows a (suc m) j l);
    below = λ j l differs. omega (arith, hb.passed, running_grows b j m (omega arith));
  })

  -- a smaller q decides if b has p below q
  by_q : (m : ℕ) → Halves a m → Halves b m → p_of b < q_of b → q_of a < q_of b → Precedes a b
  by_q m ha hb below smaller = sum_rule n a b al (suc m) (record {
    larger = omega (arith, ha.q_is_rest, hb.q_is_rest);
    above = λ j l differs. omega (arith, ha.reached, running_grows a (suc m) j (omega arith));
    below = λ j l differs. omega (arith, hb.p_is_running, hb.q_is_rest, running_grows b j m (omega arith));
  })

  halves_at : median_of a ≡ median_of b → Halves b (median_of a)
  halves_at e = rw e (halves b al.sum_b)

  beaten_later : Beats a b → Precedes a b
  beaten_later (by_better_median l) =
      let ma = median_at a (omega (arith, al.sum_a)) in
      let mb = median_at b (omega (arith, al.sum_b)) in
      half_rule n a b al (suc (median_of a)) (omega (arith, ma.reached, al.sum_a))
      (omega (arith, mb.passed, al.sum_b, running_grows b (suc (median_of a)) (median_of b) l))
  beaten_later (by_stronger_median m l₁ l₂) =
      let ha = halves a al.sum_a in
      let hb = halves_at m in
      ⊎_elim (λ l. by_p (median_of a) ha hb l₁ l) (λ l. by_q (median_of a) ha hb l₂ (omega arith)) (below_or_not (p_of b) (p_of a))
  beaten_later (by_larger_p m l₁ l₂ l₃) = by_p (median_of a) (halves a al.sum_a) (halves_at m) l₁ l₃
  beaten_later (by_smaller_q m l₁ l₂ l₃) = by_q (median_of a) (halves a al.sum_a) (halves_at m) l₂ l₃

  pub beats_precedes : beats a b ≡ true → Precedes a b
  beats_precedes e = beaten_later ((beats_iff a b).0 e)

module _ (n : ℕ) (rows : List (List ℕ)) (some : 1 ≤ n) (each : EachGets n rows) (i : ℕ) (wins : get_or (closing_of rows) i 0 ≡ 1) where
  row_at : i < length rows
  row_at =
      ⊎_elim (λ l. l)
      (λ l. let z : get_or (closing_of rows) i 0 ≡ 0 =
      get_or-eq_default (closing_of rows) 0 {n = i} (omega (arith, closing_length rows)) in absurd (omega arith))
      (below_or_not i (length rows))

  -- the winner's sequence comes before each other one
  winner_first : (j : ℕ) → j < length rows → j ≢ i → Precedes (get_or rows i []) (get_or rows j [])
  winner_first j l ne =
      beats_precedes n (get_or rows i []) (get_or rows j []) (record { sum_a = each i row_at; sum_b = each j l }) some
      ((closing_one rows i row_at).0 wins j l ne)

  pub winner_wins : get_or (judgment_of rows) i 0 ≡ 1
  winner_wins = byte_one rows i row_at
      (λ j l. ⊎_elim (λ e. same j e)
      (λ ne. precedes_one_way own (sequence_of (get_or rows j [])) (winner_first j l ne)) (same_or_not j i))
    where
      own : List ℕ
      own = sequence_of (get_or rows i [])

      same : (j : ℕ) → j ≡ i → precedes (sequence_of (get_or rows j [])) own ≡ false
      same j e = rw e (never_true (precedes own own) (precedes_self own))

  pub other_loses : (j : ℕ) → j < length rows → j ≢ i → get_or (judgment_of rows) j 0 ≡ 0
  other_loses j l ne = byte_zero rows j l i row_at (winner_first j l ne)
