-- Which of two sequences comes first, from running sums only: the sum rule.
-- Assumes nothing.
use mathlib.Core.Path.{◌≡◌, ◌∙◌, sym, subst, subst₂}
use mathlib.Core.Bool.{true}
use mathlib.Core.Logic.{⊎_elim}
use mathlib.Core.List.{List}
use Prim.Native.Nat.{ℕ, suc, ◌≤◌, ◌<◌}
use native.Mathlib.Omega.{arith}
use Rattle.basics.specs.Lists.{sum}
use Rattle.basics.proofs.Cases.{below_or_not}
use Rattle.rule_judgment.proofs.RunningSums.{running_grows, running_most}
use Rattle.rule_judgment.specs.Judgment.{sequence_of, precedes}
use Rattle.rule_judgment.proofs.Statements.{running, Precedes, Alike, Decides, SumRule, HalfRule}
use Rattle.rule_judgment.proofs.Positions.{grade_at, grade_at_lem, grade_one, grade_below, grade_not_below, grade_reached, grade_passed}
use Rattle.rule_judgment.proofs.Outward.{down, position, turn, outward, position_within, turn_position, turn_within, position_turn, lower_first, higher_first}
use Rattle.rule_judgment.proofs.Order.{Ahead, first_better, FirstBetter, down_same}

-- the grade that is struck when `left` of n are left
abbrev pub struck_grade : ℕ → List ℕ → ℕ → ℕ
struck_grade n row left = grade_at row (position n left)

pub outward_of : (n : ℕ) (row : List ℕ) → sum row ≡ n → sequence_of row ≡ down n (struck_grade n row)
outward_of n row e = subst (λ (m : ℕ). sequence_of row ≡ down m (struck_grade m row)) e (outward row)

-- the two rows exchanged
pub alike_back : (n : ℕ) (a b : List ℕ) → Alike n a b → Alike n b a
alike_back n a b al = record { sum_a = al.sum_b; sum_b = al.sum_a }

module _ (n : ℕ) (a b : List ℕ) (al : Alike n a b) where
  -- at a position that a's running sum reaches and b's does not, a has the better grade
  better_at : (i q : ℕ) → running b i < q → q ≤ running a i → grade_at a q < grade_at b q
  better_at i q l h =
      let inside : q ≤ n = omega (arith, running_most a i, al.sum_a) in
      omega (
        arith,
        grade_below a q (omega arith) (omega (arith, al.sum_a)) i h,
        grade_not_below b q (omega arith) (omega (arith, al.sum_b)) i l,
      )

  -- so a is already ahead at every later strike
  ahead_at : (i q m : ℕ) → running b i < q → q ≤ running a i → m < turn n q → Ahead (struck_grade n a) (struck_grade n b) m n
  ahead_at i q m l h t =
      let inside : q ≤ n = omega (arith, running_most a i, al.sum_a) in
      record {
        at = turn n q;
        past = t;
        within = (turn_within n q (omega arith) inside).1;
        better = subst (λ (p : ℕ). grade_at a p < grade_at b p) (sym (position_turn n q (omega arith) inside)) (better_at i q l h);
      }

  -- if b is better at strike m, a was better at an earlier strike
  ahead_before : (i : ℕ) → Decides n a b i → (m : ℕ) → 0 < m → m ≤ n → struck_grade n b m < struck_grade n a m
      → Ahead (struck_grade n a) (struck_grade n b) m n
  ahead_before i d m z h worse =
      ⊎_elim
      (λ l.
      let grows : running a i ≤ running a j = running_grows a i j (omega arith) in
      ahead_at i (running a i) m d.larger (omega arith)
      (subst (λ (x : ℕ). x < turn n (running a i)) (turn_position n m z h)
      (lower_first n (running a i) p (omega (arith, passed)) within.1 (omega (arith, passed, d.above j l differs)))))
      (λ l. ⊎_elim
      (λ k.
      let grows : running b j ≤ running b i = running_grows b j i (omega arith) in
      let room : running a i ≤ n = omega (arith, running_most a i, al.sum_a) in
      let larger : running b i < running a i = d.larger in
      ahead_at i (suc (running b i)) m (omega arith) larger
      (subst (λ (x : ℕ). x < turn n (suc (running b i))) (turn_position n m z h)
      (higher_first n p (suc (running b i)) within.0 (omega (arith, reached)) (omega arith)
      (omega (arith, reached, d.below j k differs)))))
      (λ k. let e : i ≡ j = omega arith in
      let larger : running b j < running a j = subst (λ (x : ℕ). running b x < running a x) e d.larger in
      absurd (omega (arith, differs))) (below_or_not j i)) (below_or_not i j)
    where
      p : ℕ
      p = position n m

      within : (0 < p) × (p ≤ n)
      within = position_within n m z h

      j : ℕ
      j = suc (grade_at b p)

      reached : p ≤ running b j
      reached = grade_reached b p within.0 (omega (arith, within.1, al.sum_b)) j (omega arith)

      passed : running a j < p
      passed = grade_passed a p within.0 (omega (arith, within.1, al.sum_a)) j worse

      differs : running a j < running b j
      differs = omega (arith, passed, reached)

  by_outward : precedes (down n (struck_grade n a)) (down n (struck_grade n b)) ≡ true → Precedes a b
  by_outward h = subst₂ (λ (x y : List ℕ). precedes x y ≡ true) (sym (outward_of n a al.sum_a)) (sym (outward_of n b al.sum_b)) h

pub sum_rule : SumRule
sum_rule n a b al i d =
    let larger : running b i < running a i = d.larger in
    by_outward n a b al
    (first_better n (struck_grade n a) (struck_grade n b)
    (ahead_at n a b al i (running a i) 0 larger (omega arith)
    (turn_within n (running a i) (omega arith) (omega (arith, running_most a i, al.sum_a))).0)
    (ahead_before n a b al i d))

-- the converse: the grade at the first difference gives the threshold
module _ (n : ℕ) (a b : List ℕ) (al : Alike n a b) (d : FirstBetter (struck_grade n a) (struck_grade n b) n) where
  abbrev p : ℕ
  p = position n d.at

  abbrev i : ℕ
  i = suc (grade_at a p)

pub half_rule : HalfRule
half_rule n a b al t h l = sum_rule n a b al t (record {
  larger = omega arith;
  above = λ j m differs. omega (arith, running_grows a t j (omega arith));
  below = λ j m differs. omega (arith, running_grows b j t (omega arith));
})

module _ (n : ℕ) (a b : List ℕ) (al : Alike n a b) where
  same_grade : ((t : ℕ) → running a t ≡ running b t) → (p : ℕ) → 0 < p → p ≤ n → grade_at a p ≡ grade_at b p
  same_grade h p z l =
      let ha : p ≤ sum a = omega (arith, al.sum_a) in
      let hb : p ≤ sum b = omega (arith, al.sum_b) in
      let ga = grade_at_lem a p z ha in
      grade_one b p (grade_at a p) (grade_at b p)
      (record { passed = omega (arith, ga.passed, h (grade_at a p)); reached = omega (arith, ga.reached, h (suc (grade_at a p))) })
      (grade_at_lem b p z hb)

  -- rows with equal running sums have equal sequences
  pub same_sequence : ((t : ℕ) → running a t ≡ running b t) → sequence_of a ≡ sequence_of b
  same_sequence h =
      outward_of n a al.sum_a
      ∙ down_same n (struck_grade n a) (struck_grade n b)
      (λ m z l. let w = position_within n m z l in same_grade h (position n m) w.0 w.1)
      ∙ sym (outward_of n b al.sum_b)
