-- Two rows of counts have equal sequences exactly if they are equal.
-- Assumes nothing.
use mathlib.Core.Path.{◌≡◌, ◌∙◌, refl, sym, ap, subst}
use mathlib.Core.Logic.{⊎_elim}
use mathlib.Core.List.{List}
use Prim.Native.Nat.{ℕ, zero, suc, ◌≤◌, ◌<◌}
use native.Mathlib.Omega.{arith}
use lib.ListN.{length}
use lib.Seq.{ext_get_or}
use Rattle.basics.specs.Lists.{sum}
use Rattle.basics.proofs.Cases.{below_or_not}
use Rattle.rule_judgment.proofs.RunningSums.{running_next, running_most}
use Rattle.rule_judgment.specs.Judgment.{sequence_of}
use Rattle.rule_judgment.specs.Theorems.{EqualSequences}
use Rattle.rule_judgment.proofs.Statements.{running}
use Rattle.rule_judgment.proofs.Positions.{grade_at, grade_below, grade_not_below}
use Rattle.rule_judgment.proofs.Outward.{down, turn, turn_within, position_turn}
use Rattle.rule_judgment.proofs.SumRule.{struck_grade, outward_of}

-- functions with equal lists of values agree from 1 to n
down_each : (n : ℕ) (f g : ℕ → ℕ) → down n f ≡ down n g → (m : ℕ) → 0 < m → m ≤ n → f m ≡ g m
unfolding down
down_each zero f g e m z l = absurd (omega arith)
down_each (suc n) f g e m z l =
    let here : f (suc n) ≡ g (suc n) = cc in
    let rest : down n f ≡ down n g = cc in
    ⊎_elim (λ h. down_each n f g rest m z (omega arith))
    (λ h. subst (λ (x : ℕ). f x ≡ g x) {x = suc n} {y = m} (omega arith) here) (below_or_not m (suc n))

-- equal grades at all positions give equal running sums
not_more : (n : ℕ) (a b : List ℕ) → sum a ≡ n → sum b ≡ n → ((p : ℕ) → 0 < p → p ≤ n → grade_at a p ≡ grade_at b p)
    → (t : ℕ) → running b t ≤ running a t
not_more n a b ea eb same t = ⊎_elim more (λ l. l) (below_or_not (running a t) (running b t))
  where
    p : ℕ
    p = running b t

    more : running a t < running b t → running b t ≤ running a t
    more l =
        let h : running b t ≤ sum b = running_most b t in
        absurd (omega (
          arith,
          grade_below b p (omega arith) h t (omega arith),
          grade_not_below a p (omega arith) (omega arith) t l,
          same p (omega arith) (omega arith),
        ))

same_rows : (a b : List ℕ) → length a ≡ length b → sum a ≡ sum b → sequence_of a ≡ sequence_of b → a ≡ b
same_rows a b el es e = ext_get_or 0 a b el (λ g l. omega (arith, equal g, equal (suc g), running_next a g, running_next b g))
  where
    n : ℕ
    n = sum b

    each : (p : ℕ) → 0 < p → p ≤ n → grade_at a p ≡ grade_at b p
    each p z l =
        let w = turn_within n p z l in
        subst (λ (q : ℕ). grade_at a q ≡ grade_at b q) (position_turn n p z l)
        (down_each n (struck_grade n a) (struck_grade n b) (sym (outward_of n a es) ∙ e ∙ outward_of n b refl) (turn n p) w.0 w.1)

    equal : (t : ℕ) → running a t ≡ running b t
    equal t = omega (arith, not_more n a b es refl each t, not_more n b a refl es (λ p z l. sym (each p z l)) t)

pub equal_sequences : EqualSequences
equal_sequences a b el es = (same_rows a b el es, λ e. ap sequence_of e)
