-- The comparison of two candidates: its answer on each path through the code, and that the answer says whose
-- sequence comes first.
-- Assumes nothing.
use mathlib.Core.Path.{◌≡◌, ◌∙◌, sym}
use mathlib.Core.Bool.{Bool, false}
use mathlib.Core.Logic.{⊎_elim}
use mathlib.Core.List.{List}
use Prim.Native.Nat.{ℕ, ◌+◌, ◌*◌, ◌≤◌, ◌<◌}
use native.Mathlib.Omega.{arith}
use lib.Dec.{leb, ltb}
use borrow.Author.Tests.{lt-ltb, le-ltb, le-leb, lt-leb}
use Rattle.basics.proofs.Cases.{below_or_not}
use Rattle.basics.proofs.Flags.{never_true}
use Rattle.rule_judgment.specs.declared.rule.Sums.{Sums}
use Rattle.rule_judgment.specs.Judgment.{sequence_of, precedes}
use Rattle.rule_judgment.specs.inner.Decision.{half_reached, decided_by}
use Rattle.rule_judgment.proofs.Statements.{running, Precedes, Alike, Bracket, TwoDecide}
use Rattle.rule_judgment.proofs.SumRule.{alike_back}
use Rattle.rule_judgment.proofs.Thresholds.{bracket_back, bracket_decides}
use Rattle.rule_judgment.proofs.Order.{precedes_one_way, precedes_self}

module _ (n : ℕ) (sums : Sums) where
  pub half_first : n ≤ 2 * sums.a → leb n (2 * sums.a) ≡ half_reached n sums
  unfolding half_reached
  half_first h = simp (le-leb n (2 * sums.a) h)

  pub half_second : 2 * sums.a < n → leb n (2 * sums.b) ≡ half_reached n sums
  unfolding half_reached
  half_second h = simp (lt-leb n (2 * sums.a) h)

module _ (n : ℕ) (lower upper : Sums) where
  -- a is larger at the lower difference
  pub first_not_smaller : lower.b < lower.a → upper.b ≤ upper.a → leb upper.b upper.a ≡ decided_by n lower upper
  unfolding decided_by
  first_not_smaller l u = simp (lt-ltb lower.b lower.a l, le-leb upper.b upper.a u)

  pub first_smaller : lower.b < lower.a → upper.a < upper.b → leb n (lower.a + upper.a) ≡ decided_by n lower upper
  unfolding decided_by
  first_smaller l u = simp (lt-ltb lower.b lower.a l, lt-leb upper.b upper.a u)

  -- b is larger at the lower difference
  pub second_smaller : lower.a < lower.b → upper.b < upper.a → ltb (lower.b + upper.b) n ≡ decided_by n lower upper
  unfolding decided_by
  second_smaller l u = simp (le-ltb lower.b lower.a (omega arith), lt-ltb lower.a lower.b l, lt-ltb upper.b upper.a u)

  pub second_not_smaller : lower.a < lower.b → upper.a ≤ upper.b → ltb upper.b upper.a ≡ decided_by n lower upper
  unfolding decided_by
  second_not_smaller l u = simp (le-ltb lower.b lower.a (omega arith), lt-ltb lower.a lower.b l, le-ltb upper.b upper.a u)

  -- the sums are equal at the lower difference
  pub neither_larger : lower.a ≤ lower.b → lower.b ≤ lower.a → ltb upper.b upper.a ≡ decided_by n lower upper
  unfolding decided_by
  neither_larger l u = simp (le-ltb lower.b lower.a l, le-ltb lower.a lower.b u)

-- the running sums of two rows at threshold t
pub record At (a b : List ℕ) (t : ℕ) (sums : Sums) : Type 0 where
  pub first : sums.a ≡ running a t
  pub second : sums.b ≡ running b t

module _ (n : ℕ) (a b : List ℕ) (al : Alike n a b) where
  abbrev before : Bool
  before = precedes (sequence_of a) (sequence_of b)

  is_later : Precedes b a → before ≡ false
  is_later p = precedes_one_way (sequence_of b) (sequence_of a) p

  is_equal : sequence_of a ≡ sequence_of b → before ≡ false
  is_equal e = never_true before (λ p. precedes_self (sequence_of b) (rw e at p))

  module _ (low up : ℕ) (near : Bracket n a b low up) (lower upper : Sums) (l : At a b low lower) (u : At a b up upper) where
    forth : TwoDecide n a b low up
    forth = bracket_decides n a b al low up near

    back : TwoDecide n b a low up
    back = bracket_decides n b a (alike_back n a b al) low up (bracket_back n a b low up near)

    first_larger : lower.b < lower.a → decided_by n lower upper ≡ before
    first_larger h =
        let hl : running b low < running a low = omega (arith, l.first, l.second) in
        ⊎_elim
        (λ k. sym (first_smaller n lower upper h k) ∙ ⊎_elim
        (λ m. lt-leb n (lower.a + upper.a) m
        ∙ sym (is_later (forth.upper_wins hl (omega (arith, u.first, u.second))
        (omega (arith, l.first, u.first)))))
        (λ m. le-leb n (lower.a + upper.a) m
        ∙ sym (forth.lower_wins hl (omega (arith, u.first, u.second)) (omega (arith, l.first, u.first))))
        (below_or_not (lower.a + upper.a) n))
        (λ k. sym (first_not_smaller n lower upper h k) ∙ le-leb upper.b upper.a k
        ∙ sym (forth.at_lower hl (omega (arith, u.first, u.second))))
        (below_or_not upper.a upper.b)

    second_larger : lower.a < lower.b → decided_by n lower upper ≡ before
    second_larger h =
        let hl : running a low < running b low = omega (arith, l.first, l.second) in
        ⊎_elim
        (λ k. sym (second_smaller n lower upper h k) ∙ ⊎_elim
        (λ m. lt-ltb (lower.b + upper.b) n m
        ∙ sym (back.upper_wins hl (omega (arith, u.first, u.second)) (omega (arith, l.second, u.second))))
        (λ m. le-ltb (lower.b + upper.b) n m
        ∙ sym (is_later (back.lower_wins hl (omega (arith, u.first, u.second))
        (omega (arith, l.second, u.second)))))
        (below_or_not (lower.b + upper.b) n))
        (λ k. sym (second_not_smaller n lower upper h k) ∙ le-ltb upper.b upper.a k
        ∙ sym (is_later (back.at_lower hl (omega (arith, u.first, u.second)))))
        (below_or_not upper.b upper.a)

    none_larger : lower.a ≤ lower.b → lower.b ≤ lower.a → decided_by n lower upper ≡ before
    none_larger h k =
        let hl : running a low ≡ running b low = omega (arith, l.first, l.second) in
        sym (neither_larger n lower upper h k)
        ∙ ⊎_elim (λ m. lt-ltb upper.b upper.a m ∙ sym (forth.at_upper (omega (arith, u.first, u.second)) (omega arith)))
        (λ m. le-ltb upper.b upper.a m ∙ ⊎_elim
        (λ j. sym (is_later (back.at_upper (omega (arith, u.first, u.second)) (omega arith))))
        (λ j. sym (is_equal (forth.equal hl (omega (arith, u.first, u.second))))) (below_or_not upper.a upper.b))
        (below_or_not upper.b upper.a)

    -- the answer is whether a comes before b
    pub decided_right : decided_by n lower upper ≡ before
    decided_right = ⊎_elim first_larger
        (λ h. ⊎_elim second_larger (λ k. none_larger h k) (below_or_not lower.a lower.b))
        (below_or_not lower.b lower.a)
