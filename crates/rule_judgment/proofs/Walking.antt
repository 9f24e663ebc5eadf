-- The loop over the running sums of two rows, best grade first, up to the first difference from half on.
-- Assumes nothing.
use mathlib.Core.Path.{◌≡◌, ◌∙◌, sym, subst}
use mathlib.Core.Bool.{true, false, ◌||◌}
use mathlib.Core.Logic.{inl, inr, ⊎_elim, ◌≢◌}
use mathlib.Core.List.{List}
use Prim.Native.Nat.{ℕ, suc, ◌+◌, ◌*◌, ◌≤◌, ◌<◌}
use native.Mathlib.Omega.{arith}
use lib.Dec.{leb, ltb}
use lib.ListN.{length, get_or, take}
use lib.Seq.{get_or-take}
use borrow.Author.Tests.{leb-true, leb-false, lt-ltb, le-ltb, le-leb}
use Rattle.basics.specs.Lists.{sum}
use Rattle.basics.proofs.Cases.{below_or_not}
use Rattle.basics.proofs.Flags.{or_either, or_first, or_second, never_true}
use Rattle.rule_judgment.proofs.RunningSums.{running_start, running_next, running_whole, running_most}
use Rattle.rule_judgment.specs.declared.rule.Sums.{Sums}
use Rattle.rule_judgment.specs.Judgment.{sequence_of, precedes}
use Rattle.rule_judgment.specs.inner.Decision.{half_reached, decided_by}
use Rattle.rule_judgment.proofs.Statements.{running, Alike, Bracket}
use Rattle.rule_judgment.proofs.Deciding.{At, decided_right, neither_larger, first_not_smaller, second_not_smaller}

-- after the first g grades: `lower` has the sums at the last difference, which is below half, and `sums` has the
-- sums so far
pub record Walk (n : ℕ) (a b : List ℕ) (lower sums : Sums) (g : ℕ) : Type 0 where
  pub low : ℕ
  pub lower_at : At a b low lower
  pub sums_at : At a b g sums
  pub low_most : low ≤ g
  pub below_a : 2 * running a low < n
  pub below_b : 2 * running b low < n
  pub differs : 0 < low → running a low ≢ running b low
  pub since : (t : ℕ) → low < t → t ≤ g → running a t ≡ running b t

module _ (n : ℕ) (a b : List ℕ) (al : Alike n a b) where
  pub walk_start : 0 < n → (lower sums : Sums) → lower.a ≡ 0 → lower.b ≡ 0 → sums.a ≡ 0 → sums.b ≡ 0 → Walk n a b lower sums 0
  walk_start z lower sums la lb sa sb =
      let ra = running_start a in
      let rb = running_start b in
      record {
        low = 0;
        lower_at = record { first = la ∙ sym ra; second = lb ∙ sym rb };
        sums_at = record { first = sa ∙ sym ra; second = sb ∙ sym rb };
        low_most = omega arith;
        below_a = omega arith;
        below_b = omega arith;
        differs = λ l. absurd (omega arith);
        since = λ t l h. absurd (omega arith);
      }

  -- the sums in `lower` are at most n
  pub walk_most : (lower sums : Sums) (g : ℕ) → Walk n a b lower sums g → (lower.a ≤ n) × (lower.b ≤ n)
  walk_most lower sums g w = (omega (arith, w.lower_at.first, w.below_a), omega (arith, w.lower_at.second, w.below_b))

  module _ (lower sums next : Sums) (g : ℕ) (w : Walk n a b lower sums g) (s : At a b (suc g) next) where
    -- if the sums are equal at the next grade, `lower` stays
    pub walk_equal : next.a ≡ next.b → Walk n a b lower next (suc g)
    walk_equal e = record {
      low = w.low;
      lower_at = w.lower_at;
      sums_at = s;
      low_most = omega (arith, w.low_most);
      below_a = w.below_a;
      below_b = w.below_b;
      differs = w.differs;
      since = λ t l h. ⊎_elim (λ k. w.since t l (omega arith))
          (λ k. subst (λ (x : ℕ). running a x ≡ running b x) {x = suc g} {y = t} (omega arith)
          (sym s.first ∙ e ∙ s.second)) (below_or_not t (suc g));
    }

    -- a difference below half becomes the new `lower`
    pub walk_differs : next.a ≢ next.b → half_reached n next ≡ false → Walk n a b next next (suc g)
    unfolding half_reached
    walk_differs ne h = record {
      low = suc g;
      lower_at = s;
      sums_at = s;
      low_most = omega arith;
      below_a = omega (arith, s.first, under next.a (λ e. or_first (leb n (2 * next.a)) (leb n (2 * next.b)) e));
      below_b = omega (arith, s.second, under next.b (λ e. or_second (leb n (2 * next.a)) (leb n (2 * next.b)) e));
      differs = λ l e. ne (s.first ∙ e ∙ sym s.second);
      since = λ t l k. absurd (omega arith);
    }
      where
        under : (x : ℕ) → (leb n (2 * x) ≡ true → (leb n (2 * next.a) || leb n (2 * next.b)) ≡ true) → 2 * x < n
        under x f = leb-false n (2 * x)
            (never_true (leb n (2 * x)) (λ e. let z : true ≡ false = sym (f e) ∙ h in let o : ◌≡◌ {A = ℕ} 0 1 =
            cc in omega arith))

    -- the first difference from half on decides
    pub walk_decides : next.a ≢ next.b → half_reached n next ≡ true → decided_by n lower next ≡ precedes (sequence_of a) (sequence_of b)
    unfolding half_reached
    walk_decides ne h = decided_right n a b al w.low (suc g) near lower next w.lower_at s
      where
        near : Bracket n a b w.low (suc g)
        near = record {
          between = λ t l k. w.since t l (omega arith);
          lower_half = λ t l d. (inl w.below_a, w.differs (omega arith));
          upper_half = λ t l d. (
            ⊎_elim (λ e. inl (omega (arith, s.first, leb-true n (2 * next.a) e)))
                (λ e. inr (omega (arith, s.second, leb-true n (2 * next.b) e)))
                (or_either (leb n (2 * next.a)) (leb n (2 * next.b)) h),
            λ e. ne (s.first ∙ e ∙ sym s.second),
          );
        }

  -- if there is no difference from half on, the last one below half decides
  pub walk_ends : (lower sums : Sums) (g : ℕ) → Walk n a b lower sums g → length a ≤ g → length b ≤ g
      → ltb lower.b lower.a ≡ precedes (sequence_of a) (sequence_of b)
  walk_ends lower sums g w la lb = answer ∙ decided_right n a b al w.low g near lower sums w.lower_at w.sums_at
    where
      whole : (t : ℕ) → g ≤ t → running a t ≡ running b t
      whole t l = running_whole a t (omega arith) ∙ al.sum_a ∙ sym al.sum_b ∙ sym (running_whole b t (omega arith))

      near : Bracket n a b w.low g
      near = record {
        between = λ t l k. w.since t l (omega arith);
        lower_half = λ t l d. (inl w.below_a, w.differs (omega arith));
        upper_half = λ t l d. absurd (d (whole t (omega arith)));
      }

      same : sums.a ≡ sums.b
      same = w.sums_at.first ∙ whole g (omega arith) ∙ sym w.sums_at.second

      answer : ltb lower.b lower.a ≡ decided_by n lower sums
      answer =
          ⊎_elim
          (λ l. lt-ltb lower.b lower.a l ∙ sym (le-leb sums.b sums.a (omega (arith, same)))
          ∙ first_not_smaller n lower sums l (omega (arith, same)))
          (λ l. le-ltb lower.b lower.a l ∙ sym (le-ltb sums.b sums.a (omega (arith, same))) ∙ ⊎_elim
          (λ k. second_not_smaller n lower sums k (omega (arith, same)))
          (λ k. neither_larger n lower sums l k) (below_or_not lower.a lower.b))
          (below_or_not lower.b lower.a)

-- the sums after one more grade
pub sums_next : (a b : List ℕ) (d g : ℕ) (sums next : Sums) → g < d → At (take d a) (take d b) g sums
    → next.a ≡ sums.a + get_or a g 0 → next.b ≡ sums.b + get_or b g 0 → At (take d a) (take d b) (suc g) next
sums_next a b d g sums next l s ea eb = record {
  first = omega (arith, s.first, running_next (take d a) g, get_or-take d a g 0 l);
  second = omega (arith, s.second, running_next (take d b) g, get_or-take d b g 0 l);
}

-- each is at most the number of grades
pub sum_room : (row : List ℕ) (d g s : ℕ) → g < d → s ≡ running (take d row) g → s + get_or row g 0 ≤ sum (take d row)
sum_room row d g s l e = omega (arith, running_next (take d row) g, get_or-take d row g 0 l, running_most (take d row) (suc g))
