-- Two thresholds decide between two rows: the nearest differences below half and from half on.
-- Assumes nothing.
use mathlib.Core.Path.{◌≡◌, sym, subst}
use mathlib.Core.Logic.{inl, inr, ⊎_elim, ◌≢◌}
use mathlib.Core.List.{List}
use Prim.Native.Nat.{ℕ, ◌+◌, ◌≤◌, ◌<◌}
use native.Mathlib.Omega.{arith}
use Rattle.basics.proofs.Cases.{below_or_not, same_or_not}
use Rattle.rule_judgment.proofs.RunningSums.{running_grows}
use Rattle.rule_judgment.proofs.Statements.{running, Precedes, Alike, Bracket, TwoDecide}
use Rattle.rule_judgment.proofs.SumRule.{alike_back, sum_rule, same_sequence}

-- the two rows may be exchanged
pub bracket_back : (n : ℕ) (a b : List ℕ) (lower upper : ℕ) → Bracket n a b lower upper → Bracket n b a lower upper
bracket_back n a b lower upper near = record {
  between = λ t l h. sym (near.between t l h);
  lower_half = λ t l ne. let h = near.lower_half t l (λ e. ne (sym e)) in (⊎_elim (λ x. inr x) (λ x. inl x) h.0, λ e. h.1 (sym e));
  upper_half = λ t l ne. let h = near.upper_half t l (λ e. ne (sym e)) in (⊎_elim (λ x. inr x) (λ x. inl x) h.0, λ e. h.1 (sym e));
}

module _ (n : ℕ) (a b : List ℕ) (al : Alike n a b) (lower upper : ℕ) (near : Bracket n a b lower upper) where
  -- a and b do not differ between the two
  outside : (t : ℕ) → running a t ≢ running b t → lower < t → upper ≤ t
  outside t ne l = ⊎_elim (λ h. absurd (ne (near.between t l h))) (λ h. h) (below_or_not t upper)

  -- the lower threshold decides for a if a is larger there and, wherever b is larger above, the two sums of a reach
  -- n
  lower_decides : running b lower < running a lower
      → ((t : ℕ) → upper ≤ t → running a t < running b t → n ≤ running a lower + running a t) → Precedes a b
  lower_decides larger over = sum_rule n a b al lower (record {
    larger = larger;
    above = λ j l differs. over j (outside j (omega arith) l) differs;
    below = λ j l differs. let grows = running_grows b j lower (omega arith) in
        ⊎_elim (λ h. omega arith) (λ h. omega arith) (near.lower_half j l (omega arith)).0;
  })

  -- the upper threshold decides for a if a is larger there and, wherever b is larger below, the two sums of b stay
  -- below n
  upper_decides : running b upper < running a upper
      → ((t : ℕ) → t ≤ lower → running a t < running b t → running b t + running b upper < n) → Precedes a b
  upper_decides larger under = sum_rule n a b al upper (record {
    larger = larger;
    above = λ j l differs. let grows = running_grows a upper j (omega arith) in
        ⊎_elim (λ h. omega arith) (λ h. omega arith) (near.upper_half j l (omega arith)).0;
    below = λ j l differs. under j
        (⊎_elim (λ m. absurd (omega (arith, outside j (omega arith) m))) (λ m. m) (below_or_not lower j)) differs;
  })

  -- rows that are equal at the upper threshold are equal above it
  equal_above : running a upper ≡ running b upper → (t : ℕ) → upper ≤ t → running a t ≡ running b t
  equal_above e t l = ⊎_elim (λ s. s)
      (λ ne. absurd (⊎_elim (λ m. (near.upper_half t m ne).1 e)
      (λ m. ne (subst (λ (x : ℕ). running a x ≡ running b x) {x = upper} {y = t} (omega arith) e))
      (below_or_not upper t))) (same_or_not (running a t) (running b t))

  equal_below : running a lower ≡ running b lower → (t : ℕ) → t ≤ lower → running a t ≡ running b t
  equal_below e t l = ⊎_elim (λ s. s)
      (λ ne. absurd (⊎_elim (λ m. (near.lower_half t m ne).1 e)
      (λ m. ne (subst (λ (x : ℕ). running a x ≡ running b x) {x = lower} {y = t} (omega arith) e))
      (below_or_not t lower))) (same_or_not (running a t) (running b t))

  -- a is larger at both thresholds
  both_larger : running b lower < running a lower → running b upper < running a upper → Precedes a b
  both_larger l u = ⊎_elim
      (λ s. upper_decides u (λ t m differs. omega (arith, running_grows b t lower m)))
      (λ s. lower_decides l (λ t m differs. omega (arith, running_grows a upper t m)))
      (below_or_not (running a lower + running a upper) n)

  at_lower_first : running b lower < running a lower → running b upper ≤ running a upper → Precedes a b
  at_lower_first l u = ⊎_elim
      (λ s. both_larger l s)
      (λ s. lower_decides l (λ t m differs. absurd (omega (arith, equal_above (omega arith) t m))))
      (below_or_not (running b upper) (running a upper))

  at_upper_first : running b upper < running a upper → running b lower ≤ running a lower → Precedes a b
  at_upper_first u l = ⊎_elim
      (λ s. both_larger s u)
      (λ s. upper_decides u (λ t m differs. absurd (omega (arith, equal_below (omega arith) t m))))
      (below_or_not (running b lower) (running a lower))

  all_equal : running a lower ≡ running b lower → running a upper ≡ running b upper → (t : ℕ) → running a t ≡ running b t
  all_equal l u t = ⊎_elim
      (λ m. ⊎_elim (λ k. near.between t m k) (λ k. equal_above u t k) (below_or_not t upper))
      (λ m. equal_below l t m)
      (below_or_not lower t)

pub bracket_decides : (n : ℕ) (a b : List ℕ) → Alike n a b → (lower upper : ℕ) → Bracket n a b lower upper → TwoDecide n a b lower upper
bracket_decides n a b al lower upper near = record {
  equal = λ l u. same_sequence n a b al (all_equal n a b al lower upper near l u);
  at_lower = at_lower_first n a b al lower upper near;
  at_upper = at_upper_first n a b al lower upper near;
  lower_wins = λ l u s. lower_decides n a b al lower upper near l (λ t m differs. omega (arith, running_grows a upper t m));
  upper_wins = λ l u s. upper_decides n b a (alike_back n a b al) lower upper (bracket_back n a b lower upper near)
      u (λ t m differs. omega (arith, running_grows a t lower m));
}
