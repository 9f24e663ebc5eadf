-- The test `beats` passes exactly if `Beats` holds; its conditions exclude each other, and no two rows beat each
-- other.
-- Assumes nothing.
use mathlib.Core.Path.{◌≡◌}
use mathlib.Core.Bool.{true, false, ◌&&◌, ◌||◌}
use mathlib.Core.Logic.{⊎_elim, ◌↔◌}
use mathlib.Core.List.{List}
use Prim.Native.Nat.{ℕ, ◌<◌}
use native.Mathlib.Omega.{arith}
use lib.Dec.{ltb}
use borrow.Author.Tests.{ltb-true, lt-ltb, eqb-true, eq-eqb}
use Rattle.rule_judgment.specs.Median.{median_of}
use Rattle.rule_judgment.specs.Gauge.{p_of, q_of, better_median, equal_medians, stronger_median, larger_p, smaller_q, beats}
use Rattle.rule_judgment.specs.GaugeWinner.{Beats}
use Rattle.rule_judgment.specs.GaugeWinner.Beats.{by_better_median, by_stronger_median, by_larger_p, by_smaller_q}
use Rattle.rule_judgment.specs.GaugeTheorems.{Exclusive}
use Rattle.basics.proofs.Flags.{and_first, and_second, or_either, or_first, or_second, never_true}

module _ (a b : List ℕ) where
  better_fact : better_median a b ≡ true → median_of a < median_of b
  unfolding better_median
  better_fact e = ltb-true (median_of a) (median_of b) e

  equal_fact : equal_medians a b ≡ true → median_of a ≡ median_of b
  unfolding equal_medians
  equal_fact e = eqb-true (median_of a) (median_of b) e

  stronger_fact : stronger_median a b ≡ true → (median_of a ≡ median_of b) × (q_of a < p_of a) × (p_of b < q_of b)
  unfolding stronger_median
  stronger_fact e =
      let e₁ = and_first (equal_medians a b && ltb (q_of a) (p_of a)) (ltb (p_of b) (q_of b)) e in (
        equal_fact (and_first (equal_medians a b) (ltb (q_of a) (p_of a)) e₁),
        ltb-true (q_of a) (p_of a) (and_second (equal_medians a b) (ltb (q_of a) (p_of a)) e₁),
        ltb-true (p_of b) (q_of b) (and_second (equal_medians a b && ltb (q_of a) (p_of a)) (ltb (p_of b) (q_of b)) e),
      )

  larger_fact : larger_p a b ≡ true → (median_of a ≡ median_of b) × (q_of a < p_of a) × (q_of b < p_of b) × (p_of b < p_of a)
  unfolding larger_p
  larger_fact e =
      let e₂ = and_first (equal_medians a b && ltb (q_of a) (p_of a) && ltb (q_of b) (p_of b)) (ltb (p_of b) (p_of a)) e in
      let e₁ = and_first (equal_medians a b && ltb (q_of a) (p_of a)) (ltb (q_of b) (p_of b)) e₂ in (
        equal_fact (and_first (equal_medians a b) (ltb (q_of a) (p_of a)) e₁),
        ltb-true (q_of a) (p_of a) (and_second (equal_medians a b) (ltb (q_of a) (p_of a)) e₁),
        ltb-true (q_of b) (p_of b) (and_second (equal_medians a b && ltb (q_of a) (p_of a)) (ltb (q_of b) (p_of b)) e₂),
        ltb-true (p_of b) (p_of a) (and_second (equal_medians a b && ltb (q_of a) (p_of a) && ltb (q_of b) (p_of b)) (ltb (p_of b) (p_of a)) e),
      )

  smaller_fact : smaller_q a b ≡ true → (median_of a ≡ median_of b) × (p_of a < q_of a) × (p_of b < q_of b) × (q_of a < q_of b)
  unfolding smaller_q
  smaller_fact e =
      let e₂ = and_first (equal_medians a b && ltb (p_of a) (q_of a) && ltb (p_of b) (q_of b)) (ltb (q_of a) (q_of b)) e in
      let e₁ = and_first (equal_medians a b && ltb (p_of a) (q_of a)) (ltb (p_of b) (q_of b)) e₂ in (
        equal_fact (and_first (equal_medians a b) (ltb (p_of a) (q_of a)) e₁),
        ltb-true (p_of a) (q_of a) (and_second (equal_medians a b) (ltb (p_of a) (q_of a)) e₁),
        ltb-true (p_of b) (q_of b) (and_second (equal_medians a b && ltb (p_of a) (q_of a)) (ltb (p_of b) (q_of b)) e₂),
        ltb-true (q_of a) (q_of b) (and_second (equal_medians a b && ltb (p_of a) (q_of a) && ltb (p_of b) (q_of b)) (ltb (q_of a) (q_of b)) e),
      )

  -- if the test passes, one of the facts holds
  beats_holds : beats a b ≡ true → Beats a b
  unfolding beats
  beats_holds e =
      ⊎_elim
      (λ e₃.
      ⊎_elim
      (λ e₂.
      ⊎_elim (λ e₁. by_better_median (better_fact e₁))
      (λ e₁. let f = stronger_fact e₁ in by_stronger_median f.0 f.1 f.2)
      (or_either (better_median a b) (stronger_median a b) e₂))
      (λ e₂. let f = larger_fact e₂ in by_larger_p f.0 f.1 f.2 f.3)
      (or_either (better_median a b || stronger_median a b) (larger_p a b) e₃))
      (λ e₃. let f = smaller_fact e₃ in by_smaller_q f.0 f.1 f.2 f.3)
      (or_either (better_median a b || stronger_median a b || larger_p a b) (smaller_q a b) e)

  -- the converse
  beats_passes : Beats a b → beats a b ≡ true
  unfolding beats better_median equal_medians stronger_median larger_p smaller_q
  beats_passes (by_better_median l) = simp (lt-ltb (median_of a) (median_of b) l)
  beats_passes (by_stronger_median m l₁ l₂) =
      or_first (better_median a b || stronger_median a b || larger_p a b) (smaller_q a b)
      (or_first (better_median a b || stronger_median a b) (larger_p a b)
      (or_second (better_median a b) (stronger_median a b)
      (simp (eq-eqb (median_of a) (median_of b) m, lt-ltb (q_of a) (p_of a) l₁, lt-ltb (p_of b) (q_of b) l₂))))
  beats_passes (by_larger_p m l₁ l₂ l₃) =
      or_first (better_median a b || stronger_median a b || larger_p a b) (smaller_q a b)
      (or_second (better_median a b || stronger_median a b) (larger_p a b)
      (simp (eq-eqb (median_of a) (median_of b) m, lt-ltb (q_of a) (p_of a) l₁, lt-ltb (q_of b) (p_of b) l₂, lt-ltb (p_of b) (p_of a) l₃)))
  beats_passes (by_smaller_q m l₁ l₂ l₃) =
      or_second (better_median a b || stronger_median a b || larger_p a b) (smaller_q a b)
      (simp (eq-eqb (median_of a) (median_of b) m, lt-ltb (p_of a) (q_of a) l₁, lt-ltb (p_of b) (q_of b) l₂, lt-ltb (q_of a) (q_of b) l₃))

  pub beats_iff : (beats a b ≡ true) ↔ Beats a b
  beats_iff = (beats_holds, beats_passes)

-- no two rows beat each other, whatever the conditions
pub never_both : (a b : List ℕ) → Beats a b → Beats b a → ⊥
never_both a b (by_better_median l) (by_better_median r) = omega arith
never_both a b (by_better_median l) (by_stronger_median m r₁ r₂) = omega arith
never_both a b (by_better_median l) (by_larger_p m r₁ r₂ r₃) = omega arith
never_both a b (by_better_median l) (by_smaller_q m r₁ r₂ r₃) = omega arith
never_both a b (by_stronger_median m l₁ l₂) (by_better_median r) = omega arith
never_both a b (by_stronger_median m l₁ l₂) (by_stronger_median m' r₁ r₂) = omega arith
never_both a b (by_stronger_median m l₁ l₂) (by_larger_p m' r₁ r₂ r₃) = omega arith
never_both a b (by_stronger_median m l₁ l₂) (by_smaller_q m' r₁ r₂ r₃) = omega arith
never_both a b (by_larger_p m l₁ l₂ l₃) (by_better_median r) = omega arith
never_both a b (by_larger_p m l₁ l₂ l₃) (by_stronger_median m' r₁ r₂) = omega arith
never_both a b (by_larger_p m l₁ l₂ l₃) (by_larger_p m' r₁ r₂ r₃) = omega arith
never_both a b (by_larger_p m l₁ l₂ l₃) (by_smaller_q m' r₁ r₂ r₃) = omega arith
never_both a b (by_smaller_q m l₁ l₂ l₃) (by_better_median r) = omega arith
never_both a b (by_smaller_q m l₁ l₂ l₃) (by_stronger_median m' r₁ r₂) = omega arith
never_both a b (by_smaller_q m l₁ l₂ l₃) (by_larger_p m' r₁ r₂ r₃) = omega arith
never_both a b (by_smaller_q m l₁ l₂ l₃) (by_smaller_q m' r₁ r₂ r₃) = omega arith

pub conditions_exclude : (a b : List ℕ) → Exclusive a b
conditions_exclude a b = record {
  first_second = λ e. never_true (stronger_median a b) (λ f. omega (arith, better_fact a b e, stronger_fact a b f));
  first_third = λ e. never_true (larger_p a b) (λ f. omega (arith, better_fact a b e, larger_fact a b f));
  first_fourth = λ e. never_true (smaller_q a b) (λ f. omega (arith, better_fact a b e, smaller_fact a b f));
  second_third = λ e. never_true (larger_p a b) (λ f. omega (arith, stronger_fact a b e, larger_fact a b f));
  second_fourth = λ e. never_true (smaller_q a b) (λ f. omega (arith, stronger_fact a b e, smaller_fact a b f));
  third_fourth = λ e. never_true (smaller_q a b) (λ f. omega (arith, larger_fact a b e, smaller_fact a b f));
}

-- a row that beats another is not beaten by it
pub beats_one_way : (a b : List ℕ) → beats a b ≡ true → beats b a ≡ false
beats_one_way a b e = never_true (beats b a) (λ e'. never_both a b (beats_holds a b e) (beats_holds b a e'))
