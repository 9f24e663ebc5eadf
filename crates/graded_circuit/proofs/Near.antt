-- Two rows of sums with the same median: the two nearest differences decide which row comes first. This is only about
-- numbers.
-- Assumes nothing.
use mathlib.Core.Path.{◌≡◌, sym, ap}
use mathlib.Core.Logic.{◌⊎◌, ⊎_elim, ◌≢◌}
use Prim.Native.Nat.{ℕ, suc, ◌+◌, ◌≤◌, ◌<◌}
use native.Mathlib.Omega.{arith}
use Rattle.basics.proofs.Cases.{below_or_not}
use Rattle.graded_circuit.proofs.SumLaws.{Sums}

-- Of t + 2 grades, `down` is the last one below the median at which the sums differ, or the best grade if there is
-- none. `up` is the first one from the median on at which they differ, or the last grade.
pub record Near (t median : ℕ) (A C : ℕ → ℕ) (down up : ℕ) : Type 0 where
  pub down_in : down < suc (suc t)
  pub up_in : up < suc (suc t)
  pub down_rest : (g : ℕ) → down < g → g < suc t → g < median → A g ≡ C g
  pub down_far : 0 < down → (down < median) × (A down ≢ C down)
  pub up_rest : (g : ℕ) → 0 < g → g < up → median ≤ g → A g ≡ C g
  pub up_far : up < suc t → (median ≤ up) × (A up ≢ C up)

pub near_flip : {t median : ℕ} {A C : ℕ → ℕ} {down up : ℕ} → Near t median A C down up → Near t median C A down up
near_flip near =
    record {
      down_in = near.down_in;
      up_in = near.up_in;
      down_rest = λ g h k l. sym (near.down_rest g h k l);
      down_far = λ h. ((near.down_far h).0, λ e. (near.down_far h).1 (sym e));
      up_rest = λ g h k l. sym (near.up_rest g h k l);
      up_far = λ h. ((near.up_far h).0, λ e. (near.up_far h).1 (sym e));
    }

-- Grade i decides for row A: A is larger there, and wherever C is larger, the difference at i is struck sooner.
pub record Decides (n d : ℕ) (A C : ℕ → ℕ) (i : ℕ) : Type 0 where
  pub inside : i < d
  pub larger : C i < A i
  pub worse_later : (j : ℕ) → j < d → i < j → A j < C j → n ≤ A i + A j
  pub better_later : (j : ℕ) → j < i → A j < C j → C j + C i < n

module _ (n d t median : ℕ) (A C : ℕ → ℕ) (a : Sums n d A median) (c : Sums n d C median) (down up : ℕ)
    (near : Near t median A C down up) where
  up_last : A up ≡ C up → up ≡ suc t
  up_last e = ⊎_elim (λ (l : up < suc t). absurd ((near.up_far l).1 e))
      (λ (l : suc t ≤ up). omega (arith, near.up_in)) (below_or_not up (suc t))

  down_first : A down ≡ C down → down ≡ 0
  down_first e = ⊎_elim (λ (l : 0 < down). absurd ((near.down_far l).1 e)) (λ (l : down ≤ 0). omega arith) (below_or_not 0 down)

  pub lower_decides : C down < A down → (n ≤ A down + A up) ⊎ (A up ≡ C up) → Decides n (suc (suc t)) A C down
  lower_decides larger reach =
      record {
        inside = near.down_in;
        larger = larger;
        worse_later = λ j hj l m. ⊎_elim (λ (k : j < median). before j hj l m k)
            (λ (k : median ≤ j). behind j hj l m k) (below_or_not j median);
        better_later = λ j l m. let k = (near.down_far (omega arith)).0 in omega (arith, c.grows j down (omega arith), c.passed down k);
      }
    where
      at_up : (j : ℕ) → up ≡ j → A j < C j → n ≤ A down + A j
      at_up j e m = ⊎_elim (λ (h : n ≤ A down + A up). omega (arith, ap A e))
          (λ (h : A up ≡ C up). absurd (omega (arith, ap A e, ap C e))) reach

      before : (j : ℕ) → j < suc (suc t) → down < j → A j < C j → j < median → n ≤ A down + A j
      before j hj l m k = ⊎_elim
          (λ (q : j < suc t). absurd (omega (arith, near.down_rest j l q k)))
          (λ (q : suc t ≤ j). at_up j
          (⊎_elim (λ (u : up < suc t). absurd (omega (arith, (near.up_far u).0)))
          (λ (u : suc t ≤ up). omega (arith, near.up_in)) (below_or_not up (suc t))) m)
          (below_or_not j (suc t))

      behind : (j : ℕ) → j < suc (suc t) → down < j → A j < C j → median ≤ j → n ≤ A down + A j
      behind j hj l m k = ⊎_elim
          (λ (q : j < up). absurd (omega (arith, near.up_rest j (omega arith) q k)))
          (λ (q : up ≤ j). ⊎_elim
          (λ (h : n ≤ A down + A up). omega (arith, a.grows up j q))
          (λ (h : A up ≡ C up). let e : up ≡ j = omega (arith, up_last h) in absurd (omega (arith, ap A e, ap C e)))
          reach)
          (below_or_not j up)

  pub upper_decides : C up < A up → (C down + C up < n) ⊎ (A down ≡ C down) → Decides n (suc (suc t)) A C up
  upper_decides larger short =
      record {
        inside = near.up_in;
        larger = larger;
        worse_later = λ j hj l m. omega (arith, a.reached up (near.up_far (omega arith)).0, a.grows up j (omega arith));
        better_later = λ j l m. ⊎_elim (λ (k : down < j). absurd (between j k l m)) (λ (k : j ≤ down). below j k m) (below_or_not down j);
      }
    where
      between : (j : ℕ) → down < j → j < up → A j < C j → ⊥
      between j k l m = ⊎_elim
          (λ (q : j < median). let e = near.down_rest j k (omega (arith, near.up_in)) q in omega arith)
          (λ (q : median ≤ j). let e = near.up_rest j (omega arith) l q in omega arith)
          (below_or_not j median)

      below : (j : ℕ) → j ≤ down → A j < C j → C j + C up < n
      below j k m = ⊎_elim
          (λ (h : C down + C up < n). omega (arith, c.grows j down k))
          (λ (h : A down ≡ C down). let e : down ≡ j = omega (arith, down_first h) in absurd (omega (arith, ap A e, ap C e)))
          short

  pub all_same : A down ≡ C down → A up ≡ C up → (g : ℕ) → g < suc (suc t) → A g ≡ C g
  all_same e₁ e₂ g l = ⊎_elim
      (λ (h : 0 < g). ⊎_elim
      (λ (k : g < suc t). ⊎_elim
      (λ (m : g < median). near.down_rest g (omega (arith, down_first e₁)) k m)
      (λ (m : median ≤ g). near.up_rest g h (omega (arith, up_last e₂)) m)
      (below_or_not g median))
      (λ (k : suc t ≤ g). let e : up ≡ g = omega (arith, up_last e₂) in omega (arith, ap A e, ap C e))
      (below_or_not g (suc t)))
      (λ (h : g ≤ 0). let e : down ≡ g = omega (arith, down_first e₁) in omega (arith, ap A e, ap C e))
      (below_or_not 0 g)
