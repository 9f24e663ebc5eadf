-- Who beats whom, from the table before the detour over the last candidate: six of its strengths are enough.
-- Assumes nothing.
use mathlib.Core.Path.{◌≡◌, ◌∙◌, refl, sym}
use mathlib.Core.Bool.{◌||◌}
use mathlib.Core.Logic.{◌⊎◌, inl, inr, ⊎_elim, ◌≢◌, ◌↔◌}
use Prim.Native.Nat.{ℕ, suc, min, max, ◌≤◌, ◌<◌}
use native.Mathlib.Omega.{arith}
use lib.Dec.{eqb}
use borrow.Author.Tests.{eq-eqb}
use Rattle.basics.proofs.Cases.{below_or_not}
use Rattle.basics.proofs.Flags.{or_first, or_second}
use Rattle.rule_schulze.specs.Schulze.{strongest}
use Rattle.rule_schulze.specs.Closure.{detour, closure}
use Rattle.rule_schulze.proofs.Paths.{detour_more, detour_over, closure_strongest, through}
use Rattle.rule_schulze.proofs.Tables.{detour_stays}

-- j beats i, for the case that the last candidate l does not beat i (β ≤ α). a and b are the strengths from i to j
-- and back, α and β those from i to l and back, α' and β' those from j to l and back.
abbrev pub BeatsBySix : ℕ → ℕ → ℕ → ℕ → ℕ → Type 0
BeatsBySix a b β α' β' = ((β' < β) × (β' < α')) ⊎ ((β ≤ β') × (a < b) × (β < b))

-- if the smaller of two numbers is at most z and one of them is not, the other is
other_small : (x y z : ℕ) → min x y ≤ z → z < x → y ≤ z
other_small x y z h l = omega arith

first_small : (x y z : ℕ) → min x y ≤ z → z < y → x ≤ z
first_small x y z h l = omega arith

-- a and b after the detour over l: the path from i to j over l has the parts α and β', the one from j to i has α'
-- and β
nearer_beats : (a b α β α' β' : ℕ) → a ≤ β' → β' < β → β' < α' → max a (min α β') < max b (min α' β)
nearer_beats a b α β α' β' small h g = omega arith

farther_beats : (a b α β α' β' : ℕ) → a < b → β' < b → max a (min α β') < max b (min α' β)
farther_beats a b α β α' β' h g = omega arith

nearer_not : (a b α β α' β' : ℕ) → β' ≤ α → α' ≤ β' → b ≤ α' → max b (min α' β) ≤ max a (min α β')
nearer_not a b α β α' β' h g small = omega arith

farther_beaten : (a b α β α' β' : ℕ) → β ≤ α → β ≤ β' → max a (min α β') < max b (min α' β) → (a < b) × (β < b)
farther_beaten a b α β α' β' h g less =
    let way : β ≤ min α β' = omega arith in
    let back : min α' β ≤ β = omega arith in
    ((largest a b (min α β') (min α' β) β way back less).0, (largest a b (min α β') (min α' β) β way back less).1)
  where
    largest : (a b x y β : ℕ) → β ≤ x → y ≤ β → max a x < max b y → (a < b) × (β < b)
    largest a b x y β h g l = (omega arith, omega arith)

-- the statement about the six numbers, from four facts about them
module _ (a b α β α' β' : ℕ) (unbeaten : β ≤ α) (to' : min b α ≤ α') (from : min β' b ≤ β) (from' : min β a ≤ β') where
  six_beats : BeatsBySix a b β α' β' → max a (min α β') < max b (min α' β)
  six_beats h =
      ⊎_elim (λ (p : (β' < β) × (β' < α')). nearer_beats a b α β α' β' (other_small β a β' from' p.0) p.0 p.1)
      (λ (p : (β ≤ β') × (a < b) × (β < b)). farther_beats a b α β α' β' p.1 (closer p.2)) h
    where
      closer : β < b → β' < b
      closer l = omega arith

  beats_six : max a (min α β') < max b (min α' β) → BeatsBySix a b β α' β'
  beats_six h = ⊎_elim nearer (λ (l : β ≤ β'). let p = farther_beaten a b α β α' β' unbeaten l h in inr (l, p.0, p.1)) (below_or_not β' β)
    where
      no_way : β' < β → α' ≤ β' → max b (min α' β) ≤ max a (min α β')
      no_way l q = nearer_not a b α β α' β' (under l) q (first_small b α α' to' (beyond l q))
        where
          under : β' < β → β' ≤ α
          under l = omega arith

          beyond : β' < β → α' ≤ β' → α' < α
          beyond l q = omega arith

      nearer : β' < β → BeatsBySix a b β α' β'
      nearer l = ⊎_elim (λ (q : β' < α'). inl (l, q)) (λ (q : α' ≤ β'). absurd (omega (arith, h, no_way l q))) (below_or_not β' α')

module _ (s : ℕ → ℕ → ℕ) (l : ℕ) where
  -- the strengths before the detour over l
  abbrev pub before : ℕ → ℕ → ℕ
  before = closure l s

  after_is : (i j : ℕ) → i ≢ j → detour l before i j ≡ strongest s (suc l) i j
  unfolding closure
  after_is i j ne = closure_strongest s (suc l) i j ne

  -- the detour over l changes no strength to or from l
  pub last_to : (i : ℕ) → i < l → before i l ≡ strongest s (suc l) i l
  last_to i h =
      let il : i ≢ l = λ e. omega arith in
      sym (detour_stays l before i l
      (or_first (eqb i l || eqb l l) (eqb i l) (or_second (eqb i l) (eqb l l) (eq-eqb l l refl)))) ∙ after_is i l il

  pub last_from : (i : ℕ) → i < l → before l i ≡ strongest s (suc l) l i
  last_from i h =
      let li : l ≢ i = λ e. omega arith in
      sym (detour_stays l before l i
      (or_first (eqb l l || eqb i l) (eqb l i) (or_first (eqb l l) (eqb i l) (eq-eqb l l refl)))) ∙ after_is l i li

  module _ (i j : ℕ) (hi : i < l) (hj : j < l) (ne : i ≢ j) where
    over : strongest s (suc l) i j ≡ max (before i j) (min (before i l) (before l j))
    over = sym (after_is i j ne) ∙ detour_over l before i j (λ e. omega arith) (λ e. omega arith) ne

    -- the path over j is no stronger, neither to l nor from l
    to_last : min (before i j) (before j l) ≤ before i l
    to_last =
        let more : before i j ≤ strongest s (suc l) i j = omega (arith, detour_more l before i j, after_is i j ne) in
        omega (arith, through s (suc l) i j l (omega arith) ne (λ e. omega arith) (λ e. omega arith), last_to i hi, last_to j hj)

    from_last : min (before l i) (before i j) ≤ before l j
    from_last =
        let more : before i j ≤ strongest s (suc l) i j = omega (arith, detour_more l before i j, after_is i j ne) in
        omega (arith, through s (suc l) l i j (omega arith) (λ e. omega arith) ne (λ e. omega arith), last_from i hi, last_from j hj)

  -- if l does not beat i, six strengths before the last detour tell whether j does
  pub beats_by_six : (i j : ℕ) → i < l → j < l → i ≢ j → before l i ≤ before i l →
      (strongest s (suc l) i j < strongest s (suc l) j i) ↔ BeatsBySix (before i j) (before j i) (before l i) (before j l) (before l j)
  beats_by_six i j hi hj ne unbeaten =
      let ji : j ≢ i = λ e. ne (sym e) in
      let forth = over i j hi hj ne in
      let back = over j i hj hi ji in
      let a = before i j in
      let b = before j i in
      let numbers = six_beats a b (before i l) (before l i) (before j l) (before l j) unbeaten
      (to_last j i hj hi ji) (from_last j i hj hi ji) (from_last i j hi hj ne) in
      let numbers' = beats_six a b (before i l) (before l i) (before j l) (before l j) unbeaten
      (to_last j i hj hi ji) (from_last j i hj hi ji) (from_last i j hi hj ne) in
      ((λ h. numbers' (omega arith)), (λ h. let n = numbers h in omega arith))
