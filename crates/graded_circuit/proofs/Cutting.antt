-- The wires of several blocks one after the other: those of each block, from its own place on.
-- Assumes nothing.
use mathlib.Core.Path.{◌≡◌, subst}
use mathlib.Core.List.{List, ◌++◌}
use Prim.Native.Nat.{ℕ, ◌+◌}
use native.Mathlib.Omega.{arith}
use lib.ListN.{length, length-append}
use Rattle.gates.specs.Gate.{Gate}
use Rattle.gates.proofs.Laws.{Holds, holds_append}

module _ (W : ℕ → ℕ) (n : ℕ) where
  pub cut2 : (gs hs : List Gate) (k : ℕ) → n + length gs ≡ k → Holds W n (gs ++ hs) → Holds W n gs × Holds W k hs
  cut2 gs hs k e h =
      let s = holds_append W n gs hs h in
      (s.0, subst (λ (i : ℕ). Holds W i hs) e s.1)

  pub cut3 : (gs hs is : List Gate) (k l : ℕ) → n + length gs ≡ k → k + length hs ≡ l → Holds W n (gs ++ hs ++ is)
      → Holds W n gs × Holds W k hs × Holds W l is
  cut3 gs hs is k l e₁ e₂ h =
      let s = cut2 (gs ++ hs) is l (omega (arith, length-append gs hs)) h in
      let t = cut2 gs hs k e₁ s.0 in
      (t.0, t.1, s.1)

  pub cut4 : (gs hs is js : List Gate) (k l m : ℕ) → n + length gs ≡ k → k + length hs ≡ l → l + length is ≡ m
      → Holds W n (gs ++ hs ++ is ++ js) → Holds W n gs × Holds W k hs × Holds W l is × Holds W m js
  cut4 gs hs is js k l m e₁ e₂ e₃ h =
      let s = cut2 (gs ++ hs ++ is) js m (omega (arith, length-append (gs ++ hs) is, length-append gs hs)) h in
      let t = cut3 gs hs is k l e₁ e₂ s.0 in
      (t.0, t.1, t.2, s.1)
