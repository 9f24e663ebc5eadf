-- What copies, complements, choices and chains compute.
-- Assumes nothing.
use mathlib.Core.Path.{◌≡◌, ◌∙◌, sym, ap}
use Prim.Native.Nat.{ℕ, zero, suc, ◌+◌, ◌<◌}
use native.Mathlib.Omega.{arith}
use Rattle.gates.proofs.Laws.{Holds, mux_zero, mux_one}
use Rattle.gate_words.specs.Gates.{and_of, or_of, mux_of}
use Rattle.gate_words.specs.Word.{ones_at, number}
use Rattle.gate_words.specs.Choice.{choose, masked, chain_of, chain_end, any_of}
use Rattle.gate_words.proofs.Numbers.{Binary, number_none, number_more, ones_none, ones_more}
use Rattle.gate_words.proofs.GateValues.{holds_first, holds_rest, and_is, or_is}
use Rattle.gate_words.proofs.ChoiceSteps.{chain_next}

module _ (W : ℕ → ℕ) (b : Binary W) where
  pub choose_one : (n f x y w : ℕ) → W f ≡ 1 → Holds W n (choose f x y w) → number W n 1 w ≡ number W x 1 w
  unfolding choose
  choose_one n f x y zero e h = omega (arith, number_none W n 1, number_none W x 1)
  choose_one n f x y (suc w) e h =
      let r = choose_one (n + 1) f (x + 1) (y + 1) w e (holds_rest W n (mux_of f x y) (choose f (x + 1) (y + 1) w) h) in
      omega (
        arith,
        r,
        number_more W n 1 w,
        number_more W x 1 w,
        holds_first W n (mux_of f x y) (choose f (x + 1) (y + 1) w) h ∙ mux_one (W f) (W x) (W y) e,
      )

  pub choose_zero : (n f x y w : ℕ) → W f ≡ 0 → Holds W n (choose f x y w) → number W n 1 w ≡ number W y 1 w
  unfolding choose
  choose_zero n f x y zero e h = omega (arith, number_none W n 1, number_none W y 1)
  choose_zero n f x y (suc w) e h =
      let r = choose_zero (n + 1) f (x + 1) (y + 1) w e (holds_rest W n (mux_of f x y) (choose f (x + 1) (y + 1) w) h) in
      omega (
        arith,
        r,
        number_more W n 1 w,
        number_more W y 1 w,
        holds_first W n (mux_of f x y) (choose f (x + 1) (y + 1) w) h ∙ mux_zero (W f) (W x) (W y) e,
      )

  pub masked_one : (n f x w : ℕ) → W f ≡ 1 → Holds W n (masked f x w) → number W n 1 w ≡ number W x 1 w
  unfolding masked
  masked_one n f x zero e h = omega (arith, number_none W n 1, number_none W x 1)
  masked_one n f x (suc w) e h =
      let r = masked_one (n + 1) f (x + 1) w e (holds_rest W n (and_of f x) (masked f (x + 1) w) h) in
      omega (arith, r, b x, number_more W n 1 w, number_more W x 1 w, holds_first W n (and_of f x) (masked f (x + 1) w) h ∙ and_is W b f x)

  pub masked_zero : (n f x w : ℕ) → W f ≡ 0 → Holds W n (masked f x w) → number W n 1 w ≡ 0
  unfolding masked
  masked_zero n f x zero e h = number_none W n 1
  masked_zero n f x (suc w) e h =
      let r = masked_zero (n + 1) f (x + 1) w e (holds_rest W n (and_of f x) (masked f (x + 1) w) h) in
      omega (arith, r, number_more W n 1 w, holds_first W n (and_of f x) (masked f (x + 1) w) h ∙ and_is W b f x)

  -- a chain of "or" is 1 exactly if one of its operands is
  pub any_one : (n s at d m : ℕ) → 0 < W s + ones_at W at d m → Holds W n (any_of n s at d m) → W (chain_end n s m) ≡ 1
  unfolding chain_of
  any_one n s at d zero p h = unfold chain_end in (omega (arith, b s, ones_none W at d))
  any_one n s at d (suc m) p h =
      let g = holds_first W n (or_of s at) (any_of (n + 1) n (at + d) d m) h ∙ or_is W b s at in
      let r = any_one (n + 1) n (at + d) d m (omega (arith, g, ones_more W at d m))
      (holds_rest W n (or_of s at) (any_of (n + 1) n (at + d) d m) h) in
      sym (ap W (chain_next n s m)) ∙ r

  pub any_zero : (n s at d m : ℕ) → W s + ones_at W at d m ≡ 0 → Holds W n (any_of n s at d m) → W (chain_end n s m) ≡ 0
  unfolding chain_of
  any_zero n s at d zero p h = unfold chain_end in (omega arith)
  any_zero n s at d (suc m) p h =
      let g = holds_first W n (or_of s at) (any_of (n + 1) n (at + d) d m) h ∙ or_is W b s at in
      let r = any_zero (n + 1) n (at + d) d m (omega (arith, g, ones_more W at d m))
      (holds_rest W n (or_of s at) (any_of (n + 1) n (at + d) d m) h) in
      sym (ap W (chain_next n s m)) ∙ r
