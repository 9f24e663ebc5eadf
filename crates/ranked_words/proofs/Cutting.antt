-- Orders of words that are cut in two halves, as they are written.
-- Assumes nothing.
use mathlib.Core.Path.{◌≡◌, ◌∙◌, refl, ap}
use mathlib.Core.List.{[], ◌∷◌, ◌++◌}
use Prim.Native.Nat.{ℕ, suc, ◌+◌, ◌-◌, ◌*◌, ◌≤◌}
use native.Mathlib.Omega.{arith}
use lib.ListN.{length}
use Rattle.gate_words.specs.Gates.{mux_of}
use Rattle.gate_words.specs.Choice.{choose, chain_end}
use Rattle.gate_words.specs.Halves.{compare_halves, unequal_at, above_at}
use Rattle.ranked_circuit.specs.Blocks.{order, order_end, order_cut, order_size, cut_end, smaller, larger}
use Rattle.ranked_circuit.proofs.BlockLaws.{length_smaller}

module _ (n x y w : ℕ) where
  pub cut_zero : (cut : ℕ) → cut ≡ 0 → order n x y w ≡ order_cut n x y w cut
  unfolding order_cut
  cut_zero cut e = rw e refl

  pub cut_some : (cut l h : ℕ) → cut ≡ suc h → l ≡ w - cut
      → order n x y l ++ compare_halves (n + 2 * l) (x + suc l) (y + suc l) h 0
      ++ (mux_of (unequal_at (n + 2 * l) h) (above_at (n + 2 * l) (x + suc l) h) (order_end n x l) ∷ [])
      ≡ order_cut n x y w cut
  unfolding order_cut
  cut_some cut l h e q = rw (q, e) refl

  -- the last gate has the answer
  pub cut_end_lem : (cut wire : ℕ) → wire ≡ n + order_size w cut → chain_end n x (wire - n) ≡ cut_end n x w cut
  unfolding cut_end
  cut_end_lem cut wire e = let q : wire - n ≡ order_size w cut = omega arith in ap (chain_end n x) q

  pub smaller_is : (cut : ℕ) → order_cut n x y w cut ++ choose (cut_end n x w cut) y x (suc w) ≡ smaller n x y w cut
  smaller_is cut = unfold smaller in refl

  pub larger_is : (cut : ℕ) → order_cut n x y w cut ++ choose (cut_end n x w cut) x y (suc w) ≡ larger n x y w cut
  larger_is cut = unfold larger in refl

  pub smaller_long : (cut : ℕ) → cut ≤ w → length (order_cut n x y w cut ++ choose (cut_end n x w cut) y x (suc w)) ≡ order_size w cut + suc w
  smaller_long cut q = ap length (smaller_is cut) ∙ length_smaller n x y w cut q
