-- The plan of a shape within its limits has all the properties of `Planned`.
-- Assumes nothing.
use mathlib.Core.Path.{◌≡◌, sym, subst}
use mathlib.Core.Bool.{true}
use Prim.Native.Nat.{ℕ, suc, ◌+◌, ◌-◌, ◌/◌, ◌^◌, ◌≤◌, ◌<◌}
use native.Mathlib.Nat.{pow-succ'}
use native.Mathlib.Omega.{arith}
use Rattle.jury.specs.declared.shape.Shape.{Shape}
use Rattle.jury.specs.Shape.{graded_limits}
use Rattle.jury.specs.Width.{width_of}
use Rattle.jury.proofs.Limits.{within, bytes_are}
use Rattle.jury.proofs.WidthLaws.{width_half, below_width, least_width}
use Rattle.graded_circuit.specs.Plan.{plan_of, Planned}

-- a positive number has a top digit
pub top_width : (n : ℕ) → 0 < n → suc (width_of n - 1) ≡ width_of n
top_width n h = omega (arith, width_half n h)

pub high_width : (n : ℕ) → 0 < n → n < 2 ^ suc (width_of n - 1)
high_width n h = subst (λ (k : ℕ). n < 2 ^ k) (sym (top_width n h)) (below_width n)

pub half_most : (n r : ℕ) → n < 2 ^ suc r → (n + 1) / 2 ≤ 2 ^ r
half_most n r h = omega (arith, pow-succ' 2 r)

pub rest_most : (n r : ℕ) → n < 2 ^ suc r → 1 + n / 2 ≤ 2 ^ r
rest_most n r h = omega (arith, pow-succ' 2 r)

pub planned : (s : Shape) → graded_limits s ≡ true → Planned (plan_of s)
unfolding plan_of
planned s e =
    let w = within s e in
    let n = s.ballots in
    let r = width_of n - 1 in
    let high = high_width n w.n_least in
    record {
      k_least = w.k_least;
      k_most = w.k_most;
      d_least = w.d_least;
      d_most = w.d_most;
      n_least = w.n_least;
      n_most = w.n_most;
      low = least_width n w.n_least;
      high = high;
      offset_is = omega (arith, half_most n r high);
      worst_is = omega (arith, rest_most n r high);
      median_low = least_width (s.grades - 1) (omega (arith, w.d_least));
      median_high = high_width (s.grades - 1) (omega (arith, w.d_least));
      inputs_is = bytes_are s w;
    }
