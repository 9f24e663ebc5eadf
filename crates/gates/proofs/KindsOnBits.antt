-- On bits, the kinds have the values of the table.
-- Assumes nothing.
use mathlib.Core.Path.{◌≡◌, refl}
use mathlib.Core.Logic.{◌↔◌, ◌⊎◌, inl, inr, ⊎_elim, ◌≢◌}
use Prim.Native.Nat.{ℕ, zero, suc, ◌≤◌}
use native.Mathlib.Omega.{arith}
use Rattle.gates.specs.Open.Kind.{value_of}
use Rattle.gates.specs.KindsOnBits.{KindsOnBits}
use Rattle.gates.proofs.Laws.{zero_value, one_value, copy_value, not_value, and_value, or_value, xor_value}
use Rattle.gates.proofs.Laws.{mux_value_one, mux_value_zero, bit_value}

disjunction : (a b c : ℕ) → a ≤ 1 → b ≤ 1 → (value_of 5 a b c ≡ 1) ↔ ((a ≡ 1) ⊎ (b ≡ 1))
disjunction a b c ha hb = (
  λ e. by a ha (λ z. omega (arith, or_value a b c, e, z)),
  λ one. ⊎_elim (λ p. omega (arith, or_value a b c, p)) (λ q. omega (arith, or_value a b c, q)) one,
)
  where
    by : (x : ℕ) → x ≤ 1 → (x ≡ 0 → b ≡ 1) → (x ≡ 1) ⊎ (b ≡ 1)
    by zero h f = inr (f refl)
    by (suc x) h f = inl (omega arith)

difference : (a b c : ℕ) → a ≤ 1 → b ≤ 1 → (value_of 6 a b c ≡ 1) ↔ (a ≢ b)
difference a b c ha hb = (
  λ e same. omega (arith, xor_value a b c ha hb, e, same),
  λ differ. omega (arith, xor_value a b c ha hb, differ),
)

pub kinds_on_bits : KindsOnBits
kinds_on_bits =
    record {
      zero_is = zero_value;
      one_is = one_value;
      copy_is = copy_value;
      complement = λ a b c h. omega (arith, not_value a b c);
      conjunction = λ a b c ha hb. (
        λ e. (omega (arith, and_value a b c, e), omega (arith, and_value a b c, e)),
        λ both. omega (arith, and_value a b c, both.0, both.1),
      );
      disjunction = disjunction;
      difference = difference;
      first_choice = mux_value_one;
      second_choice = mux_value_zero;
      a_bit = bit_value;
    }
