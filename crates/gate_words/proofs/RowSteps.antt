-- Rows of gates side by side, as a first gate and the rest; their length, and the rows that are sums modulo 2.
-- Assumes nothing.
use mathlib.Core.Path.{◌≡◌, refl, ap}
use mathlib.Core.List.{List, [], ◌∷◌, ◌++◌}
use Prim.Native.Nat.{ℕ, zero, suc, ◌+◌, ◌-◌, ◌<◌, ◌≤◌}
use native.Mathlib.Omega.{arith}
use lib.ListN.{length}
use Rattle.gates.specs.Gate.{Gate}
use Rattle.gate_words.specs.Gates.{gate, xor_of}
use Rattle.gate_words.specs.Rows.{rows_of, xor_rows}
use Rattle.gate_words.specs.Comparison.{differences}
use Rattle.gate_words.proofs.ChoiceSteps.{left_one}

pub length_rows_of : (kind x dx y dy m : ℕ) → length (rows_of kind x dx y dy m) ≡ m
unfolding rows_of
length_rows_of kind x dx y dy zero = refl
length_rows_of kind x dx y dy (suc m) = ap suc (length_rows_of kind (x + dx) dx (y + dy) dy m)

-- after i gates: the next one, and the others
pub rows_step : (kind x dx y dy i m : ℕ) → i < m → rows_of kind x dx y dy (m - i) ≡ (gate kind x y 0 ∷ [])
    ++ rows_of kind (x + dx) dx (y + dy) dy (m - (i + 1))
unfolding rows_of
rows_step kind x dx y dy i m h = rw (left_one i m h)

pub rows_none : (kind x dx y dy i m : ℕ) → m ≤ i → rows_of kind x dx y dy (m - i) ≡ []
unfolding rows_of
rows_none kind x dx y dy i m h = let e : m - i ≡ 0 = omega arith in rw e

-- sums modulo 2 of two rows, and of two words
pub rows_xor : (x dx y dy m : ℕ) → rows_of 6 x dx y dy m ≡ xor_rows x dx y dy m
unfolding rows_of xor_rows
rows_xor x dx y dy zero = refl
rows_xor x dx y dy (suc m) = ap (λ (gs : List Gate). xor_of x y ∷ gs) (rows_xor (x + dx) dx (y + dy) dy m)

pub rows_differences : (x y m : ℕ) → rows_of 6 x 1 y 1 m ≡ differences x y m
unfolding rows_of differences
rows_differences x y zero = refl
rows_differences x y (suc m) = ap (λ (gs : List Gate). xor_of x y ∷ gs) (rows_differences (x + 1) (y + 1) m)
