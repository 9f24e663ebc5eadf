-- Rows of gates, and rows of bits added modulo 2, without carries.
use Rattle.std.specs.Prelude.{List, [], ◌∷◌, ℕ, zero, suc, ◌+◌}
use Rattle.gates.specs.Gate.{Gate}
use Rattle.gate_words.specs.Gates.{gate, xor_of}

-- m gates of a kind with two operands, side by side: each joins a wire of one row, from x on, dx apart, to the wire
-- at the same place of another, from y on, dy apart.
unfoldable pub rows_of : ℕ → ℕ → ℕ → ℕ → ℕ → ℕ → List Gate
rows_of kind x dx y dy zero = []
rows_of kind x dx y dy (suc m) = gate kind x y 0 ∷ rows_of kind (x + dx) dx (y + dy) dy m

-- The sums modulo 2 of two rows of m wires: one from x on, dx apart, the other from y on, dy apart.
unfoldable pub xor_rows : ℕ → ℕ → ℕ → ℕ → ℕ → List Gate
xor_rows x dx y dy zero = []
xor_rows x dx y dy (suc m) = xor_of x y ∷ xor_rows (x + dx) dx (y + dy) dy m
