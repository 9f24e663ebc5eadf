-- Adders of one digit. Each has three gates from wire n on: the sum is at n + 1, the carry at n + 2.
use Rattle.std.specs.Prelude.{cond, List, [], ◌∷◌, ℕ, eqb}
use Rattle.gates.specs.Gate.{Gate}
use Rattle.gate_words.specs.Gates.{copy_of, not_of, and_of, or_of, xor_of, mux_of}

-- Adds the wires s, u and v.
unfoldable pub full_adder : ℕ → ℕ → ℕ → ℕ → List Gate
full_adder n s u v = xor_of s u ∷ xor_of n v ∷ mux_of n v s ∷ []

-- Adds the wires s and u, and the public bit e.
unfoldable pub half_adder : ℕ → ℕ → ℕ → ℕ → List Gate
half_adder n s u e = cond (eqb e 0) (xor_of s u ∷ copy_of n ∷ and_of s u ∷ []) (xor_of s u ∷ not_of n ∷ or_of s u ∷ [])

-- Adds 1 to the wire s. None of its gates is conditional.
unfoldable pub increment : ℕ → ℕ → List Gate
increment n s = not_of s ∷ copy_of n ∷ copy_of s ∷ []
