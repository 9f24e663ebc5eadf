-- Blocks with one gate for each wire: choosing between words, masking a word, and chains that join wires.
use Rattle.std.specs.Prelude.{List, [], ◌∷◌, ℕ, zero, suc, ◌+◌}
use Rattle.gates.specs.Gate.{Gate}
use Rattle.gate_words.specs.Gates.{gate, and_of, mux_of}

-- The word at x if wire f is 1, the word at y if it is 0.
unfoldable pub choose : ℕ → ℕ → ℕ → ℕ → List Gate
choose f x y zero = []
choose f x y (suc w) = mux_of f x y ∷ choose f (x + 1) (y + 1) w

-- The word of w digits at x if wire f is 1, else 0.
unfoldable pub masked : ℕ → ℕ → ℕ → List Gate
masked f x zero = []
masked f x (suc w) = and_of f x ∷ masked f (x + 1) w

-- A chain of m gates of a kind with two operands. The first is wire n and joins the wires s and `at`. Each later
-- gate joins the gate before it and the next operand, d wires further on.
unfoldable pub chain_of : ℕ → ℕ → ℕ → ℕ → ℕ → ℕ → List Gate
chain_of kind n s at d zero = []
chain_of kind n s at d (suc m) = gate kind s at 0 ∷ chain_of kind (n + 1) n (at + d) d m

-- The last wire of a chain of m gates from wire n on; if m is 0, it is s.
unfoldable pub chain_end : ℕ → ℕ → ℕ → ℕ
chain_end n s zero = s
chain_end n s (suc m) = n + m

-- Whether wire s or one of the m wires from `at` on, d apart, is 1.
abbrev pub any_of : ℕ → ℕ → ℕ → ℕ → ℕ → List Gate
any_of n s at d m = chain_of 5 n s at d m

-- Whether wire s and all of the m wires from `at` on, d apart, are 1.
abbrev pub all_of : ℕ → ℕ → ℕ → ℕ → ℕ → List Gate
all_of n s at d m = chain_of 4 n s at d m

-- The sum modulo 2 of wire s and the m wires from `at` on, d apart.
abbrev pub parity : ℕ → ℕ → ℕ → ℕ → ℕ → List Gate
parity n s at d m = chain_of 6 n s at d m
