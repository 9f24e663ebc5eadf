-- Whether the sum of two words and a public bit needs one more digit than the words have: the carry out of their
-- top digits, without the sum. Two halves are computed side by side.
use Rattle.std.specs.Prelude.{cond, List, [], ◌∷◌, ◌++◌, ℕ, zero, suc, ◌+◌, ◌-◌, ◌*◌, ◌/◌, eqb}
use Rattle.gates.specs.Gate.{Gate}
use Rattle.gate_words.specs.Gates.{and_of, or_of, xor_of, mux_of}
use Rattle.gate_words.specs.Choice.{all_of, chain_end}
use Rattle.gate_words.specs.Comparison.{differences}

-- The carry out of one digit of each word and the public bit e.
unfoldable pub carry_bit : ℕ → ℕ → ℕ → List Gate
carry_bit x y e = cond (eqb e 0) (and_of x y ∷ []) (or_of x y ∷ [])

-- The carry out of w digits, with the carry in at wire c: if two digits differ, the carry passes; if they are equal,
-- it is x's digit.
unfoldable pub carries : ℕ → ℕ → ℕ → ℕ → ℕ → List Gate
carries n x y c zero = []
carries n x y c (suc w) = xor_of x y ∷ mux_of n c x ∷ carries (n + 2) (x + 1) (y + 1) (n + 1) w

-- The same, but the wires from f on already say in which digits the words differ.
unfoldable pub carries_by : ℕ → ℕ → ℕ → ℕ → ℕ → List Gate
carries_by n f x c zero = []
carries_by n f x c (suc w) = mux_of f c x ∷ carries_by (n + 1) (f + 1) (x + 1) n w

-- The carry out of the high half, of h + 1 digits, with the carry in at wire c. If all digits differ, the carry in
-- passes. Otherwise the highest equal digits decide, so their chain does not wait for c and starts with x's lowest
-- digit.
unfoldable pub high_reach : ℕ → ℕ → ℕ → ℕ → ℕ → List Gate
high_reach n x y c h =
    differences x y (suc h)
    ++ carries_by (n + suc h) (n + 1) (x + 1) x h
    ++ all_of (n + suc h + h) n (n + 1) 1 h
    ++ (mux_of (chain_end (n + suc h + h) n h) c (chain_end (n + suc h) x h) ∷ [])

-- The carry out of both halves: a low one of l + 1 digits, whose carry is at wire n + 2 l, and a high one of h + 1.
unfoldable pub reach_halves : ℕ → ℕ → ℕ → ℕ → ℕ → ℕ → List Gate
reach_halves n x y e l h =
    carry_bit x y e
    ++ carries (n + 1) (x + 1) (y + 1) n l
    ++ high_reach (n + 1 + 2 * l) (x + 1 + l) (y + 1 + l) (n + 2 * l) h

-- The carry out of words of r + 1 digits and the public bit e. The last wire has it.
unfoldable pub reach : ℕ → ℕ → ℕ → ℕ → ℕ → List Gate
reach n x y e zero = carry_bit x y e
reach n x y e (suc r) = reach_halves n x y e (r / 2) (r - r / 2)

-- How far the wire of the carry is from wire n.
unfoldable pub reach_last : ℕ → ℕ
reach_last zero = 0
reach_last (suc r) = 2 * (r / 2) + 3 * (r - r / 2) + 2

-- The number of gates of the block.
abbrev pub reach_span : ℕ → ℕ
reach_span r = suc (reach_last r)
