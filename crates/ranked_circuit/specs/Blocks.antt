-- The blocks of a ranked tasting's circuit that `gate_words` lacks: comparing two whole words, and choosing the
-- smaller or the larger one. A word has w + 1 digits.
use Rattle.std.specs.Prelude.{List, [], ◌∷◌, ◌++◌, ℕ, zero, suc, ◌+◌, ◌-◌, ◌*◌}
use Rattle.gates.specs.Gate.{Gate}
use Rattle.gate_words.specs.Gates.{and_of, xor_of, mux_of}
use Rattle.gate_words.specs.Choice.{choose, chain_end}
use Rattle.gate_words.specs.Comparison.{first_digit, compare_words, differences, above}
use Rattle.gate_words.specs.Halves.{compare_halves, unequal_at, above_at}

-- Compares two words both ways. The last wire but one says whether the word at x is above, the last whether it is
-- below.
unfoldable pub compare : ℕ → ℕ → ℕ → ℕ → List Gate
compare n x y w = first_digit n x y ++ compare_words (n + 3) (x + 1) (y + 1) (n + 1) (n + 2) w

-- Whether the word at x is above the word at y. The last of the 2 w + 2 gates says so.
unfoldable pub strictly : ℕ → ℕ → ℕ → ℕ → List Gate
strictly n x y w =
    xor_of x y ∷ and_of x n ∷ (differences (x + 1) (y + 1) w ++ above (n + 2 + w) (n + 2) (x + 1) (n + 1) w)

-- Which of the words at x and y is larger, compared one way. The chain starts with x's lowest digit, which needs no
-- gate: if the words are equal, either answer will do.
unfoldable pub order : ℕ → ℕ → ℕ → ℕ → List Gate
order n x y w = differences (x + 1) (y + 1) w ++ above (n + w) n (x + 1) x w

-- The wire of the answer: 1 only if the word at x is at least the other, 0 only if it is at most the other.
unfoldable pub order_end : ℕ → ℕ → ℕ → ℕ
order_end n x w = chain_end (n + w) x w

-- The same in fewer rounds: the h highest digits are compared at the same time as the others, and decide if they
-- differ. The last gate has the answer; if there is no gate, wire x has it.
unfoldable pub order_cut : ℕ → ℕ → ℕ → ℕ → ℕ → List Gate
order_cut n x y w zero = order n x y w
order_cut n x y w (suc h) =
    let l = w - suc h in
    let high = n + 2 * l in
    order n x y l
    ++ compare_halves high (x + suc l) (y + suc l) h 0
    ++ (mux_of (unequal_at high h) (above_at high (x + suc l) h) (order_end n x l) ∷ [])

-- The number of gates of this comparison.
abbrev pub order_size : ℕ → ℕ → ℕ
order_size w h = 2 * w + (h - 1)

-- The wire of its answer.
unfoldable pub cut_end : ℕ → ℕ → ℕ → ℕ → ℕ
cut_end n x w h = chain_end n x (order_size w h)

-- The smaller of the words at x and y, whose h highest digits are the high half.
unfoldable pub smaller : ℕ → ℕ → ℕ → ℕ → ℕ → List Gate
smaller n x y w h = order_cut n x y w h ++ choose (cut_end n x w h) y x (suc w)

-- The larger of the words at x and y.
unfoldable pub larger : ℕ → ℕ → ℕ → ℕ → ℕ → List Gate
larger n x y w h = order_cut n x y w h ++ choose (cut_end n x w h) x y (suc w)

-- The larger of the words at x and y if wire f is 1, otherwise the word at y.
unfoldable pub larger_if : ℕ → ℕ → ℕ → ℕ → ℕ → ℕ → List Gate
larger_if n f x y w h =
    order_cut n x y w h ++ (and_of f (cut_end n x w h) ∷ choose (n + order_size w h) x y (suc w))
