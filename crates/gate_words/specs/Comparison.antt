-- Comparing words, from the lowest digit up. A word is above another if it is the larger number.
use Rattle.std.specs.Prelude.{List, [], ◌∷◌, ℕ, zero, suc, ◌+◌, ◌*◌}
use Rattle.gates.specs.Gate.{Gate}
use Rattle.gate_words.specs.Gates.{and_of, xor_of, mux_of}

-- Two digits compared both ways, with one conditional gate: wire n + 1 says whether x is above y, wire n + 2
-- whether it is below.
unfoldable pub first_digit : ℕ → ℕ → ℕ → List Gate
first_digit n x y = xor_of x y ∷ and_of x n ∷ xor_of n (n + 1) ∷ []

-- Two words of w digits compared both ways. The wires up and down say whether x is above y, and below it, in the
-- lower digits. Both ways share the gate for each digit's difference.
unfoldable pub compare_words : ℕ → ℕ → ℕ → ℕ → ℕ → ℕ → List Gate
compare_words n x y up down zero = []
compare_words n x y up down (suc w) =
    xor_of x y ∷ mux_of n x up ∷ mux_of n y down ∷ compare_words (n + 3) (x + 1) (y + 1) (n + 1) (n + 2) w

-- The wires that say, after w digits, whether x is above y (`up_end`) and whether it is below (`down_end`).
unfoldable pub up_end : ℕ → ℕ → ℕ → ℕ
up_end n up zero = up
up_end n up (suc w) = n + 3 * w + 1

unfoldable pub down_end : ℕ → ℕ → ℕ → ℕ
down_end n down zero = down
down_end n down (suc w) = n + 3 * w + 2

-- For each of w digits, whether the words at x and y differ in this digit.
unfoldable pub differences : ℕ → ℕ → ℕ → List Gate
differences x y zero = []
differences x y (suc w) = xor_of x y ∷ differences (x + 1) (y + 1) w

-- Whether the word at x is above another; the wires from f on say in which of w digits the two differ. From the
-- lowest digit up: if the digits differ, x's digit decides; if not, the result so far stays. It starts as wire s,
-- which has the result for lower digits, and ends in the last wire.
unfoldable pub above : ℕ → ℕ → ℕ → ℕ → ℕ → List Gate
above n f x s zero = []
above n f x s (suc w) = mux_of f x s ∷ above (n + 1) (f + 1) (x + 1) n w
