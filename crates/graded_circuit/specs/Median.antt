-- Which of two median grades is worse. Each has a row of flags, one for each grade: whether the median is worse than
-- this grade. Grades are numbered from the best, so the flags of the first grades are 1, and the number of these ones
-- is the number of the median grade.
use Rattle.std.specs.Prelude.{List, [], ◌∷◌, ◌++◌, ℕ, zero, suc, ◌+◌, ◌-◌, ◌*◌, ◌/◌, ◌^◌, ◌≤◌, ◌<◌}
use Rattle.gates.specs.Gate.{Gate}
use Rattle.gate_words.specs.Gates.{or_of, xor_of, mux_of}
use Rattle.gate_words.specs.Choice.{parity, chain_end}

-- The number of ones among m wires needs w digits: m itself has exactly w.
pub record Fits (m w : ℕ) : Type 0 where
  pub enough : m < 2 ^ w
  pub needed : 2 ^ w ≤ 2 * m + 1

-- The wire of the lowest digit of the number of ones among the m wires at x: their sum modulo 2, by a chain from wire
-- n on.
abbrev pub left_digit : ℕ → ℕ → ℕ → ℕ
left_digit n x m = chain_end n x (m - 1)

-- The same for the m wires at y, by a chain after x's.
abbrev pub right_digit : ℕ → ℕ → ℕ → ℕ
right_digit n y m = chain_end (n + (m - 1)) y (m - 1)

-- The wire that says whether the two lowest digits differ.
abbrev pub differ_at : ℕ → ℕ → ℕ
differ_at n m = n + (m - 1) + (m - 1)

-- The lowest digits of both numbers of ones, among m wires from x and from y on, d apart, and whether they differ.
unfoldable pub digit_difference : ℕ → ℕ → ℕ → ℕ → ℕ → List Gate
digit_difference n x y d m =
    parity n x (x + d) d (m - 1)
    ++ parity (n + (m - 1)) y (y + d) d (m - 1)
    ++ (xor_of (left_digit n x m) (right_digit n y m) ∷ [])

-- The number of gates of this block.
abbrev pub difference_span : ℕ → ℕ
difference_span m = (m - 1) + (m - 1) + 1

-- Compares one more digit. Wires e and s have the result for the lower digits: whether they differ and, if they do,
-- whether the first number is larger. If the new digits differ, they decide.
unfoldable pub next_digit : ℕ → ℕ → ℕ → ℕ → ℕ → ℕ → ℕ → List Gate
next_digit n x y d m e s =
    digit_difference n x y d m ++ (or_of e (differ_at n m) ∷ mux_of (differ_at n m) (left_digit n x m) s ∷ [])

-- Compares w more digits. Because the ones come first, the next digit of their number is the lowest digit of the
-- number of ones among every second wire, from the second on.
unfoldable pub later_digits : ℕ → ℕ → ℕ → ℕ → ℕ → ℕ → ℕ → ℕ → List Gate
later_digits n x y d m e s zero = []
later_digits n x y d m e s (suc w) =
    next_digit n x y d m e s
    ++ later_digits (differ_at n m + 3) (x + d) (y + d) (d + d) (m / 2) (differ_at n m + 1) (differ_at n m + 2) w

-- The number of gates of these w digits.
unfoldable pub later_span : ℕ → ℕ → ℕ
later_span m zero = 0
later_span m (suc w) = difference_span m + 2 + later_span (m / 2) w

-- Compares the numbers of ones, among the m wires at x and those at y, d apart, in w + 1 digits.
unfoldable pub compare_ones : ℕ → ℕ → ℕ → ℕ → ℕ → ℕ → List Gate
compare_ones n x y d m w =
    digit_difference n x y d m
    ++ later_digits (differ_at n m + 1) (x + d) (y + d) (d + d) (m / 2) (differ_at n m) (left_digit n x m) w

-- The number of gates of this comparison.
unfoldable pub ones_span : ℕ → ℕ → ℕ
ones_span m w = difference_span m + later_span (m / 2) w

-- The wires of the result after w more digits: they are the last two before wire `end`, the first wire after the
-- block. If w is 0, they are the wires e and s from before.
unfoldable pub differ_end : ℕ → ℕ → ℕ → ℕ
differ_end end e zero = e
differ_end end e (suc w) = end - 2

unfoldable pub larger_end : ℕ → ℕ → ℕ → ℕ
larger_end end s zero = s
larger_end end s (suc w) = end - 1

-- The wire that says whether the numbers of ones differ, if their comparison starts at wire n.
abbrev pub ones_differ : ℕ → ℕ → ℕ → ℕ
ones_differ n m w = differ_end (n + ones_span m w) (differ_at n m) w

-- The wire that says, if they differ, whether the number of ones at x is larger.
abbrev pub ones_larger : ℕ → ℕ → ℕ → ℕ → ℕ
ones_larger n x m w = larger_end (n + ones_span m w) (left_digit n x m) w
