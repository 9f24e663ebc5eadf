-- Compares two keys with equal medians by full majority judgment. Grades are struck outward from the middle of the
-- sorted grades. So the two grades nearest to the median at which the sums differ decide, one on either side.
use Rattle.std.specs.Prelude.{List, [], ◌∷◌, ◌++◌, ℕ, zero, suc, ◌+◌, ◌*◌, ◌/◌}
use Rattle.gates.specs.Gate.{Gate}
use Rattle.gate_words.specs.Gates.{not_of, and_of, or_of, xor_of, mux_of}
use Rattle.gate_words.specs.Halves.{unequal_at, compare_cut, compare_span, above_at}
use Rattle.gate_words.specs.Reach.{reach, reach_last, reach_span}
use Rattle.graded_circuit.specs.Nearest.{stride, sides, side_span, below_at, from_at, last_words, first_words, either_span}
use Rattle.graded_circuit.specs.Nearest.{left_end, right_end}

-- Words have r + 1 digits, of which the h highest are the high half. t grades lie between the best and the second
-- worst, which is the last of the key. Their flags start at wire n, and the choice below the median at `down_at`.
abbrev pub down_at : ℕ → ℕ → ℕ → ℕ
down_at n r t = n + t * side_span r

-- The wire at which the choice from the median on starts.
abbrev pub up_at : ℕ → ℕ → ℕ → ℕ
up_at n r t = down_at n r t + t * either_span r

-- The first wire after both choices.
abbrev pub nearest_end : ℕ → ℕ → ℕ → ℕ
nearest_end n r t = up_at n r t + t * either_span r

-- The wire at which the word of the last grade starts in the key at x.
abbrev pub far_at : ℕ → ℕ → ℕ → ℕ
far_at x r t = x + suc t * stride r

-- The flags of the t grades. Then the words of the last one below the median that differs, or of the best grade. Then
-- those of the first one from the median on that differs, or of the last grade.
unfoldable pub nearest : ℕ → ℕ → ℕ → ℕ → ℕ → ℕ → List Gate
nearest n x y r h t =
    sides n (x + stride r) (y + stride r) r h t
    ++ last_words (down_at n r t) (below_at n r) (x + stride r) (y + stride r) x y r t
    ++ first_words (up_at n r t) (from_at n r) (x + stride r) (y + stride r) (far_at x r t) (far_at y r t) r t

-- The wires at which the chosen words start: below the median (down) or from it on (up), for x (left) or y (right).
abbrev pub down_left : ℕ → ℕ → ℕ → ℕ → ℕ
down_left n x r t = left_end (down_at n r t) x r t

abbrev pub down_right : ℕ → ℕ → ℕ → ℕ → ℕ
down_right n y r t = right_end (down_at n r t) y r t

abbrev pub up_left : ℕ → ℕ → ℕ → ℕ → ℕ
up_left n x r t = left_end (up_at n r t) (far_at x r t) r t

abbrev pub up_right : ℕ → ℕ → ℕ → ℕ → ℕ
up_right n y r t = right_end (up_at n r t) (far_at y r t) r t

-- How many digits of the chosen words are the high half. They have all their digits at once, and are compared in two
-- halves. If t is 0, nothing was chosen.
unfoldable pub chosen_high : ℕ → ℕ → ℕ → ℕ
chosen_high r h zero = h
chosen_high r h (suc t) = suc r / 2

-- Compares the words at a and c, below the median, and those at u and v, from it on. Then says for each key whether
-- its two sums together reach n: the carry of its two words and the public bit e.
unfoldable pub compare_and_reach : ℕ → ℕ → ℕ → ℕ → ℕ → ℕ → ℕ → ℕ → List Gate
compare_and_reach n a c u v e r h =
    compare_cut n a c r h
    ++ compare_cut (n + compare_span r) u v r h
    ++ reach (n + 2 * compare_span r) a u e r
    ++ reach (n + 2 * compare_span r + reach_span r) c v e r

-- The number of gates of this block.
abbrev pub compare_and_reach_span : ℕ → ℕ
compare_and_reach_span r = 2 * compare_span r + reach_span r + reach_span r

-- The wires of the two carries: x's and y's.
abbrev pub left_carry : ℕ → ℕ → ℕ
left_carry n r = n + 2 * compare_span r + reach_last r

abbrev pub right_carry : ℕ → ℕ → ℕ
right_carry n r = n + 2 * compare_span r + reach_span r + reach_last r

-- Which comparison decides. Wires e and s say whether the medians differ and, if so, whether x comes first; e₁ and s₁
-- say this for the lower grade, below the median, e₂ and s₂ for the upper one. j and k are the carries of x and y. f
-- and g say whether the median is worse than the best grade, and than the last.
unfoldable pub resolve : ℕ → ℕ → ℕ → ℕ → ℕ → ℕ → ℕ → ℕ → ℕ → ℕ → ℕ → List Gate
-- Wire n: the two sums of the key that is larger at the lower grade reach n. n + 2: grades lie on both sides of the
-- median. n + 3: the lower one is struck first. n + 4, n + 6: both differ, one does. n + 7: x is first by the upper
-- or, if that is equal, the lower. n + 12: the lower overrules it. n + 14: the keys differ. n + 15: x is first.
resolve n e s e₁ s₁ e₂ s₂ j k f g =
    mux_of s₁ j k
    ∷ not_of f
    ∷ xor_of f g
    ∷ mux_of (n + 2) n (n + 1)
    ∷ and_of e₁ e₂
    ∷ xor_of e₁ e₂
    ∷ xor_of (n + 5) (n + 4)
    ∷ mux_of e₂ s₂ s₁
    ∷ xor_of s₁ s₂
    ∷ not_of e
    ∷ and_of (n + 8) (n + 9)
    ∷ and_of (n + 4) (n + 10)
    ∷ and_of (n + 11) (n + 3)
    ∷ mux_of e s (n + 7)
    ∷ or_of e (n + 6)
    ∷ xor_of (n + 13) (n + 12)
    ∷ []

-- The number of gates of `resolve`.
abbrev pub resolve_span : ℕ
resolve_span = 16

-- The wire at which `resolve` starts.
abbrev pub resolve_at : ℕ → ℕ → ℕ → ℕ
resolve_at n r t = nearest_end n r t + compare_and_reach_span r

-- The whole comparison from wire n on. e and s compare the medians; `bit` is 1 if the number of ballots is odd.
unfoldable pub tie_break : ℕ → ℕ → ℕ → ℕ → ℕ → ℕ → ℕ → ℕ → ℕ → List Gate
tie_break bit n x y e s r h t =
    nearest n x y r h t
    ++ compare_and_reach (nearest_end n r t) (down_left n x r t) (down_right n y r t) (up_left n x r t)
    (up_right n y r t)
    bit r (chosen_high r h t)
    ++ resolve (resolve_at n r t) e s
    (unequal_at (nearest_end n r t) r) (above_at (nearest_end n r t) (down_left n x r t) r)
    (unequal_at (nearest_end n r t + compare_span r) r)
    (above_at (nearest_end n r t + compare_span r) (up_left n x r t) r)
    (left_carry (nearest_end n r t) r) (right_carry (nearest_end n r t) r)
    (x + suc r) (far_at x r t + suc r)

-- The number of gates of the whole comparison.
abbrev pub tie_break_span : ℕ → ℕ → ℕ
tie_break_span r t = t * side_span r + t * either_span r + t * either_span r + compare_and_reach_span r + resolve_span
