-- Compares two keys by full majority judgment.
use Rattle.std.specs.Prelude.{List, [], ◌∷◌, ◌++◌, ℕ, zero, suc, ◌+◌, ◌-◌, ◌%◌}
use Rattle.gates.specs.Gate.{Gate}
use Rattle.gate_words.specs.Gates.{copy_of, or_of, mux_of}
use Rattle.gate_words.specs.Halves.{unequal_at, compare_cut, compare_span, above_at}
use Rattle.graded_circuit.specs.declared.plan.Plan.{Plan}
use Rattle.graded_circuit.specs.RunningSums.{word_span}
use Rattle.graded_circuit.specs.Median.{compare_ones, ones_span, ones_differ, ones_larger}
use Rattle.graded_circuit.specs.TieBreak.{tie_break, resolve_at}

-- Which of the keys at x and y is first. Wires e and s say whether their medians differ and, if so, whether x's is
-- better. A key has t + 1 sums; the h highest of their low digits are the high half. The last two wires say whether
-- the keys differ and, if so, whether x is first. Without low digits, the medians decide.
unfoldable pub tie_break_below : Plan → ℕ → ℕ → ℕ → ℕ → ℕ → ℕ → ℕ → ℕ → List Gate
tie_break_below p n x y e s zero h t = copy_of e ∷ copy_of s ∷ []
tie_break_below p n x y e s (suc r) h zero =
    compare_cut n x y r h ++ (or_of e (unequal_at n r) ∷ mux_of e s (above_at n x r) ∷ [])
tie_break_below p n x y e s (suc r) h (suc t) = tie_break (p.ballots % 2) n x y e s r h t

-- The number of gates before those last two.
unfoldable pub tie_break_below_span : ℕ → ℕ → ℕ
tie_break_below_span zero t = 0
tie_break_below_span (suc r) zero = compare_span r
tie_break_below_span (suc r) (suc t) = resolve_at 0 r t + 14

-- The number of gates that compare the medians.
abbrev pub medians_span : Plan → ℕ
medians_span p = ones_span (p.grades - 1) p.places

-- The wire at which the comparison of the sums starts.
abbrev pub tie_break_below_at : Plan → ℕ → ℕ
tie_break_below_at p n = n + medians_span p

-- The wire that says whether the keys differ. If they do, the next wire says whether x comes first.
abbrev pub result_at : Plan → ℕ → ℕ
result_at p n = tie_break_below_at p n + tie_break_below_span p.digits (p.grades - 2)

-- Compares the keys at x and y: first the medians, then the sums. Median grades are numbered from the best, so x's is
-- better if y's number is larger. The h highest digits of a sum are the high half.
unfoldable pub contest : Plan → ℕ → ℕ → ℕ → ℕ → List Gate
contest p n x y h =
    compare_ones n (y + p.digits) (x + p.digits) (word_span p) (p.grades - 1) p.places
    ++ tie_break_below p (tie_break_below_at p n) x y
    (ones_differ n (p.grades - 1) p.places) (ones_larger n (y + p.digits) (p.grades - 1) p.places)
    p.digits h (p.grades - 2)

-- The number of gates of a contest.
abbrev pub contest_span : Plan → ℕ
contest_span p = medians_span p + tie_break_below_span p.digits (p.grades - 2) + 2
