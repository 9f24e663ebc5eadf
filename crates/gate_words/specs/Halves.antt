-- Words compared in two halves, side by side, in half as many rounds. The low half has l + 1 digits, the high half h;
-- if h is 0, the low half is the whole word. The cut changes neither the number of gates nor that of conditional
-- ones.
use Rattle.std.specs.Prelude.{List, [], ◌∷◌, ◌++◌, ℕ, zero, suc, ◌+◌, ◌-◌}
use Rattle.gates.specs.Gate.{Gate}
use Rattle.gate_words.specs.Gates.{or_of, mux_of}
use Rattle.gate_words.specs.Choice.{any_of, chain_end}
use Rattle.gate_words.specs.Comparison.{differences, above}

-- Whether wire s or one of l + h wires from `at` on is 1: one chain joins s and the first l wires, another the h
-- wires after them, and an "or" joins the two.
unfoldable pub any_of_halves : ℕ → ℕ → ℕ → ℕ → ℕ → List Gate
any_of_halves n s at l zero = any_of n s at 1 l
any_of_halves n s at l (suc h) =
    any_of n s at 1 l
    ++ any_of (n + l) (at + l) (at + l + 1) 1 h
    ++ (or_of (chain_end (n + l) (at + l) h) (chain_end n s l) ∷ [])

-- Whether the words of l + h + 1 digits at x and y differ.
unfoldable pub unequal_halves : ℕ → ℕ → ℕ → ℕ → ℕ → List Gate
unequal_halves n x y l h = differences x y (suc (l + h)) ++ any_of_halves (n + suc (l + h)) n (n + 1) l h

-- For words of w + 1 digits: the number of gates of this block, and the wire that says whether the words differ.
abbrev pub unequal_span : ℕ → ℕ
unequal_span w = suc w + w

abbrev pub unequal_at : ℕ → ℕ → ℕ
unequal_at n w = chain_end (n + suc w) n w

-- Whether the word at x is above another that differs from it. The wires from f on say in which digits they differ,
-- wire e whether they differ in the high half. The chain of each half starts with x's lowest digit there.
unfoldable pub above_halves : ℕ → ℕ → ℕ → ℕ → ℕ → ℕ → List Gate
above_halves n f x e l zero = above n (f + 1) (x + 1) x l
above_halves n f x e l (suc h) =
    above n (f + 1) (x + 1) x l
    ++ above (n + l) (f + 1 + l + 1) (x + 1 + l + 1) (x + 1 + l) h
    ++ (mux_of e (chain_end (n + l) (x + 1 + l) h) (chain_end n x l) ∷ [])

-- The wire that says whether the high halves differ. If there is no high half, nothing uses it.
unfoldable pub high_unequal_at : ℕ → ℕ → ℕ → ℕ
high_unequal_at n l zero = n
high_unequal_at n l (suc h) = chain_end (n + suc (l + suc h) + l) (n + 1 + l) h

-- Whether the words at x and y differ, and, if they do, whether x is above y.
unfoldable pub compare_halves : ℕ → ℕ → ℕ → ℕ → ℕ → List Gate
compare_halves n x y l h =
    unequal_halves n x y l h ++ above_halves (n + unequal_span (l + h)) n x (high_unequal_at n l h) l h

-- For words of w + 1 digits: the number of gates of this block, and the wire that says, if they differ, whether x is
-- above.
abbrev pub compare_span : ℕ → ℕ
compare_span w = unequal_span w + w

abbrev pub above_at : ℕ → ℕ → ℕ → ℕ
above_at n x w = chain_end (n + unequal_span w) x w

-- The same for words of w + 1 digits, of which the h highest, at most w, are the high half.
abbrev pub unequal_cut : ℕ → ℕ → ℕ → ℕ → ℕ → List Gate
unequal_cut n x y w h = unequal_halves n x y (w - h) h

abbrev pub compare_cut : ℕ → ℕ → ℕ → ℕ → ℕ → List Gate
compare_cut n x y w h = compare_halves n x y (w - h) h
