-- For two keys with equal medians: the sums of the two grades nearest to the median at which the keys differ, one on
-- either side. Grades are numbered from the best, so a grade below the median is a better one.
use Rattle.std.specs.Prelude.{List, [], ◌∷◌, ◌++◌, ℕ, zero, suc, ◌+◌, ◌*◌}
use Rattle.gates.specs.Gate.{Gate}
use Rattle.gate_words.specs.Gates.{and_of, xor_of}
use Rattle.gate_words.specs.Choice.{choose}
use Rattle.gate_words.specs.Halves.{unequal_cut, unequal_span, unequal_at}

-- Words have r + 1 digits here, and start r + 2 wires apart in a key.
abbrev pub stride : ℕ → ℕ
stride r = r + 2

-- Two flags for one grade: the words at x and y differ and the median is worse, as the wire after the word at x says;
-- and they differ and the median is not worse. The h highest digits of the words are the high half.
unfoldable pub side_flags : ℕ → ℕ → ℕ → ℕ → ℕ → List Gate
side_flags n x y r h =
    unequal_cut n x y r h
    ++ (and_of (unequal_at n r) (x + suc r) ∷ xor_of (unequal_at n r) (n + unequal_span r) ∷ [])

-- The number of gates of this block.
abbrev pub side_span : ℕ → ℕ
side_span r = unequal_span r + 2

-- The wire of the first flag: the words differ, and the grade is below the median.
abbrev pub below_at : ℕ → ℕ → ℕ
below_at n r = n + unequal_span r

-- The wire of the second flag: the words differ, and the grade is the median or above it.
abbrev pub from_at : ℕ → ℕ → ℕ
from_at n r = n + unequal_span r + 1

-- The flags of t grades. The words of the first one are at x and y.
unfoldable pub sides : ℕ → ℕ → ℕ → ℕ → ℕ → ℕ → List Gate
sides n x y r h zero = []
sides n x y r h (suc t) = side_flags n x y r h ++ sides (n + side_span r) (x + stride r) (y + stride r) r h t

-- The words at x and y if wire f is 1, else those at u and v.
unfoldable pub either : ℕ → ℕ → ℕ → ℕ → ℕ → ℕ → List Gate
either f x y u v r = choose f x u (suc r) ++ choose f y v (suc r)

-- The number of gates of this block.
abbrev pub either_span : ℕ → ℕ
either_span r = suc r + suc r

-- The words of the last of t grades whose flag is 1, or those at u and v if there is none. The first grade's flag is
-- wire f, and its words are at x and y.
unfoldable pub last_words : ℕ → ℕ → ℕ → ℕ → ℕ → ℕ → ℕ → ℕ → List Gate
last_words n f x y u v r zero = []
last_words n f x y u v r (suc t) =
    either f x y u v r ++ last_words (n + either_span r) (f + side_span r) (x + stride r) (y + stride r) n (n + suc r)
    r t

-- The words of the first such grade: the grades are visited from the last to the first.
unfoldable pub first_words : ℕ → ℕ → ℕ → ℕ → ℕ → ℕ → ℕ → ℕ → List Gate
first_words n f x y u v r zero = []
first_words n f x y u v r (suc t) =
    either (f + t * side_span r) (x + t * stride r) (y + t * stride r) u v r
    ++ first_words (n + either_span r) f x y n (n + suc r) r t

-- The wires at which the chosen words start; u and v themselves if there is no grade to choose from.
unfoldable pub left_end : ℕ → ℕ → ℕ → ℕ → ℕ
left_end n u r zero = u
left_end n u r (suc t) = n + t * either_span r

unfoldable pub right_end : ℕ → ℕ → ℕ → ℕ → ℕ
right_end n v r zero = v
right_end n v r (suc t) = n + t * either_span r + suc r
