-- The matrix of grade counts and the array in which the program keeps it.
-- Assumes nothing.
use mathlib.Core.Path.{◌≡◌, ◌∙◌, sym, ap}
use mathlib.Core.Bool.{cond, ◌&&◌}
use mathlib.Core.List.{List, [], map}
use Prim.Native.Nat.{ℕ, ◌<◌}
use lib.Dec.{ltb}
use lib.ListN.{length, get_or, take}
use Rattle.jury.specs.Shape.{most_candidates, most_grades}
use Rattle.jury.specs.declared.shape.Shape.{Shape}
use Rattle.jury.specs.Counts.{count_of, counts_of, count_array}
use Rattle.basics.specs.Lists.{tabulate}
use Rattle.jury.specs.inner.Counts.{rows_in}
use Rattle.jury.proofs.Limits.{Within}
use Rattle.basics.proofs.Tabulate.{tabulate_cong, take_tabulate, map_tabulate, length_tabulate, get_d_tabulate}
use Rattle.jury.proofs.CountLaws.{entry_after, row_after, array_after, entry_inside, array_end}

-- the first d counts of the array's first k rows are the matrix
pub array_rows : (s : Shape) (xs : List ℕ) → Within s → rows_in s.candidates s.grades (count_array s xs) ≡ counts_of s xs
unfolding rows_in array_after row_after counts_of count_of
array_rows s xs w =
    ap (λ (m : List (List ℕ)). map (take d) (take k m)) (sym (array_end s xs))
    ∙ ap (map (take d)) (take_tabulate k most_candidates (row_after s xs n) w.k_most)
    ∙ map_tabulate (take d) k (row_after s xs n)
    ∙ tabulate_cong k (λ c. take d (row_after s xs n c)) (λ c. tabulate d (count_of s xs c)) row
  where
    k : ℕ
    k = s.candidates

    d : ℕ
    d = s.grades

    n : ℕ
    n = s.ballots

    row : (c : ℕ) → c < k → take d (row_after s xs n c) ≡ tabulate d (count_of s xs c)
    row c h =
        take_tabulate d most_grades (entry_after s xs n c) w.d_most
        ∙ tabulate_cong d (entry_after s xs n c) (count_of s xs c) (λ g l. entry_inside s xs n c g h l)

-- every row of the array has seven counts
pub array_eight : (s : Shape) (xs : List ℕ) → length (count_array s xs) ≡ most_candidates
unfolding count_array
array_eight s xs =
    length_tabulate most_candidates (λ c. tabulate most_grades (λ g. cond (ltb c s.candidates && ltb g s.grades) (count_of s xs c g) 0))

pub array_columns : (s : Shape) (xs : List ℕ) (i : ℕ) → i < most_candidates → length (get_or (count_array s xs) i []) ≡ most_grades
unfolding count_array
array_columns s xs i l = rw (get_d_tabulate most_candidates i
    (λ c. tabulate most_grades (λ g. cond (ltb c s.candidates && ltb g s.grades) (count_of s xs c g) 0)) [] l)
    (length_tabulate most_grades (λ g. cond (ltb i s.candidates && ltb g s.grades) (count_of s xs i g) 0))
