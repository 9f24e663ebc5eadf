-- Grade counts: how many ballots give each candidate each grade.
use Rattle.std.specs.Prelude.{◌≡◌, cond, ◌&&◌, List, [], ℕ, zero, suc, ◌+◌, ◌*◌, ◌<◌, eqb, ltb, get_or}
use Rattle.jury.specs.declared.shape.Shape.{Shape}
use Rattle.basics.specs.Lists.{sum}
use Rattle.basics.specs.Lists.{tabulate}
use Rattle.jury.specs.Shape.{most_candidates, most_grades}

-- The byte of ballot b, candidate c and grade g. A ballot has a row for each candidate, and a row has a byte for
-- each grade, best first.
unfoldable pub byte_of : Shape → List ℕ → ℕ → ℕ → ℕ → ℕ
byte_of s xs b c g = get_or xs ((b * s.candidates + c) * s.grades + g) 0

-- How many of the first b ballots give candidate c the grade g.
unfoldable pub count_up_to : Shape → List ℕ → ℕ → ℕ → ℕ → ℕ
count_up_to s xs zero c g = 0
count_up_to s xs (suc b) c g = count_up_to s xs b c g + cond (eqb (byte_of s xs b c g) 1) 1 0

-- How many ballots give candidate c the grade g.
unfoldable pub count_of : Shape → List ℕ → ℕ → ℕ → ℕ
count_of s xs c g = count_up_to s xs s.ballots c g

-- The matrix of grade counts: a row for each candidate, and in each row a count for each grade, best first.
unfoldable pub counts_of : Shape → List ℕ → List (List ℕ)
counts_of s xs = tabulate s.candidates (λ c. tabulate s.grades (count_of s xs c))

-- The same matrix in the program's array of eight rows of seven counts, which has 0 outside the shape.
unfoldable pub count_array : Shape → List ℕ → List (List ℕ)
count_array s xs =
    tabulate most_candidates
    (λ c. tabulate most_grades (λ g. cond (ltb c s.candidates && ltb g s.grades) (count_of s xs c g) 0))

-- [sum]: the counts of each candidate add up to n.
abbrev pub AddUp : Shape → List (List ℕ) → Type 0
AddUp s rows = (c : ℕ) → c < s.candidates → sum (get_or rows c []) ≡ s.ballots
