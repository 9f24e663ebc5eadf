-- Facts about grade counts: each is the number of ones in its column, only ballot bytes are read, and a candidate's
-- counts add up to n.
-- Assumes nothing.
use mathlib.Core.Path.{◌≡◌, ◌∙◌, refl, sym, ap}
use mathlib.Core.List.{List, []}
use Prim.Native.Nat.{ℕ, zero, suc, ◌+◌, ◌*◌, ◌≤◌, ◌<◌}
use native.Mathlib.Omega.{arith}
use lib.ListN.{length, get_or, take, drop}
use lib.Seq.{get_or-take, get_or-drop}
use borrow.Author.Tests.{ne_eqb}
use Rattle.jury.specs.declared.shape.Shape.{Shape}
use Rattle.jury.specs.Shape.{is_ranking, ballot_bytes}
use Rattle.basics.specs.Lists.{sum, tabulate}
use Rattle.jury.specs.Counts.{byte_of, count_up_to, count_of, counts_of, count_array}
use Rattle.jury.specs.inner.Counts.{rows_in}
use Rattle.jury.specs.Accepted.{GradedBallots}
use Rattle.jury.proofs.Limits.{within, grades_columns}
use Rattle.jury.proofs.Matrix.{array_rows}
use Rattle.basics.proofs.Tabulate.{length_tabulate, get_d_tabulate, tabulate_cong}
use Rattle.jury.proofs.Sums.{addend, sum_ones}
use Rattle.basics.proofs.Sums.{sum_last, sum_add, sum_zero}
use Rattle.jury.proofs.CountLaws.{bit_added}
use Rattle.basics.proofs.Arithmetic.{row_within}

-- the matrix has k rows of d counts, and each is the count of its candidate and grade
pub counts_length : (s : Shape) (xs : List ℕ) → length (counts_of s xs) ≡ s.candidates
unfolding counts_of
counts_length s xs = length_tabulate s.candidates (λ c. tabulate s.grades (count_of s xs c))

pub counts_row : (s : Shape) (xs : List ℕ) (c : ℕ) → c < s.candidates → get_or (counts_of s xs) c [] ≡ tabulate s.grades (count_of s xs c)
unfolding counts_of
counts_row s xs c h = get_d_tabulate s.candidates c (λ c. tabulate s.grades (count_of s xs c)) [] h

pub counts_at : (s : Shape) (xs : List ℕ) (c g : ℕ) → c < s.candidates → g < s.grades
    → get_or (get_or (counts_of s xs) c []) g 0 ≡ count_of s xs c g
counts_at s xs c g hc hg = ap (λ (r : List ℕ). get_or r g 0) (counts_row s xs c hc) ∙ get_d_tabulate s.grades g (count_of s xs c) 0 hg

-- a count is the number of ones in its column
pub column_addends : (s : Shape) (xs : List ℕ) (b c g : ℕ) → count_up_to s xs b c g ≡ sum (tabulate b (λ i. addend (byte_of s xs i c g)))
unfolding count_up_to sum tabulate addend
column_addends s xs zero c g = refl
column_addends s xs (suc b) c g = omega (arith, column_addends s xs b c g, sum_last b (λ i. addend (byte_of s xs i c g)))

-- so for accepted ballots a count is the sum of the bytes in its column
pub column_sum : (s : Shape) (xs : List ℕ) → GradedBallots s xs → (b c g : ℕ) → count_up_to s xs b c g
    ≡ sum (tabulate b (λ i. byte_of s xs i c g))
unfolding addend byte_of
column_sum s xs a b c g =
    column_addends s xs b c g
    ∙ ap sum
    (tabulate_cong b (λ i. addend (byte_of s xs i c g)) (λ i. byte_of s xs i c g)
    (λ i h. bit_added (byte_of s xs i c g) (a.bits ((i * s.candidates + c) * s.grades + g))))

-- the same, with the places of the bytes
pub column_bytes : (s : Shape) (xs : List ℕ) → GradedBallots s xs → (c g : ℕ)
    → count_of s xs c g ≡ sum (tabulate s.ballots (λ i. get_or xs ((i * s.candidates + c) * s.grades + g) 0))
unfolding count_of byte_of
column_bytes s xs a c g = column_sum s xs a s.ballots c g

-- each byte that is counted is a ballot byte
pub byte_within : (s : Shape) (b c g : ℕ) → b < s.ballots → c < s.candidates → g < s.grades
    → (b * s.candidates + c) * s.grades + g < ballot_bytes s
byte_within s b c g hb hc hg =
    let inside = grades_columns s (unfold is_ranking in (ne_eqb s.grades 0 (λ e. absurd (omega arith)))) in
    let row : b * s.candidates + c < s.ballots * s.candidates = omega (arith, row_within b s.ballots s.candidates hb) in
    omega (arith, row_within (b * s.candidates + c) (s.ballots * s.candidates) s.grades row)

-- counts depend only on the bytes of their columns
counts_same : (s : Shape) (xs ys : List ℕ) (n c g : ℕ) → ((b : ℕ) → b < n → byte_of s xs b c g ≡ byte_of s ys b c g)
    → count_up_to s xs n c g ≡ count_up_to s ys n c g
counts_same s xs ys n c g h =
    column_addends s xs n c g
    ∙ ap sum (tabulate_cong n (λ b. addend (byte_of s xs b c g)) (λ b. addend (byte_of s ys b c g)) (λ b l. ap addend (h b l)))
    ∙ sym (column_addends s ys n c g)

-- nothing past the last row is read
pub reads_ballots : (s : Shape) (xs ys : List ℕ) → take (ballot_bytes s) xs ≡ take (ballot_bytes s) ys → counts_of s xs ≡ counts_of s ys
unfolding counts_of count_of byte_of
reads_ballots s xs ys e =
    tabulate_cong s.candidates (λ c. tabulate s.grades (count_of s xs c)) (λ c. tabulate s.grades (count_of s ys c))
    (λ c hc. tabulate_cong s.grades (count_of s xs c) (count_of s ys c)
    (λ g hg. counts_same s xs ys s.ballots c g (λ b hb. byte b c g (byte_within s b c g hb hc hg))))
  where
    byte : (b c g : ℕ) → (b * s.candidates + c) * s.grades + g < ballot_bytes s → byte_of s xs b c g ≡ byte_of s ys b c g
    byte b c g h =
        sym (get_or-take (ballot_bytes s) xs ((b * s.candidates + c) * s.grades + g) 0 h)
        ∙ ap (λ (l : List ℕ). get_or l ((b * s.candidates + c) * s.grades + g) 0) e
        ∙ get_or-take (ballot_bytes s) ys ((b * s.candidates + c) * s.grades + g) 0 h

-- one row of a ballot adds 1 to the candidate's counts together
one_addend : (s : Shape) (xs : List ℕ) → GradedBallots s xs → (c b : ℕ) → c < s.candidates → b < s.ballots
    → sum (tabulate s.grades (λ g. addend (byte_of s xs b c g))) ≡ 1
unfolding byte_of
one_addend s xs a c b hc hb =
    ap sum
    (tabulate_cong s.grades (λ g. addend (byte_of s xs b c g)) (λ g. addend (get_or (drop (row * s.grades) xs) g 0))
    (λ g h. ap addend (sym (get_or-drop (row * s.grades) xs g 0))))
    ∙ sum_ones s.grades (drop (row * s.grades) xs)
    ∙ a.rows row (omega (arith, row_within b s.ballots s.candidates hb))
  where
    row : ℕ
    row = b * s.candidates + c

-- a candidate's counts add up to the number of ballots counted
sum_up_to : (s : Shape) (xs : List ℕ) → GradedBallots s xs → (c : ℕ) → c < s.candidates → (b : ℕ) → b ≤ s.ballots
    → sum (tabulate s.grades (count_up_to s xs b c)) ≡ b
unfolding count_up_to addend
sum_up_to s xs a c hc zero h = sum_zero s.grades
sum_up_to s xs a c hc (suc b) h =
    sum_add s.grades (count_up_to s xs b c) (λ g. addend (byte_of s xs b c g))
    ∙ omega (arith, sum_up_to s xs a c hc b (omega arith), one_addend s xs a c b hc (omega arith))

pub counts_sum : (s : Shape) (xs : List ℕ) → GradedBallots s xs → (c : ℕ) → c < s.candidates → sum (get_or (counts_of s xs) c []) ≡ s.ballots
unfolding count_of
counts_sum s xs a c h = ap sum (counts_row s xs c h) ∙ sum_up_to s xs a c h s.ballots (omega arith)

-- the same for the counts in the program's array
pub array_sum : (s : Shape) (xs : List ℕ) → GradedBallots s xs → (c : ℕ) → c < s.candidates
    → sum (get_or (rows_in s.candidates s.grades (count_array s xs)) c []) ≡ s.ballots
array_sum s xs a c h = ap (λ (m : List (List ℕ)). sum (get_or m c [])) (array_rows s xs (within s a.within)) ∙ counts_sum s xs a c h
