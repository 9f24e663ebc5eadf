-- The running sums of one candidate. The sum of a grade is the number of ballots that give this grade or a better
-- one. A ballot gives one grade, so the sum modulo 2 of its bits for these grades says whether it counts. A row has
-- this bit for each ballot.
use Rattle.std.specs.Prelude.{List, [], ◌++◌, ℕ, zero, suc, ◌+◌, ◌-◌, ◌*◌}
use Rattle.gates.specs.Gate.{Gate}
use Rattle.gate_words.specs.Rows.{xor_rows}
use Rattle.gate_words.specs.Counter.{count_levels, count_size}
use Rattle.graded_circuit.specs.declared.plan.Plan.{Plan}
use Rattle.graded_circuit.specs.Plan.{bits_at, ballot_stride}

-- A sum, with the offset added, has this many digits. The top digit is 1 exactly if twice the sum is at least n.
abbrev pub word_span : Plan → ℕ
word_span p = p.digits + 1

-- The number of gates in the levels of a sum.
abbrev pub sum_size : Plan → ℕ
sum_size p = count_size p.ballots p.offset p.digits

-- The number of gates in the levels of the worst grade's count.
abbrev pub worst_size : Plan → ℕ
worst_size p = count_size p.ballots p.worst p.digits

-- The first bit that candidate c's sum of grade g counts: a bit of the ballots for the best grade, otherwise a bit of
-- a row. The rows are written one after the other from wire n on.
unfoldable pub row_at : Plan → ℕ → ℕ → ℕ → ℕ
row_at p n c zero = bits_at p c 0
row_at p n c (suc g) = n + g * p.ballots

-- How far these bits are apart.
unfoldable pub row_stride : Plan → ℕ → ℕ
row_stride p zero = ballot_stride p
row_stride p (suc g) = 1

-- The t rows after that of grade g. Each adds the next grade's bits, modulo 2, to the row before it.
unfoldable pub rows : Plan → ℕ → ℕ → ℕ → ℕ → List Gate
rows p n c g zero = []
rows p n c g (suc t) =
    xor_rows (row_at p n c g) (row_stride p g) (bits_at p c (suc g)) (ballot_stride p) p.ballots ++ rows p n c (suc g) t

-- The wire at which the levels of grade g's sum start, if those of the best grade start at wire m.
abbrev pub sum_levels_from : Plan → ℕ → ℕ → ℕ
sum_levels_from p m g = m + g * sum_size p

-- The levels of grade g's sum, if the rows start at wire n.
unfoldable pub sum_levels : Plan → ℕ → ℕ → ℕ → ℕ → List Gate
sum_levels p n m c g =
    count_levels (sum_levels_from p m g) (row_at p n c g) (row_stride p g) p.ballots p.offset p.digits

-- The levels of the sums of t grades from grade g on.
unfoldable pub all_levels : Plan → ℕ → ℕ → ℕ → ℕ → ℕ → List Gate
all_levels p n m c g zero = []
all_levels p n m c g (suc t) = sum_levels p n m c g ++ all_levels p n m c (suc g) t

-- The sum of the second worst grade is n less the count of the worst grade. So it needs no row: the levels from wire
-- m on count the worst grade's bits.
unfoldable pub worst_levels : Plan → ℕ → ℕ → List Gate
worst_levels p m c =
    count_levels m (bits_at p c (p.grades - 1)) (ballot_stride p) p.ballots p.worst p.digits
