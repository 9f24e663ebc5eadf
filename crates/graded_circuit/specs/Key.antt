-- The key of a candidate: all that decides about it, on neighbouring wires.
use Rattle.std.specs.Prelude.{List, [], ◌++◌, ℕ, zero, suc, ◌+◌, ◌-◌, ◌*◌}
use Rattle.gates.specs.Gate.{Gate}
use Rattle.gate_words.specs.Counter.{count_digits_as}
use Rattle.graded_circuit.specs.declared.plan.Plan.{Plan}
use Rattle.graded_circuit.specs.Plan.{bits_at}
use Rattle.graded_circuit.specs.RunningSums.{word_span, sum_size, worst_size, row_at, rows, sum_levels_from, all_levels}
use Rattle.graded_circuit.specs.RunningSums.{worst_levels}

-- The word of grade g in candidate c's key: the low digits of its sum, then a flag that says whether twice the sum is
-- below n. If it is, the median is worse than g. The rows start at wire n, and the levels at wire m.
unfoldable pub key_word : Plan → ℕ → ℕ → ℕ → ℕ → List Gate
key_word p n m c g = count_digits_as 2 3 (sum_levels_from p m g) (row_at p n c g) p.ballots p.offset p.digits

-- The words of t grades from grade g on.
unfoldable pub key_words : Plan → ℕ → ℕ → ℕ → ℕ → ℕ → List Gate
key_words p n m c g zero = []
key_words p n m c g (suc t) = key_word p n m c g ++ key_words p n m c (suc g) t

-- The word of the second worst grade, from the count of the worst one, whose levels start at wire m. The low digits
-- are complemented; the top digit is the flag as it is.
unfoldable pub worst_word : Plan → ℕ → ℕ → List Gate
worst_word p m c = count_digits_as 3 2 m (bits_at p c (p.grades - 1)) p.ballots p.worst p.digits

-- The wire at which the levels of the sums start, if the candidate's rows start at wire n.
abbrev pub sums_at : Plan → ℕ → ℕ
sums_at p n = n + (p.grades - 3) * p.ballots

-- The wire at which the levels of the worst grade's count start.
abbrev pub worst_at : Plan → ℕ → ℕ
worst_at p n = sum_levels_from p (sums_at p n) (p.grades - 2)

-- The circuit of candidate c from wire n on: the rows, the levels of all sums, then the key, grade by grade.
unfoldable pub candidate : Plan → ℕ → ℕ → List Gate
candidate p n c =
    rows p n c 0 (p.grades - 3)
    ++ all_levels p n (sums_at p n) c 0 (p.grades - 2)
    ++ worst_levels p (worst_at p n) c
    ++ key_words p n (sums_at p n) c 0 (p.grades - 2)
    ++ worst_word p (worst_at p n) c

-- The wire at which the key starts, if the candidate's circuit starts at wire n.
abbrev pub key_of : Plan → ℕ → ℕ
key_of p n = worst_at p n + worst_size p

-- The number of wires of a key.
abbrev pub key_span : Plan → ℕ
key_span p = (p.grades - 1) * word_span p

-- The number of gates of a candidate's circuit.
unfoldable pub candidate_span : Plan → ℕ
candidate_span p =
    (p.grades - 3) * p.ballots + (p.grades - 2) * sum_size p + worst_size p + key_span p

-- The wire at which grade g's word starts in the key at x: first the low digits of its sum, then the flag.
abbrev pub low_at : Plan → ℕ → ℕ → ℕ
low_at p x g = x + g * word_span p
