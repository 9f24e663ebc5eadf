-- A candidate's circuit is well-formed, and its length says where each part starts.
-- Assumes nothing.
use mathlib.Core.Path.{◌≡◌, refl, sym, ap}
use Prim.Native.Nat.{ℕ, zero, suc, ◌+◌, ◌-◌, ◌*◌, ◌≤◌, ◌<◌}
use native.Mathlib.Nat.{suc-mul, zero-mul, mul-one, mul-le-mul_right}
use native.Mathlib.Omega.{arith}
use Rattle.gates.proofs.Laws.{operand_counts_lem}
use Rattle.gate_words.specs.Word.{Below}
use Rattle.gate_words.proofs.Places.{below_first}
use Rattle.graded_circuit.specs.declared.plan.Plan.{Plan}
use Rattle.graded_circuit.specs.Plan.{Planned, bits_at, ballot_stride}
use Rattle.graded_circuit.specs.RunningSums.{word_span, sum_size, worst_size, row_at, row_stride, rows, sum_levels_from, sum_levels, all_levels, worst_levels}
use Rattle.graded_circuit.specs.Key.{key_word, key_words, worst_word, sums_at, worst_at, candidate, key_of, key_span, candidate_span}
use Rattle.graded_circuit.proofs.Blocks.{Block, none_block, both_block, sized, from_wire, rows_block, levels_block, digits_block}
use Rattle.graded_circuit.proofs.PlanFacts.{bits_below, first_countable, worst_countable}
use Rattle.gate_words.proofs.CounterSteps.{below_stride}

pub candidate_span_lem : (p : Plan) → candidate_span p ≡ (p.grades - 3) * p.ballots + (p.grades - 2) * sum_size p + worst_size p + key_span p
unfolding candidate_span
candidate_span_lem p = refl

pub key_of_lem : (p : Plan) (n : ℕ) → key_of p n + key_span p ≡ n + candidate_span p
unfolding candidate_span
key_of_lem p n = omega arith

-- the rows of all grades below t end before wire m
abbrev pub RowsBefore : Plan → ℕ → ℕ → ℕ → Type 0
RowsBefore p n m t = (g : ℕ) → g < t → n + g * p.ballots ≤ m

pub rows_before : (p : Plan) (n : ℕ) → RowsBefore p n (sums_at p n) (0 + (p.grades - 2))
rows_before p n g l = omega (arith, mul-le-mul_right {m = g} {n = p.grades - 3} p.ballots (omega arith))

module _ (p : Plan) (f : Planned p) where
  some_grades : 0 < p.grades
  some_grades = omega (arith, f.d_least)

  -- the bits that the sum of a grade counts are wires once its row is written
  pub counted_below : (n m c g : ℕ) → p.inputs ≤ n → c < p.candidates → n + g * p.ballots ≤ m
      → Below m (row_at p n c g) (row_stride p g) p.ballots
  unfolding row_at row_stride
  counted_below n m c zero h hc hm = bits_below p f m c 0 (omega (arith, zero-mul p.ballots)) hc some_grades
  counted_below n m c (suc g) h hc hm =
      below_stride m (n + g * p.ballots) 1 p.ballots (omega (arith, suc-mul g p.ballots, mul-one p.ballots))

  pub next_rows_block : (n c g t : ℕ) → p.inputs ≤ n → c < p.candidates → g + t < p.grades
      → Block (n + g * p.ballots) (rows p n c g t) (t * p.ballots)
  unfolding rows
  next_rows_block n c g zero h hc hg = sized (sym (zero-mul p.ballots)) (none_block (n + g * p.ballots))
  next_rows_block n c g (suc t) h hc hg =
      let m = n + g * p.ballots in
      sized (omega (arith, suc-mul t p.ballots))
      (both_block
      (rows_block m (row_at p n c g) (row_stride p g) (bits_at p c (suc g)) (ballot_stride p) p.ballots
      (counted_below n m c g h hc (omega arith)) (bits_below p f m c (suc g) (omega arith) hc (omega arith)))
      (omega (arith, suc-mul g p.ballots))
      (next_rows_block n c (suc g) t h hc (omega arith)))

  pub sum_block : (n m c g : ℕ) → p.inputs ≤ n → c < p.candidates → n + g * p.ballots ≤ m
      → Block (sum_levels_from p m g) (sum_levels p n m c g) (sum_size p)
  unfolding sum_levels
  sum_block n m c g h hc hm =
      levels_block (sum_levels_from p m g) (row_at p n c g) (row_stride p g) p.ballots p.offset p.digits
      (counted_below n (sum_levels_from p m g) c g h hc (omega arith)) (first_countable p f)

  pub all_levels_block : (n m c g t : ℕ) → p.inputs ≤ n → c < p.candidates → RowsBefore p n m (g + t)
      → Block (sum_levels_from p m g) (all_levels p n m c g t) (t * sum_size p)
  unfolding all_levels
  all_levels_block n m c g zero h hc hm = sized (sym (zero-mul (sum_size p))) (none_block (sum_levels_from p m g))
  all_levels_block n m c g (suc t) h hc hm =
      sized (omega (arith, suc-mul t (sum_size p)))
      (both_block (sum_block n m c g h hc (hm g (omega arith))) (omega (arith, suc-mul g (sum_size p)))
      (all_levels_block n m c (suc g) t h hc (λ i l. hm i (omega arith))))

  pub worst_levels_block : (m c : ℕ) → p.inputs ≤ m → c < p.candidates → Block m (worst_levels p m c) (worst_size p)
  unfolding worst_levels
  worst_levels_block m c h hc =
      levels_block m (bits_at p c (p.grades - 1)) (ballot_stride p) p.ballots p.worst p.digits
      (bits_below p f m c (p.grades - 1) h hc (omega (arith, some_grades))) (worst_countable p f)

  pub key_word_block : (q n m c g : ℕ) → p.inputs ≤ n → c < p.candidates → n + g * p.ballots ≤ m
      → sum_levels_from p m (suc g) ≤ q → Block q (key_word p n m c g) (word_span p)
  unfolding key_word
  key_word_block q n m c g h hc hm hq =
      let e = suc-mul g (sum_size p) in
      digits_block 2 3 (sum_levels_from p m g) (row_at p n c g) p.ballots p.offset p.digits q (omega arith)
      operand_counts_lem.2 (omega arith) operand_counts_lem.3
      (below_first q (row_at p n c g) (row_stride p g) p.ballots f.n_least
      (counted_below n q c g h hc (omega arith))) (omega arith) (first_countable p f)

  pub key_words_block : (q n m c g t : ℕ) → p.inputs ≤ n → c < p.candidates → RowsBefore p n m (g + t)
      → sum_levels_from p m (g + t) ≤ q → Block q (key_words p n m c g t) (t * word_span p)
  unfolding key_words
  key_words_block q n m c g zero h hc hm hq = sized (sym (zero-mul (word_span p))) (none_block q)
  key_words_block q n m c g (suc t) h hc hm hq =
      let next : g + suc t ≡ suc g + t = omega arith in
      let places = ap (λ (k : ℕ). k * sum_size p) next in
      sized (omega (arith, suc-mul t (word_span p)))
      (both_block (key_word_block q n m c g h hc (hm g (omega arith))
      (omega (arith, mul-le-mul_right {m = suc g} {n = suc g + t} (sum_size p) (omega arith)))) refl
      (key_words_block (q + word_span p) n m c (suc g) t h hc (λ i l. hm i (omega arith)) (omega arith)))

  pub worst_word_block : (q m c : ℕ) → p.inputs ≤ m → c < p.candidates → m + worst_size p ≤ q → Block q (worst_word p m c) (word_span p)
  unfolding worst_word
  worst_word_block q m c h hc hq =
      digits_block 3 2 m (bits_at p c (p.grades - 1)) p.ballots p.worst p.digits q (omega arith)
      operand_counts_lem.3 (omega arith) operand_counts_lem.2
      (below_first q (bits_at p c (p.grades - 1)) (ballot_stride p) p.ballots f.n_least
      (bits_below p f q c (p.grades - 1) (omega arith) hc (omega (arith, some_grades)))) hq (worst_countable p f)

  pub candidate_block : (n c : ℕ) → p.inputs ≤ n → c < p.candidates → Block n (candidate p n c) (candidate_span p)
  unfolding candidate
  candidate_block n c h hc =
      let t = p.grades - 2 in
      let m = sums_at p n in
      let l = worst_at p n in
      let x = key_of p n in
      let d = f.d_least in
      let before = rows_before p n in
      let words : p.grades - 1 ≡ suc t = omega arith in
      let from : n + 0 * p.ballots ≡ n = omega (arith, zero-mul p.ballots) in
      sized (omega (arith, candidate_span_lem p, ap (λ (k : ℕ). k * word_span p) words, suc-mul t (word_span p)))
      (both_block (both_block (both_block (both_block
      (from_wire from (next_rows_block n c 0 (p.grades - 3) h hc (omega arith))) (omega (arith, zero-mul (sum_size p)))
      (all_levels_block n m c 0 t h hc before)) (omega arith)
      (worst_levels_block l c (omega arith) hc)) (omega arith)
      (key_words_block x n m c 0 t h hc before (omega arith))) (omega arith)
      (worst_word_block (x + t * word_span p) l c (omega arith) hc (omega arith)))
