-- What the running sums of a candidate are, and what its key says about them.
-- Assumes nothing.
use mathlib.Core.Path.{◌≡◌, ◌∙◌, sym, ap, subst}
use mathlib.Core.Logic.{⊎_elim}
use mathlib.Core.List.{List, ◌++◌}
use Prim.Native.Nat.{ℕ, zero, suc, ◌+◌, ◌-◌, ◌*◌, ◌/◌, ◌^◌, ◌≤◌, ◌<◌}
use native.Mathlib.Nat.{pow-succ', suc-mul, mul-one, zero-mul, add-mul}
use native.Mathlib.Omega.{arith}
use Rattle.basics.specs.Lists.{sum, tabulate}
use Rattle.basics.proofs.Sums.{sum_none, sum_last}
use Rattle.basics.proofs.Cases.{below_or_not}
use Rattle.basics.proofs.Arithmetic.{bit_cases}
use lib.ListN.{length, length-append}
use Rattle.gates.specs.Gate.{Gate}
use Rattle.gates.proofs.Laws.{Holds}
use Rattle.gate_words.specs.Word.{ones_at, number}
use Rattle.gate_words.specs.Rows.{xor_rows}
use Rattle.gate_words.proofs.Numbers.{Binary, number_less}
use Rattle.gate_words.proofs.RowLaws.{rows_law, ones_both, Told, copied_law, complemented_law}
use Rattle.graded_circuit.specs.declared.plan.Plan.{Plan}
use Rattle.graded_circuit.specs.Plan.{Planned, bits_at, ballot_stride}
use Rattle.graded_circuit.specs.RunningSums.{word_span, sum_size, row_at, row_stride, rows, sum_levels_from, sum_levels, all_levels, worst_levels}
use Rattle.graded_circuit.specs.Key.{key_word, key_words, worst_word, sums_at, worst_at, candidate, key_of, low_at}
use Rattle.graded_circuit.proofs.Blocks.{rows_block}
use Rattle.graded_circuit.proofs.PlanFacts.{bits_below, first_countable, worst_countable}
use Rattle.graded_circuit.proofs.Cutting.{cut2, cut4}
use Rattle.graded_circuit.proofs.CandidateBlocks.{RowsBefore, rows_before, counted_below, next_rows_block, sum_block, all_levels_block, worst_levels_block, key_word_block, key_words_block}

-- The running sums of n ballots over d grades, and the median grade.
pub record Sums (n d : ℕ) (S : ℕ → ℕ) (median : ℕ) : Type 0 where
  pub passed : (g : ℕ) → g < median → 2 * S g < n
  pub reached : (g : ℕ) → median ≤ g → n ≤ 2 * S g
  pub most : (g : ℕ) → S g ≤ n
  pub grows : (g h : ℕ) → g ≤ h → S g ≤ S h
  pub inside : median < d
  pub whole : S (d - 1) ≡ n

-- the sum of the first m of n numbers is at most the sum of all
sum_part : (v : ℕ → ℕ) (m n : ℕ) → m ≤ n → sum (tabulate m v) ≤ sum (tabulate n v)
sum_part v m zero h = let e : m ≡ 0 = omega arith in omega (arith, ap (λ (k : ℕ). sum (tabulate k v)) e)
sum_part v m (suc n) h = ⊎_elim
    (λ (l : m < suc n). omega (arith, sum_part v m n (omega arith), sum_last n v))
    (λ (l : suc n ≤ m). let e : m ≡ suc n = omega arith in omega (arith, ap (λ (k : ℕ). sum (tabulate k v)) e))
    (below_or_not m (suc n))

-- the length of four blocks
four : (gs hs is js : List Gate) → length (gs ++ hs ++ is ++ js) ≡ length gs + length hs + length is + length js
four gs hs is js = omega (arith, length-append (gs ++ hs ++ is) js, length-append (gs ++ hs) is, length-append gs hs)

module _ (W : ℕ → ℕ) (b : Binary W) (p : Plan) (f : Planned p) where
  -- The word at `at` describes the sum v: r low digits, then a flag that says whether twice the sum is below n.
  pub record Word (r at v : ℕ) : Type 0 where
    pub worse : 2 * v < p.ballots → W (at + r) ≡ 1
    pub better : p.ballots ≤ 2 * v → W (at + r) ≡ 0
    pub low_worse : 2 * v < p.ballots → number W at 1 r ≡ p.offset + v
    pub low_better : p.ballots ≤ 2 * v → number W at 1 r + (p.ballots + 1) / 2 ≡ v

  -- the key at x describes the sums S
  abbrev pub Spells : ℕ → (ℕ → ℕ) → Type 0
  Spells x S = (g : ℕ) → g < p.grades - 1 → Word p.digits (low_at p x g) (S g)

  -- a word that holds the offset plus v describes the sum v
  told_word : (q v : ℕ) → Told W b q p.digits (p.offset + v) → Word p.digits q v
  told_word q v t =
      let r = p.digits in
      let low = number_less W b q 1 r in
      let yes : 2 * v < p.ballots → W (q + r) ≡ 1 = λ l. ⊎_elim
      (λ (z : W (q + r) ≡ 0). absurd (omega (arith, t.long z, f.offset_is)))
      (λ (z : W (q + r) ≡ 1). z)
      (bit_cases (W (q + r)) (b (q + r))) in
      let no : p.ballots ≤ 2 * v → W (q + r) ≡ 0 = λ l. ⊎_elim
      (λ (z : W (q + r) ≡ 0). z)
      (λ (z : W (q + r) ≡ 1). absurd (omega (arith, t.short z, low, f.offset_is)))
      (bit_cases (W (q + r)) (b (q + r))) in
      record {
        worse = yes;
        better = no;
        low_worse = λ l. t.short (yes l);
        low_better = λ l. omega (arith, t.long (no l), f.offset_is);
      }

  -- the levels and the key's words, grade by grade
  levels_parts : (n m c g t : ℕ) → p.inputs ≤ n → c < p.candidates → n + g * p.ballots ≤ m
      → Holds W (sum_levels_from p m g) (all_levels p n m c g (suc t))
      → Holds W (sum_levels_from p m g) (sum_levels p n m c g) × Holds W (sum_levels_from p m (suc g)) (all_levels p n m c (suc g) t)
  unfolding all_levels
  levels_parts n m c g t h hc hm w =
      cut2 W (sum_levels_from p m g) (sum_levels p n m c g) (all_levels p n m c (suc g) t) (sum_levels_from p m (suc g))
      (omega (arith, (sum_block p f n m c g h hc hm).long, suc-mul g (sum_size p))) w

  each_levels : (n m c g t i : ℕ) → p.inputs ≤ n → c < p.candidates → RowsBefore p n m (g + t) → i < t
      → Holds W (sum_levels_from p m g) (all_levels p n m c g t)
      → Holds W (sum_levels_from p m (g + i)) (sum_levels p n m c (g + i))
  each_levels n m c g zero i h hc hm l w = absurd (omega arith)
  each_levels n m c g (suc t) zero h hc hm l w =
      let e : g ≡ g + 0 = omega arith in
      subst (λ (k : ℕ). Holds W (sum_levels_from p m k) (sum_levels p n m c k)) e (levels_parts n m c g t h hc (hm g (omega arith)) w).0
  each_levels n m c g (suc t) (suc i) h hc hm l w =
      let e : suc g + i ≡ g + suc i = omega arith in
      subst (λ (k : ℕ). Holds W (sum_levels_from p m k) (sum_levels p n m c k)) e
      (each_levels n m c (suc g) t i h hc (λ j k. hm j (omega arith)) (omega arith) (levels_parts n m c g t h hc (hm g (omega arith)) w).1)

  words_parts : (q n m c g t : ℕ) → p.inputs ≤ n → c < p.candidates → n + g * p.ballots ≤ m
      → sum_levels_from p m (suc g + t) ≤ q → Holds W q (key_words p n m c g (suc t))
      → Holds W q (key_word p n m c g) × Holds W (q + word_span p) (key_words p n m c (suc g) t)
  unfolding key_words
  words_parts q n m c g t h hc hm hq w =
      cut2 W q (key_word p n m c g) (key_words p n m c (suc g) t) (q + word_span p)
      (omega (arith, (key_word_block p f q n m c g h hc hm (omega (arith, add-mul (suc g) t (sum_size p)))).long)) w

  -- all levels end before wire q, in another form
  later_end : (m g t q : ℕ) → sum_levels_from p m (g + suc t) ≤ q → sum_levels_from p m (suc g + t) ≤ q
  later_end m g t q h = let e : g + suc t ≡ suc g + t = omega arith in subst (λ (k : ℕ). sum_levels_from p m k ≤ q) e h

  each_word : (q n m c g t i : ℕ) → p.inputs ≤ n → c < p.candidates → RowsBefore p n m (g + t)
      → sum_levels_from p m (g + t) ≤ q → i < t → Holds W q (key_words p n m c g t)
      → Holds W (q + i * word_span p) (key_word p n m c (g + i))
  each_word q n m c g zero i h hc hm hq l w = absurd (omega arith)
  each_word q n m c g (suc t) zero h hc hm hq l w =
      let e : g ≡ g + 0 = omega arith in
      let at : q ≡ q + 0 * word_span p = omega (arith, zero-mul (word_span p)) in
      subst (λ (k : ℕ). Holds W k (key_word p n m c (g + 0))) at
      (subst (λ (k : ℕ). Holds W q (key_word p n m c k)) e (words_parts q n m c g t h hc (hm g (omega arith)) (later_end m g t q hq) w).0)
  each_word q n m c g (suc t) (suc i) h hc hm hq l w =
      let e : suc g + i ≡ g + suc i = omega arith in
      let at : q + word_span p + i * word_span p ≡ q + suc i * word_span p = omega (arith, suc-mul i (word_span p)) in
      let end = later_end m g t q hq in
      subst (λ (k : ℕ). Holds W k (key_word p n m c (g + suc i))) at
      (subst (λ (k : ℕ). Holds W (q + word_span p + i * word_span p) (key_word p n m c k)) e
      (each_word (q + word_span p) n m c (suc g) t i h hc (λ j k. hm j (omega arith)) (omega arith) (omega arith)
      (words_parts q n m c g t h hc (hm g (omega arith)) end w).1))

  module _ (S : ℕ → ℕ) (median : ℕ) (s : Sums p.ballots p.grades S median) (c : ℕ) (hc : c < p.candidates)
      (first : ones_at W (bits_at p c 0) (ballot_stride p) p.ballots ≡ S 0)
      (next : (g : ℕ) → suc g < p.grades → S g + ones_at W (bits_at p c (suc g)) (ballot_stride p) p.ballots ≡ S (suc g))
      (single : (i : ℕ) → i < p.ballots → sum (tabulate p.grades (λ g. W (bits_at p c g + i * ballot_stride p))) ≡ 1) where
    -- The bits that the sum of grade g counts say whether a ballot gives this grade or a better one, so their ones
    -- are the sum.
    record Counted (n g : ℕ) : Type 0 where
      pub given : (i : ℕ) → i < p.ballots → W (row_at p n c g + i * row_stride p g)
          ≡ sum (tabulate (suc g) (λ h. W (bits_at p c h + i * ballot_stride p)))
      pub count : ones_at W (row_at p n c g) (row_stride p g) p.ballots ≡ S g

    first_row : (n : ℕ) → Counted n 0
    unfolding row_at row_stride
    first_row n =
        record {
          given = λ i l. omega (arith, sum_last 0 (λ h. W (bits_at p c h + i * ballot_stride p)), sum_none (λ h. W (bits_at p c h + i * ballot_stride p)));
          count = first;
        }

    next_row : (n g : ℕ) → suc g < p.grades → Counted n g
        → Holds W (n + g * p.ballots)
        (xor_rows (row_at p n c g) (row_stride p g) (bits_at p c (suc g)) (ballot_stride p) p.ballots) → Counted n (suc g)
    unfolding row_at row_stride
    next_row n g hg a h =
        record {
          given = λ i l. omega (arith, bit i l, a.given i l, sum_last (suc g) (λ k. W (bits_at p c k + i * ballot_stride p)));
          count = omega (
            arith,
            ones_both W b (n + g * p.ballots) (row_at p n c g) (row_stride p g)
                (bits_at p c (suc g)) (ballot_stride p) p.ballots bit,
            a.count,
            next g hg,
          );
        }
      where
        -- a ballot does not give two grades
        bit : (i : ℕ) → i < p.ballots → W (n + g * p.ballots + i * 1) ≡ W (row_at p n c g + i * row_stride p g)
            + W (bits_at p c (suc g) + i * ballot_stride p)
        bit i l =
            let at : n + g * p.ballots + i * 1 ≡ n + g * p.ballots + i = omega (arith, mul-one i) in
            let given : ℕ → ℕ = λ k. W (bits_at p c k + i * ballot_stride p) in
            omega (
              arith,
              ap W at,
              rows_law W b (n + g * p.ballots) (row_at p n c g) (row_stride p g) (bits_at p c (suc g)) (ballot_stride p) p.ballots i l h,
              a.given i l,
              sum_last (suc g) given,
              sum_part given (suc (suc g)) p.grades hg,
              single i l,
            )

    -- the bits of each of the t rows after that of grade g
    each_row : (n g t i : ℕ) → p.inputs ≤ n → g + t < p.grades → Counted n g → i ≤ t
        → Holds W (n + g * p.ballots) (rows p n c g t) → Counted n (g + i)
    unfolding rows
    each_row n g t zero h hg a l w = let e : g ≡ g + 0 = omega arith in subst (Counted n) e a
    each_row n g zero (suc i) h hg a l w = absurd (omega arith)
    each_row n g (suc t) (suc i) h hg a l w =
        let m = n + g * p.ballots in
        let row = xor_rows (row_at p n c g) (row_stride p g) (bits_at p c (suc g)) (ballot_stride p) p.ballots in
        let block = rows_block m (row_at p n c g) (row_stride p g) (bits_at p c (suc g)) (ballot_stride p) p.ballots
        (counted_below p f n m c g h hc (omega arith))
        (bits_below p f m c (suc g) (omega arith) hc (omega arith)) in
        let q = cut2 W m row (rows p n c (suc g) t) (n + suc g * p.ballots) (omega (arith, block.long, suc-mul g p.ballots)) w in
        let e : suc g + i ≡ g + suc i = omega arith in
        subst (Counted n) e (each_row n (suc g) t i h (omega arith) (next_row n g (omega arith) a q.0) (omega arith) q.1)

    sum_word : (q n m g : ℕ) → Counted n g → Holds W (sum_levels_from p m g) (sum_levels p n m c g)
        → Holds W q (key_word p n m c g) → Word p.digits q (S g)
    unfolding sum_levels key_word
    sum_word q n m g a lev dig =
        let told = copied_law W b (sum_levels_from p m g) (row_at p n c g) (row_stride p g) p.ballots p.offset
        p.digits q (first_countable p f) lev dig in
        let e : ones_at W (row_at p n c g) (row_stride p g) p.ballots + p.offset ≡ p.offset + S g = omega (arith, a.count) in
        told_word q (S g) (subst (Told W b q p.digits) e told)

    -- the word of the second worst grade, by the count of the worst one
    last_word : (q m g : ℕ) → suc (suc g) ≡ p.grades → Holds W m (worst_levels p m c) → Holds W q (worst_word p m c)
        → Word p.digits q (S g)
    unfolding worst_levels worst_word
    last_word q m g e lev dig =
        let last : p.grades - 1 ≡ suc g = omega arith in
        let bits = bits_at p c (p.grades - 1) in
        let rest : S g + ones_at W bits (ballot_stride p) p.ballots ≡ p.ballots =
        ap (λ (k : ℕ). S g + ones_at W (bits_at p c k) (ballot_stride p) p.ballots) last ∙ next g (omega arith)
        ∙ ap S (sym last) ∙ s.whole in
        let total : p.offset + S g + 1 + (ones_at W bits (ballot_stride p) p.ballots + p.worst) ≡ 2 ^ suc p.digits =
        omega (arith, f.offset_is, f.worst_is, pow-succ' 2 p.digits) in
        told_word q (S g) (complemented_law W b m bits (ballot_stride p) p.ballots p.worst p.digits q
        (p.offset + S g) (worst_countable p f) total lev dig)

    -- the key of candidate c, whose circuit starts at wire n, describes its sums
    pub candidate_law : (n : ℕ) → p.inputs ≤ n → Holds W n (candidate p n c) → Spells (key_of p n) S
    unfolding candidate
    candidate_law n h w g l =
        let t = p.grades - 2 in
        let m = sums_at p n in
        let k = worst_at p n in
        let x = key_of p n in
        let d = f.d_least in
        let before = rows_before p n in
        let start : n + 0 * p.ballots ≡ n = omega (arith, zero-mul p.ballots) in
        let origin : sum_levels_from p m 0 ≡ m = omega (arith, zero-mul (sum_size p)) in
        let rowed = next_rows_block p f n c 0 (p.grades - 3) h hc (omega arith) in
        let levelled = all_levels_block p f n m c 0 t h hc before in
        let counted = worst_levels_block p f k c (omega arith) hc in
        let worded = key_words_block p f x n m c 0 t h hc before (omega arith) in
        let first_four = rows p n c 0 (p.grades - 3) ++ all_levels p n m c 0 t ++ worst_levels p k c ++ key_words p n m c 0 t in
        let o = cut2 W n first_four (worst_word p k c) (x + t * word_span p)
        (omega (
          arith,
          four (rows p n c 0 (p.grades - 3)) (all_levels p n m c 0 t) (worst_levels p k c)
              (key_words p n m c 0 t),
          rowed.long,
          levelled.long,
          counted.long,
          worded.long,
        )) w in
        let q = cut4 W n (rows p n c 0 (p.grades - 3)) (all_levels p n m c 0 t) (worst_levels p k c) (key_words p n m c 0 t) m k x
        (omega (arith, rowed.long)) (omega (arith, levelled.long)) (omega (arith, counted.long)) o.0 in
        ⊎_elim
        (λ (u : g < t).
        let e : 0 + g ≡ g = omega arith in
        let row = subst (Counted n) e (each_row n 0 (p.grades - 3) g h (omega arith) (first_row n) (omega arith)
        (subst (λ (i : ℕ). Holds W i (rows p n c 0 (p.grades - 3))) (sym start) q.0)) in
        let lev = subst (λ (i : ℕ). Holds W (sum_levels_from p m i) (sum_levels p n m c i)) e
        (each_levels n m c 0 t g h hc before u (subst (λ (i : ℕ). Holds W i (all_levels p n m c 0 t))
        (sym origin) q.1)) in
        let dig = subst (λ (i : ℕ). Holds W (x + g * word_span p) (key_word p n m c i)) e
        (each_word x n m c 0 t g h hc before (omega arith) u q.3) in
        sum_word (low_at p x g) n m g row lev dig)
        (λ (u : t ≤ g).
        let e : t ≡ g = omega arith in
        subst (λ (i : ℕ). Word p.digits (low_at p x i) (S i)) e (last_word (x + t * word_span p) k t (omega arith) q.2 o.1))
        (below_or_not g t)
