-- The blocks of the tables, as they are written: numbers and places, stages, and what is kept.
-- Assumes nothing.
use mathlib.Core.Path.{◌≡◌, ◌∙◌, refl, sym, ap}
use mathlib.Core.Bool.{Bool, true, false, cond, ◌&&◌, ◌||◌, not}
use mathlib.Core.Logic.{◌≢◌}
use mathlib.Core.List.{List, [], ◌++◌}
use Prim.Native.Nat.{ℕ, zero, suc, ◌+◌, ◌-◌, ◌*◌, ◌/◌, ◌%◌, ◌≤◌, ◌<◌}
use native.Mathlib.Nat.{mul-le-mul}
use native.Mathlib.Numerals.{add-one}
use native.Mathlib.Omega.{arith}
use lib.Dec.{eqb, leb, ltb}
use lib.ListN.{length, set}
use borrow.Author.Tests.{eq-eqb, ne_eqb, lt-ltb, le-ltb}
use Rattle.jury.specs.Shape.{most_candidates, most_pairs}
use Rattle.gate_words.specs.Choice.{masked}
use Rattle.gate_words.specs.Counter.{counter}
use Rattle.basics.proofs.Arithmetic.{row_within}
use Rattle.basics.proofs.Flags.{and_both, or_first, or_second}
use Rattle.ranked_circuit.specs.Blocks.{compare, order_size, smaller, larger, larger_if}
use Rattle.ranked_circuit.specs.Stages.{votes_block, later_of, links_block, stays, cut_at, new_word, path_block}
use Rattle.ranked_circuit.specs.Contests.{meeting_of, meetings_block}
use Rattle.ranked_circuit.proofs.BlockLaws.{length_whole}
use Rattle.ranked_circuit.proofs.ContestLaws.{length_meeting}
use Rattle.ranked_circuit.proofs.TableLaws.{row_low, column_low, number_of}
use Rattle.ranked_circuit.proofs.StageLaws.{apart_all, stage_pad, stage_length}
use Rattle.ranked_blocks.specs.Ranked.{keep_links}

-- at most eight candidates have at most 64 places
pub square_small : (k : ℕ) → k ≤ most_candidates → k * k ≤ most_pairs
square_small k h = mul-le-mul {n₁ = k} {m₁ = k} {n₂ = most_candidates} {m₂ = most_candidates} h h

pub index_small : (k i j : ℕ) → k ≤ most_candidates → i < k → j < k → i * k + j < most_pairs
index_small k i j h hi hj = omega (arith, row_within i k k hi, square_small k h)

-- The row and the column of block e are below k.
pub record Place (k e : ℕ) : Type 0 where
  pub row : e / k < k
  pub column : e % k < k
  pub number : e / k * k + e % k ≡ e
  pub small : e < most_pairs

pub place : (k e : ℕ) → k ≤ most_candidates → e < k * k → Place k e
place k e h l = record { row = row_low k e l; column = column_low k e l; number = number_of k e; small = omega (arith, square_small k h) }

-- which words a stage leaves
pub diagonal_stays : (m i j : ℕ) → i ≡ j → stays m i j ≡ true
unfolding stays
diagonal_stays zero i j e = or_second (not (eqb i 0 || eqb j 0)) (eqb i j) (eq-eqb i j e)
diagonal_stays (suc l) i j e = or_second (eqb i l || eqb j l) (eqb i j) (eq-eqb i j e)

only : (b : Bool) → (b || false) ≡ b
only true = refl
only false = refl

module _ (m i j : ℕ) (z : m ≡ 0) (ne : i ≢ j) where
  pub zero_first : i ≡ 0 → not (eqb i 0) ≡ stays m i j
  unfolding stays
  zero_first e = sym (ap (λ (x : ℕ). stays x i j) z ∙ rw (eq-eqb i 0 e, ne_eqb i j ne))

  pub zero_other : i ≢ 0 → not (eqb j 0) ≡ stays m i j
  unfolding stays
  zero_other n = sym (ap (λ (x : ℕ). stays x i j) z ∙ rw (ne_eqb i 0 n, ne_eqb i j ne) (only (not (eqb j 0))))

pub later_stays : (m i j : ℕ) → m ≢ 0 → stays m i j ≡ (eqb i (m - 1) || eqb j (m - 1) || eqb i j)
unfolding stays
later_stays zero i j n = absurd (n refl)
later_stays (suc l) i j n = let e : suc l - 1 ≡ l = omega arith in rw e refl

pub row_stays : (m i j : ℕ) → m ≢ 0 → i ≡ m - 1 → stays m i j ≡ true
row_stays m i j n e = later_stays m i j n
    ∙ or_first (eqb i (m - 1) || eqb j (m - 1)) (eqb i j)
    (or_first (eqb i (m - 1)) (eqb j (m - 1)) (eq-eqb i (m - 1) e))

pub column_stays : (m i j : ℕ) → m ≢ 0 → i ≢ j → i ≢ m - 1 → stays m i j ≡ eqb j (m - 1)
column_stays m i j n ne r = later_stays m i j n ∙ rw (ne_eqb i (m - 1) r, ne_eqb i j ne) (only (eqb j (m - 1)))

-- if a detour changes the word of i and j, it goes over neither
pub apart_later : (m i j : ℕ) → m ≢ 0 → stays m i j ≡ false → (i ≢ m - 1) × (j ≢ m - 1) × (i ≢ j)
apart_later zero i j n e = absurd (n refl)
apart_later (suc l) i j n e = let q : suc l - 1 ≡ l = omega arith in rw q (apart_all l i j e)

module _ (links words : ℕ → ℕ → ℕ) (w h at i j : ℕ) where
  pub new_zero : (m : ℕ) → m ≡ 0 → masked (links i j) (words i j) (w + 1) ≡ new_word links words w h m at i j
  unfolding new_word
  new_zero m z = ap (masked (links i j) (words i j)) (add-one w) ∙ sym (ap (λ (x : ℕ). new_word links words w h x at i j) z)

  pub new_first : (m : ℕ) → m ≡ 1
      → smaller at (words i (m - 1)) (words (m - 1) j) w h
      ++ larger_if (at + order_size w h + suc w) (links i j) (words i j) (at + order_size w h) w h
      ≡ new_word links words w h m at i j
  unfolding new_word
  new_first m z = rw z refl

  pub new_later : (m : ℕ) → m ≢ 0 → m ≢ 1
      → smaller at (words i (m - 1)) (words (m - 1) j) w h
      ++ larger (at + order_size w h + suc w) (words i j) (at + order_size w h) w h ≡ new_word links words w h m at i j
  unfolding new_word
  new_later zero n p = absurd (n refl)
  new_later (suc zero) n p = absurd (p refl)
  new_later (suc (suc l)) n p = let e : suc (suc l) - 1 ≡ suc l = omega arith in rw e refl

  module _ (q : h ≤ w) where
    pub long_zero : (m : ℕ) → m ≡ 0 → length (new_word links words w h m at i j) ≡ suc w
    long_zero m z = stage_length links words w h m at i j q ∙ rw z (unfold stage_pad in (omega arith))

    pub long_first : (m : ℕ) → m ≡ 1 → length (new_word links words w h m at i j) ≡ order_size w h + suc w + (order_size w h + 1 + suc w)
    long_first m z = stage_length links words w h m at i j q ∙ rw z (unfold stage_pad in (omega arith))

    pub long_later : (m : ℕ) → m ≢ 0 → m ≢ 1 → length (new_word links words w h m at i j) ≡ order_size w h + suc w + (order_size w h + suc w)
    long_later m n p = stage_length links words w h m at i j q ∙ pads m n p
      where
        pads : (m : ℕ) → m ≢ 0 → m ≢ 1 → stage_pad w h m + suc w ≡ order_size w h + suc w + (order_size w h + suc w)
        pads zero n p = absurd (n refl)
        pads (suc zero) n p = absurd (p refl)
        pads (suc (suc l)) n p = unfold stage_pad in (omega arith)

    -- the block has at least as many gates as a word
    pub long_word : (m : ℕ) → suc w ≤ length (new_word links words w h m at i j)
    long_word m = omega (arith, stage_length links words w h m at i j q)

module _ (k : ℕ) (links words : ℕ → ℕ → ℕ) (w at i j : ℕ) where
  pub path_kept : (m : ℕ) → stays m i j ≡ true → [] ≡ path_block k links words w m at i j
  unfolding path_block
  path_kept m e = sym (ap (λ (c : Bool). cond c [] (new_word links words w (cut_at k w m i j) m at i j)) e)

  pub path_moved : (m : ℕ) → stays m i j ≡ false → new_word links words w (cut_at k w m i j) m at i j ≡ path_block k links words w m at i j
  unfolding path_block
  path_moved m e = sym (ap (λ (c : Bool). cond c [] (new_word links words w (cut_at k w m i j) m at i j)) e)

-- how many digits are the high half, case by case
module _ (k w m i j : ℕ) where
  pub cut_last : k - 1 ≤ m → cut_at k w m i j ≡ 0
  unfolding cut_at
  cut_last l = ap (λ (c : Bool). cond (c && (eqb i m || eqb j m)) (suc w / 2) 0) (le-ltb m (k - 1) l)

  module _ (l : m < k - 1) where
    pub cut_row : i ≡ m → cut_at k w m i j ≡ suc w / 2
    unfolding cut_at
    cut_row e = rw (lt-ltb m (k - 1) l, eq-eqb i m e)

    pub cut_column : i ≢ m → j ≡ m → cut_at k w m i j ≡ suc w / 2
    unfolding cut_at
    cut_column n e = rw (lt-ltb m (k - 1) l, ne_eqb i m n, eq-eqb j m e)

    pub cut_none : i ≢ m → j ≢ m → cut_at k w m i j ≡ 0
    unfolding cut_at
    cut_none n p = rw (lt-ltb m (k - 1) l, ne_eqb i m n, ne_eqb j m p)

-- the block of a counter, case by case
module _ (k n w at i j : ℕ) where
  pub votes_kept : i ≡ j → [] ≡ votes_block k n w at i j
  unfolding votes_block
  votes_kept e = sym (ap (λ (c : Bool). cond c [] (counter at (i * k + j) (k * k) n 0 w)) (eq-eqb i j e))

  pub votes_moved : (e : ℕ) → i * k + j ≡ e → i ≢ j → counter at e (k * k) n 0 w ≡ votes_block k n w at i j
  unfolding votes_block
  votes_moved e q ne = ap (λ (x : ℕ). counter at x (k * k) n 0 w) (sym q)
      ∙ sym (ap (λ (c : Bool). cond c [] (counter at (i * k + j) (k * k) n 0 w)) (ne_eqb i j ne))

-- one block for each pair of candidates: there is none unless the row is the later candidate's and has blocks
pub not_later : (rows : ℕ → Bool) (i j : ℕ) → i ≤ j → (ltb j i && rows i) ≡ false
not_later rows i j l = ap (λ (c : Bool). c && rows i) (le-ltb j i l)

pub no_row : (rows : ℕ → Bool) (i j : ℕ) → rows i ≡ false → (ltb j i && rows i) ≡ false
no_row rows i j e = ap (λ (c : Bool). ltb j i && c) e ∙ none (ltb j i)
  where
    none : (t : Bool) → (t && false) ≡ false
    none true = refl
    none false = refl

pub a_row : (rows : ℕ → Bool) (i j : ℕ) → j < i → rows i ≡ true → (ltb j i && rows i) ≡ true
a_row rows i j l e = and_both (ltb j i) (rows i) (lt-ltb j i l) e

-- which wires about two candidates are kept, case by case
pub same_links : (rows : ℕ → Bool) (ls : List ℕ) (k i j wire : ℕ) → (ltb j i && rows i) ≡ false → ls ≡ keep_links rows ls k i j wire
same_links rows ls k i j wire e = sym (ap (λ (t : Bool). cond t (set (set ls (i * k + j) (wire - 2)) (j * k + i) (wire - 1)) ls) e)

pub new_links : (rows : ℕ → Bool) (ls : List ℕ) (k i j wire : ℕ) → (ltb j i && rows i) ≡ true
    → set (set ls (i * k + j) (wire - 2)) (j * k + i) (wire - 1) ≡ keep_links rows ls k i j wire
new_links rows ls k i j wire e = sym (ap (λ (t : Bool). cond t (set (set ls (i * k + j) (wire - 2)) (j * k + i) (wire - 1)) ls) e)

-- the block of a comparison, case by case
module _ (first : ℕ) (words : ℕ → ℕ → ℕ) (w at i j : ℕ) where
  pub links_kept : (ltb j i && leb first i) ≡ false → [] ≡ links_block first words w at i j
  unfolding links_block later_of
  links_kept e = sym (ap (λ (c : Bool). cond c (compare at (words i j) (words j i) w) []) e)

  pub links_moved : (ltb j i && leb first i) ≡ true → (x y : ℕ) → x ≡ words i j → y ≡ words j i → compare at x y w
      ≡ links_block first words w at i j
  unfolding links_block later_of
  links_moved e x y ex ey = rw (ex, ey, e)

  pub links_long : (ltb j i && leb first i) ≡ true → length (links_block first words w at i j) ≡ 3 + 3 * w
  links_long e = ap length (sym (links_moved e (words i j) (words j i) refl refl)) ∙ length_whole at (words i j) (words j i) w

-- the block of a meeting, case by case
module _ (l : ℕ) (words met : ℕ → ℕ → ℕ) (w at i j : ℕ) where
  pub meetings_kept : (ltb j i && ltb i l) ≡ false → [] ≡ meetings_block l words met w at i j
  unfolding meetings_block later_of
  meetings_kept e = sym (ap (λ (c : Bool). cond c (meeting_of l words met w at i j) []) e)

  pub meetings_moved : (ltb j i && ltb i l) ≡ true → meeting_of l words met w at i j ≡ meetings_block l words met w at i j
  unfolding meetings_block later_of
  meetings_moved e = sym (ap (λ (c : Bool). cond c (meeting_of l words met w at i j) []) e)

  pub meeting_long : length (meeting_of l words met w at i j) ≡ 10 * w + 14
  meeting_long = omega (arith, length_meeting (words l i) (words l j) (words i j) (words j i) (met i l) (met j l) w at)

  pub meetings_long : (ltb j i && ltb i l) ≡ true → length (meetings_block l words met w at i j) ≡ 10 * w + 14
  meetings_long e = ap length (sym (meetings_moved e)) ∙ meeting_long

-- if the test holds, nothing that is kept changes
pub keeps : {A : Type 0} (t : Bool) (a b : A) → t ≡ true → a ≡ cond t a b
keeps t a b e = sym (ap (λ (c : Bool). cond c a b) e)

pub stores : {A : Type 0} (t : Bool) (a b c : A) → t ≡ false → c ≡ b → c ≡ cond t a b
stores t a b c e q = q ∙ sym (ap (λ (x : Bool). cond x a b) e)
