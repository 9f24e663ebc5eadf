-- Tables of blocks: where each block starts, and that its gates are there.
-- Assumes nothing.
use mathlib.Core.Path.{◌≡◌, ◌∙◌, ap, subst}
use mathlib.Core.Logic.{⊎_elim}
use mathlib.Core.List.{List}
use Prim.Native.Nat.{ℕ, zero, suc, ◌+◌, ◌*◌, ◌/◌, ◌%◌, ◌≤◌, ◌<◌}
use native.Mathlib.Nat.{suc-mul, zero-mul, add-zero, mul-add-div_right, div-eq_of_lt, mul-add-mod_self_right, mod-eq_of_lt, div-add-mod', div-lt_iff_lt-mul, mod-lt}
use native.Mathlib.Omega.{arith}
use lib.ListN.{length, length-append}
use Rattle.gates.specs.Gate.{Gate}
use Rattle.gates.proofs.Laws.{AllGood, Holds, holds_append, good_append}
use Rattle.basics.proofs.Arithmetic.{row_within}
use Rattle.basics.proofs.Cases.{below_or_not}
use Rattle.ranked_circuit.specs.Table.{blocks, entries, table, entry_end}

-- the wire at which block e starts
abbrev pub start_of : ℕ → (ℕ → ℕ → List Gate) → ℕ → ℕ
start_of n block e = n + length (blocks n block e)

module _ (n : ℕ) (block : ℕ → ℕ → List Gate) where
  pub start_zero : start_of n block 0 ≡ n
  unfolding blocks
  start_zero = omega arith

  pub start_next : (e : ℕ) → start_of n block (suc e) ≡ start_of n block e + length (block (start_of n block e) e)
  unfolding blocks
  start_next e = omega (arith, length-append (blocks n block e) (block (start_of n block e) e))

  pub start_grows : (m e : ℕ) → e ≤ m → start_of n block e ≤ start_of n block m
  start_grows zero e h = let z : e ≡ 0 = omega arith in rw z (omega arith)
  start_grows (suc m) e h =
      ⊎_elim (λ (l : e < suc m). omega (arith, start_grows m e (omega arith), start_next m))
      (λ (l : suc m ≤ e). let z : e ≡ suc m = omega arith in rw z (omega arith)) (below_or_not e (suc m))

  -- the length of blocks of one size
  pub length_same : (size : ℕ) → ((at e : ℕ) → length (block at e) ≡ size) → (m : ℕ) → length (blocks n block m) ≡ m * size
  length_same size sized zero = omega (arith, start_zero, zero-mul size)
  length_same size sized (suc m) = omega (arith, start_next m, sized (start_of n block m) m, length_same size sized m, suc-mul m size)

  pub block_holds : (W : ℕ → ℕ) (m e : ℕ) → e < m → Holds W n (blocks n block m) → Holds W (start_of n block e) (block (start_of n block e) e)
  unfolding blocks
  block_holds W zero e l h = absurd (omega arith)
  block_holds W (suc m) e l h =
      let p = holds_append W n (blocks n block m) (block (start_of n block m) m) h in
      ⊎_elim (λ (b : e < m). block_holds W m e b p.0)
      (λ (b : m ≤ e). subst (λ (j : ℕ). Holds W (start_of n block j) (block (start_of n block j) j)) {x = m} {y = e}
      (omega arith) p.1) (below_or_not e m)

  pub blocks_good : (m : ℕ) → ((e : ℕ) → e < m → AllGood (start_of n block e) (block (start_of n block e) e)) → AllGood n (blocks n block m)
  unfolding blocks
  blocks_good zero good = tt
  blocks_good (suc m) good =
      good_append n (blocks n block m) (block (start_of n block m) m) (blocks_good m (λ e l. good e (omega arith))) (good m (omega arith))

-- the row and the column of block number i * k + j
pub row_of : (k i j : ℕ) → j < k → (i * k + j) / k ≡ i
row_of k i j h = mul-add-div_right {m = k} (omega arith) i j ∙ ap (λ (q : ℕ). i + q) (div-eq_of_lt h) ∙ add-zero i

pub column_of : (k i j : ℕ) → j < k → (i * k + j) % k ≡ j
column_of k i j h = mul-add-mod_self_right i k j ∙ mod-eq_of_lt h

-- block number e is in row e / k and column e % k
pub number_of : (k e : ℕ) → e / k * k + e % k ≡ e
number_of k e = div-add-mod' e k

pub row_low : (k e : ℕ) → e < k * k → e / k < k
row_low zero e h = absurd (omega (arith, zero-mul 0))
row_low (suc l) e h = (div-lt_iff_lt-mul {k = suc l} {x = e} {y = suc l} (omega arith)).1 h

pub column_low : (k e : ℕ) → e < k * k → e % k < k
column_low zero e h = absurd (omega (arith, zero-mul 0))
column_low (suc l) e h = mod-lt e {m = suc l} (omega arith)

pub number_low : (k i j : ℕ) → i < k → j < k → i * k + j < k * k
number_low k i j hi hj = omega (arith, row_within i k k hi)

-- the wire at which the block of row i and column j starts
abbrev pub entry_start : ℕ → ℕ → (ℕ → ℕ → ℕ → List Gate) → ℕ → ℕ → ℕ
entry_start n k block i j = n + length (entries n k block (i * k + j))

module _ (n k : ℕ) (block : ℕ → ℕ → ℕ → List Gate) where
  abbrev numbered : ℕ → ℕ → List Gate
  numbered at e = block at (e / k) (e % k)

  module _ (i j : ℕ) (hj : j < k) where
    here : (at : ℕ) → numbered at (i * k + j) ≡ block at i j
    here at = ap (λ (a : ℕ). block at a ((i * k + j) % k)) (row_of k i j hj) ∙ ap (block at i) (column_of k i j hj)

    pub entry_end_lem : entry_end n k block i j ≡ entry_start n k block i j + length (block (entry_start n k block i j) i j)
    unfolding entry_end entries
    entry_end_lem = start_next n numbered (i * k + j)
        ∙ ap (λ (gs : List Gate). start_of n numbered (i * k + j) + length gs) (here (start_of n numbered (i * k + j)))

    -- the gates of row i and column j are at their place
    pub entry_holds : (W : ℕ → ℕ) → i < k → Holds W n (table n k block)
        → Holds W (entry_start n k block i j) (block (entry_start n k block i j) i j)
    unfolding table entries
    entry_holds W hi h =
        let at = start_of n numbered (i * k + j) in
        subst (λ (gs : List Gate). Holds W at gs) (here at) (block_holds n numbered W (k * k) (i * k + j) (number_low k i j hi hj) h)

    pub end_within : i < k → entry_end n k block i j ≤ n + length (table n k block)
    unfolding table entries entry_end
    end_within hi = start_grows n numbered (k * k) (suc (i * k + j)) (number_low k i j hi hj)

  -- a table is well-formed if each of its blocks is
  pub table_good : ((i j : ℕ) → i < k → j < k
      → AllGood (entry_start n k block i j) (block (entry_start n k block i j) i j)) → AllGood n (table n k block)
  unfolding table entries
  table_good good =
      blocks_good n numbered (k * k)
      (λ e l.
      subst (λ (x : ℕ). AllGood (start_of n numbered x) (block (start_of n numbered x) (e / k) (e % k))) (number_of k e)
      (good (e / k) (e % k) (row_low k e l) (column_low k e l)))
