-- Tables with one block for each pair of candidates, whose last two wires are about the two: where these wires are.
-- Assumes nothing.
use mathlib.Core.Path.{◌≡◌, ◌∙◌, refl, ap, subst}
use mathlib.Core.Bool.{Bool, true, false, cond, ◌&&◌}
use mathlib.Core.Logic.{⊎_elim, ◌≢◌}
use mathlib.Core.List.{List, []}
use Prim.Native.Nat.{ℕ, max, ◌+◌, ◌-◌, ◌≤◌, ◌<◌}
use native.Mathlib.Omega.{arith}
use lib.Dec.{ltb}
use lib.ListN.{length}
use borrow.Author.Tests.{ltb-true, lt-ltb, le-ltb}
use Rattle.basics.proofs.Cases.{below_or_not}
use Rattle.basics.proofs.Flags.{and_first, and_second, and_both}
use Rattle.gates.specs.Gate.{Gate}
use Rattle.gates.proofs.Laws.{AllGood, Holds}
use Rattle.ranked_circuit.specs.Table.{table, entry_end}
use Rattle.ranked_circuit.specs.Stages.{later_of, link_at}
use Rattle.ranked_circuit.proofs.TableLaws.{entry_start, entry_end_lem, entry_holds, table_good, end_within}

-- the larger number is the later candidate
pub later_is : (i j : ℕ) → j < i → max i j ≡ i
later_is i j l = omega arith

pub later_is' : (i j : ℕ) → j < i → max j i ≡ i
later_is' i j l = omega arith

chosen_good : (n : ℕ) (t : Bool) (gs : List Gate) → (t ≡ true → AllGood n gs) → AllGood n (cond t gs [])
chosen_good n true gs p = p refl
chosen_good n false gs p = tt

module _ (rows : ℕ → Bool) (block : ℕ → ℕ → ℕ → List Gate) where
  pub later_moves : (at i j : ℕ) → j < i → rows i ≡ true → later_of rows block at i j ≡ block at i j
  unfolding later_of
  later_moves at i j l row = ap (λ (c : Bool). cond c (block at i j) []) (and_both (ltb j i) (rows i) (lt-ltb j i l) row)

  module _ (n k : ℕ) where
    pub later_good : ((i j : ℕ) → i < k → j < k → j < i → rows i ≡ true
        → AllGood (entry_start n k (later_of rows block) i j) (block (entry_start n k (later_of rows block) i j) i j))
        → AllGood n (table n k (later_of rows block))
    later_good good = table_good n k (later_of rows block) each
      where
        each : (i j : ℕ) → i < k → j < k
            → AllGood (entry_start n k (later_of rows block) i j)
            (later_of rows block (entry_start n k (later_of rows block) i j) i j)
        each i j hi hj =
            let at = entry_start n k (later_of rows block) i j in
            unfold later_of in (chosen_good at (ltb j i && rows i) (block at i j)
            (λ t. good i j hi hj (ltb-true j i (and_first (ltb j i) (rows i) t)) (and_second (ltb j i) (rows i) t)))

    module _ (i j : ℕ) (hi : i < k) (hj : j < k) (l : j < i) (row : rows i ≡ true) where
      -- where the block of i and j starts
      abbrev pub later_start : ℕ
      later_start = entry_start n k (later_of rows block) i j

      pub later_end : entry_end n k (later_of rows block) i j ≡ later_start + length (block later_start i j)
      later_end = entry_end_lem n k (later_of rows block) i j hj
          ∙ ap (λ (gs : List Gate). later_start + length gs) (later_moves later_start i j l row)

      pub later_holds : (W : ℕ → ℕ) → Holds W n (table n k (later_of rows block)) → Holds W later_start (block later_start i j)
      later_holds W h = subst (λ (gs : List Gate). Holds W later_start gs) (later_moves later_start i j l row)
          (entry_holds n k (later_of rows block) i j hj W hi h)

      pub up_at : link_at n k (later_of rows block) i j ≡ later_start + length (block later_start i j) - 2
      unfolding link_at
      up_at =
          ap (λ (c : Bool). cond {A = ℕ} c (entry_end n k (later_of rows block) i j - 2)
          (entry_end n k (later_of rows block) j i - 1)) (lt-ltb j i l)
          ∙ ap (λ (x : ℕ). x - 2) later_end

      pub down_at : link_at n k (later_of rows block) j i ≡ later_start + length (block later_start i j) - 1
      unfolding link_at
      down_at =
          ap (λ (c : Bool). cond {A = ℕ} c (entry_end n k (later_of rows block) j i - 2)
          (entry_end n k (later_of rows block) i j - 1)) (le-ltb i j (omega arith))
          ∙ ap (λ (x : ℕ). x - 1) later_end

      within : 2 ≤ length (block later_start i j)
          → (link_at n k (later_of rows block) i j < n + length (table n k (later_of rows block)))
          × (link_at n k (later_of rows block) j i < n + length (table n k (later_of rows block)))
      within long =
          let e = later_end in
          let f = end_within n k (later_of rows block) i j hj hi in
          (omega (arith, up_at), omega (arith, down_at))

    -- these wires are in the table
    pub later_below : ((at i j : ℕ) → j < i → 2 ≤ length (block at i j)) → (i j : ℕ) → i < k → j < k → i ≢ j → rows (max i j) ≡ true
        → link_at n k (later_of rows block) i j < n + length (table n k (later_of rows block))
    later_below long i j hi hj ne row =
        ⊎_elim
        (λ (l : j < i).
        let r : rows i ≡ true = subst (λ (x : ℕ). rows x ≡ true) (later_is i j l) row in
        (within i j hi hj l r (long (later_start i j hi hj l r) i j l)).0)
        (λ (l : i ≤ j).
        let q : i < j = omega arith in
        let r : rows j ≡ true = subst (λ (x : ℕ). rows x ≡ true) (later_is' j i q) row in
        (within j i hj hi q r (long (later_start j i hj hi q r) j i q)).1)
        (below_or_not j i)
