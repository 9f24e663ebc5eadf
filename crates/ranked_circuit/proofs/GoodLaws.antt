-- The own list of a ranked tasting is well-formed: every operand is an earlier wire.
-- Assumes nothing.
use mathlib.Core.Path.{◌≡◌, ◌∙◌, refl, sym, ap, subst}
use mathlib.Core.Bool.{Bool, true, false, cond}
use mathlib.Core.Logic.{◌≢◌}
use mathlib.Core.List.{List, [], ◌++◌}
use Prim.Native.Nat.{ℕ, zero, suc, max, ◌+◌, ◌-◌, ◌*◌, ◌≤◌, ◌<◌}
use native.Mathlib.Omega.{arith}
use lib.Dec.{eqb, leb}
use lib.ListN.{length, length-append}
use borrow.Author.Tests.{le-leb}
use Rattle.gates.specs.Gate.{Gate}
use Rattle.gates.proofs.Laws.{AllGood, good_append}
use Rattle.gate_words.specs.Word.{Below}
use Rattle.gate_words.specs.Counter.{counter, Countable}
use Rattle.gate_words.proofs.Laws.{masked_good, counter_good}
use Rattle.basics.proofs.Arithmetic.{row_within}
use Rattle.ranked_circuit.specs.Blocks.{order_size, smaller, larger, larger_if}
use Rattle.ranked_circuit.specs.Table.{table, entry_end}
use Rattle.ranked_circuit.specs.Stages.{votes_block, later_of, links_block, link_at, stays, cut_at, new_word, path_block}
use Rattle.ranked_circuit.specs.Paths.{votes_at, votes_table, links_from, links_table, link_wire, next_paths, paths_to}
use Rattle.ranked_circuit.proofs.BlockLaws.{length_whole, length_smaller, whole_good, smaller_good, larger_good, larger_if_good}
use Rattle.ranked_circuit.proofs.TableLaws.{entry_start, entry_end_lem, table_good, end_within}
use Rattle.ranked_circuit.proofs.LinkLaws.{later_good, later_below}
use Rattle.ranked_circuit.proofs.StageLaws.{apart_zero, apart_all, stage_moves, stage_stays, cut_most, stage_length, votes_length, comparing, links_are}
use Rattle.ranked_circuit.proofs.PathLaws.{bool_cases}
use Rattle.gate_words.proofs.PointsBack.{behind}
use Rattle.gate_words.proofs.CounterSteps.{below_stride}

-- a choice between two well-formed lists
either_good : (n : ℕ) (t : Bool) (gs hs : List Gate) → AllGood n gs → (t ≡ false → AllGood n hs) → AllGood n (cond t gs hs)
either_good n true gs hs p q = p
either_good n false gs hs p q = q refl

pub bytes_below : (k n at i j : ℕ) → i < k → j < k → n * k * k ≤ at → Below at (i * k + j) (k * k) n
bytes_below k n at i j hi hj h =
    let l = row_within i k k hi in
    let e : n * (k * k) ≡ n * k * k = omega arith in
    below_stride at (i * k + j) (k * k) n (omega arith)

votes_good : (k n w at i j : ℕ) → i < k → j < k → n * k * k ≤ at → Countable n 0 w → AllGood at (votes_block k n w at i j)
unfolding votes_block
votes_good k n w at i j hi hj h c =
    either_good at (eqb i j) [] (counter at (i * k + j) (k * k) n 0 w) tt
    (λ e. counter_good at (i * k + j) (k * k) n 0 w (bytes_below k n at i j hi hj h) c)

-- the words of each pair of candidates end before the wire `wire`
abbrev pub WordsBelow : ℕ → ℕ → (ℕ → ℕ → ℕ) → ℕ → Type 0
WordsBelow k w words wire = (i j : ℕ) → i < k → j < k → i ≢ j → words i j + suc w ≤ wire

abbrev pub WiresBelow : ℕ → (ℕ → ℕ → ℕ) → ℕ → Type 0
WiresBelow k wires wire = (i j : ℕ) → i < k → j < k → i ≢ j → wires i j < wire

module _ (k w : ℕ) where
  pub links_good : (first : ℕ) (words : ℕ → ℕ → ℕ) (n : ℕ) → WordsBelow k w words n → AllGood n (table n k (links_block first words w))
  links_good first words n below =
      rw (links_are first words w)
      (later_good (leb first) (comparing words w) n k
      (λ i j hi hj l row.
      whole_good (entry_start n k (later_of (leb first) (comparing words w)) i j) (words i j) (words j i) w
      (omega (arith, below i j hi hj (λ e. omega arith))) (omega (arith, below j i hj hi (λ e. omega arith)))))

  -- the wires that say whether there is a link are wires of their table
  pub links_below : (first : ℕ) (words : ℕ → ℕ → ℕ) (n i j : ℕ) → i < k → j < k → i ≢ j → first ≤ max i j
      → link_at n k (links_block first words w) i j < n + length (table n k (links_block first words w))
  links_below first words n i j hi hj ne f =
      rw (links_are first words w)
      (later_below (leb first) (comparing words w) n k
      (λ at i j l. omega (arith, length_whole at (words i j) (words j i) w)) i j hi hj ne (le-leb first (max i j) f))

  -- a list after the weaker part of a way
  behind_way : (at x y h : ℕ) → h ≤ w → x + suc w ≤ at → y + suc w ≤ at → (gs : List Gate)
      → AllGood (at + order_size w h + suc w) gs → AllGood at (smaller at x y w h ++ gs)
  behind_way at x y h hw hx hy gs good =
      let place : at + (order_size w h + suc w) ≡ at + order_size w h + suc w = omega arith in
      behind at (order_size w h + suc w) (smaller at x y w h) gs (length_smaller at x y w h hw)
      (smaller_good at x y w h hw hx hy) (subst (λ (l : ℕ). AllGood l gs) (sym place) good)

  new_good : (links words : ℕ → ℕ → ℕ) (h m at i j : ℕ) → h ≤ w → m ≤ k → i < k → j < k
      → WordsBelow k w words at → WiresBelow k links at → stays m i j ≡ false
      → AllGood at (new_word links words w h m at i j)
  unfolding new_word
  new_good links words h zero at i j hw hm hi hj below under e =
      masked_good at (links i j) (words i j) (suc w) (under i j hi hj (apart_zero i j e))
      (below i j hi hj (apart_zero i j e))
  new_good links words h (suc zero) at i j hw hm hi hj below under e =
      let a = apart_all 0 i j e in
      let here = below i j hi hj a.2 in
      let f = under i j hi hj a.2 in
      behind_way at (words i 0) (words 0 j) h hw (below i 0 hi (omega arith) a.0) (below 0 j (omega arith) hj (λ z. a.1 (sym z)))
      (larger_if (at + order_size w h + suc w) (links i j) (words i j) (at + order_size w h) w h)
      (larger_if_good (at + order_size w h + suc w) (links i j) (words i j) (at + order_size w h) w h hw (omega arith)
      (omega arith) (omega arith))
  new_good links words h (suc (suc l)) at i j hw hm hi hj below under e =
      let a = apart_all (suc l) i j e in
      let here = below i j hi hj a.2 in
      behind_way at (words i (suc l)) (words (suc l) j) h hw (below i (suc l) hi (omega arith) a.0)
      (below (suc l) j (omega arith) hj (λ z. a.1 (sym z)))
      (larger (at + order_size w h + suc w) (words i j) (at + order_size w h) w h)
      (larger_good (at + order_size w h + suc w) (words i j) (at + order_size w h) w h hw (omega arith) (omega arith))

  stage_good : (links words : ℕ → ℕ → ℕ) (m at i j : ℕ) → m ≤ k → i < k → j < k
      → WordsBelow k w words at → WiresBelow k links at → AllGood at (path_block k links words w m at i j)
  stage_good links words m at i j hm hi hj below under =
      bool_cases (stays m i j) (λ e. subst (λ (gs : List Gate). AllGood at gs) (sym (stage_stays k links words w m at i j e)) tt)
      (λ e. subst (λ (gs : List Gate). AllGood at gs) (sym (stage_moves k links words w m at i j e))
      (new_good links words (cut_at k w m i j) m at i j (cut_most k w m i j) hm hi hj below under e))

module _ (k n w : ℕ) where
  pub votes_below : WordsBelow k w (votes_at k n w) (links_from k n w)
  unfolding votes_at links_from votes_table
  votes_below i j hi hj ne =
      omega (
        arith,
        entry_end_lem (n * k * k) k (votes_block k n w) i j hj,
        votes_length k n w (entry_start (n * k * k) k (votes_block k n w) i j) i j ne,
        end_within (n * k * k) k (votes_block k n w) i j hj hi,
      )

  -- the first wire after the list of m stages
  abbrev pub end_of : ℕ → ℕ
  end_of m = n * k * k + length (paths_to k n w m).gates

  first_end : end_of 0 ≡ links_from k n w + length (links_table k n w)
  unfolding paths_to links_from
  first_end = omega (arith, length-append (votes_table k n w) (links_table k n w))

  next_end : (m : ℕ) → end_of (suc m) ≡ end_of m + length (table (end_of m) k (path_block k (link_wire k n w) (paths_to k n w m).words w m))
  unfolding paths_to next_paths
  next_end m = omega (
    arith,
    length-append (paths_to k n w m).gates
        (table (end_of m) k (path_block k (link_wire k n w) (paths_to k n w m).words w m)),
  )

  pub link_below : (m : ℕ) → WiresBelow k (link_wire k n w) (end_of m)
  unfolding link_wire links_table
  link_below zero i j hi hj ne = omega (arith, links_below k w 0 (votes_at k n w) (links_from k n w) i j hi hj ne (omega arith), first_end)
  link_below (suc m) i j hi hj ne = omega (arith, link_below m i j hi hj ne, next_end m)

  pub words_below : (m : ℕ) → WordsBelow k w (paths_to k n w m).words (end_of m)
  unfolding paths_to
  words_below zero i j hi hj ne = omega (arith, votes_below i j hi hj ne, first_end)
  words_below (suc m) i j hi hj ne = bool_cases (stays m i j) (kept (words_below m i j hi hj ne)) moved
    where
      block : ℕ → ℕ → ℕ → List Gate
      block = path_block k (link_wire k n w) (paths_to k n w m).words w m

      end : (next_paths k n w m (paths_to k n w m)).words i j
          ≡ cond (stays m i j) ((paths_to k n w m).words i j) (entry_end (end_of m) k block i j - suc w)
      end = unfold next_paths in refl

      grown : n * k * k + length (next_paths k n w m (paths_to k n w m)).gates ≡ end_of m + length (table (end_of m) k block)
      grown = unfold next_paths in (omega (arith, length-append (paths_to k n w m).gates (table (end_of m) k block)))

      kept : (paths_to k n w m).words i j + suc w ≤ end_of m → stays m i j ≡ true
          → (next_paths k n w m (paths_to k n w m)).words i j + suc w ≤ n * k * k
          + length (next_paths k n w m (paths_to k n w m)).gates
      kept h e = let s = end ∙ ap (λ (c : Bool). cond c ((paths_to k n w m).words i j)
          (entry_end (end_of m) k block i j - suc w)) e in omega (arith, grown)

      moved : stays m i j ≡ false → (next_paths k n w m (paths_to k n w m)).words i j + suc w ≤ n * k * k
          + length (next_paths k n w m (paths_to k n w m)).gates
      moved e =
          let at = entry_start (end_of m) k block i j in
          let s = end ∙ ap (λ (c : Bool). cond c ((paths_to k n w m).words i j) (entry_end (end_of m) k block i j - suc w)) e in
          omega (
            arith,
            grown,
            entry_end_lem (end_of m) k block i j hj,
            ap length (stage_moves k (link_wire k n w) (paths_to k n w m).words w m at i j e),
            stage_length (link_wire k n w) (paths_to k n w m).words w (cut_at k w m i j) m at i j (cut_most k w m i j),
            end_within (end_of m) k block i j hj hi,
          )

  pub paths_good : Countable n 0 w → (m : ℕ) → m ≤ suc k → AllGood (n * k * k) (paths_to k n w m).gates
  unfolding paths_to next_paths votes_table links_table
  paths_good c zero hm =
      good_append (n * k * k) (votes_table k n w) (links_table k n w)
      (table_good (n * k * k) k (votes_block k n w)
      (λ i j hi hj. votes_good k n w (entry_start (n * k * k) k (votes_block k n w) i j) i j hi hj (omega arith) c))
      (unfold links_from in (links_good k w 0 (votes_at k n w) (links_from k n w) votes_below))
  paths_good c (suc m) hm =
      let block = path_block k (link_wire k n w) (paths_to k n w m).words w m in
      good_append (n * k * k) (paths_to k n w m).gates (table (end_of m) k block) (paths_good c m (omega arith))
      (table_good (end_of m) k block
      (λ i j hi hj.
      stage_good k w (link_wire k n w) (paths_to k n w m).words m (entry_start (end_of m) k block i j) i j (omega arith) hi hj
      (λ a c ha hc ne. omega (arith, words_below m a c ha hc ne)) (λ a c ha hc ne. omega (arith, link_below m a c ha hc ne))))
