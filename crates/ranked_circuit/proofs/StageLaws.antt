-- What the words of the circuit's blocks are: numbers of ballots, links, and the strengths of paths.
-- Assumes nothing.
use mathlib.Core.Path.{◌≡◌, ◌∙◌, refl, sym, ap, subst}
use mathlib.Core.Bool.{Bool, true, false, cond, ◌&&◌, ◌||◌, not}
use mathlib.Core.Logic.{⊎_elim, ◌≢◌}
use mathlib.Core.List.{List, [], ◌++◌}
use Prim.Native.Nat.{ℕ, zero, suc, min, max, ◌+◌, ◌-◌, ◌*◌, ◌/◌, ◌≤◌, ◌<◌}
use native.Mathlib.Nat.{add-zero}
use native.Mathlib.Omega.{arith}
use lib.Dec.{eqb, leb, ltb}
use lib.ListN.{length, length-append}
use borrow.Author.Tests.{eqb-false, ne_eqb, le-leb}
use Rattle.basics.proofs.Cases.{below_or_not}
use Rattle.gates.specs.Gate.{Gate}
use Rattle.gates.proofs.Laws.{Holds, holds_append}
use Rattle.gate_words.specs.Word.{ones_at, number}
use Rattle.gate_words.specs.Choice.{masked}
use Rattle.gate_words.specs.Counter.{counter, count_size, Countable}
use Rattle.gate_words.specs.Comparison.{up_end, down_end}
use Rattle.gate_words.proofs.Laws.{Binary, masked_one, masked_zero, counter_law, length_counter, length_masked}
use Rattle.rule_schulze.specs.Schulze.{link}
use Rattle.rule_schulze.proofs.Winning.{link_won, link_lost}
use Rattle.ranked_circuit.specs.Blocks.{compare, order_size, smaller, larger, larger_if}
use Rattle.ranked_circuit.specs.Table.{table}
use Rattle.ranked_circuit.specs.Stages.{votes_block, later_of, links_block, link_at, stays, cut_at, new_word, path_block}
use Rattle.ranked_circuit.proofs.BlockLaws.{compare_up, compare_down, smaller_law, larger_law, larger_if_lem, larger_if_not, length_whole, length_smaller, length_larger, length_larger_if}
use Rattle.ranked_circuit.proofs.LinkLaws.{later_start, later_holds, up_at, down_at}

-- if the "or" of two tests fails, both tests fail
pub neither : (a b : Bool) → (a || b) ≡ false → (a ≡ false) × (b ≡ false)
neither true b e = let z : ◌≡◌ {A = ℕ} 0 1 = cc in absurd (omega arith)
neither false b e = (refl, e)

-- if the detour over l changes the word of i and j, all three candidates are different
pub apart_all : (l i j : ℕ) → stays (suc l) i j ≡ false → (i ≢ l) × (j ≢ l) × (i ≢ j)
unfolding stays
apart_all l i j e =
    let p = neither (eqb i l || eqb j l) (eqb i j) e in
    let q = neither (eqb i l) (eqb j l) p.0 in
    (eqb-false i l q.0, eqb-false j l q.1, eqb-false i j p.1)

pub apart_zero : (i j : ℕ) → stays 0 i j ≡ false → i ≢ j
unfolding stays
apart_zero i j e = eqb-false i j (neither (not (eqb i 0 || eqb j 0)) (eqb i j) e).1

pub stage_moves : (k : ℕ) (links words : ℕ → ℕ → ℕ) (w m at i j : ℕ) → stays m i j ≡ false
    → path_block k links words w m at i j ≡ new_word links words w (cut_at k w m i j) m at i j
unfolding path_block
stage_moves k links words w m at i j e = ap (λ (c : Bool). cond c [] (new_word links words w (cut_at k w m i j) m at i j)) e

pub stage_stays : (k : ℕ) (links words : ℕ → ℕ → ℕ) (w m at i j : ℕ) → stays m i j ≡ true → path_block k links words w m at i j ≡ []
unfolding path_block
stage_stays k links words w m at i j e = ap (λ (c : Bool). cond c [] (new_word links words w (cut_at k w m i j) m at i j)) e

-- the high half of a word leaves a digit for the low half
pub cut_most : (k w m i j : ℕ) → cut_at k w m i j ≤ w
unfolding cut_at
cut_most k w m i j = either (ltb m (k - 1) && (eqb i m || eqb j m))
  where
    either : (t : Bool) → cond t (suc w / 2) 0 ≤ w
    either true = omega arith
    either false = omega arith

-- the number of gates of a stage's block before its word
unfoldable pub stage_pad : ℕ → ℕ → ℕ → ℕ
stage_pad w h zero = 0
stage_pad w h (suc zero) = order_size w h + suc w + (order_size w h + 1)
stage_pad w h (suc (suc l)) = order_size w h + suc w + order_size w h

pub stage_length : (links words : ℕ → ℕ → ℕ) (w h m at i j : ℕ) → h ≤ w → length (new_word links words w h m at i j) ≡ stage_pad w h m + suc w
unfolding stage_pad new_word
stage_length links words w h zero at i j q = omega (arith, length_masked (links i j) (words i j) (suc w))
stage_length links words w h (suc zero) at i j q =
    let to = at + order_size w h in
    let way = smaller at (words i 0) (words 0 j) w h in
    let more = larger_if (to + suc w) (links i j) (words i j) to w h in
    omega (
      arith,
      length-append way more,
      length_smaller at (words i 0) (words 0 j) w h q,
      length_larger_if (to + suc w) (links i j) (words i j) to w h q,
    )
stage_length links words w h (suc (suc l)) at i j q =
    let to = at + order_size w h in
    let way = smaller at (words i (suc l)) (words (suc l) j) w h in
    let more = larger (to + suc w) (words i j) to w h in
    omega (
      arith,
      length-append way more,
      length_smaller at (words i (suc l)) (words (suc l) j) w h q,
      length_larger (to + suc w) (words i j) to w h q,
    )

-- off the diagonal the block is a counter
pub votes_moves : (k n w at i j : ℕ) → i ≢ j → votes_block k n w at i j ≡ counter at (i * k + j) (k * k) n 0 w
unfolding votes_block
votes_moves k n w at i j ne = ap (λ (c : Bool). cond c [] (counter at (i * k + j) (k * k) n 0 w)) (ne_eqb i j ne)

pub votes_length : (k n w at i j : ℕ) → i ≢ j → length (votes_block k n w at i j) ≡ count_size n 0 w + suc w
votes_length k n w at i j ne = ap length (votes_moves k n w at i j ne) ∙ omega (arith, length_counter at (i * k + j) (k * k) n 0 w)

-- the block that compares the words of i and j
abbrev pub comparing : (ℕ → ℕ → ℕ) → ℕ → ℕ → ℕ → ℕ → List Gate
comparing words w at i j = compare at (words i j) (words j i) w

pub links_are : (first : ℕ) (words : ℕ → ℕ → ℕ) (w : ℕ) → links_block first words w ≡ later_of (leb first) (comparing words w)
unfolding links_block
links_are first words w = refl

-- the two wires about a link are the last of their block
pub up_last : (at w : ℕ) → up_end (at + 3) (at + 1) w ≡ at + (3 + 3 * w) - 2
unfolding up_end
up_last at zero = omega arith
up_last at (suc w) = omega arith

pub down_last : (at w : ℕ) → down_end (at + 3) (at + 2) w ≡ at + (3 + 3 * w) - 1
unfolding down_end
down_last at zero = omega arith
down_last at (suc w) = omega arith

module _ (W : ℕ → ℕ) (b : Binary W) where
  -- a block that makes the smaller word, and the gates after it
  behind_smaller : (at x y w h : ℕ) (gs : List Gate) → h ≤ w → Holds W at (smaller at x y w h ++ gs)
      → Holds W at (smaller at x y w h) × Holds W (at + order_size w h + suc w) gs
  behind_smaller at x y w h gs q g =
      let p = holds_append W at (smaller at x y w h) gs g in
      let place : at + length (smaller at x y w h) ≡ at + order_size w h + suc w = omega (arith, length_smaller at x y w h q) in
      (p.0, subst (λ (l : ℕ). Holds W l gs) place p.1)

  -- the word is the number of ballots whose byte is 1
  pub votes_law : (k n w at i j : ℕ) → i ≢ j → Countable n 0 w → Holds W at (votes_block k n w at i j)
      → number W (at + count_size n 0 w) 1 (suc w) ≡ ones_at W (i * k + j) (k * k) n
  votes_law k n w at i j ne c h =
      counter_law W b at (i * k + j) (k * k) n 0 w c
      (subst (λ (gs : List Gate). Holds W at gs) (votes_moves k n w at i j ne) h)
      ∙ add-zero (ones_at W (i * k + j) (k * k) n)

  -- words that are compared: a wire says whether one is larger than the other
  module _ (words t : ℕ → ℕ → ℕ) (k w : ℕ) (spelled : (i j : ℕ) → i < k → j < k → i ≢ j → number W (words i j) 1 (suc w) ≡ t i j) where
    abbrev pub Tells : (ℕ → ℕ → ℕ) → ℕ → ℕ → Type 0
    Tells wires i j = (t j i < t i j → W (wires i j) ≡ 1) × (t i j ≤ t j i → W (wires i j) ≡ 0)

    module _ (first n : ℕ) (h : Holds W n (table n k (later_of (leb first) (comparing words w)))) (i j : ℕ)
        (hi : i < k) (hj : j < k) (l : j < i) (row : leb first i ≡ true) where
      at : ℕ
      at = later_start (leb first) (comparing words w) n k i j hi hj l row

      held : Holds W at (compare at (words i j) (words j i) w)
      unfolding at
      held = later_holds (leb first) (comparing words w) n k i j hi hj l row W h

      later : Tells (link_at n k (later_of (leb first) (comparing words w))) i j
      unfolding at
      later =
          let r = compare_up W b at (words i j) (words j i) w held in
          let e : link_at n k (later_of (leb first) (comparing words w)) i j ≡ up_end (at + 3) (at + 1) w =
          up_at (leb first) (comparing words w) n k i j hi hj l row
          ∙ omega (arith, length_whole at (words i j) (words j i) w, up_last at w) in
          rw e (
            (λ q. r.0 (omega (
              arith,
              spelled i j hi hj (λ e. omega arith),
              spelled j i hj hi (λ e. omega arith),
            ))),
            (λ q. r.1 (omega (arith, spelled i j hi hj (λ e. omega arith), spelled j i hj hi (λ e. omega arith)))),
          )

      earlier : Tells (link_at n k (later_of (leb first) (comparing words w))) j i
      unfolding at
      earlier =
          let r = compare_down W b at (words i j) (words j i) w held in
          let e : link_at n k (later_of (leb first) (comparing words w)) j i ≡ down_end (at + 3) (at + 2) w =
          down_at (leb first) (comparing words w) n k i j hi hj l row
          ∙ omega (arith, length_whole at (words i j) (words j i) w, down_last at w) in
          rw e (
            (λ q. r.0 (omega (
              arith,
              spelled i j hi hj (λ e. omega arith),
              spelled j i hj hi (λ e. omega arith),
            ))),
            (λ q. r.1 (omega (arith, spelled i j hi hj (λ e. omega arith), spelled j i hj hi (λ e. omega arith)))),
          )

    pub link_told : (first n : ℕ) → Holds W n (table n k (links_block first words w)) → (i j : ℕ) → i < k → j < k
        → i ≢ j → first ≤ max i j → Tells (link_at n k (links_block first words w)) i j
    link_told first n h i j hi hj ne f =
        rw (links_are first words w)
        (⊎_elim (λ (l : j < i). later first n held i j hi hj l (le-leb first i (omega arith)))
        (λ (l : i ≤ j). earlier first n held j i hj hi (omega arith) (le-leb first j (omega arith)))
        (below_or_not j i))
      where
        held : Holds W n (table n k (later_of (leb first) (comparing words w)))
        held = rw (links_are first words w) at h

  -- a link's strength: the number of ballots if there is a link, else 0
  pub strength_law : (f x w at v v' : ℕ) → number W x 1 (suc w) ≡ v → (v' < v → W f ≡ 1) × (v ≤ v' → W f ≡ 0)
      → Holds W at (masked f x (suc w))
      → (v' < v → number W (at + 0) 1 (suc w) ≡ v) × (v ≤ v' → number W (at + 0) 1 (suc w) ≡ 0)
  strength_law f x w at v v' e told h =
      rw (add-zero at) ((λ l. masked_one W b at f x (suc w) (told.0 l) h ∙ e), (λ l. masked_zero W b at f x (suc w) (told.1 l) h))

  -- the stronger of the path so far and a way over another candidate
  pub way_law : (words : ℕ → ℕ → ℕ) (w h l at i j a c d : ℕ) → h ≤ w → number W (words i j) 1 (suc w) ≡ a
      → number W (words i (suc l)) 1 (suc w) ≡ c → number W (words (suc l) j) 1 (suc w) ≡ d →
      Holds W at (smaller at (words i (suc l)) (words (suc l) j) w h
      ++ larger (at + order_size w h + suc w) (words i j) (at + order_size w h) w h)
      → number W (at + (order_size w h + suc w + order_size w h)) 1 (suc w) ≡ max a (min c d)
  way_law words w h l at i j a c d q ea ec ed g =
      let to = at + order_size w h in
      let p = behind_smaller at (words i (suc l)) (words (suc l) j) w h (larger (to + suc w) (words i j) to w h) q g in
      let s = smaller_law W b at (words i (suc l)) (words (suc l) j) w h q p.0 in
      let r = larger_law W b (to + suc w) (words i j) to w h q p.1 in
      let e : to + suc w + order_size w h ≡ at + (order_size w h + suc w + order_size w h) = omega arith in
      sym (ap (λ (m : ℕ). number W m 1 (suc w)) e) ∙ omega (arith, r, s)

  -- the same, if the path so far counts only if there is a link
  pub first_way_law : (links words v : ℕ → ℕ → ℕ) (w h at i j c d : ℕ) → h ≤ w → number W (words i j) 1 (suc w)
      ≡ v i j → (v j i < v i j → W (links i j) ≡ 1) × (v i j ≤ v j i → W (links i j) ≡ 0) →
      number W (words i 0) 1 (suc w) ≡ c → number W (words 0 j) 1 (suc w) ≡ d →
      Holds W at (smaller at (words i 0) (words 0 j) w h
      ++ larger_if (at + order_size w h + suc w) (links i j) (words i j) (at + order_size w h) w h)
      → number W (at + (order_size w h + suc w + (order_size w h + 1))) 1 (suc w) ≡ max (link v i j) (min c d)
  first_way_law links words v w h at i j c d q ea told ec ed g =
      let to = at + order_size w h in
      let p = behind_smaller at (words i 0) (words 0 j) w h (larger_if (to + suc w) (links i j) (words i j) to w h) q g in
      let s = smaller_law W b at (words i 0) (words 0 j) w h q p.0 in
      let e : to + suc w + order_size w h + 1 ≡ at + (order_size w h + suc w + (order_size w h + 1)) = omega arith in
      sym (ap (λ (m : ℕ). number W m 1 (suc w)) e)
      ∙ ⊎_elim
      (λ (l : v j i < v i j).
      let r = larger_if_lem W b (to + suc w) (links i j) (words i j) to w h q p.1 (told.0 l) in
      omega (arith, r, s, link_won v i j l))
      (λ (l : v i j ≤ v j i).
      let r = larger_if_not W b (to + suc w) (links i j) (words i j) to w h q p.1 (told.1 l) in
      omega (arith, r, s, link_lost v i j l))
      (below_or_not (v j i) (v i j))
