-- The numbers of gates and of conditional gates of a ranked tasting's own list, both as sums over its tables.
-- Assumes nothing.
use mathlib.Core.Path.{◌≡◌, ◌∙◌, refl, sym, ap}
use mathlib.Core.Bool.{Bool, true, false, cond, ◌&&◌, ◌||◌}
use mathlib.Core.List.{List, [], ◌∷◌, ◌++◌}
use Prim.Native.Nat.{ℕ, zero, suc, ◌+◌, ◌-◌, ◌*◌, ◌/◌, ◌%◌, ◌≤◌}
use native.Mathlib.Nat.{suc-mul, zero-mul}
use native.Mathlib.Omega.{arith}
use lib.Dec.{eqb, leb, ltb}
use lib.ListN.{length}
use Rattle.gates.specs.Gate.{Gate}
use Rattle.gate_words.specs.Choice.{masked}
use Rattle.gate_words.specs.Gates.{not_of, or_of}
use Rattle.gate_words.specs.Counter.{counter}
use Rattle.ranked_circuit.specs.Blocks.{compare, order_size, smaller, larger, larger_if}
use Rattle.ranked_circuit.specs.Table.{blocks, entries, table}
use Rattle.ranked_circuit.specs.Stages.{votes_block, later_of, links_block, stays, cut_at, new_word, path_block}
use Rattle.ranked_circuit.specs.Paths.{votes_at, votes_table, links_from, links_table, link_wire, next_paths, paths_to}
use Rattle.ranked_circuit.specs.Contests.{duels_from, duels, duel_at, meeting, meetings_block, meetings_from, meetings, beats_at}
use Rattle.ranked_circuit.specs.RankedList.{joined_wire, loser_row, loser_rows, output_gates, losers_from, pair_from, ranked_list}
use Rattle.ranked_circuit.proofs.TableLaws.{start_of}
use Rattle.ranked_circuit.proofs.StageLaws.{cut_most}
use Rattle.ranked_circuit.proofs.Accuracy.{path_gates, duel_gates, meeting_gates, row_gates, last_gates, list_is, pair_is}

-- the sum of the first m values of f, and the sum over a table of k rows and columns
pub sum_below : (ℕ → ℕ) → ℕ → ℕ
sum_below f zero = 0
sum_below f (suc m) = sum_below f m + f m

pub table_sum : (ℕ → ℕ → ℕ) → ℕ → ℕ
table_sum f k = sum_below (λ e. f (e / k) (e % k)) (k * k)

none_below : (f : ℕ → ℕ) → sum_below f 0 ≡ 0
unfolding sum_below
none_below f = refl

same_sum : (x m : ℕ) → sum_below (λ e. x) m ≡ m * x
unfolding sum_below
same_sum x zero = sym (zero-mul x)
same_sum x (suc m) = omega (arith, same_sum x m, suc-mul m x)

-- A number that is counted in a list: 0 in an empty list, and in two lists the sum of both.
pub record Figure (f : List Gate → ℕ) : Type 0 where
  pub none : f [] ≡ 0
  pub both : (gs hs : List Gate) → f (gs ++ hs) ≡ f gs + f hs

-- What f counts in each block: c in a counter, p in a comparison, s in a link's strength, d in the first detour and e
-- in a later one, q in a meeting, o in a gate that joins, x in a last gate. Words that are cut count more.
pub record Each (f : List Gate → ℕ) (n w c p s d e q o x : ℕ) : Type 0 where
  pub counters : (at from step : ℕ) → f (counter at from step n 0 w) ≡ c
  pub compares : (at a b : ℕ) → f (compare at a b w) ≡ p
  pub strengths : (l a : ℕ) → f (masked l a (suc w)) ≡ s
  pub firsts : (h at a b at' l a' b' : ℕ) → h ≤ w → f (smaller at a b w h ++ larger_if at' l a' b' w h) ≡ d + 2 * (h - 1)
  pub detours : (h at a b at' a' b' : ℕ) → h ≤ w → f (smaller at a b w h ++ larger at' a' b' w h) ≡ e + 2 * (h - 1)
  pub meets : (li lj ij ji mi mj at : ℕ) → f (meeting li lj ij ji mi mj w at) ≡ q
  pub joins : (a b : ℕ) → f (or_of a b ∷ []) ≡ o
  pub lasts : (a : ℕ) → f (not_of a ∷ []) ≡ x

-- what is counted at row i and column j of a table: c off the diagonal; p for the later candidate, if it has a block
pub apart_of : ℕ → ℕ → ℕ → ℕ
apart_of c i j = cond (eqb i j) 0 c

pub later_ones : (ℕ → Bool) → ℕ → ℕ → ℕ → ℕ
later_ones rows p i j = cond (ltb j i && rows i) p 0

-- what is counted in a block of stage m, with z more if its words are cut
pub stage_figure : ℕ → ℕ → ℕ → ℕ → ℕ → ℕ
stage_figure s d e z zero = s
stage_figure s d e z (suc zero) = d + z
stage_figure s d e z (suc (suc l)) = e + z

pub stage_of : ℕ → ℕ → ℕ → ℕ → ℕ → ℕ → ℕ → ℕ → ℕ
stage_of k s d e y m i j = cond (stays m i j) 0 (stage_figure s d e (cond (ltb m (k - 1) && (eqb i m || eqb j m)) y 0) m)

-- how many gates more two orders take if their words are cut in halves
abbrev pub more_of : ℕ → ℕ
more_of w = 2 * (suc w / 2 - 1)

module _ (f : List Gate → ℕ) (g : Figure f) where
  either_figure : (t : Bool) (gs hs : List Gate) (a b : ℕ) → f gs ≡ a → f hs ≡ b → f (cond t gs hs) ≡ cond t a b
  either_figure true gs hs a b e h = e
  either_figure false gs hs a b e h = h

  blocks_figure : (block : ℕ → ℕ → List Gate) (x : ℕ → ℕ) → ((at e : ℕ) → f (block at e) ≡ x e) → (n m : ℕ)
      → f (blocks n block m) ≡ sum_below x m
  unfolding blocks sum_below
  blocks_figure block x h n zero = g.none
  blocks_figure block x h n (suc m) =
      omega (
        arith,
        g.both (blocks n block m) (block (start_of n block m) m),
        blocks_figure block x h n m,
        h (start_of n block m) m,
      )

  table_figure : (k : ℕ) (block : ℕ → ℕ → ℕ → List Gate) (x : ℕ → ℕ → ℕ) → ((at i j : ℕ) → f (block at i j) ≡ x i j)
      → (n : ℕ) → f (table n k block) ≡ table_sum x k
  unfolding table entries table_sum
  table_figure k block x h n = blocks_figure (λ at e. block at (e / k) (e % k)) (λ e. x (e / k) (e % k))
      (λ at e. h at (e / k) (e % k)) n (k * k)

  module _ (n w c p s d e q o x : ℕ) (a : Each f n w c p s d e q o x) where
    votes_figure : (k at i j : ℕ) → f (votes_block k n w at i j) ≡ apart_of c i j
    unfolding votes_block apart_of
    votes_figure k at i j = either_figure (eqb i j) [] (counter at (i * k + j) (k * k) n 0 w) 0 c g.none
        (a.counters at (i * k + j) (k * k))

    links_figure : (first : ℕ) (words : ℕ → ℕ → ℕ) (at i j : ℕ) → f (links_block first words w at i j) ≡ later_ones (leb first) p i j
    unfolding links_block later_of later_ones
    links_figure first words at i j =
        either_figure (ltb j i && leb first i) (compare at (words i j) (words j i) w) [] p 0
        (a.compares at (words i j) (words j i)) g.none

    meetings_figure : (l : ℕ) (words met : ℕ → ℕ → ℕ) (at i j : ℕ) → f (meetings_block l words met w at i j) ≡ later_ones (λ y. ltb y l) q i j
    unfolding meetings_block later_of later_ones
    meetings_figure l words met at i j =
        either_figure (ltb j i && ltb i l) (meeting (words l i) (words l j) (words i j) (words j i) (met i l) (met j l) w at) [] q 0
        (a.meets (words l i) (words l j) (words i j) (words j i) (met i l) (met j l) at) g.none

    new_figure : (links words : ℕ → ℕ → ℕ) (h m at i j : ℕ) → h ≤ w → f (new_word links words w h m at i j)
        ≡ stage_figure s d e (2 * (h - 1)) m
    unfolding new_word stage_figure
    new_figure links words h zero at i j hw = a.strengths (links i j) (words i j)
    new_figure links words h (suc zero) at i j hw =
        a.firsts h at (words i 0) (words 0 j) (at + order_size w h + suc w) (links i j) (words i j)
        (at + order_size w h) hw
    new_figure links words h (suc (suc l)) at i j hw =
        a.detours h at (words i (suc l)) (words (suc l) j) (at + order_size w h + suc w) (words i j)
        (at + order_size w h) hw

    more_is : (k m i j : ℕ) → 2 * (cut_at k w m i j - 1) ≡ cond (ltb m (k - 1) && (eqb i m || eqb j m)) (more_of w) 0
    unfolding cut_at
    more_is k m i j = either (ltb m (k - 1) && (eqb i m || eqb j m))
      where
        either : (t : Bool) → 2 * (cond t (suc w / 2) 0 - 1) ≡ cond t (more_of w) 0
        either true = refl
        either false = omega arith

    stage_figure_lem : (k : ℕ) (links words : ℕ → ℕ → ℕ) (m at i j : ℕ) → f (path_block k links words w m at i j)
        ≡ stage_of k s d e (more_of w) m i j
    unfolding path_block stage_of
    stage_figure_lem k links words m at i j =
        either_figure (stays m i j) [] (new_word links words w (cut_at k w m i j) m at i j) 0
        (stage_figure s d e (cond (ltb m (k - 1) && (eqb i m || eqb j m)) (more_of w) 0) m) g.none
        (new_figure links words (cut_at k w m i j) m at i j (cut_most k w m i j) ∙ ap (λ (z : ℕ). stage_figure s d e z m) (more_is k m i j))

    paths_figure : (k m : ℕ) → f (paths_to k n w m).gates ≡ table_sum (apart_of c) k
        + table_sum (later_ones (leb 0) p) k + sum_below (λ l. table_sum (stage_of k s d e (more_of w) l) k) m
    unfolding paths_to next_paths sum_below votes_table links_table
    paths_figure k zero =
        omega (
          arith,
          g.both (votes_table k n w) (links_table k n w),
          table_figure k (votes_block k n w) (apart_of c) (votes_figure k) (n * k * k),
          table_figure k (links_block 0 (votes_at k n w) w) (later_ones (leb 0) p) (links_figure 0 (votes_at k n w)) (links_from k n w),
        )
    paths_figure k (suc m) =
        let t = paths_to k n w m in
        let start = n * k * k + length t.gates in
        let block = path_block k (link_wire k n w) t.words w m in
        omega (
          arith,
          g.both t.gates (table start k block),
          paths_figure k m,
          table_figure k block (stage_of k s d e (more_of w) m) (stage_figure_lem k (link_wire k n w) t.words m) start,
        )

    rows_figure : (beats : ℕ → ℕ → ℕ) (r from k : ℕ) → f (loser_rows beats r from k) ≡ k * (r * o)
    unfolding loser_rows
    rows_figure beats r from k = blocks_figure (loser_row beats r) (λ i. r * o) row from k ∙ same_sum (r * o) k
      where
        row : (at i : ℕ) → f (loser_row beats r at i) ≡ r * o
        row at i = unfold loser_row in (blocks_figure
            (λ wire t. or_of (joined_wire beats (suc r) at i (2 * t)) (joined_wire beats (suc r) at i (2 * t + 1)) ∷ [])
            (λ t. o) (λ wire t. a.joins (joined_wire beats (suc r) at i (2 * t))
            (joined_wire beats (suc r) at i (2 * t + 1))) at r ∙ same_sum o r)

    outputs_figure : (beats : ℕ → ℕ → ℕ) (r from k : ℕ) → f (output_gates beats r from k) ≡ k * x
    unfolding output_gates
    outputs_figure beats r from k =
        blocks_figure (λ wire i. not_of (joined_wire beats (suc r) (from + i * r) i (2 * r)) ∷ []) (λ i. x)
        (λ wire i. a.lasts (joined_wire beats (suc r) (from + i * r) i (2 * r))) (from + k * r) k ∙ same_sum x k

    -- what is counted in the whole list
    pub by_tables : (r : ℕ) → f (ranked_list (suc (suc (suc r))) n w) ≡
        table_sum (apart_of c) (suc (suc (suc r))) + table_sum (later_ones (leb 0) p) (suc (suc (suc r)))
        + sum_below (λ l. table_sum (stage_of (suc (suc (suc r))) s d e (more_of w) l) (suc (suc (suc r))))
        (suc (suc (suc r)))
        + table_sum (later_ones (leb (suc (suc (suc r)) - 1)) p) (suc (suc (suc r)))
        + table_sum (later_ones (λ y. ltb y (suc (suc (suc r)) - 1)) q) (suc (suc (suc r))) + suc (suc (suc r))
        * (suc r * o) + suc (suc (suc r)) * x
    unfolding path_gates duel_gates duels meeting_gates meetings row_gates last_gates
    by_tables r =
        let k = suc (suc (suc r)) in
        let words = (paths_to k n w k).words in
        omega (
          arith,
          ap f (list_is r n w),
          g.both (path_gates r n w ++ duel_gates r n w ++ meeting_gates r n w ++ row_gates r n w) (last_gates r n w),
          g.both (path_gates r n w ++ duel_gates r n w ++ meeting_gates r n w) (row_gates r n w),
          g.both (path_gates r n w ++ duel_gates r n w) (meeting_gates r n w),
          g.both (path_gates r n w) (duel_gates r n w),
          paths_figure k k,
          table_figure k (links_block (k - 1) words w) (later_ones (leb (k - 1)) p) (links_figure (k - 1) words) (duels_from k n w),
          table_figure k (meetings_block (k - 1) words (duel_at k n w) w) (later_ones (λ y. ltb y (k - 1)) q)
              (meetings_figure (k - 1) words (duel_at k n w)) (meetings_from k n w),
          rows_figure (beats_at k n w) (suc r) (losers_from k n w) k,
          outputs_figure (beats_at k n w) (suc r) (losers_from k n w) k,
        )

    -- the same for two candidates
    pub pair_figure : f (ranked_list 2 n w) ≡ table_sum (apart_of c) 2 + table_sum (later_ones (leb 0) p) 2 + 2 * x
    pair_figure =
        omega (
          arith,
          ap f (pair_is n w),
          g.both (paths_to 2 n w 0).gates (output_gates (link_wire 2 n w) 0 (pair_from n w) 2),
          paths_figure 2 0,
          none_below (λ l. table_sum (stage_of 2 s d e (more_of w) l) 2),
          outputs_figure (link_wire 2 n w) 0 (pair_from n w) 2,
        )

-- the sums over the tables of r + 3 candidates
abbrev Sums : ℕ → ℕ → ℕ → ℕ → ℕ → ℕ → ℕ → ℕ → Type 0
Sums r c p s d e q y =
    table_sum (apart_of c) (suc (suc (suc r))) + table_sum (later_ones (leb 0) p) (suc (suc (suc r)))
    + sum_below (λ l. table_sum (stage_of (suc (suc (suc r))) s d e y l) (suc (suc (suc r)))) (suc (suc (suc r)))
    + table_sum (later_ones (leb (suc (suc (suc r)) - 1)) p) (suc (suc (suc r)))
    + table_sum (later_ones (λ y. ltb y (suc (suc (suc r)) - 1)) q) (suc (suc (suc r)))
    ≡ suc (suc (suc r)) * suc (suc r) * c + suc (suc (suc r)) * suc (suc r) / 2 * p + 2 * suc (suc r) * s
    + suc (suc r) * suc r * d + suc r * (suc (suc r) * suc r) * e + suc (suc r) * p + suc (suc r) * suc r / 2 * q
    + 2 * suc r * suc r * y

sums_three : (c p s d e q y : ℕ) → Sums 0 c p s d e q y
unfolding table_sum sum_below apart_of later_ones stage_of stage_figure stays
sums_three c p s d e q y = omega arith

sums_four : (c p s d e q y : ℕ) → Sums 1 c p s d e q y
unfolding table_sum sum_below apart_of later_ones stage_of stage_figure stays
sums_four c p s d e q y = omega arith

sums_five : (c p s d e q y : ℕ) → Sums 2 c p s d e q y
unfolding table_sum sum_below apart_of later_ones stage_of stage_figure stays
sums_five c p s d e q y = omega arith

sums_six : (c p s d e q y : ℕ) → Sums 3 c p s d e q y
unfolding table_sum sum_below apart_of later_ones stage_of stage_figure stays
sums_six c p s d e q y = omega arith

sums_seven : (c p s d e q y : ℕ) → Sums 4 c p s d e q y
unfolding table_sum sum_below apart_of later_ones stage_of stage_figure stays
sums_seven c p s d e q y = omega arith

sums_eight : (c p s d e q y : ℕ) → Sums 5 c p s d e q y
unfolding table_sum sum_below apart_of later_ones stage_of stage_figure stays
sums_eight c p s d e q y = omega arith

sums : (r c p s d e q y : ℕ) → r ≤ 5 → Sums r c p s d e q y
sums zero c p s d e q y h = sums_three c p s d e q y
sums (suc zero) c p s d e q y h = sums_four c p s d e q y
sums (suc (suc zero)) c p s d e q y h = sums_five c p s d e q y
sums (suc (suc (suc zero))) c p s d e q y h = sums_six c p s d e q y
sums (suc (suc (suc (suc zero)))) c p s d e q y h = sums_seven c p s d e q y
sums (suc (suc (suc (suc (suc zero))))) c p s d e q y h = sums_eight c p s d e q y
sums (suc (suc (suc (suc (suc (suc r)))))) c p s d e q y h = absurd (omega arith)

-- what is counted in the lists of r + 3 candidates, and of two
pub figure_is : (f : List Gate → ℕ) → Figure f → (n w c p s d e q o x : ℕ) → Each f n w c p s d e q o x → (r : ℕ)
    → r ≤ 5 → f (ranked_list (suc (suc (suc r))) n w) ≡
    suc (suc (suc r)) * suc (suc r) * c + suc (suc (suc r)) * suc (suc r) / 2 * p + 2 * suc (suc r) * s
    + suc (suc r) * suc r * d + suc r * (suc (suc r) * suc r) * e + suc (suc r) * p + suc (suc r) * suc r / 2 * q
    + 2 * suc r * suc r * more_of w
    + suc (suc (suc r)) * (suc r * o) + suc (suc (suc r)) * x
figure_is f g n w c p s d e q o x a r h = omega (arith, by_tables f g n w c p s d e q o x a r, sums r c p s d e q (more_of w) h)

pub pair_figure_is : (f : List Gate → ℕ) → Figure f → (n w c p s d e q o x : ℕ) → Each f n w c p s d e q o x
    → f (ranked_list 2 n w) ≡ 2 * c + p + 2 * x
unfolding table_sum sum_below apart_of later_ones
pair_figure_is f g n w c p s d e q o x a = pair_figure f g n w c p s d e q o x a ∙ omega arith
