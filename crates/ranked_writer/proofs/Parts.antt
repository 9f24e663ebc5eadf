-- The parts of the own list as they are written, in terms of the wires that are kept.
-- Assumes nothing.
use mathlib.Core.Path.{◌≡◌, ◌∙◌, refl, sym, ap, subst}
use mathlib.Core.Bool.{Bool, false, cond}
use mathlib.Core.Logic.{⊎_elim, ◌≢◌}
use mathlib.Core.List.{List, [], ◌∷◌, ◌++◌, append-nil, append_assoc}
use Prim.Native.Nat.{ℕ, zero, suc, max, ◌+◌, ◌-◌, ◌*◌, ◌≤◌, ◌<◌}
use native.Mathlib.Omega.{arith}
use lib.Dec.{leb, ltb}
use lib.ListN.{length, length-append}
use borrow.Author.Tests.{lt-ltb, le-ltb, le-leb}
use Rattle.gates.specs.Gate.{Gate}
use Rattle.gate_words.specs.Gates.{or_of, not_of}
use Rattle.basics.proofs.Cases.{below_or_not}
use Rattle.ranked_circuit.specs.Table.{blocks, table, entry_end}
use Rattle.ranked_circuit.specs.Stages.{votes_block, links_block, link_at, stays, path_block}
use Rattle.ranked_circuit.specs.Paths.{votes_at, votes_table, links_from, links_table, link_wire, next_paths, paths_to}
use Rattle.ranked_circuit.specs.Contests.{duels_from, duels, duel_at, meetings_block, meetings_from, meetings, meeting_at, beats_at}
use Rattle.ranked_circuit.specs.RankedList.{other, joined_wire, loser_row, loser_rows, output_gates, losers_from, pair_from, ranked_list}
use Rattle.ranked_circuit.proofs.StageLaws.{apart_all, apart_zero}
use Rattle.ranked_circuit.proofs.GoodLaws.{end_of, words_below, votes_below}
use Rattle.ranked_circuit.proofs.LoserLaws.{other_low, other_apart}
use Rattle.ranked_circuit.proofs.Accuracy.{rows_length, outputs_length}
use Rattle.ranked_blocks.specs.Ranked.{kept_of, WordsBelow}
use Rattle.ranked_writer.specs.Tables.{Keeps}
use Rattle.ranked_writer.proofs.Keeping.{path_agree, links_agree, meetings_agree, table_agree, end_agree, at_agree}

-- a stage changes only words of two different candidates
pub apart : (m i j : ℕ) → stays m i j ≡ false → i ≢ j
apart zero i j e = apart_zero i j e
apart (suc l) i j e = (apart_all l i j e).2

module _ (k n w : ℕ) where
  -- kept words end before the list of the stages does
  pub kept_below : (m : ℕ) (ws : List ℕ) (wire : ℕ) → Keeps k ws (paths_to k n w m).words → wire ≡ end_of k n w m → WordsBelow ws k w wire
  kept_below m ws wire t q i j hi hj ne = omega (arith, t.each i j hi hj ne, words_below k n w m i j hi hj ne)

  -- the first two tables
  pub first_parts : (paths_to k n w 0).gates ≡ table (n * k * k) k (votes_block k n w)
      ++ table (links_from k n w) k (links_block 0 (votes_at k n w) w)
  unfolding paths_to votes_table links_table
  first_parts = refl

  pub links_from_lem : links_from k n w ≡ n * k * k + length (table (n * k * k) k (votes_block k n w))
  unfolding links_from votes_table
  links_from_lem = refl

  pub votes_words : (wire : ℕ) (ws : List ℕ) → wire ≡ n * k * k
      → Keeps k ws (λ i j. entry_end wire k (votes_block k n w) i j - suc w) → Keeps k ws (paths_to k n w 0).words
  unfolding paths_to votes_at
  votes_words wire ws q t =
      record { long = t.long; each = λ i j hi hj ne. t.each i j hi hj ne ∙ ap (λ (x : ℕ). entry_end x k (votes_block k n w) i j - suc w) q }

  pub votes_kept_below : (wire : ℕ) (ws : List ℕ) → wire ≡ links_from k n w → Keeps k ws (paths_to k n w 0).words → WordsBelow ws k w wire
  unfolding paths_to
  votes_kept_below wire ws q t i j hi hj ne = omega (arith, t.each i j hi hj ne, votes_below k n w i j hi hj ne)

  pub link_wire_is : link_at (links_from k n w) k (links_block 0 (paths_to k n w 0).words w) ≡ link_wire k n w
  unfolding paths_to link_wire
  link_wire_is = refl

  pub first_links_is : table (links_from k n w) k (links_block 0 (paths_to k n w 0).words w)
      ≡ table (links_from k n w) k (links_block 0 (votes_at k n w) w)
  unfolding paths_to
  first_links_is = refl

  module _ (first : ℕ) (words : ℕ → ℕ → ℕ) (ws : List ℕ) (t : Keeps k ws words) where
    links_same : (at i j : ℕ) → i < k → j < k → links_block first (kept_of ws k) w at i j ≡ links_block first words w at i j
    links_same at i j hi hj = links_agree first (kept_of ws k) words w at i j
        (λ l. (t.each i j hi hj (λ z. omega arith), t.each j i hj hi (λ z. omega arith)))

    pub links_table_is : (wire from : ℕ) → wire ≡ from → table wire k (links_block first (kept_of ws k) w)
        ≡ table from k (links_block first words w)
    links_table_is wire from q = ap (λ (x : ℕ). table x k (links_block first (kept_of ws k) w)) q
        ∙ table_agree from k (links_block first (kept_of ws k) w) (links_block first words w) links_same

    pub links_at_is : (wire from i j : ℕ) → i < k → j < k → wire ≡ from
        → link_at wire k (links_block first (kept_of ws k) w) i j ≡ link_at from k (links_block first words w) i j
    links_at_is wire from i j hi hj q =
        ap (λ (x : ℕ). link_at x k (links_block first (kept_of ws k) w) i j) q
        ∙ at_agree from k (links_block first (kept_of ws k) w) (links_block first words w) links_same i j hi hj

  -- the links of all candidates: their first row is 0
  pub links_kept_is : (words : ℕ → ℕ → ℕ) (ws : List ℕ) → Keeps k ws words → (wire from : ℕ) (ls : List ℕ) (old : ℕ → ℕ → ℕ) → wire ≡ from
      → Keeps k ls (λ i j. cond (leb 0 (max i j)) (link_at wire k (links_block 0 (kept_of ws k) w) i j) (old i j))
      → Keeps k ls (link_at from k (links_block 0 words w))
  links_kept_is words ws t wire from ls old q l =
      record {
        long = l.long;
        each =
            λ i j hi hj ne.
            l.each i j hi hj ne ∙ ap (λ (c : Bool). cond c (link_at wire k (links_block 0 (kept_of ws k) w) i j)
            (old i j)) (le-leb 0 (max i j) (omega arith))
            ∙ links_at_is 0 words ws t wire from i j hi hj q;
      }

  -- stages 0 to m - 1
  unfoldable pub stages_to : ℕ → List Gate
  stages_to zero = []
  stages_to (suc m) = stages_to m ++ table (end_of k n w m) k (path_block k (link_wire k n w) (paths_to k n w m).words w m)

  pub stages_split : (m : ℕ) → (paths_to k n w m).gates ≡ (paths_to k n w 0).gates ++ stages_to m
  unfolding stages_to
  stages_split zero = sym (append-nil (paths_to k n w 0).gates)
  stages_split (suc m) =
      let last = table (end_of k n w m) k (path_block k (link_wire k n w) (paths_to k n w m).words w m) in
      more m ∙ ap (λ (gs : List Gate). gs ++ last) (stages_split m) ∙ append_assoc (paths_to k n w 0).gates (stages_to m) last
    where
      more : (m : ℕ) → (paths_to k n w (suc m)).gates ≡ (paths_to k n w m).gates
          ++ table (end_of k n w m) k (path_block k (link_wire k n w) (paths_to k n w m).words w m)
      more m = unfold paths_to next_paths in refl

  pub stages_long : (m : ℕ) → length (paths_to k n w m).gates ≡ length (paths_to k n w 0).gates + length (stages_to m)
  stages_long m = ap length (stages_split m) ∙ length-append (paths_to k n w 0).gates (stages_to m)

  pub stages_next : (m : ℕ) → length (stages_to (suc m)) ≡ length (stages_to m)
      + length (table (end_of k n w m) k (path_block k (link_wire k n w) (paths_to k n w m).words w m))
  unfolding stages_to
  stages_next m = length-append (stages_to m) (table (end_of k n w m) k (path_block k (link_wire k n w) (paths_to k n w m).words w m))

  pub stages_grow : (most m : ℕ) → m ≤ most → length (stages_to m) ≤ length (stages_to most)
  stages_grow zero m h = let z : m ≡ 0 = omega arith in rw z (omega arith)
  stages_grow (suc most) m h =
      ⊎_elim (λ (l : m < suc most). omega (arith, stages_grow most m (omega arith), stages_next most))
      (λ (l : suc most ≤ m). let z : m ≡ suc most = omega arith in rw z (omega arith)) (below_or_not m (suc most))

  module _ (m : ℕ) (hm : m ≤ k) (ls ws : List ℕ) (l : Keeps k ls (link_wire k n w)) (t : Keeps k ws (paths_to k n w m).words) where
    stage_same : (at i j : ℕ) → i < k → j < k → path_block k (kept_of ls k) (kept_of ws k) w m at i j
        ≡ path_block k (link_wire k n w) (paths_to k n w m).words w m at i j
    stage_same at i j hi hj =
        path_agree k (kept_of ls k) (link_wire k n w) (kept_of ws k) (paths_to k n w m).words w m at i j
        (λ s. (l.each i j hi hj (apart m i j s), t.each i j hi hj (apart m i j s)))
        (λ x q ne. t.each i x hi (omega arith) ne) (λ x q ne. t.each x j (omega arith) hj (λ z. ne (sym z)))

    pub stage_table : (wire : ℕ) → wire ≡ end_of k n w m → table wire k (path_block k (kept_of ls k) (kept_of ws k) w m)
        ≡ table (end_of k n w m) k (path_block k (link_wire k n w) (paths_to k n w m).words w m)
    stage_table wire q =
        ap (λ (x : ℕ). table x k (path_block k (kept_of ls k) (kept_of ws k) w m)) q
        ∙ table_agree (end_of k n w m) k (path_block k (kept_of ls k) (kept_of ws k) w m)
        (path_block k (link_wire k n w) (paths_to k n w m).words w m) stage_same

    pub stage_words : (wire : ℕ) (ws' : List ℕ) → wire ≡ end_of k n w m →
        Keeps k ws' (λ i j. cond (stays m i j) (kept_of ws k i j)
        (entry_end wire k (path_block k (kept_of ls k) (kept_of ws k) w m) i j - suc w))
        → Keeps k ws' (paths_to k n w (suc m)).words
    unfolding paths_to next_paths
    stage_words wire ws' q u =
        record {
          long = u.long;
          each =
              λ i j hi hj ne.
              u.each i j hi hj ne
              ∙ ap (λ (x : ℕ). cond (stays m i j) x
              (entry_end wire k (path_block k (kept_of ls k) (kept_of ws k) w m) i j - suc w)) (t.each i j hi hj ne)
              ∙ ap (λ (x : ℕ). cond (stays m i j) ((paths_to k n w m).words i j)
              (entry_end x k (path_block k (kept_of ls k) (kept_of ws k) w m) i j - suc w)) q
              ∙ ap (λ (x : ℕ). cond (stays m i j) ((paths_to k n w m).words i j) (x - suc w))
              (end_agree (end_of k n w m) k (path_block k (kept_of ls k) (kept_of ws k) w m)
              (path_block k (link_wire k n w) (paths_to k n w m).words w m) stage_same i j hi hj);
        }

  pub stage_end_lem : (m : ℕ) → end_of k n w (suc m) ≡ end_of k n w m
      + length (table (end_of k n w m) k (path_block k (link_wire k n w) (paths_to k n w m).words w m))
  stage_end_lem m = omega (arith, stages_long m, stages_long (suc m), stages_next m)

  -- the whole list for three or more candidates, and for two
  pub list_parts : (r : ℕ) → 1 ≤ r → k ≡ suc (suc r) → ranked_list k n w ≡
      (paths_to k n w k).gates ++ duels k n w ++ meetings k n w ++ loser_rows (beats_at k n w) r (losers_from k n w) k
      ++ output_gates (beats_at k n w) r (losers_from k n w) k
  list_parts zero l e = absurd (omega arith)
  list_parts (suc r) l e = rw e (unfold ranked_list in refl)

  pub pair_parts : k ≡ 2 → ranked_list k n w ≡ (paths_to k n w 0).gates ++ output_gates (link_wire k n w) (k - 2) (end_of k n w 0) k
  pair_parts e = rw e (unfold ranked_list pair_from in refl)

  pub rows_long : (beats : ℕ → ℕ → ℕ) (r from : ℕ) → k ≡ suc (suc r) → length (loser_rows beats r from k) ≡ k * r
  rows_long beats r from e = subst (λ (x : ℕ). length (loser_rows beats r from x) ≡ x * r) (sym e) (rows_length beats r from)

  pub outputs_long : (beats : ℕ → ℕ → ℕ) (r from : ℕ) → k ≡ suc (suc r) → length (output_gates beats r from k) ≡ k
  outputs_long beats r from e = subst (λ (x : ℕ). length (output_gates beats r from x) ≡ x) (sym e) (outputs_length beats r from)

  pub list_long : (r : ℕ) → 1 ≤ r → k ≡ suc (suc r) → length (ranked_list k n w) ≡ length (paths_to k n w k).gates
      + (length (duels k n w) + length (meetings k n w)) + k * r + k
  list_long r l e =
      let a = (paths_to k n w k).gates in
      let b = duels k n w in
      let m = meetings k n w in
      let c = loser_rows (beats_at k n w) r (losers_from k n w) k in
      let d = output_gates (beats_at k n w) r (losers_from k n w) k in
      ap length (list_parts r l e)
      ∙ omega (
        arith,
        length-append (a ++ b ++ m ++ c) d,
        length-append (a ++ b ++ m) c,
        length-append (a ++ b) m,
        length-append a b,
        rows_long (beats_at k n w) r (losers_from k n w) e,
        outputs_long (beats_at k n w) r (losers_from k n w) e,
      )

  -- the contests
  pub duels_from_lem : duels_from k n w ≡ end_of k n w k
  duels_from_lem = unfold duels_from in refl

  pub meetings_from_lem : meetings_from k n w ≡ duels_from k n w + length (duels k n w)
  meetings_from_lem = unfold meetings_from in refl

  pub losers_from_lem : losers_from k n w ≡ duels_from k n w + length (duels k n w) + length (meetings k n w)
  losers_from_lem = unfold losers_from meetings_from in refl

  module _ (ws : List ℕ) (t : Keeps k ws (paths_to k n w k).words) where
    pub duels_table_is : (wire : ℕ) → wire ≡ duels_from k n w → table wire k (links_block (k - 1) (kept_of ws k) w) ≡ duels k n w
    unfolding duels
    duels_table_is wire q = links_table_is (k - 1) (paths_to k n w k).words ws t wire (duels_from k n w) q

    -- the wires that are kept after the duels
    abbrev pub Duelled : ℕ → List ℕ → List ℕ → Type 0
    Duelled wire ls ls₀ = Keeps k ls
        (λ i j. cond (leb (k - 1) (max i j)) (link_at wire k (links_block (k - 1) (kept_of ws k) w) i j)
        (kept_of ls₀ k i j))

    module _ (wire : ℕ) (q : wire ≡ duels_from k n w) (ls ls₀ : List ℕ) (d : Duelled wire ls ls₀) where
      duel_kept : (i j : ℕ) → i < k → j < k → i ≢ j → k - 1 ≤ max i j → kept_of ls k i j ≡ duel_at k n w i j
      unfolding duel_at
      duel_kept i j hi hj ne h =
          d.each i j hi hj ne ∙ ap (λ (c : Bool). cond c (link_at wire k (links_block (k - 1) (kept_of ws k) w) i j)
          (kept_of ls₀ k i j)) (le-leb (k - 1) (max i j) h)
          ∙ links_at_is (k - 1) (paths_to k n w k).words ws t wire (duels_from k n w) i j hi hj q

      met_same : (at i j : ℕ) → i < k → j < k → meetings_block (k - 1) (kept_of ws k) (kept_of ls k) w at i j
          ≡ meetings_block (k - 1) (paths_to k n w k).words (duel_at k n w) w at i j
      met_same at i j hi hj =
          meetings_agree (k - 1) (kept_of ws k) (paths_to k n w k).words (kept_of ls k) (duel_at k n w) w at i j
          (λ l r. (
            t.each (k - 1) i (omega arith) hi (λ z. omega arith),
            t.each (k - 1) j (omega arith) hj (λ z. omega arith),
            t.each i j hi hj (λ z. omega arith),
            t.each j i hj hi (λ z. omega arith),
            duel_kept i (k - 1) hi (omega arith) (λ z. omega arith) (omega arith),
            duel_kept j (k - 1) hj (omega arith) (λ z. omega arith) (omega arith),
          ))

      pub meetings_table_is : (next : ℕ) → next ≡ meetings_from k n w
          → table next k (meetings_block (k - 1) (kept_of ws k) (kept_of ls k) w) ≡ meetings k n w
      unfolding meetings
      meetings_table_is next e =
          ap (λ (x : ℕ). table x k (meetings_block (k - 1) (kept_of ws k) (kept_of ls k) w)) e
          ∙ table_agree (meetings_from k n w) k (meetings_block (k - 1) (kept_of ws k) (kept_of ls k) w)
          (meetings_block (k - 1) (paths_to k n w k).words (duel_at k n w) w) met_same

      -- the wires that are kept after the meetings
      pub beats_kept : (next : ℕ) (bs : List ℕ) → next ≡ meetings_from k n w
          → Keeps k bs (λ i j. cond (ltb (max i j) (k - 1))
          (link_at next k (meetings_block (k - 1) (kept_of ws k) (kept_of ls k) w) i j) (kept_of ls k i j))
          → Keeps k bs (beats_at k n w)
      beats_kept next bs e b = record {
        long = b.long;
        each = λ i j hi hj ne. b.each i j hi hj ne
            ∙ ⊎_elim (other i j hi hj) (last i j hi hj ne) (below_or_not (max i j) (k - 1));
      }
        where
          other : (i j : ℕ) → i < k → j < k → max i j < k - 1
              → cond (ltb (max i j) (k - 1))
              (link_at next k (meetings_block (k - 1) (kept_of ws k) (kept_of ls k) w) i j) (kept_of ls k i j)
              ≡ beats_at k n w i j
          other i j hi hj h =
              unfold beats_at meeting_at in
              (ap (λ (c : Bool). cond c (link_at next k (meetings_block (k - 1) (kept_of ws k) (kept_of ls k) w) i j)
              (kept_of ls k i j)) (lt-ltb (max i j) (k - 1) h)
              ∙ ap (λ (x : ℕ). link_at x k (meetings_block (k - 1) (kept_of ws k) (kept_of ls k) w) i j) e
              ∙ at_agree (meetings_from k n w) k (meetings_block (k - 1) (kept_of ws k) (kept_of ls k) w)
              (meetings_block (k - 1) (paths_to k n w k).words (duel_at k n w) w) met_same i j hi hj
              ∙ sym (ap (λ (c : Bool). cond c (meeting_at k n w i j) (duel_at k n w i j)) (lt-ltb (max i j) (k - 1) h)))

          last : (i j : ℕ) → i < k → j < k → i ≢ j → k - 1 ≤ max i j
              → cond (ltb (max i j) (k - 1))
              (link_at next k (meetings_block (k - 1) (kept_of ws k) (kept_of ls k) w) i j) (kept_of ls k i j)
              ≡ beats_at k n w i j
          last i j hi hj ne h =
              unfold beats_at in
              (ap (λ (c : Bool). cond c (link_at next k (meetings_block (k - 1) (kept_of ws k) (kept_of ls k) w) i j)
              (kept_of ls k i j)) (le-ltb (max i j) (k - 1) h)
              ∙ duel_kept i j hi hj ne h ∙ sym (ap (λ (c : Bool). cond c (meeting_at k n w i j) (duel_at k n w i j))
              (le-ltb (max i j) (k - 1) h)))

-- equal blocks make equal lists
blocks_agree : (n : ℕ) (block block' : ℕ → ℕ → List Gate) (m : ℕ) → ((at e : ℕ) → e < m → block at e ≡ block' at e)
    → blocks n block m ≡ blocks n block' m
unfolding blocks
blocks_agree n block block' zero same = refl
blocks_agree n block block' (suc m) same =
    ap (λ (gs : List Gate). gs ++ block (n + length gs) m) (blocks_agree n block block' m (λ at e l. same at e (omega arith)))
    ∙ ap (λ (gs : List Gate). blocks n block' m ++ gs) (same (n + length (blocks n block' m)) m (omega arith))

-- the rows and the output gates depend only on the wires that say who beats whom
module _ (r : ℕ) (beats beats' : ℕ → ℕ → ℕ) (same : (i j : ℕ) → i < suc (suc r) → j < suc (suc r) → i ≢ j → beats i j ≡ beats' i j) where
  joined_agree : (at i s : ℕ) → i < suc (suc r) → joined_wire beats (suc r) at i s ≡ joined_wire beats' (suc r) at i s
  unfolding joined_wire
  joined_agree at i s hi =
      ⊎_elim
      (λ (l : s < suc r).
      ap (λ (c : Bool). cond c (beats (other i s) i) (at + (s - suc r))) (lt-ltb s (suc r) l)
      ∙ same (other i s) i (other_low i s r (omega arith)) hi (other_apart i s)
      ∙ sym (ap (λ (c : Bool). cond c (beats' (other i s) i) (at + (s - suc r))) (lt-ltb s (suc r) l)))
      (λ (l : suc r ≤ s). ap (λ (c : Bool). cond c (beats (other i s) i) (at + (s - suc r))) (le-ltb s (suc r) l)
      ∙ sym (ap (λ (c : Bool). cond c (beats' (other i s) i) (at + (s - suc r))) (le-ltb s (suc r) l)))
      (below_or_not s (suc r))

  pub rows_agree : (n k : ℕ) → k ≤ suc (suc r) → loser_rows beats r n k ≡ loser_rows beats' r n k
  unfolding loser_rows loser_row
  rows_agree n k h =
      blocks_agree n
      (λ at i. blocks at (λ wire t. or_of (joined_wire beats (suc r) at i (2 * t)) (joined_wire beats (suc r) at i (2 * t + 1))
      ∷ []) r) (λ at i. blocks at (λ wire t. or_of (joined_wire beats' (suc r) at i (2 * t))
      (joined_wire beats' (suc r) at i (2 * t + 1)) ∷ []) r) k
      (λ at i l.
      blocks_agree at (λ wire t. or_of (joined_wire beats (suc r) at i (2 * t)) (joined_wire beats (suc r) at i (2 * t + 1)) ∷
      []) (λ wire t. or_of (joined_wire beats' (suc r) at i (2 * t)) (joined_wire beats' (suc r) at i (2 * t + 1)) ∷ []) r
      (λ wire t q.
      ap (λ (x : ℕ). or_of x (joined_wire beats (suc r) at i (2 * t + 1)) ∷ []) (joined_agree at i (2 * t) (omega arith))
      ∙ ap (λ (x : ℕ). or_of (joined_wire beats' (suc r) at i (2 * t)) x ∷ [])
      (joined_agree at i (2 * t + 1) (omega arith))))

  pub outputs_agree : (n k : ℕ) → k ≤ suc (suc r) → output_gates beats r n k ≡ output_gates beats' r n k
  unfolding output_gates
  outputs_agree n k h =
      blocks_agree (n + k * r) (λ wire i. not_of (joined_wire beats (suc r) (n + i * r) i (2 * r)) ∷ [])
      (λ wire i. not_of (joined_wire beats' (suc r) (n + i * r) i (2 * r)) ∷ []) k
      (λ wire i l. ap (λ (x : ℕ). not_of x ∷ []) (joined_agree (n + i * r) i (2 * r) (omega arith)))
