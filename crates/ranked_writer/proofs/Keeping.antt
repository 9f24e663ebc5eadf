-- What the loops over the tables keep for each pair of candidates.
-- Assumes nothing.
use mathlib.Core.Path.{◌≡◌, ◌∙◌, refl, sym, ap}
use mathlib.Core.Bool.{Bool, true, false, cond, ◌&&◌, ◌||◌, true≢false}
use mathlib.Core.Logic.{⊎_elim, ◌≢◌}
use mathlib.Core.List.{List, [], ◌++◌}
use Prim.Native.Nat.{ℕ, zero, suc, max, ◌+◌, ◌-◌, ◌*◌, ◌/◌, ◌%◌, ◌≤◌, ◌<◌}
use native.Mathlib.Omega.{arith}
use lib.Dec.{eqb, ltb}
use lib.ListN.{length, get_or, set, length-set}
use lib.Seq.{get_or-set_same, get_or-set_other}
use borrow.Author.Tests.{eq-eqb, ltb-true, lt-ltb, le-ltb}
use Rattle.jury.specs.Shape.{most_candidates, most_pairs}
use Rattle.gates.specs.Gate.{Gate}
use Rattle.basics.proofs.Cases.{below_or_not, same_or_not}
use Rattle.ranked_circuit.specs.Table.{blocks, entries, table, entry_end}
use Rattle.ranked_circuit.specs.Stages.{later_of, links_block, link_at, stays, cut_at, new_word, path_block}
use Rattle.ranked_circuit.specs.Contests.{meeting_of, meetings_block}
use Rattle.ranked_circuit.proofs.LinkLaws.{later_is, later_is'}
use Rattle.ranked_circuit.proofs.TableLaws.{entry_start, entry_end_lem, row_of, column_of, row_low, column_low, number_of, number_low}
use Rattle.ranked_circuit.proofs.StageLaws.{apart_all, stage_moves, stage_stays, cut_most, stage_length}
use Rattle.ranked_circuit.proofs.PathLaws.{bool_cases}
use Rattle.basics.proofs.Flags.{and_first, and_second, and_both, or_first, or_second}
use Rattle.gate_words.specs.declared.writer.Writer.{Writer}
use Rattle.ranked_blocks.specs.Ranked.{kept_of, keep, keep_links, WordsBelow}
use Rattle.ranked_writer.proofs.Filling.{TableTo, table_from, end_before}
use Rattle.ranked_blocks.proofs.Entering.{index_small}
use Rattle.ranked_writer.specs.Tables.{Keeps}

-- the row and the column of number e
same_place : (k i j e : ℕ) → j < k → i * k + j ≡ e → (i ≡ e / k) × (j ≡ e % k)
same_place k i j e hj q = (sym (row_of k i j hj) ∙ ap (λ (x : ℕ). x / k) q, sym (column_of k i j hj) ∙ ap (λ (x : ℕ). x % k) q)

-- different places have different numbers
one_place : (k i j i' j' : ℕ) → j < k → j' < k → i * k + j ≡ i' * k + j' → (i ≡ i') × (j ≡ j')
one_place k i j i' j' hj hj' q =
    let p = same_place k i j (i' * k + j') hj q in
    (p.0 ∙ row_of k i' j' hj', p.1 ∙ column_of k i' j' hj')

-- Words: if `stay i j` holds, the word of i and j stays where it was; otherwise it is at `new i j`.
module _ (k : ℕ) (stay : ℕ → ℕ → Bool) (new : ℕ → ℕ → ℕ) (ws₀ : List ℕ) where
  -- after e blocks
  pub record KeptTo (e : ℕ) (ws : List ℕ) : Type 0 where
    pub long : length ws ≡ most_pairs
    pub same : (i j : ℕ) → i < k → j < k → stay i j ≡ true → kept_of ws k i j ≡ kept_of ws₀ k i j
    pub later : (i j : ℕ) → i < k → j < k → e ≤ i * k + j → kept_of ws k i j ≡ kept_of ws₀ k i j
    pub moved : (i j : ℕ) → i < k → j < k → i * k + j < e → stay i j ≡ false → kept_of ws k i j ≡ new i j

  pub kept_start : length ws₀ ≡ most_pairs → KeptTo 0 ws₀
  kept_start l = record { long = l; same = λ i j hi hj e. refl; later = λ i j hi hj e. refl; moved = λ i j hi hj e. absurd (omega arith) }

  pub kept_next : (e : ℕ) (ws ws' : List ℕ) (x : ℕ) → e < k * k → e < most_pairs → KeptTo e ws → ws'
      ≡ keep (stay (e / k) (e % k)) ws e x → x ≡ new (e / k) (e % k) → KeptTo (e + 1) ws'
  kept_next e ws ws' x low small t q ex = bool_cases (stay (e / k) (e % k)) stayed went
    where
      stayed : stay (e / k) (e % k) ≡ true → KeptTo (e + 1) ws'
      stayed s =
          let r : ws' ≡ ws = q ∙ ap (λ (c : Bool). cond c ws (set ws e x)) s in
          rw r (
          record {
            long = t.long;
            same = t.same;
            later = λ i j hi hj l. t.later i j hi hj (omega arith);
            moved =
                λ i j hi hj l m.
                ⊎_elim (λ (b : i * k + j < e). t.moved i j hi hj b m)
                (λ (b : e ≤ i * k + j).
                let p = same_place k i j e hj (omega arith) in
                absurd (true≢false (sym s ∙ ap (λ (z : ℕ). stay z (e % k)) (sym p.0) ∙ ap (stay i) (sym p.1) ∙ m)))
                (below_or_not (i * k + j) e);
          }
          )

      went : stay (e / k) (e % k) ≡ false → KeptTo (e + 1) ws'
      went s =
          let r : ws' ≡ set ws e x = q ∙ ap (λ (c : Bool). cond c ws (set ws e x)) s in
          rw r (
          record {
            long = length-set ws e x ∙ t.long;
            same =
                λ i j hi hj m.
                ⊎_elim (λ (b : i * k + j ≡ e).
                let p = same_place k i j e hj b in
                absurd (true≢false (sym m ∙ ap (stay i) p.1 ∙ ap (λ (z : ℕ). stay z (e % k)) p.0 ∙ s)))
                (λ (b : i * k + j ≢ e). beside i j b ∙ t.same i j hi hj m) (same_or_not (i * k + j) e);
            later = λ i j hi hj l. beside i j (λ b. omega arith) ∙ t.later i j hi hj (omega arith);
            moved =
                λ i j hi hj l m.
                ⊎_elim (λ (b : i * k + j < e). beside i j (λ z. omega arith) ∙ t.moved i j hi hj b m)
                (λ (b : e ≤ i * k + j).
                let here : i * k + j ≡ e = omega arith in
                let p = same_place k i j e hj here in
                ap (λ (z : ℕ). get_or (set ws e x) z 0) here ∙ get_or-set_same ws e x 0 (omega (arith, t.long)) ∙ ex
                ∙ ap (λ (z : ℕ). new z (e % k)) (sym p.0) ∙ ap (new i) (sym p.1))
                (below_or_not (i * k + j) e);
          }
          )
        where
          beside : (i j : ℕ) → i * k + j ≢ e → kept_of (set ws e x) k i j ≡ kept_of ws k i j
          beside i j n = get_or-set_other ws e (i * k + j) x 0 n

  pub kept_end : (e : ℕ) (ws : List ℕ) → k * k ≤ e → KeptTo e ws → Keeps k ws (λ i j. cond (stay i j) (kept_of ws₀ k i j) (new i j))
  kept_end e ws h t =
      record {
        long = t.long;
        each =
            λ i j hi hj ne.
            bool_cases (stay i j) (λ s. t.same i j hi hj s ∙ sym (ap (λ (c : Bool). cond c (kept_of ws₀ k i j) (new i j)) s))
            (λ s. t.moved i j hi hj (omega (arith, number_low k i j hi hj)) s
            ∙ sym (ap (λ (c : Bool). cond c (kept_of ws₀ k i j) (new i j)) s));
      }

-- Wires about two candidates: if j < i and `rows` holds for i, their block ends just before wire `ends i j`.
module _ (k : ℕ) (rows : ℕ → Bool) (ends : ℕ → ℕ → ℕ) (ls₀ : List ℕ) where
  pub record LinksTo (e : ℕ) (ls : List ℕ) : Type 0 where
    pub long : length ls ≡ most_pairs
    pub up : (i j : ℕ) → i < k → j < k → j < i → rows i ≡ true → i * k + j < e → kept_of ls k i j ≡ ends i j - 2
    pub down : (i j : ℕ) → i < k → j < k → j < i → rows i ≡ true → i * k + j < e → kept_of ls k j i ≡ ends i j - 1
    pub rest : (i j : ℕ) → i < k → j < k → rows (max i j) ≡ false → kept_of ls k i j ≡ kept_of ls₀ k i j

  pub links_start : length ls₀ ≡ most_pairs → LinksTo 0 ls₀
  links_start l =
      record {
        long = l;
        up = λ i j hi hj h q e. absurd (omega arith);
        down =
            λ i j hi hj h q e. absurd (omega arith);
        rest = λ i j hi hj q. refl;
      }

  pub links_next : k ≤ most_candidates → (e : ℕ) (ls ls' : List ℕ) (wire : ℕ) → e / k < k → e % k < k → LinksTo e ls → ls'
      ≡ keep_links rows ls k (e / k) (e % k) wire → wire ≡ ends (e / k) (e % k) → LinksTo (e + 1) ls'
  links_next few e ls ls' wire row column t q ew = bool_cases (ltb (e % k) (e / k) && rows (e / k)) went stayed
    where
      number : e / k * k + e % k ≡ e
      number = number_of k e

      stayed : (ltb (e % k) (e / k) && rows (e / k)) ≡ false → LinksTo (e + 1) ls'
      stayed s =
          let r : ls' ≡ ls = q ∙ ap (λ (c : Bool). cond c
          (set (set ls (e / k * k + e % k) (wire - 2)) (e % k * k + e / k) (wire - 1)) ls) s in
          rw r (
          record {
            long = t.long;
            up = λ i j hi hj h y l. t.up i j hi hj h y (before i j hj h y l);
            down = λ i j hi hj h y l. t.down i j hi hj h y (before i j hj h y l);
            rest = t.rest;
          }
          )
        where
          before : (i j : ℕ) → j < k → j < i → rows i ≡ true → i * k + j < e + 1 → i * k + j < e
          before i j hj h y l =
              ⊎_elim
              (λ (b : i * k + j ≡ e).
              let p = same_place k i j e hj b in
              let here = and_both (ltb j i) (rows i) (lt-ltb j i h) y in
              absurd (true≢false (sym here ∙ ap (λ (z : ℕ). ltb j z && rows z) p.0
              ∙ ap (λ (z : ℕ). ltb z (e / k) && rows (e / k)) p.1 ∙ s)))
              (λ (b : i * k + j ≢ e). omega arith) (same_or_not (i * k + j) e)

      went : (ltb (e % k) (e / k) && rows (e / k)) ≡ true → LinksTo (e + 1) ls'
      went both =
          let r : ls' ≡ set (set ls (e / k * k + e % k) (wire - 2)) (e % k * k + e / k) (wire - 1) = q
          ∙ ap (λ (c : Bool). cond c (set (set ls (e / k * k + e % k) (wire - 2)) (e % k * k + e / k)
          (wire - 1)) ls) both in
          rw r (
          record {
            long = length-set (set ls (e / k * k + e % k) (wire - 2)) (e % k * k + e / k) (wire - 1)
                ∙ length-set ls (e / k * k + e % k) (wire - 2) ∙ t.long;
            up =
                λ i j hi hj h y l.
                ⊎_elim (λ (b : i * k + j ≡ e).
                let p = same_place k i j e hj b in
                let m : i * k + j ≡ e / k * k + e % k = b ∙ sym number in
                other (i * k + j) (wire - 1) (λ z. let w = one_place k i j (e % k) (e / k) hj row z in omega (arith, p, w, s))
                ∙ ap (λ (z : ℕ). get_or (set ls (e / k * k + e % k) (wire - 2)) z 0) m
                ∙ get_or-set_same ls (e / k * k + e % k) (wire - 2) 0 (small₁) ∙ ap (λ (z : ℕ). z - 2) ew
                ∙ ap (λ (z : ℕ). ends z (e % k) - 2) (sym p.0) ∙ ap (λ (z : ℕ). ends i z - 2) (sym p.1))
                (λ (b : i * k + j ≢ e).
                other (i * k + j) (wire - 1) (λ z. let w = one_place k i j (e % k) (e / k) hj row z in
                omega (arith, w, s, h)) ∙ inner (i * k + j) (λ z. b (z ∙ number))
                ∙ t.up i j hi hj h y (omega arith)) (same_or_not (i * k + j) e);
            down =
                λ i j hi hj h y l.
                ⊎_elim (λ (b : i * k + j ≡ e).
                let p = same_place k i j e hj b in
                let m : j * k + i ≡ e % k * k + e / k = ap (λ (z : ℕ). z * k + i) p.1 ∙ ap (λ (z : ℕ). e % k * k + z) p.0 in
                ap (λ (z : ℕ). get_or (set (set ls (e / k * k + e % k) (wire - 2)) (e % k * k + e / k) (wire - 1)) z 0) m
                ∙ get_or-set_same (set ls (e / k * k + e % k) (wire - 2)) (e % k * k + e / k) (wire - 1) 0 small₂ ∙ ap (λ (z : ℕ). z - 1) ew
                ∙ ap (λ (z : ℕ). ends z (e % k) - 1) (sym p.0) ∙ ap (λ (z : ℕ). ends i z - 1) (sym p.1))
                (λ (b : i * k + j ≢ e).
                other (j * k + i) (wire - 1) (λ z. let w = one_place k j i (e % k) (e / k) hi row z in
                b (ap (λ (y : ℕ). y * k + j) w.1 ∙ ap (λ (y : ℕ). e / k * k + y) w.0 ∙ number))
                ∙ inner (j * k + i) (λ z. let w = one_place k j i (e / k) (e % k) hi column z in
                omega (arith, w, s, h)) ∙ t.down i j hi hj h y (omega arith)) (same_or_not (i * k + j) e);
            rest =
                λ i j hi hj y.
                other (i * k + j) (wire - 1) (λ z. let w = one_place k i j (e % k) (e / k) hj row z in no (max i j) y (omega (arith, w, s)))
                ∙ inner (i * k + j) (λ z. let w = one_place k i j (e / k) (e % k) hj column z in
                no (max i j) y (omega (arith, w, s))) ∙ t.rest i j hi hj y;
          }
          )
        where
          s : e % k < e / k
          s = ltb-true (e % k) (e / k) (and_first (ltb (e % k) (e / k)) (rows (e / k)) both)

          -- the row of e has blocks
          no : (x : ℕ) → rows x ≡ false → x ≡ e / k → ⊥
          no x y z = true≢false (sym (and_second (ltb (e % k) (e / k)) (rows (e / k)) both) ∙ ap rows (sym z) ∙ y)

          other : (at x : ℕ) → at ≢ e % k * k + e / k
              → get_or (set (set ls (e / k * k + e % k) (wire - 2)) (e % k * k + e / k) x) at 0
              ≡ get_or (set ls (e / k * k + e % k) (wire - 2)) at 0
          other at x n = get_or-set_other (set ls (e / k * k + e % k) (wire - 2)) (e % k * k + e / k) at x 0 n

          inner : (at : ℕ) → at ≢ e / k * k + e % k → get_or (set ls (e / k * k + e % k) (wire - 2)) at 0 ≡ get_or ls at 0
          inner at n = get_or-set_other ls (e / k * k + e % k) at (wire - 2) 0 n

          small₁ : e / k * k + e % k < length ls
          small₁ = omega (arith, index_small k (e / k) (e % k) few row column, t.long)

          small₂ : e % k * k + e / k < length (set ls (e / k * k + e % k) (wire - 2))
          small₂ = omega (arith, index_small k (e % k) (e / k) few column row, t.long, length-set ls (e / k * k + e % k) (wire - 2))

  pub links_end : (e : ℕ) (ls : List ℕ) → k * k ≤ e → LinksTo e ls
      → Keeps k ls (λ i j. cond (rows (max i j)) (cond (ltb j i) (ends i j - 2) (ends j i - 1)) (kept_of ls₀ k i j))
  links_end e ls h t = record { long = t.long; each = λ i j hi hj ne. bool_cases (rows (max i j)) (told i j hi hj ne) (same i j hi hj) }
    where
      same : (i j : ℕ) → i < k → j < k → rows (max i j) ≡ false → kept_of ls k i j
          ≡ cond (rows (max i j)) (cond (ltb j i) (ends i j - 2) (ends j i - 1)) (kept_of ls₀ k i j)
      same i j hi hj y = t.rest i j hi hj y
          ∙ sym (ap (λ (c : Bool). cond c (cond (ltb j i) (ends i j - 2) (ends j i - 1)) (kept_of ls₀ k i j)) y)

      told : (i j : ℕ) → i < k → j < k → i ≢ j → rows (max i j) ≡ true → kept_of ls k i j
          ≡ cond (rows (max i j)) (cond (ltb j i) (ends i j - 2) (ends j i - 1)) (kept_of ls₀ k i j)
      told i j hi hj ne y =
          ⊎_elim
          (λ (l : j < i).
          t.up i j hi hj l (sym (ap rows (later_is i j l)) ∙ y) (omega (arith, number_low k i j hi hj))
          ∙ sym (ap (λ (c : Bool). cond c (ends i j - 2) (ends j i - 1)) (lt-ltb j i l)))
          (λ (l : i ≤ j).
          let o : i < j = omega arith in
          t.down j i hj hi o (sym (ap rows (later_is' j i o)) ∙ y) (omega (arith, number_low k j i hj hi))
          ∙ sym (ap (λ (c : Bool). cond c (ends i j - 2) (ends j i - 1)) (le-ltb j i l)))
          (below_or_not j i)
          ∙ sym (ap (λ (c : Bool). cond c (cond (ltb j i) (ends i j - 2) (ends j i - 1)) (kept_of ls₀ k i j)) y)

-- a block depends only on the link and the three words that it reads
new_agree : (links links' words words' : ℕ → ℕ → ℕ) (w h m at i j : ℕ) → stays m i j ≡ false → links i j
    ≡ links' i j → words i j ≡ words' i j →
    ((l : ℕ) → m ≡ suc l → i ≢ l → words i l ≡ words' i l) → ((l : ℕ) → m ≡ suc l → j ≢ l → words l j ≡ words' l j)
    → new_word links words w h m at i j ≡ new_word links' words' w h m at i j
unfolding new_word
new_agree links links' words words' w h zero at i j e el here to from = rw (el, here)
new_agree links links' words words' w h (suc zero) at i j e el here to from =
    let a = apart_all 0 i j e in
    rw (el, here, to 0 refl a.0, from 0 refl a.1)
new_agree links links' words words' w h (suc (suc l)) at i j e el here to from =
    let a = apart_all (suc l) i j e in
    rw (here, to (suc l) refl a.0, from (suc l) refl a.1)

pub path_agree : (k : ℕ) (links links' words words' : ℕ → ℕ → ℕ) (w m at i j : ℕ)
    → (stays m i j ≡ false → (links i j ≡ links' i j) × (words i j ≡ words' i j)) →
    ((l : ℕ) → m ≡ suc l → i ≢ l → words i l ≡ words' i l) → ((l : ℕ) → m ≡ suc l → j ≢ l → words l j ≡ words' l j)
    → path_block k links words w m at i j ≡ path_block k links' words' w m at i j
path_agree k links links' words words' w m at i j here to from =
    bool_cases (stays m i j) (λ e. stage_stays k links words w m at i j e ∙ sym (stage_stays k links' words' w m at i j e))
    (λ e.
    stage_moves k links words w m at i j e
    ∙ new_agree links links' words words' w (cut_at k w m i j) m at i j e (here e).0 (here e).1 to from
    ∙ sym (stage_moves k links' words' w m at i j e))

pub links_agree : (first : ℕ) (words words' : ℕ → ℕ → ℕ) (w at i j : ℕ)
    → (j < i → (words i j ≡ words' i j) × (words j i ≡ words' j i)) → links_block first words w at i j
    ≡ links_block first words' w at i j
unfolding links_block later_of
links_agree first words words' w at i j h =
    ⊎_elim (λ (l : j < i). rw ((h l).0, (h l).1)) (λ (l : i ≤ j). rw (le-ltb j i l)) (below_or_not j i)

-- a meeting depends only on the four words and the two duels that it reads
pub meetings_agree : (l : ℕ) (words words' met met' : ℕ → ℕ → ℕ) (w at i j : ℕ)
    → (j < i → i < l → (words l i ≡ words' l i) × (words l j ≡ words' l j) × (words i j ≡ words' i j)
    × (words j i ≡ words' j i) × (met i l ≡ met' i l) × (met j l ≡ met' j l))
    → meetings_block l words met w at i j ≡ meetings_block l words' met' w at i j
unfolding meetings_block later_of
meetings_agree l words words' met met' w at i j h =
    ⊎_elim
    (λ (q : j < i).
    ⊎_elim (λ (r : i < l). let e = h q r in rw (e.0, e.1, e.2, e.3, e.4, e.5))
    (λ (r : l ≤ i). rw (le-ltb i l r)
    (none (ltb j i) (meeting_of l words met w at i j) (meeting_of l words' met' w at i j))) (below_or_not i l))
    (λ (q : i ≤ j). rw (le-ltb j i q)) (below_or_not j i)
  where
    none : (c : Bool) (gs hs : List Gate) → cond (c && false) gs [] ≡ cond (c && false) hs []
    none true gs hs = refl
    none false gs hs = refl

-- tables of equal blocks are equal
module _ (n k : ℕ) (block block' : ℕ → ℕ → ℕ → List Gate) (same : (at i j : ℕ) → i < k → j < k → block at i j ≡ block' at i j) where
  entries_agree : (m : ℕ) → m ≤ k * k → entries n k block m ≡ entries n k block' m
  unfolding entries blocks
  entries_agree zero h = refl
  entries_agree (suc m) h =
      let ih = entries_agree m (omega arith) in
      ap (λ (gs : List Gate). gs ++ block (n + length gs) (m / k) (m % k)) ih
      ∙ ap (λ (gs : List Gate). entries n k block' m ++ gs)
      (same (n + length (entries n k block' m)) (m / k) (m % k) (row_low k m (omega arith))
      (column_low k m (omega arith)))

  pub table_agree : table n k block ≡ table n k block'
  unfolding table
  table_agree = entries_agree (k * k) (omega arith)

  pub end_agree : (i j : ℕ) → i < k → j < k → entry_end n k block i j ≡ entry_end n k block' i j
  unfolding entry_end
  end_agree i j hi hj = ap (λ (gs : List Gate). n + length gs) (entries_agree (suc (i * k + j)) (number_low k i j hi hj))

  pub at_agree : (i j : ℕ) → i < k → j < k → link_at n k block i j ≡ link_at n k block' i j
  unfolding link_at
  at_agree i j hi hj =
      ap (λ (x : ℕ). cond (ltb j i) (x - 2) (entry_end n k block j i - 1)) (end_agree i j hi hj)
      ∙ ap (λ (x : ℕ). cond (ltb j i) (entry_end n k block' i j - 2) (x - 1)) (end_agree j i hj hi)

-- the detour over l leaves the words to and from l
row_true : (l i : ℕ) → stays (suc l) i l ≡ true
unfolding stays
row_true l i = or_first (eqb i l || eqb l l) (eqb i l) (or_second (eqb i l) (eqb l l) (eq-eqb l l refl))

column_true : (l j : ℕ) → stays (suc l) l j ≡ true
unfolding stays
column_true l j = or_first (eqb l l || eqb j l) (eqb l j) (or_first (eqb l l) (eqb j l) (eq-eqb l l refl))

-- While a stage is written, its blocks read what was there at its start.
module _ (w₀ : Writer) (t₀ : List ℕ) (k w m : ℕ) (links ws₀ : List ℕ) where
  abbrev pub stage_block : ℕ → ℕ → ℕ → List Gate
  stage_block = path_block k (kept_of links k) (kept_of ws₀ k) w m

  abbrev pub stage_end : ℕ → ℕ → ℕ
  stage_end i j = entry_end w₀.wire k stage_block i j - suc w

  module _ (e : ℕ) (ws : List ℕ) (t : KeptTo k (stays m) stage_end ws₀ e ws) where
    pub now_agree : m ≤ k → e < k * k → (at : ℕ) → path_block k (kept_of links k) (kept_of ws k) w m at (e / k) (e % k)
        ≡ stage_block at (e / k) (e % k)
    now_agree hm low at =
        let hi = row_low k e low in
        let hj = column_low k e low in
        path_agree k (kept_of links k) (kept_of links k) (kept_of ws k) (kept_of ws₀ k) w m at (e / k) (e % k)
        (λ s. (refl, t.later (e / k) (e % k) hi hj (omega (arith, number_of k e))))
        (λ l q ne. t.same (e / k) l hi (omega arith) (ap (λ (x : ℕ). stays x (e / k) l) q ∙ row_true l (e / k)))
        (λ l q ne. t.same l (e % k) (omega arith) hj (ap (λ (x : ℕ). stays x l (e % k)) q ∙ column_true l (e % k)))

    pub now_below : (t₁ : List ℕ) (w₁ : Writer) → TableTo w₀ t₀ k stage_block e t₁ w₁ → WordsBelow ws₀ k w w₀.wire
        → WordsBelow ws k w w₁.wire
    now_below t₁ w₁ a below i j hi hj ne =
        let from = table_from w₀ t₀ k stage_block e t₁ w₁ a in
        bool_cases (stays m i j) (λ s. omega (arith, t.same i j hi hj s, below i j hi hj ne))
        (λ s.
        ⊎_elim
        (λ (l : i * k + j < e).
        let at = entry_start w₀.wire k stage_block i j in
        omega (
          arith,
          t.moved i j hi hj l s,
          end_before w₀ t₀ k stage_block e i j t₁ w₁ l a,
          entry_end_lem w₀.wire k stage_block i j hj,
          ap length (stage_moves k (kept_of links k) (kept_of ws₀ k) w m at i j s),
          stage_length (kept_of links k) (kept_of ws₀ k) w (cut_at k w m i j) m at i j (cut_most k w m i j),
        ))
        (λ (l : e ≤ i * k + j). omega (arith, t.later i j hi hj l, below i j hi hj ne)) (below_or_not (i * k + j) e))

-- While the meetings are written, the wires of the duels that they read stay.
module _ (k w : ℕ) (words met₀ : List ℕ) (ends : ℕ → ℕ → ℕ) (e : ℕ) (met : List ℕ)
    (t : LinksTo k (λ i. ltb i (k - 1)) ends met₀ e met) where
  pub met_agree : (at : ℕ) → e < k * k → meetings_block (k - 1) (kept_of words k) (kept_of met k) w at (e / k) (e % k)
      ≡ meetings_block (k - 1) (kept_of words k) (kept_of met₀ k) w at (e / k) (e % k)
  met_agree at low =
      meetings_agree (k - 1) (kept_of words k) (kept_of words k) (kept_of met k) (kept_of met₀ k) w at (e / k) (e % k)
      (λ l r. (refl, refl, refl, refl, stays_met (e / k) (omega arith), stays_met (e % k) (omega arith)))
    where
      stays_met : (i : ℕ) → i < k - 1 → kept_of met k i (k - 1) ≡ kept_of met₀ k i (k - 1)
      stays_met i h = t.rest i (k - 1) (omega arith) (omega arith) (le-ltb (max i (k - 1)) (k - 1) (omega arith))
