-- The words in the tables of the circuit are the strengths of the strongest paths.
-- Assumes nothing.
use mathlib.Core.Path.{◌≡◌, ◌∙◌, refl, sym, ap, subst}
use mathlib.Core.Bool.{Bool, true, false, cond, ◌||◌, true≢false}
use mathlib.Core.Logic.{⊎_elim, ◌≢◌}
use mathlib.Core.List.{List}
use Prim.Native.Nat.{ℕ, zero, suc, ◌+◌, ◌-◌, ◌*◌, ◌≤◌, ◌<◌}
use native.Mathlib.Omega.{arith}
use lib.Dec.{eqb}
use lib.ListN.{length}
use borrow.Author.Tests.{ne_eqb}
use Rattle.basics.proofs.Cases.{below_or_not}
use Rattle.basics.proofs.Flags.{or_either, or_first, or_second}
use Rattle.gates.specs.Gate.{Gate}
use Rattle.gates.proofs.Laws.{Holds, holds_append}
use Rattle.gate_words.specs.Word.{ones_at, number}
use Rattle.gate_words.specs.Counter.{count_size, Countable}
use Rattle.gate_words.proofs.Laws.{Binary}
use Rattle.rule_schulze.specs.Schulze.{link}
use Rattle.rule_schulze.specs.Closure.{closure}
use Rattle.rule_schulze.proofs.Paths.{detour_over}
use Rattle.rule_schulze.proofs.Tables.{detour_stays}
use Rattle.rule_schulze.proofs.Winning.{link_won, link_lost}
use Rattle.ranked_circuit.specs.Table.{table, entry_end}
use Rattle.ranked_circuit.specs.Stages.{votes_block, stays, cut_at, new_word, path_block}
use Rattle.ranked_circuit.specs.Paths.{votes_at, votes_table, links_from, links_table, link_wire, Paths, next_paths, paths_to}
use Rattle.ranked_circuit.proofs.TableLaws.{entry_start, entry_end_lem, entry_holds}
use Rattle.ranked_circuit.proofs.StageLaws.{apart_all, stage_moves, cut_most, stage_pad, stage_length, votes_length, votes_law, link_told, strength_law, way_law, first_way_law}

-- a test holds or not
pub bool_cases : {A : Type 0} (c : Bool) → (c ≡ true → A) → (c ≡ false → A) → A
bool_cases true p q = p refl
bool_cases false p q = q refl

-- off the diagonal, stage 0 leaves exactly the words of i and j if neither is candidate 0
zero_stays : (i j : ℕ) → i ≢ 0 → j ≢ 0 → stays 0 i j ≡ true
unfolding stays
zero_stays i j i0 j0 = rw (ne_eqb i 0 i0, ne_eqb j 0 j0)

zero_moves : (i j : ℕ) → i ≢ j → (eqb i 0 || eqb j 0) ≡ true → stays 0 i j ≡ false
unfolding stays
zero_moves i j ne e = rw (e, ne_eqb i j ne)

module _ (v : ℕ → ℕ → ℕ) where
  -- the strengths after m stages
  pub strength_after : ℕ → ℕ → ℕ → ℕ
  strength_after zero i j = v i j
  strength_after (suc zero) i j = cond (stays 0 i j) (v i j) (link v i j)
  strength_after (suc (suc l)) i j = closure (suc l) (link v) i j

  edge_is : (i j : ℕ) → i ≢ j → (eqb i 0 || eqb j 0) ≡ true → strength_after 1 i j ≡ link v i j
  unfolding strength_after
  edge_is i j ne e = ap (λ (c : Bool). cond c (v i j) (link v i j)) (zero_moves i j ne e)

  after_stays : (m i j : ℕ) → i ≢ j → stays m i j ≡ true → strength_after (suc m) i j ≡ strength_after m i j
  unfolding strength_after stays closure
  after_stays zero i j ne e = ap (λ (c : Bool). cond c (v i j) (link v i j)) e
  after_stays (suc zero) i j ne e = detour_stays 0 (link v) i j e
      ∙ sym (edge_is i j ne (⊎_elim (λ h. h) (λ h. absurd (true≢false (sym h ∙ ne_eqb i j ne)))
      (or_either (eqb i 0 || eqb j 0) (eqb i j) e)))
  after_stays (suc (suc l)) i j ne e = detour_stays (suc l) (closure (suc l) (link v)) i j e

module _ (k n w : ℕ) (W : ℕ → ℕ) (b : Binary W) (v : ℕ → ℕ → ℕ) (countable : Countable n 0 w)
    (counted : (i j : ℕ) → i < k → j < k → i ≢ j → ones_at W (i * k + j) (k * k) n ≡ v i j) where
  abbrev Spelled : (ℕ → ℕ → ℕ) → (ℕ → ℕ → ℕ) → Type 0
  Spelled words t = (i j : ℕ) → i < k → j < k → i ≢ j → number W (words i j) 1 (suc w) ≡ t i j

  votes_spelled : Holds W (n * k * k) (votes_table k n w) → Spelled (votes_at k n w) v
  unfolding votes_table votes_at
  votes_spelled h i j hi hj ne =
      let at = entry_start (n * k * k) k (votes_block k n w) i j in
      let e : entry_end (n * k * k) k (votes_block k n w) i j - suc w ≡ at + count_size n 0 w =
      omega (arith, entry_end_lem (n * k * k) k (votes_block k n w) i j hj, votes_length k n w at i j ne) in
      ap (λ (x : ℕ). number W x 1 (suc w)) e
      ∙ votes_law W b k n w at i j ne countable (entry_holds (n * k * k) k (votes_block k n w) i j hj W hi h)
      ∙ counted i j hi hj ne

  -- whatever the number of stages, the tables before the first stage hold
  first_holds : (m : ℕ) → Holds W (n * k * k) (paths_to k n w m).gates → Holds W (n * k * k) (votes_table k n w)
      × Holds W (links_from k n w) (links_table k n w)
  unfolding paths_to next_paths links_from
  first_holds zero h = holds_append W (n * k * k) (votes_table k n w) (links_table k n w) h
  first_holds (suc m) h =
      let p = paths_to k n w m in
      first_holds m (holds_append W (n * k * k) p.gates
      (table (n * k * k + length p.gates) k (path_block k (link_wire k n w) p.words w m)) h).0

  pub links_told : (m : ℕ) → Holds W (n * k * k) (paths_to k n w m).gates → (i j : ℕ) → i < k → j < k → i ≢ j
      → (v j i < v i j → W (link_wire k n w i j) ≡ 1) × (v i j ≤ v j i → W (link_wire k n w i j) ≡ 0)
  unfolding links_table link_wire
  links_told m h = let p = first_holds m h in
      (λ i j hi hj ne. link_told W b (votes_at k n w) v k w (votes_spelled p.0) 0 (links_from k n w) p.1 i j hi
      hj ne (omega arith))

  module _ (p : Paths) (m : ℕ) (few : m ≤ k)
      (told : (i j : ℕ) → i < k → j < k → i ≢ j → (v j i < v i j → W (link_wire k n w i j) ≡ 1)
      × (v i j ≤ v j i → W (link_wire k n w i j) ≡ 0))
      (spelled : Spelled p.words (strength_after v m))
      (h : Holds W (n * k * k + length p.gates)
      (table (n * k * k + length p.gates) k (path_block k (link_wire k n w) p.words w m))) where
    start : ℕ
    start = n * k * k + length p.gates

    block : ℕ → ℕ → ℕ → List Gate
    block = path_block k (link_wire k n w) p.words w m

    module _ (i j : ℕ) (hi : i < k) (hj : j < k) (ne : i ≢ j) where
      kept : stays m i j ≡ true → number W ((next_paths k n w m p).words i j) 1 (suc w) ≡ strength_after v (suc m) i j
      unfolding next_paths start block
      kept e =
          ap (λ (c : Bool). number W (cond c (p.words i j) (entry_end start k block i j - suc w)) 1 (suc w)) e
          ∙ spelled i j hi hj ne ∙ sym (after_stays v m i j ne e)

      module _ (e : stays m i j ≡ false) where
        at : ℕ
        at = entry_start start k block i j

        gates_here : Holds W at (new_word (link_wire k n w) p.words w (cut_at k w m i j) m at i j)
        unfolding at block start
        gates_here =
            subst (λ (gs : List Gate). Holds W at gs) (stage_moves k (link_wire k n w) p.words w m at i j e)
            (entry_holds start k block i j hj W hi h)

        word_here : (next_paths k n w m p).words i j ≡ at + stage_pad w (cut_at k w m i j) m
        unfolding next_paths at block start
        word_here =
            ap (λ (c : Bool). cond c (p.words i j) (entry_end start k block i j - suc w)) e
            ∙ omega (
              arith,
              entry_end_lem start k block i j hj,
              ap length (stage_moves k (link_wire k n w) p.words w m at i j e),
              stage_length (link_wire k n w) p.words w (cut_at k w m i j) m at i j (cut_most k w m i j),
            )

    after_law : (m' i j : ℕ) → i < k → j < k → i ≢ j → (at h : ℕ) → h ≤ w → m' ≡ m → stays m i j ≡ false
        → Holds W at (new_word (link_wire k n w) p.words w h m' at i j) → number W (at + stage_pad w h m') 1 (suc w)
        ≡ strength_after v (suc m') i j
    unfolding stage_pad strength_after closure new_word
    after_law zero i j hi hj ne at h hw q e g =
        let here : number W (p.words i j) 1 (suc w) ≡ v i j = spelled i j hi hj ne ∙ ap (λ (x : ℕ). strength_after v x i j) (sym q) in
        let law = strength_law W b (link_wire k n w i j) (p.words i j) w at (v i j) (v j i) here (told i j hi hj ne) g in
        ⊎_elim (λ (l : v j i < v i j). law.0 l ∙ sym (link_won v i j l))
        (λ (l : v i j ≤ v j i). law.1 l ∙ sym (link_lost v i j l)) (below_or_not (v j i) (v i j))
        ∙ sym (ap (λ (c : Bool). cond c (v i j) (link v i j)) (ap (λ (x : ℕ). stays x i j) q ∙ e))
    after_law (suc zero) i j hi hj ne at h hw q e g =
        let a = apart_all 0 i j (ap (λ (x : ℕ). stays x i j) q ∙ e) in
        let i0 : i ≢ 0 = a.0 in
        let j0 : j ≢ 0 = a.1 in
        let before : (x y : ℕ) → x < k → y < k → x ≢ y → number W (p.words x y) 1 (suc w) ≡ strength_after v 1 x y =
        λ x y hx hy n. spelled x y hx hy n ∙ ap (λ (z : ℕ). strength_after v z x y) (sym q) in
        let here : number W (p.words i j) 1 (suc w) ≡ v i j = before i j hi hj ne
        ∙ ap (λ (c : Bool). cond c (v i j) (link v i j)) (zero_stays i j i0 j0) in
        let to = before i 0 hi (omega arith) i0 ∙ edge_is v i 0 i0 (or_second (eqb i 0) (eqb 0 0) refl) in
        let from = before 0 j (omega arith) hj (λ z. j0 (sym z)) ∙ edge_is v 0 j (λ z. j0 (sym z)) (or_first (eqb 0 0) (eqb j 0) refl) in
        first_way_law W b (link_wire k n w) p.words v w h at i j (link v i 0) (link v 0 j) hw here (told i j hi hj ne) to from g
        ∙ sym (detour_over 0 (link v) i j i0 j0 ne)
    after_law (suc (suc l)) i j hi hj ne at h hw q e g =
        let a = apart_all (suc l) i j (ap (λ (x : ℕ). stays x i j) q ∙ e) in
        let t = closure (suc l) (link v) in
        let before : (x y : ℕ) → x < k → y < k → x ≢ y → number W (p.words x y) 1 (suc w)
        ≡ closure (suc l) (link v) x y = λ x y hx hy n. spelled x y hx hy n
        ∙ ap (λ (z : ℕ). strength_after v z x y) (sym q) in
        way_law W b p.words w h l at i j (t i j) (t i (suc l)) (t (suc l) j) hw (before i j hi hj ne)
        (before i (suc l) hi (omega arith) a.0) (before (suc l) j (omega arith) hj (λ z. a.1 (sym z))) g
        ∙ sym (detour_over (suc l) t i j a.0 a.1 ne)

    pub next_spelled : Spelled (next_paths k n w m p).words (strength_after v (suc m))
    next_spelled i j hi hj ne =
        bool_cases (stays m i j) (kept i j hi hj ne)
        (λ e. ap (λ (x : ℕ). number W x 1 (suc w)) (word_here i j hi hj ne e)
        ∙ after_law m i j hi hj ne (at i j hi hj ne e) (cut_at k w m i j) (cut_most k w m i j) refl e
        (gates_here i j hi hj ne e))

  -- the last stage, and those before it
  stages_hold : (m : ℕ) → Holds W (n * k * k) (paths_to k n w (suc m)).gates →
      Holds W (n * k * k) (paths_to k n w m).gates
      × Holds W (n * k * k + length (paths_to k n w m).gates)
      (table (n * k * k + length (paths_to k n w m).gates) k
      (path_block k (link_wire k n w) (paths_to k n w m).words w m))
  unfolding paths_to next_paths
  stages_hold m h =
      let p = paths_to k n w m in
      holds_append W (n * k * k) p.gates (table (n * k * k + length p.gates) k (path_block k (link_wire k n w) p.words w m)) h

  -- after m stages the words are the strengths after m stages
  pub paths_spelled : (m : ℕ) → m ≤ suc k → Holds W (n * k * k) (paths_to k n w m).gates
      → Spelled (paths_to k n w m).words (strength_after v m)
  unfolding paths_to strength_after
  paths_spelled zero hm h = votes_spelled (first_holds 0 h).0
  paths_spelled (suc m) hm h =
      let p = paths_to k n w m in
      let q = stages_hold m h in
      next_spelled p m (omega arith) (links_told m q.0) (paths_spelled m (omega arith) q.0) q.1

-- after the first l + 1 detours, which go over the candidates below l + 1
pub after_detours : (v : ℕ → ℕ → ℕ) (l i j : ℕ) → strength_after v (suc (suc l)) i j ≡ closure (suc l) (link v) i j
unfolding strength_after
after_detours v l i j = refl
