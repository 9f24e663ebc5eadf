-- The levels of merges are well-formed, and find the best of their candidates.
-- Assumes nothing.
use mathlib.Core.Path.{◌≡◌, ◌∙◌, refl, sym, ap, subst}
use mathlib.Core.Logic.{◌⊎◌, inl, ⊎_elim}
use mathlib.Core.List.{List, [], ◌++◌}
use Prim.Native.Nat.{ℕ, zero, suc, ◌+◌, ◌-◌, ◌*◌, ◌/◌, ◌^◌, ◌≤◌, ◌<◌}
use native.Mathlib.Nat.{pow-succ', suc-mul, zero-mul, add-zero, mul-le-mul_right}
use native.Mathlib.Omega.{arith}
use borrow.Author.Tests.{le-leb, lt-leb}
use Rattle.gates.specs.Gate.{Gate}
use Rattle.gates.proofs.Laws.{Holds}
use Rattle.basics.proofs.Cases.{below_or_not}
use Rattle.gate_words.proofs.Numbers.{Binary}
use Rattle.graded_circuit.specs.declared.plan.Plan.{Plan}
use Rattle.graded_circuit.specs.Plan.{Planned}
use Rattle.graded_circuit.specs.Key.{candidate, key_span, candidate_span}
use Rattle.graded_circuit.specs.Contest.{result_at}
use Rattle.graded_circuit.specs.Merge.{merge_span, won_at}
use Rattle.graded_circuit.specs.OwnList.{candidates_from, key_at, levels_span, best_key, winner_flags, other_at, merge_at, halves_merge, halves_better, levels, levels_at}
use Rattle.graded_circuit.proofs.Blocks.{Block, none_block, both_block, sized}
use Rattle.graded_circuit.proofs.Cutting.{cut2, cut4}
use Rattle.graded_circuit.proofs.CandidateBlocks.{candidate_block, key_of_lem}
use Rattle.graded_circuit.proofs.SumLaws.{Sums, Spells}
use Rattle.graded_circuit.proofs.MergeLaws.{merge_block, better_block, better_one, better_zero, won_bit, won_bit_lem, won_alone, Rule, Standing, Group, Joined, merge_law}

-- a single candidate, or two halves
module _ (p : Plan) (r m : ℕ) where
  pub span_one : m ≤ 1 → levels_span p (suc r) m ≡ 0
  unfolding levels_span
  span_one h = rw (le-leb m 1 h)

  pub span_more : 1 < m → levels_span p (suc r) m ≡ levels_span p r (m / 2) + levels_span p r (m - m / 2)
      + merge_span p (m / 2) (m - m / 2) + key_span p
  unfolding levels_span
  span_more h = rw (lt-leb m 1 h)

  module _ (n c : ℕ) where
    pub key_one : m ≤ 1 → best_key p (suc r) n c m ≡ key_at p c
    unfolding best_key
    key_one h = rw (le-leb m 1 h)

    pub key_more : 1 < m → best_key p (suc r) n c m ≡ n + levels_span p r (m / 2) + levels_span p r (m - m / 2)
        + merge_span p (m / 2) (m - m / 2)
    unfolding best_key
    key_more h = rw (lt-leb m 1 h)

    pub won_more : 1 < m → winner_flags p (suc r) n m ≡ won_at p (merge_at p r n m)
    unfolding winner_flags
    won_more h = rw (lt-leb m 1 h)

    pub levels_one : m ≤ 1 → levels p (suc r) n c m ≡ []
    unfolding levels
    levels_one h = rw (le-leb m 1 h)

    pub levels_more : 1 < m → levels p (suc r) n c m ≡ levels p r n c (m / 2)
        ++ levels p r (other_at p r n m) (c + m / 2) (m - m / 2) ++ halves_merge p r n c m ++ halves_better p r n c m
    unfolding levels
    levels_more h = rw (lt-leb m 1 h)

-- each half has at least one candidate, and few enough for one level less
halves : (r m : ℕ) → 1 < m → m ≤ 2 ^ suc r → (0 < m / 2) × (m / 2 ≤ 2 ^ r) × (0 < m - m / 2) × (m - m / 2 ≤ 2 ^ r)
    × (m / 2 + (m - m / 2) ≡ m)
halves r m l h = let e = pow-succ' 2 r in (omega arith, omega arith, omega arith, omega arith, omega arith)

module _ (p : Plan) (f : Planned p) where
  -- the candidates' keys are before the levels
  pub key_before : (c : ℕ) → c < p.candidates → key_at p c + key_span p ≤ levels_at p
  key_before c h =
      omega (
        arith,
        key_of_lem p (p.inputs + c * candidate_span p),
        suc-mul c (candidate_span p),
        mul-le-mul_right {m = suc c} {n = p.candidates} (candidate_span p) (omega arith),
      )

  pub candidates_block : (n c m : ℕ) → p.inputs ≤ n → c + m ≤ p.candidates → Block n (candidates_from p n c m) (m * candidate_span p)
  unfolding candidates_from
  candidates_block n c zero h hc = sized (sym (zero-mul (candidate_span p))) (none_block n)
  candidates_block n c (suc m) h hc =
      sized (omega (arith, suc-mul m (candidate_span p)))
      (both_block (candidate_block p f n c h (omega arith)) refl
      (candidates_block (n + candidate_span p) (c + 1) m (omega arith) (omega arith)))

  -- the key of a group, and its wires, end before what comes next
  pub key_place : (r n c m : ℕ) → levels_at p ≤ n → 0 < m → c + m ≤ p.candidates → best_key p r n c m + key_span p ≤ n + levels_span p r m
  key_place zero n c m h hm hc = unfold best_key levels_span in (omega (arith, key_before c (omega arith)))
  key_place (suc r) n c m h hm hc = ⊎_elim
      (λ (l : 1 < m). omega (arith, key_more p r m n c l, span_more p r m l))
      (λ (l : m ≤ 1). omega (arith, key_one p r m n c l, span_one p r m l, key_before c (omega arith)))
      (below_or_not 1 m)

  pub won_place : (r n m : ℕ) → m ≤ 2 ^ r → 1 < m → winner_flags p r n m + m ≤ n + levels_span p r m
  won_place zero n m h l = absurd (omega arith)
  won_place (suc r) n m h l = omega (arith, won_more p r m n 0 l, span_more p r m l)

  pub halves_merge_block : (r n c m : ℕ) → levels_at p ≤ n → 1 < m → m ≤ 2 ^ suc r → c + m ≤ p.candidates
      → Block (merge_at p r n m) (halves_merge p r n c m) (merge_span p (m / 2) (m - m / 2))
  unfolding halves_merge
  halves_merge_block r n c m h l hm hc =
      let q = halves r m l hm in
      let other = other_at p r n m in
      let first = key_place r n c (m / 2) h q.0 (omega arith) in
      let second = key_place r other (c + m / 2) (m - m / 2) (omega arith) q.2 (omega arith) in
      merge_block p f (merge_at p r n m) (best_key p r n c (m / 2)) (best_key p r other (c + m / 2) (m - m / 2))
      (winner_flags p r n (m / 2)) (winner_flags p r other (m - m / 2)) (m / 2) (m - m / 2)
      (omega arith) (omega arith) (λ k. let z = won_place r n (m / 2) q.1 k in omega arith)
      (λ k. let z = won_place r other (m - m / 2) q.3 k in omega arith)

  pub halves_better_block : (r n c m : ℕ) → levels_at p ≤ n → 1 < m → m ≤ 2 ^ suc r → c + m ≤ p.candidates
      → Block (merge_at p r n m + merge_span p (m / 2) (m - m / 2)) (halves_better p r n c m) (key_span p)
  unfolding halves_better
  halves_better_block r n c m h l hm hc =
      let q = halves r m l hm in
      let other = other_at p r n m in
      let first = key_place r n c (m / 2) h q.0 (omega arith) in
      let second = key_place r other (c + m / 2) (m - m / 2) (omega arith) q.2 (omega arith) in
      better_block p f (merge_at p r n m + merge_span p (m / 2) (m - m / 2)) (merge_at p r n m)
      (best_key p r n c (m / 2)) (best_key p r other (c + m / 2) (m - m / 2)) (omega arith) (omega arith) (omega arith)

  pub levels_block : (r n c m : ℕ) → levels_at p ≤ n → 0 < m → m ≤ 2 ^ r → c + m ≤ p.candidates
      → Block n (levels p r n c m) (levels_span p r m)
  levels_block zero n c m h hm hr hc = unfold levels levels_span in (none_block n)
  levels_block (suc r) n c m h hm hr hc = ⊎_elim
      (λ (l : 1 < m). let q = halves r m l hr in
      subst (λ (gs : List Gate). Block n gs (levels_span p (suc r) m)) (sym (levels_more p r m n c l))
      (sized (sym (span_more p r m l))
      (both_block (both_block (both_block (levels_block r n c (m / 2) h q.0 q.1 (omega arith)) refl
      (levels_block r (other_at p r n m) (c + m / 2) (m - m / 2) (omega arith) q.2 q.3 (omega arith))) (omega arith)
      (halves_merge_block r n c m h l hr hc)) (omega arith)
      (halves_better_block r n c m h l hr hc))))
      (λ (l : m ≤ 1). subst (λ (gs : List Gate). Block n gs (levels_span p (suc r) m)) (sym (levels_one p r m n c l))
      (sized (sym (span_one p r m l)) (none_block n)))
      (below_or_not 1 m)

  -- the candidates' circuits, each from its own place on
  module _ (W : ℕ → ℕ) where
    candidate_holds : (n c m : ℕ) → p.inputs ≤ n → c + m ≤ p.candidates → Holds W n (candidates_from p n c m) → (i : ℕ)
        → i < m → Holds W (n + i * candidate_span p) (candidate p (n + i * candidate_span p) (c + i))
    unfolding candidates_from
    candidate_holds n c zero h hc w i l = absurd (omega arith)
    candidate_holds n c (suc m) h hc w zero l =
        let q = cut2 W n (candidate p n c) (candidates_from p (n + candidate_span p) (c + 1) m) (n + candidate_span p)
        (omega (arith, (candidate_block p f n c h (omega arith)).long)) w in
        let place : n + 0 * candidate_span p ≡ n = omega (arith, zero-mul (candidate_span p)) in
        rw (place, add-zero c) q.0
    candidate_holds n c (suc m) h hc w (suc i) l =
        let q = cut2 W n (candidate p n c) (candidates_from p (n + candidate_span p) (c + 1) m) (n + candidate_span p)
        (omega (arith, (candidate_block p f n c h (omega arith)).long)) w in
        let place : n + suc i * candidate_span p ≡ n + candidate_span p + i * candidate_span p = omega (arith, suc-mul i (candidate_span p)) in
        let who : c + suc i ≡ c + 1 + i = omega arith in
        rw (place, who) (candidate_holds (n + candidate_span p) (c + 1) m (omega arith) (omega arith) q.1 i (omega arith))

    pub each_candidate : Holds W p.inputs (candidates_from p p.inputs 0 p.candidates) → (c : ℕ) → c < p.candidates
        → Holds W (p.inputs + c * candidate_span p) (candidate p (p.inputs + c * candidate_span p) c)
    each_candidate w c l =
        let who : 0 + c ≡ c = omega arith in
        subst (λ (i : ℕ). Holds W (p.inputs + c * candidate_span p) (candidate p (p.inputs + c * candidate_span p) i)) who
        (candidate_holds p.inputs 0 p.candidates (omega arith) (omega arith) w c l)

module _ (p : Plan) (f : Planned p) (S : ℕ → ℕ → ℕ) (Before : ℕ → ℕ → Type 0)
    (rule : Rule p.ballots (p.grades - 1) p.candidates S Before) (W : ℕ → ℕ) (b : Binary W)
    (medians : ℕ → ℕ) (sums : (i : ℕ) → i < p.candidates → Sums p.ballots p.grades (S i) (medians i))
    (keys : (c : ℕ) → c < p.candidates → Spells W b p f (key_at p c) (S c)) where
  -- a single candidate is the best of its group
  alone : (c m key won : ℕ) → m ≡ 1 → c + m ≤ p.candidates → Spells W b p f key (S c) → Group p f S Before rule W b c m key won
  alone c m key won one h k =
      record {
        best = c;
        least = omega arith;
        most = omega arith;
        spells = k;
        standing = λ i l. inl (
          ap (λ (j : ℕ). won_bit W won j i) one ∙ won_alone W won i,
          λ g z. let e : c + i ≡ c =
              omega arith in ap (λ (j : ℕ). S j g) e,
        );
      }

  -- merging two halves whose bests are known
  pub halves_law : (r n c m : ℕ) → levels_at p ≤ n → 1 < m → m ≤ 2 ^ suc r → c + m ≤ p.candidates
      → Group p f S Before rule W b c (m / 2) (best_key p r n c (m / 2)) (winner_flags p r n (m / 2))
      → Group p f S Before rule W b (c + m / 2) (m - m / 2) (best_key p r (other_at p r n m) (c + m / 2) (m - m / 2))
      (winner_flags p r (other_at p r n m) (m - m / 2))
      → Holds W (merge_at p r n m) (halves_merge p r n c m)
      → Joined p f S Before rule W b c (m / 2) (m - m / 2) (result_at p (merge_at p r n m)) (best_key p r n c (m / 2))
      (best_key p r (other_at p r n m) (c + m / 2) (m - m / 2)) (won_at p (merge_at p r n m))
  unfolding halves_merge
  halves_law r n c m h l hm hc one two w =
      let q = halves r m l hm in
      let other = other_at p r n m in
      let first = key_place p f r n c (m / 2) h q.0 (omega arith) in
      let second = key_place p f r other (c + m / 2) (m - m / 2) (omega arith) q.2 (omega arith) in
      merge_law p f S Before rule W b medians sums (merge_at p r n m) c (best_key p r n c (m / 2))
      (best_key p r other (c + m / 2) (m - m / 2)) (winner_flags p r n (m / 2)) (winner_flags p r other (m - m / 2))
      (m / 2) (m - m / 2)
      (omega arith) (omega arith) (omega arith) (λ k. let z = won_place p f r n (m / 2) q.1 k in omega arith)
      (λ k. let z = won_place p f r other (m - m / 2) q.3 k in omega arith) one two w

  -- the key that is kept
  chosen_key : (r n c m at : ℕ) (T : ℕ → ℕ)
      → ((W (result_at p (merge_at p r n m) + 1) ≡ 1) × Spells W b p f (best_key p r n c (m / 2)) T) ⊎
      ((W (result_at p (merge_at p r n m) + 1) ≡ 0)
      × Spells W b p f (best_key p r (other_at p r n m) (c + m / 2) (m - m / 2)) T)
      → Holds W at (halves_better p r n c m) → Spells W b p f at T
  unfolding halves_better
  chosen_key r n c m at T choice w =
      let x = best_key p r n c (m / 2) in
      let y = best_key p r (other_at p r n m) (c + m / 2) (m - m / 2) in
      ⊎_elim
      (λ (z : (W (result_at p (merge_at p r n m) + 1) ≡ 1) × Spells W b p f x T). better_one W b p
      f at (merge_at p r n m) x y T w z.0 z.1)
      (λ (z : (W (result_at p (merge_at p r n m) + 1) ≡ 0) × Spells W b p f y T). better_zero W b p
      f at (merge_at p r n m) x y T w z.0 z.1)
      choice

  pub levels_law : (r n c m : ℕ) → levels_at p ≤ n → 0 < m → m ≤ 2 ^ r → c + m ≤ p.candidates → Holds W n (levels p r n c m)
      → Group p f S Before rule W b c m (best_key p r n c m) (winner_flags p r n m)
  levels_law zero n c m h hm hr hc w = unfold best_key in
      (alone c m (key_at p c) (winner_flags p 0 n m) (omega arith) hc (keys c (omega arith)))
  levels_law (suc r) n c m h hm hr hc w = ⊎_elim
      (λ (l : 1 < m).
      let q = halves r m l hr in
      let other = other_at p r n m in
      let merge = merge_at p r n m in
      let last = merge + merge_span p (m / 2) (m - m / 2) in
      let gs = levels p r n c (m / 2) in
      let hs = levels p r other (c + m / 2) (m - m / 2) in
      let o = cut4 W n gs hs (halves_merge p r n c m) (halves_better p r n c m) other merge last
      (omega (arith, (levels_block p f r n c (m / 2) h q.0 q.1 (omega arith)).long))
      (omega (arith, (levels_block p f r other (c + m / 2) (m - m / 2) (omega arith) q.2 q.3 (omega arith)).long))
      (omega (arith, (halves_merge_block p f r n c m h l hr hc).long))
      (subst (Holds W n) (levels_more p r m n c l) w) in
      let one = levels_law r n c (m / 2) h q.0 q.1 (omega arith) o.0 in
      let two = levels_law r other (c + m / 2) (m - m / 2) (omega arith) q.2 q.3 (omega arith) o.1 in
      let j = halves_law r n c m h l hr hc one two o.2 in
      let key : last ≡ best_key p (suc r) n c m = sym (key_more p r m n c l) in
      let spells = chosen_key r n c m last (S j.best) j.choice o.3 in
      let whole = q.4 in
      record {
        best = j.best;
        least = j.least;
        most = omega (arith, j.most);
        spells = subst (λ (i : ℕ). Spells W b p f i (S j.best)) key spells;
        standing = λ i z.
            subst (λ (u : ℕ). Standing p f S Before rule u (c + i) j.best)
            (ap (λ (u : ℕ). W (u + i)) (sym (won_more p r m n c l))
            ∙ sym (won_bit_lem W (winner_flags p (suc r) n m) m i l))
            (j.standing i (omega arith));
      })
      (λ (l : m ≤ 1). alone c m (best_key p (suc r) n c m) (winner_flags p (suc r) n m) (omega arith) hc
      (subst (λ (i : ℕ). Spells W b p f i (S c)) (sym (key_one p r m n c l)) (keys c (omega arith))))
      (below_or_not 1 m)
