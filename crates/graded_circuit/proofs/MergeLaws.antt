-- Merging two groups of candidates: who is the best of both, and who is as good.
-- Assumes nothing.
use mathlib.Core.Path.{◌≡◌, ◌∙◌, refl, sym, ap, subst}
use mathlib.Core.Logic.{◌⊎◌, inl, inr, ⊎_elim}
use mathlib.Core.Bool.{Bool, true, false, cond}
use mathlib.Core.List.{[]}
use Prim.Native.Nat.{ℕ, zero, suc, ◌+◌, ◌-◌, ◌*◌, ◌/◌, ◌%◌, ◌≤◌, ◌<◌, min}
use native.Mathlib.Nat.{suc-mul, add-zero, mul-le-mul_right}
use native.Mathlib.Omega.{arith}
use lib.Dec.{leb}
use Rattle.gates.proofs.Laws.{Holds, mux_zero, mux_one}
use Rattle.basics.proofs.Cases.{below_or_not}
use Rattle.gate_words.specs.Gates.{copy_of, not_of, and_of, xor_of, mux_of}
use Rattle.gate_words.specs.Word.{number}
use Rattle.gate_words.specs.Choice.{choose}
use Rattle.gate_words.proofs.Numbers.{Binary, number_none, number_more}
use Rattle.gate_words.proofs.GateValues.{holds_first, holds_rest, holds_three, copy_is, not_is, and_is, xor_is}
use Rattle.graded_circuit.specs.declared.plan.Plan.{Plan}
use Rattle.graded_circuit.specs.Plan.{Planned}
use Rattle.graded_circuit.specs.RunningSums.{word_span}
use Rattle.graded_circuit.specs.Key.{key_span, low_at}
use Rattle.graded_circuit.specs.Contest.{contest, result_at}
use Rattle.graded_circuit.specs.Merge.{and_all, keep_winners, select_flags, high_digits, left_stays, right_stays, won_at, merge, merge_span, better_key}
use Rattle.graded_circuit.proofs.Blocks.{Block, none_block, both_block, gate_block, choose_block}
use Rattle.graded_circuit.proofs.Cutting.{cut4}
use Rattle.graded_circuit.proofs.SumLaws.{Sums, Spells}
use Rattle.graded_circuit.proofs.TieBreakLaws.{Ahead, Outcome}
use Rattle.graded_circuit.proofs.ContestLaws.{Leaves, contest_block, contest_law}
use Rattle.basics.proofs.Arithmetic.{bit_cases}
use Rattle.gate_words.proofs.PointsBack.{good_copy}
use Rattle.gate_words.proofs.PointsBack.{good_not}
use Rattle.gate_words.proofs.PointsBack.{good_and}
use Rattle.gate_words.proofs.PointsBack.{good_xor}

pub and_all_block : (n at stays m : ℕ) → at + m ≤ n → stays < n → Block n (and_all at stays m) m
unfolding and_all
and_all_block n at stays zero h s = none_block n
and_all_block n at stays (suc m) h s =
    gate_block (good_and n at stays (omega arith) s)
    (and_all_block (suc n) (at + 1) stays m (omega arith) (omega arith))

pub keep_winners_block : (n at stays m : ℕ) → (1 < m → at + m ≤ n) → stays < n → Block n (keep_winners at stays m) m
unfolding keep_winners
keep_winners_block n at stays zero h s = none_block n
keep_winners_block n at stays (suc zero) h s = gate_block (good_copy n stays s) (none_block (suc n))
keep_winners_block n at stays (suc (suc m)) h s = and_all_block n at stays (suc (suc m)) (h (omega arith)) s

pub select_flags_block : (q : ℕ) → Block (q + 2) (select_flags q) 3
unfolding select_flags
select_flags_block q =
    gate_block (good_and (q + 2) q (q + 1) (omega arith) (omega arith))
    (gate_block (good_not (suc (q + 2)) (q + 2) (omega arith))
    (gate_block (good_xor (suc (suc (q + 2))) q (q + 3) (omega arith) (omega arith)) (none_block (suc (suc (suc (q + 2)))))))

pub high_leaves : (p : Plan) (both : ℕ) → Leaves p.digits (high_digits p both)
unfolding high_digits
high_leaves p both = go (leb both 2)
  where
    go : (one : Bool) → cond one 0 (p.digits / 2) ≤ p.digits - 1
    go true = omega arith
    go false = omega arith

module _ (p : Plan) (f : Planned p) where
  pub merge_block : (n x y u v l m : ℕ) → x + key_span p ≤ n → y + key_span p ≤ n → (1 < l → u + l ≤ n)
      → (1 < m → v + m ≤ n) → Block n (merge p n x y u v l m) (merge_span p l m)
  unfolding merge
  merge_block n x y u v l m hx hy hu hv =
      let q = result_at p n in
      both_block (both_block (both_block (contest_block p f n x y (high_digits p (l + m)) (high_leaves p (l + m)) hx hy) (omega arith)
      (select_flags_block q)) (omega arith)
      (keep_winners_block (q + 5) u (left_stays p n) l (λ k. let h = hu k in omega arith) (omega arith))) (omega arith)
      (keep_winners_block (q + 5 + l) v (right_stays p n) m (λ k. let h = hv k in omega arith) (omega arith))

  pub better_block : (at n x y : ℕ) → result_at p n + 1 < at → x + key_span p ≤ at → y + key_span p
      ≤ at → Block at (better_key p n x y) (key_span p)
  unfolding better_key
  better_block at n x y h hx hy = choose_block at (result_at p n + 1) x y (key_span p) h hx hy

-- the wire of candidate i of a group of m; a single candidate has no wire and is the best of its group
unfoldable pub won_bit : (ℕ → ℕ) → ℕ → ℕ → ℕ → ℕ
won_bit W at zero i = 1
won_bit W at (suc zero) i = 1
won_bit W at (suc (suc m)) i = W (at + i)

pub won_bit_lem : (W : ℕ → ℕ) (at m i : ℕ) → 1 < m → won_bit W at m i ≡ W (at + i)
unfolding won_bit
won_bit_lem W at zero i h = absurd (omega arith)
won_bit_lem W at (suc zero) i h = absurd (omega arith)
won_bit_lem W at (suc (suc m)) i h = refl

pub won_alone : (W : ℕ → ℕ) (at i : ℕ) → won_bit W at 1 i ≡ 1
unfolding won_bit
won_alone W at i = refl

module _ (W : ℕ → ℕ) (b : Binary W) where
  and_all_law : (n at stays m i : ℕ) → i < m → Holds W n (and_all at stays m) → W (n + i) ≡ min (W (at + i)) (W stays)
  unfolding and_all
  and_all_law n at stays zero i l h = absurd (omega arith)
  and_all_law n at stays (suc m) zero l h =
      rw (add-zero n, add-zero at) (holds_first W n (and_of at stays) (and_all (at + 1) stays m) h ∙ and_is W b at stays)
  and_all_law n at stays (suc m) (suc i) l h =
      let p : n + suc i ≡ n + 1 + i = omega arith in
      let q : at + suc i ≡ at + 1 + i = omega arith in
      rw (p, q) (and_all_law (n + 1) (at + 1) stays m i (omega arith) (holds_rest W n (and_of at stays) (and_all (at + 1) stays m) h))

  keep_winners_law : (n at stays m i : ℕ) → i < m → Holds W n (keep_winners at stays m) → W (n + i) ≡ min (won_bit W at m i) (W stays)
  unfolding keep_winners won_bit
  keep_winners_law n at stays zero i l h = absurd (omega arith)
  keep_winners_law n at stays (suc zero) zero l h =
      omega (arith, ap W (add-zero n), holds_first W n (copy_of stays) [] h ∙ copy_is W b stays, b stays)
  keep_winners_law n at stays (suc zero) (suc i) l h = absurd (omega arith)
  keep_winners_law n at stays (suc (suc m)) i l h = and_all_law n at stays (suc (suc m)) i l h

  -- what follows a contest: x is better, y is better, x's group stays, y's group stays
  select_flags_law : (q : ℕ) → Holds W (q + 2) (select_flags q)
      → (W (q + 2) ≡ min (W q) (W (q + 1))) × (W (q + 3) ≡ 1 - W (q + 2)) × (W (q + 4) ≡ (W q + W (q + 3)) % 2)
  unfolding select_flags
  select_flags_law q h =
      let g = holds_three W (q + 2) (and_of q (q + 1)) (not_of (q + 2)) (xor_of q (q + 3)) [] h in
      let p₁ : q + 2 + 1 ≡ q + 3 = omega arith in
      let p₂ : q + 2 + 2 ≡ q + 4 = omega arith in (
        g.0 ∙ and_is W b q (q + 1),
        sym (ap W p₁) ∙ g.1 ∙ not_is W b (q + 2),
        sym (ap W p₂) ∙ g.2 ∙ xor_is W b q (q + 3),
      )

  -- a choice, wire by wire
  chosen_one : (n f x y w i : ℕ) → i < w → W f ≡ 1 → Holds W n (choose f x y w) → W (n + i) ≡ W (x + i)
  unfolding choose
  chosen_one n f x y zero i l e h = absurd (omega arith)
  chosen_one n f x y (suc w) zero l e h =
      rw (add-zero n, add-zero x) (holds_first W n (mux_of f x y) (choose f (x + 1) (y + 1) w) h
      ∙ mux_one (W f) (W x) (W y) e)
  chosen_one n f x y (suc w) (suc i) l e h =
      let p : n + suc i ≡ n + 1 + i = omega arith in
      let q : x + suc i ≡ x + 1 + i = omega arith in
      rw (p, q) (chosen_one (n + 1) f (x + 1) (y + 1) w i (omega arith) e (holds_rest W n (mux_of f x y) (choose f (x + 1) (y + 1) w) h))

  chosen_zero : (n f x y w i : ℕ) → i < w → W f ≡ 0 → Holds W n (choose f x y w) → W (n + i) ≡ W (y + i)
  unfolding choose
  chosen_zero n f x y zero i l e h = absurd (omega arith)
  chosen_zero n f x y (suc w) zero l e h =
      rw (add-zero n, add-zero y) (holds_first W n (mux_of f x y) (choose f (x + 1) (y + 1) w) h
      ∙ mux_zero (W f) (W x) (W y) e)
  chosen_zero n f x y (suc w) (suc i) l e h =
      let p : n + suc i ≡ n + 1 + i = omega arith in
      let q : y + suc i ≡ y + 1 + i = omega arith in
      rw (p, q) (chosen_zero (n + 1) f (x + 1) (y + 1) w i (omega arith) e (holds_rest W n (mux_of f x y) (choose f (x + 1) (y + 1) w) h))

  same_number : (x y w : ℕ) → ((i : ℕ) → i < w → W (x + i) ≡ W (y + i)) → number W x 1 w ≡ number W y 1 w
  same_number x y zero h = omega (arith, number_none W x 1, number_none W y 1)
  same_number x y (suc w) h =
      let rest = same_number (x + 1) (y + 1) w
      (λ i l. let p : x + 1 + i ≡ x + suc i = omega arith in let q : y + 1 + i ≡ y + suc i = omega arith in ap W p ∙ h (suc i) (omega arith) ∙ sym (ap W q)) in
      let first = sym (ap W (add-zero x)) ∙ h 0 (omega arith) ∙ ap W (add-zero y) in
      omega (arith, rest, first, number_more W x 1 w, number_more W y 1 w)

  module _ (p : Plan) (f : Planned p) where
    -- a copy of a key describes the same sums
    copied_key : (x z : ℕ) (S : ℕ → ℕ) → ((i : ℕ) → i < key_span p → W (z + i) ≡ W (x + i)) → Spells W b p f x S → Spells W b p f z S
    copied_key x z S same k g l =
        let w = k g l in
        let inside : g * word_span p + word_span p ≤ key_span p =
        omega (
          arith,
          suc-mul g (word_span p),
          mul-le-mul_right {m = suc g} {n = p.grades - 1} (word_span p) (omega arith),
        ) in
        let wire : (i : ℕ) → i < word_span p → W (low_at p z g + i) ≡ W (low_at p x g + i) =
        λ i h. let pz : z + g * word_span p + i ≡ z + (g * word_span p + i) = omega arith in let px : x + g
        * word_span p + i ≡ x + (g * word_span p + i) = omega arith in
        ap W pz ∙ same (g * word_span p + i) (omega arith) ∙ sym (ap W px) in
        let low = same_number (low_at p z g) (low_at p x g) p.digits (λ i h. wire i (omega arith)) in
        let top = wire p.digits (omega arith) in
        record {
          worse = λ h. top ∙ w.worse h;
          better = λ h. top ∙ w.better h;
          low_worse = λ h. low ∙ w.low_worse h;
          low_better = λ h. omega (arith, low, w.low_better h);
        }

    pub better_one : (at n x y : ℕ) (S : ℕ → ℕ) → Holds W at (better_key p n x y) → W (result_at p n + 1) ≡ 1
        → Spells W b p f x S → Spells W b p f at S
    unfolding better_key
    better_one at n x y S h e k = copied_key x at S (λ i l. chosen_one at (result_at p n + 1) x y (key_span p) i l e h) k

    pub better_zero : (at n x y : ℕ) (S : ℕ → ℕ) → Holds W at (better_key p n x y) → W (result_at p n + 1) ≡ 0
        → Spells W b p f y S → Spells W b p f at S
    unfolding better_key
    better_zero at n x y S h e k = copied_key y at S (λ i l. chosen_zero at (result_at p n + 1) x y (key_span p) i l e h) k

-- candidates i and j have the same sums for all d grades
abbrev pub Same : ℕ → (ℕ → ℕ → ℕ) → ℕ → ℕ → Type 0
Same d S i j = (g : ℕ) → g < d → S i g ≡ S j g

-- What the circuit needs of a rule: an order of k candidates with sums S of n ballots. If some grade decides for i
-- against j, i comes before j.
pub record Rule (n d k : ℕ) (S : ℕ → ℕ → ℕ) (Before : ℕ → ℕ → Type 0) : Type 0 where
  pub ahead : (i j : ℕ) → i < k → j < k → Ahead n d (S i) (S j) → Before i j
  pub chained : (h i j : ℕ) → h < k → i < k → j < k → Before h i → Before i j → Before h j
  pub same_first : (h i j : ℕ) → h < k → i < k → j < k → Same d S h i → Before i j → Before h j
  pub same_second : (h i j : ℕ) → h < k → i < k → j < k → Before h i → Same d S i j → Before h j

module _ (p : Plan) (f : Planned p) (S : ℕ → ℕ → ℕ) (Before : ℕ → ℕ → Type 0)
    (rule : Rule p.ballots (p.grades - 1) p.candidates S Before) where
  -- the bit is 1 and candidate j is as good as candidate o, or it is 0 and o comes before j
  abbrev pub Standing : ℕ → ℕ → ℕ → Type 0
  Standing bit j o = ((bit ≡ 1) × Same (p.grades - 1) S j o) ⊎ ((bit ≡ 0) × Before o j)

  -- a candidate compared with its group's best, and that one with another
  next_standing : (bit stays j o best : ℕ) → j < p.candidates → o < p.candidates → best < p.candidates
      → Standing bit j o → Standing stays o best → Standing (min bit stays) j best
  next_standing bit stays j o best hj ho hb a c =
      ⊎_elim
      (λ (x : (bit ≡ 1) × Same (p.grades - 1) S j o). let e = x.0 in ⊎_elim
      (λ (y : (stays ≡ 1) × Same (p.grades - 1) S o best). let e' = y.0 in inl (omega arith, λ g l. x.1 g l ∙ y.1 g l))
      (λ (y : (stays ≡ 0) × Before best o). let e' = y.0 in
      inr (omega arith, rule.same_second best o j hb ho hj y.1 (λ g l. sym (x.1 g l))))
      c)
      (λ (x : (bit ≡ 0) × Before o j). let e = x.0 in ⊎_elim
      (λ (y : (stays ≡ 1) × Same (p.grades - 1) S o best). let e' = y.0 in
      inr (omega arith, rule.same_first best o j hb ho hj (λ g l. sym (y.1 g l)) x.1))
      (λ (y : (stays ≡ 0) × Before best o). let e' = y.0 in inr (omega arith, rule.chained best o j hb ho hj y.1 x.1))
      c)
      a

  module _ (W : ℕ → ℕ) (b : Binary W) where
    -- A group of m candidates from candidate c on: the key describes the sums of its best, and the wires say who is
    -- as good.
    pub record Group (c m key won : ℕ) : Type 0 where
      pub best : ℕ
      pub least : c ≤ best
      pub most : best < c + m
      pub spells : Spells W b p f key (S best)
      pub standing : (i : ℕ) → i < m → Standing (won_bit W won m i) (c + i) best

    -- the best of the candidates l and r, and how both compare with it
    record Met (q l r : ℕ) : Type 0 where
      best : ℕ
      choice : ((W (q + 1) ≡ 1) × (best ≡ l)) ⊎ ((W (q + 1) ≡ 0) × (best ≡ r))
      left : Standing (W (q + 4)) l best
      right : Standing (W (q + 3)) r best

    met : (q l r : ℕ) → l < p.candidates → r < p.candidates → Holds W (q + 2) (select_flags q)
        → Outcome (W q) (W (q + 1)) p.ballots (p.grades - 1) (S l) (S r) → Met q l r
    met q l r hl hr h o =
        let v = select_flags_law W b q h in
        let v₂ = v.0 in
        let v₃ = v.1 in
        let v₄ = v.2 in
        ⊎_elim
        (λ (t : (W q ≡ 0) × ((g : ℕ) → g < p.grades - 1 → S l g ≡ S r g)).
        let z = t.0 in
        let none : W (q + 2) ≡ 0 = omega arith in
        ⊎_elim
        (λ (s : W (q + 1) ≡ 0). record {
          best = r;
          choice = inr (s, refl);
          left = inl (omega arith, t.1);
          right =
              inl (omega arith, λ g i. refl);
        })
        (λ (s : W (q + 1) ≡ 1). record {
          best = l;
          choice = inl (s, refl);
          left = inl (omega arith, λ g i. refl);
          right = inl (omega arith, λ g i. sym (t.1 g i));
        })
        (bit_cases (W (q + 1)) (b (q + 1))))
        (⊎_elim
        (λ (t : (W q ≡ 1) × (W (q + 1) ≡ 1) × Ahead p.ballots (p.grades - 1) (S l) (S r)).
        let z = t.0 in
        let s = t.1 in
        let first : W (q + 2) ≡ 1 = omega arith in
        record {
          best = l;
          choice = inl (s, refl);
          left = inl (omega arith, λ g i. refl);
          right =
              inr (omega arith, rule.ahead l r hl hr t.2);
        })
        (λ (t : (W q ≡ 1) × (W (q + 1) ≡ 0) × Ahead p.ballots (p.grades - 1) (S r) (S l)).
        let z = t.0 in
        let s = t.1 in
        let first : W (q + 2) ≡ 0 = omega arith in
        record {
          best = r;
          choice = inr (s, refl);
          left = inr (omega arith, rule.ahead r l hr hl t.2);
          right =
              inl (omega arith, λ g i. refl);
        }))
        o

    -- Both groups together: the chosen key is the best one's, and each candidate's wire says how it compares with the
    -- best.
    pub record Joined (c l m q x y won : ℕ) : Type 0 where
      pub best : ℕ
      pub least : c ≤ best
      pub most : best < c + (l + m)
      pub choice : ((W (q + 1) ≡ 1) × Spells W b p f x (S best)) ⊎ ((W (q + 1) ≡ 0) × Spells W b p f y (S best))
      pub standing : (i : ℕ) → i < l + m → Standing (W (won + i)) (c + i) best

    joined : (n c x y u v l m : ℕ) → c + (l + m) ≤ p.candidates → (a : Group c l x u) (d : Group (c + l) m y v)
        → Met (result_at p n) a.best d.best
        → Holds W (result_at p n + 5) (keep_winners u (left_stays p n) l)
        → Holds W (result_at p n + 5 + l) (keep_winners v (right_stays p n) m)
        → Joined c l m (result_at p n) x y (won_at p n)
    joined n c x y u v l m inside a d t one two =
        record {
          best = t.best;
          least = within.0;
          most = within.1;
          choice = ⊎_elim
              (λ (z : (W (result_at p n + 1) ≡ 1) × (t.best ≡ a.best)). inl
              (z.0, subst (λ (g : ℕ). Spells W b p f x (S g)) (sym z.1) a.spells))
              (λ (z : (W (result_at p n + 1) ≡ 0) × (t.best ≡ d.best)). inr
              (z.0, subst (λ (g : ℕ). Spells W b p f y (S g)) (sym z.1) d.spells))
              t.choice;
          standing = λ g z. ⊎_elim (λ (k : g < l). first g k) (λ (k : l ≤ g). second g k z) (below_or_not g l);
        }
      where
        within : (c ≤ t.best) × (t.best < c + (l + m))
        within = ⊎_elim
            (λ (z : (W (result_at p n + 1) ≡ 1) × (t.best ≡ a.best)). let g = z.1 in (omega (arith, a.least), omega (arith, a.most)))
            (λ (z : (W (result_at p n + 1) ≡ 0) × (t.best ≡ d.best)). let g = z.1 in (omega (arith, d.least), omega (arith, d.most)))
            t.choice

        first : (g : ℕ) → g < l → Standing (W (won_at p n + g)) (c + g) t.best
        first g k =
            subst (λ (w : ℕ). Standing w (c + g) t.best) (sym (keep_winners_law W b (result_at p n + 5) u (left_stays p n) l g k one))
            (next_standing (won_bit W u l g) (W (left_stays p n)) (c + g) a.best t.best (omega arith)
            (omega (arith, a.most)) (omega (arith, within.1)) (a.standing g k) t.left)

        second : (g : ℕ) → l ≤ g → g < l + m → Standing (W (won_at p n + g)) (c + g) t.best
        second g k z =
            let at : result_at p n + 5 + l + (g - l) ≡ won_at p n + g = omega arith in
            let who : c + l + (g - l) ≡ c + g = omega arith in
            subst (λ (w : ℕ). Standing (W (won_at p n + g)) w t.best) who
            (subst (λ (w : ℕ). Standing w (c + l + (g - l)) t.best)
            (sym (keep_winners_law W b (result_at p n + 5 + l) v (right_stays p n) m (g - l) (omega arith) two)
            ∙ ap W at)
            (next_standing (won_bit W v m (g - l)) (W (right_stays p n)) (c + l + (g - l)) d.best t.best
            (omega arith) (omega (arith, d.most)) (omega (arith, within.1)) (d.standing (g - l) (omega arith))
            t.right))

    pub merge_law : (medians : ℕ → ℕ) → ((i : ℕ) → i < p.candidates → Sums p.ballots p.grades (S i) (medians i))
        → (n c x y u v l m : ℕ) → c + (l + m) ≤ p.candidates → x + key_span p ≤ n → y + key_span p ≤ n
        → (1 < l → u + l ≤ n) → (1 < m → v + m ≤ n)
        → Group c l x u → Group (c + l) m y v → Holds W n (merge p n x y u v l m) → Joined c l m (result_at p n) x y (won_at p n)
    unfolding merge
    merge_law medians sums n c x y u v l m inside hx hy hu hv a d h =
        let q = result_at p n in
        let o = cut4 W n (contest p n x y (high_digits p (l + m))) (select_flags q) (keep_winners u (left_stays p n) l)
        (keep_winners v (right_stays p n) m) (q + 2) (q + 5) (q + 5 + l)
        (omega (arith, (contest_block p f n x y (high_digits p (l + m)) (high_leaves p (l + m)) hx hy).long))
        (omega (arith, (select_flags_block q).long))
        (omega (arith, (keep_winners_block (q + 5) u (left_stays p n) l (λ k. let z = hu k in omega arith) (omega arith)).long)) h in
        let hi : a.best < p.candidates = omega (arith, a.most) in
        let hj : d.best < p.candidates = omega (arith, d.most) in
        joined n c x y u v l m inside a d
        (met q a.best d.best hi hj o.1
        (contest_law p f W b (S a.best) (S d.best) x y a.spells d.spells (medians a.best)
        (medians d.best) n (high_digits p (l + m)) (high_leaves p (l + m)) (sums a.best hi) (sums d.best hj)
        hx hy o.0))
        o.2 o.3
