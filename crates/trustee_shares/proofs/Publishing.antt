-- What is published, one conditional gate after the other.
-- Assumes nothing.
use mathlib.Core.Path.{◌≡◌, ◌∙◌, refl, sym, ap, subst}
use mathlib.Core.Bool.{Bool, true, false, cond}
use mathlib.Core.List.{List, [], ◌∷◌}
use Prim.Native.Nat.{ℕ, zero, suc, ◌+◌, ◌*◌, ◌≤◌, ◌<◌}
use native.Mathlib.Nat.{add-zero}
use native.Mathlib.Omega.{arith}
use lib.ListN.{length}
use Rattle.gates.specs.Kind.{conditional_of}
use Rattle.gates.specs.Gate.{Gate}
use Rattle.gates.specs.Board.{conditional_count}
use Rattle.gates.proofs.Goodness.{GoodGate, good_gate_lem}
use Rattle.gates.proofs.Counting.{count_nil}
use Rattle.gates.proofs.Laws.{AllGood}
use Rattle.trustee_shares.specs.Shares.{masked_first, masked_second, mark_of}
use Rattle.trustee_shares.specs.Views.{masked_factors}
use Rattle.trustee_shares.proofs.Accuracy.{count_mark, mark_one}
use Rattle.trustee_shares.proofs.Exchange.{nth_conditional, nth_first, nth_next}

-- a gate that is good for its own wire is good for a later one
later : (n m : ℕ) (g : Gate) → n ≤ m → GoodGate n g → GoodGate m g
later n m g h good =
    record {
      known = good.known;
      a_most = omega (arith, good.a_most);
      b_most = omega (arith, good.b_most);
      c_most = omega (arith, good.c_most);
      a_below = λ u. omega (arith, good.a_below u);
      b_below = λ u. omega (arith, good.b_below u);
      c_below = λ u. omega (arith, good.c_below u);
    }

pub mark_none : (g : Gate) → conditional_of g.kind ≡ false → mark_of g ≡ 0
unfolding mark_of
mark_none g e = rw e

-- the gates after a conditional one, and after a free one
nth_behind : (g : Gate) (gs : List Gate) (j : ℕ) → conditional_of g.kind ≡ true → nth_conditional (g ∷ gs) (suc j) ≡ nth_conditional gs j
nth_behind g gs j e =
    let m : mark_of g + j ≡ suc j = omega (arith, mark_one g e) in
    ap (nth_conditional (g ∷ gs)) (sym m) ∙ nth_next g gs j

nth_passed : (g : Gate) (gs : List Gate) (j : ℕ) → conditional_of g.kind ≡ false → nth_conditional (g ∷ gs) j ≡ nth_conditional gs j
nth_passed g gs j e =
    let m : mark_of g + j ≡ j = omega (arith, mark_none g e) in
    ap (nth_conditional (g ∷ gs)) (sym m) ∙ nth_next g gs j

-- the conditional gates of a good list
abbrev pub Conditional : ℕ → Gate → Type 0
Conditional m g = GoodGate m g × (conditional_of g.kind ≡ true)

pub nth_good : (n : ℕ) (gs : List Gate) (j : ℕ) → AllGood n gs → j < conditional_count gs → Conditional (n + length gs) (nth_conditional gs j)
nth_good n [] j good h = absurd (omega (arith, count_nil))
nth_good n (g ∷ gs) j good h =
    go (conditional_of g.kind) refl j h
    (λ (i : ℕ) l. subst (λ (m : ℕ). Conditional m (nth_conditional gs i)) (omega arith)
    (nth_good (suc n) gs i good.1 l))
  where
    go : (b : Bool) → conditional_of g.kind ≡ b → (j : ℕ) → j < conditional_count (g ∷ gs)
        → ((i : ℕ) → i < conditional_count gs → Conditional (n + suc (length gs)) (nth_conditional gs i))
        → Conditional (n + suc (length gs)) (nth_conditional (g ∷ gs) j)
    go true is zero l rest = rw (nth_first g gs is) (later n (n + suc (length gs)) g (omega arith) (good_gate_lem n g good.0), is)
    go true is (suc j) l rest = rw (nth_behind g gs j is) (rest j (omega (arith, count_mark g gs, mark_one g is)))
    go false is j l rest = rw (nth_passed g gs j is) (rest j (omega (arith, count_mark g gs, mark_none g is)))

pub length_masked : (parts triples : List ℕ) (i : ℕ) (gs : List Gate) → length (masked_factors parts triples i gs) ≡ 2 * conditional_count gs
unfolding masked_factors
length_masked parts triples i [] = omega (arith, count_nil)
length_masked parts triples i (g ∷ gs) =
    go (conditional_of g.kind) refl (length_masked parts triples (i + 1) gs) (length_masked parts triples i gs)
  where
    go : (b : Bool) → conditional_of g.kind ≡ b → length (masked_factors parts triples (i + 1) gs) ≡ 2
        * conditional_count gs → length (masked_factors parts triples i gs) ≡ 2 * conditional_count gs
        → length (cond b (masked_first parts triples i g ∷ masked_second parts triples i g ∷ masked_factors parts triples
        (i + 1) gs) (masked_factors parts triples i gs)) ≡ 2 * conditional_count (g ∷ gs)
    go true is e f = omega (arith, count_mark g gs, mark_one g is)
    go false is e f = omega (arith, count_mark g gs, mark_none g is)

-- in both runs equal bits are published for a conditional gate
abbrev pub AgreeAt : List ℕ → List ℕ → List ℕ → List ℕ → ℕ → Gate → Type 0
AgreeAt parts parts' triples triples' i g = (masked_first parts triples i g ≡ masked_first parts' triples' i g)
    × (masked_second parts triples i g ≡ masked_second parts' triples' i g)

module _ (parts parts' triples triples' : List ℕ) where
  abbrev Agree : ℕ → Gate → Type 0
  Agree i g = AgreeAt parts parts' triples triples' i g

  pub masked_cong : (i : ℕ) (gs : List Gate)
      → ((j : ℕ) → j < conditional_count gs → AgreeAt parts parts' triples triples' (i + j) (nth_conditional gs j))
      → masked_factors parts triples i gs ≡ masked_factors parts' triples' i gs
  unfolding masked_factors
  masked_cong i [] e = refl
  masked_cong i (g ∷ gs) e = go (conditional_of g.kind) refl (λ f. masked_cong (i + 1) gs f) (λ f. masked_cong i gs f)
    where
      go : (b : Bool) → conditional_of g.kind ≡ b
          → (((j : ℕ) → j < conditional_count gs → Agree (i + 1 + j) (nth_conditional gs j))
          → masked_factors parts triples (i + 1) gs ≡ masked_factors parts' triples' (i + 1) gs)
          → (((j : ℕ) → j < conditional_count gs → Agree (i + j) (nth_conditional gs j))
          → masked_factors parts triples i gs ≡ masked_factors parts' triples' i gs)
          → cond b (masked_first parts triples i g ∷ masked_second parts triples i g ∷ masked_factors parts triples (i + 1)
          gs) (masked_factors parts triples i gs)
          ≡ cond b (masked_first parts' triples' i g ∷ masked_second parts' triples' i g ∷ masked_factors parts' triples'
          (i + 1) gs) (masked_factors parts' triples' i gs)
      go true is more none =
          let c = count_mark g gs in
          let o = mark_one g is in
          let first : Agree i g = subst (λ (h : Gate). Agree i h) (nth_first g gs is)
          (subst (λ (m : ℕ). Agree m (nth_conditional (g ∷ gs) 0)) (add-zero i) (e 0 (omega arith))) in
          let rest = more (λ (j : ℕ) l.
          let a : i + suc j ≡ i + 1 + j = omega arith in
          subst (λ (h : Gate). Agree (i + 1 + j) h) (nth_behind g gs j is)
          (subst (λ (m : ℕ). Agree m (nth_conditional (g ∷ gs) (suc j))) a (e (suc j) (omega arith)))) in
          rw (first.0, first.1, rest)
      go false is more none = none (λ (j : ℕ) l. subst (λ (h : Gate). Agree (i + j) h) (nth_passed g gs j is)
          (e j (omega (arith, count_mark g gs, mark_none g is))))

  pub masked_same : (i : ℕ) (gs : List Gate) → masked_factors parts triples i gs ≡ masked_factors parts' triples' i gs
      → (j : ℕ) → j < conditional_count gs → AgreeAt parts parts' triples triples' (i + j) (nth_conditional gs j)
  unfolding masked_factors
  masked_same i [] e j h = absurd (omega (arith, count_nil))
  masked_same i (g ∷ gs) e j h = go (conditional_of g.kind) refl e j h (λ f. masked_same (i + 1) gs f) (λ f. masked_same i gs f)
    where
      go : (b : Bool) → conditional_of g.kind ≡ b
          → cond b (masked_first parts triples i g ∷ masked_second parts triples i g ∷ masked_factors parts triples (i + 1)
          gs) (masked_factors parts triples i gs)
          ≡ cond b (masked_first parts' triples' i g ∷ masked_second parts' triples' i g ∷ masked_factors parts' triples'
          (i + 1) gs) (masked_factors parts' triples' i gs)
          → (j : ℕ) → j < conditional_count (g ∷ gs)
          → (masked_factors parts triples (i + 1) gs ≡ masked_factors parts' triples' (i + 1) gs → (j : ℕ) → j
          < conditional_count gs → Agree (i + 1 + j) (nth_conditional gs j))
          → (masked_factors parts triples i gs ≡ masked_factors parts' triples' i gs → (j : ℕ) → j < conditional_count gs
          → Agree (i + j) (nth_conditional gs j))
          → Agree (i + j) (nth_conditional (g ∷ gs) j)
      go true is e zero l more none = rw (nth_first g gs is, add-zero i) (cc, cc)
      go true is e (suc j) l more none =
          let c = count_mark g gs in
          let o = mark_one g is in
          let a : i + 1 + j ≡ i + suc j = omega arith in
          subst (λ (h : Gate). Agree (i + suc j) h) (sym (nth_behind g gs j is))
          (subst (λ (m : ℕ). Agree m (nth_conditional gs j)) a (more (cc) j (omega arith)))
      go false is e j l more none = subst (λ (h : Gate). Agree (i + j) h) (sym (nth_passed g gs j is))
          (none e j (omega (arith, count_mark g gs, mark_none g is)))
