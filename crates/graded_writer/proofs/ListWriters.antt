-- What the writers of the list share: the own list by its cases, and where the keys and wires of groups are.
-- Assumes nothing.
use mathlib.Core.Path.{◌≡◌, ◌∙◌, refl, sym, ap, subst}
use mathlib.Core.Bool.{Bool, cond}
use mathlib.Core.Logic.{⊎_elim}
use mathlib.Core.List.{List, [], ◌∷◌, ◌++◌, append_assoc}
use Prim.Native.Nat.{ℕ, zero, suc, ◌+◌, ◌-◌, ◌*◌, ◌/◌, ◌≤◌, ◌<◌}
use native.Mathlib.Nat.{suc-mul, mul_comm, mul-div_cancel}
use native.Mathlib.Numerals.{add-one}
use native.Mathlib.Omega.{arith}
use lib.Dec.{T, leb}
use lib.ListN.{length}
use borrow.Author.Tests.{eq-eqb, ne_eqb, le-leb, lt-leb}
use Rattle.gates.specs.Gate.{Gate}
use Rattle.gate_words.specs.Gates.{constant, copy_of, and_of}
use Rattle.gate_words.specs.Choice.{choose}
use Rattle.gate_words.specs.declared.writer.Writer.{Writer}
use Rattle.gate_words.specs.Writing.{Room}
use Rattle.jury.specs.declared.shape.Shape.{Shape}
use Rattle.jury.specs.Shape.{graded_limits, ballot_bytes}
use Rattle.basics.proofs.Cases.{below_or_not}
use Rattle.jury.proofs.Limits.{within_T, within_back, bytes_are, bytes_bound}
use Rattle.graded_circuit.specs.declared.plan.Plan.{Plan}
use Rattle.graded_circuit.specs.Plan.{plan_of, Planned}
use Rattle.graded_circuit.specs.Key.{key_span, candidate, candidate_span}
use Rattle.graded_circuit.specs.Contest.{result_at}
use Rattle.graded_circuit.specs.Merge.{and_all, keep_winners, merge, merge_span, won_at, better_key}
use Rattle.graded_circuit.specs.OwnList.{candidates_from, key_at, levels_span, best_key, winner_flags, other_at, merge_at, halves_merge, halves_better, levels, low_levels, levels_at, circuit, own_grading}
use Rattle.graded_circuit.proofs.Planning.{planned}
use Rattle.graded_circuit.proofs.CandidateBlocks.{key_of_lem}
use Rattle.graded_circuit.proofs.LevelsLaws.{key_before, span_more, key_one, key_more, won_more, levels_more}
use Rattle.graded_circuit.proofs.CircuitLaws.{circuit_block}
use Rattle.graded_circuit.proofs.OwnListLaws.{own_list_short}

pub own_one : (s : Shape) → s.candidates ≡ 1 → constant 1 ∷ [] ≡ own_grading s
unfolding own_grading
own_one s e = rw (eq-eqb s.candidates 1 e)

pub own_more : (s : Shape) (p : Plan) → p ≡ plan_of s → (s.candidates ≡ 1 → ⊥) → circuit p ≡ own_grading s
unfolding own_grading
own_more s p e h = ap circuit e ∙ rw (ne_eqb s.candidates 1 h)

-- the levels of merges, which come after the candidates
abbrev pub all_levels : Plan → List Gate
all_levels p =
    levels p low_levels (levels_at p) 0 (p.candidates / 2)
    ++ levels p low_levels (other_at p low_levels (levels_at p) p.candidates) (p.candidates / 2) (p.candidates - p.candidates / 2)
    ++ halves_merge p low_levels (levels_at p) 0 p.candidates

abbrev pub all_levels_span : Plan → ℕ
all_levels_span p =
    levels_span p low_levels (p.candidates / 2)
    + (levels_span p low_levels (p.candidates - p.candidates / 2) + merge_span p (p.candidates / 2) (p.candidates - p.candidates / 2))

pub circuit_parts : (p : Plan) → candidates_from p p.inputs 0 p.candidates ++ all_levels p ≡ circuit p
unfolding circuit
circuit_parts p = simp append_assoc

-- the length of the circuit: the candidates, and the levels
pub circuit_long : (p : Plan) → Planned p → 1 < p.candidates → length (circuit p) ≡ p.candidates * candidate_span p + all_levels_span p
circuit_long p f h = omega (arith, (circuit_block p f h).long)

-- the writer before the first gate of the own list
pub first_writer : (s : Shape) (p : Plan) (w : Writer) → p ≡ plan_of s → w
    ≡ record { gate = 0; wire = p.inputs; conditional = 0 } → w
    ≡ record { gate = 0; wire = ballot_bytes s; conditional = 0 }
unfolding plan_of
first_writer s p w ep ew = ew ∙ ap (λ (q : Plan). start q.inputs) ep
  where
    start : ℕ → Writer
    start n = record { gate = 0; wire = n; conditional = 0 }

pub first_room : (s : Shape) (w : Writer) (n : ℕ) → T (graded_limits s) → w
    ≡ record { gate = 0; wire = ballot_bytes s; conditional = 0 } → n ≤ 1048576 → Room w n
first_room s w n l e k =
    record {
      few = omega (arith, ap (λ (v : Writer). v.gate) e);
      small = omega (arith, ap (λ (v : Writer). v.wire) e, bytes_are s (within_T s l), bytes_bound s (within_T s l));
      counted = omega (arith, ap (λ (v : Writer). v.conditional) e);
    }

pub circuit_short : (s : Shape) (p : Plan) → T (graded_limits s) → p ≡ plan_of s → (s.candidates ≡ 1 → ⊥) → length (circuit p) ≤ 1048576
circuit_short s p l e h = omega (
  arith,
  ap (λ (gs : List Gate). length gs) (own_more s p e h),
  own_list_short s (within_back s (within_T s l)),
)

pub plan_planned : (s : Shape) (p : Plan) → T (graded_limits s) → p ≡ plan_of s → Planned p
plan_planned s p l e = subst Planned (sym e) (planned s (within_back s (within_T s l)))

pub plan_many : (s : Shape) (p : Plan) → T (graded_limits s) → p ≡ plan_of s → (s.candidates ≡ 1 → ⊥) → 1 < p.candidates
plan_many s p l e h = subst (λ (q : Plan). 1 < q.candidates) (sym e) (two s (within_T s l).k_least h)
  where
    two : (s : Shape) → 1 ≤ s.candidates → (s.candidates ≡ 1 → ⊥) → 1 < (plan_of s).candidates
    two s k h = unfold plan_of in (⊎_elim (λ (z : 1 < s.candidates). z)
        (λ (z : s.candidates ≤ 1). absurd (h (omega arith))) (below_or_not 1 s.candidates))

-- the first wire, and the others; one candidate, or more
pub both_step : (at stays i m : ℕ) → i < m → and_all (at + i) stays (m - i) ≡ (and_of (at + i) stays ∷ [])
    ++ and_all (at + (i + 1)) stays (m - (i + 1))
both_step at stays i m h =
    let e : m - i ≡ suc (m - (i + 1)) = omega arith in
    let p : at + i + 1 ≡ at + (i + 1) = omega arith in
    ap (and_all (at + i) stays) e ∙ first (m - (i + 1)) ∙ ap (λ (k : ℕ). and_of (at + i) stays ∷ and_all k stays (m - (i + 1))) p
  where
    first : (m : ℕ) → and_all (at + i) stays (suc m) ≡ and_of (at + i) stays ∷ and_all (at + i + 1) stays m
    first m = unfold and_all in refl

pub both_none : (at stays i m : ℕ) → m ≤ i → and_all at stays (m - i) ≡ []
unfolding and_all
both_none at stays i m h = let e : m - i ≡ 0 = omega arith in rw e

pub won_single : (at stays m : ℕ) → m ≡ 1 → copy_of stays ∷ [] ≡ keep_winners at stays m
unfolding keep_winners
won_single at stays m e = rw e

pub won_many : (at stays m : ℕ) → 1 < m → and_all at stays m ≡ keep_winners at stays m
won_many at stays zero h = absurd (omega arith)
won_many at stays (suc zero) h = absurd (omega arith)
won_many at stays (suc (suc m)) h = unfold keep_winners in refl

-- the next candidate, and those that are left
pub candidates_step : (p : Plan) (n c k : ℕ) → c < k → candidates_from p n c (k - c) ≡ candidate p n c
    ++ candidates_from p (n + candidate_span p) (c + 1) (k - (c + 1))
candidates_step p n c k h = let e : k - c ≡ suc (k - (c + 1)) = omega arith in ap (candidates_from p n c) e ∙ (unfold candidates_from in refl)

pub candidates_none : (p : Plan) (n c k : ℕ) → k ≤ c → candidates_from p n c (k - c) ≡ []
unfolding candidates_from
candidates_none p n c k h = let e : k - c ≡ 0 = omega arith in rw e

-- the places of a group's key and wires, from the end of its merges
module _ (p : Plan) (r n m : ℕ) where
  pub key_is : (c : ℕ) → best_key p (suc r) n c m ≡ cond (leb m 1) (key_at p c) (n + levels_span p (suc r) m - key_span p)
  key_is c = ⊎_elim
      (λ (l : 1 < m).
      let e : n + levels_span p r (m / 2) + levels_span p r (m - m / 2) + merge_span p (m / 2) (m - m / 2) ≡ n
      + levels_span p (suc r) m - key_span p = omega (arith, span_more p r m l) in
      key_more p r m n c l ∙ e ∙ sym (ap (λ (t : Bool). cond t (key_at p c) (n + levels_span p (suc r) m - key_span p)) (lt-leb m 1 l)))
      (λ (l : m ≤ 1). key_one p r m n c l
      ∙ sym (ap (λ (t : Bool). cond t (key_at p c) (n + levels_span p (suc r) m - key_span p)) (le-leb m 1 l)))
      (below_or_not 1 m)

  pub won_is : winner_flags p (suc r) n m ≡ cond (leb m 1) 0 (n + levels_span p (suc r) m - key_span p - m)
  won_is = ⊎_elim
      (λ (l : 1 < m).
      let e : won_at p (merge_at p r n m) ≡ n + levels_span p (suc r) m - key_span p - m = omega (arith, span_more p r m l) in
      won_more p r m n 0 l ∙ e ∙ sym (ap (λ (t : Bool). cond {A = ℕ} t 0 (n + levels_span p (suc r) m - key_span p - m)) (lt-leb m 1 l)))
      (λ (l : m ≤ 1). none l ∙ sym (ap (λ (t : Bool). cond {A = ℕ} t 0 (n + levels_span p (suc r) m - key_span p - m)) (le-leb m 1 l)))
      (below_or_not 1 m)
    where
      none : m ≤ 1 → winner_flags p (suc r) n m ≡ 0
      none l = unfold winner_flags in (rw (le-leb m 1 l))

-- two candidates have no merges before their own
pair_parts : (p : Plan) (n c : ℕ) → levels p 0 n c 1 ++ levels p 0 (other_at p 0 n 2) (c + 1) 1
    ++ halves_merge p 0 n c 2 ++ halves_better p 0 n c 2
    ≡ merge p (n + 0 + 0) (key_at p c) (key_at p (c + 1)) 0 0 1 1
    ++ choose (result_at p (n + 0 + 0) + 1) (key_at p c) (key_at p (c + 1)) (key_span p)
unfolding levels halves_merge halves_better best_key winner_flags levels_span better_key
pair_parts p n c = refl

pub pair_is : (p : Plan) (n c : ℕ) → levels p 1 n c 2
    ≡ merge p n (key_at p c) (key_at p (c + 1)) 0 0 1 1 ++ choose (result_at p n + 1) (key_at p c) (key_at p (c + 1)) (key_span p)
pair_is p n c =
    let e : n + 0 + 0 ≡ n = omega arith in
    levels_more p 0 2 n c (omega arith) ∙ pair_parts p n c
    ∙ ap (λ (k : ℕ). merge p k (key_at p c) (key_at p (c + 1)) 0 0 1 1
    ++ choose (result_at p k + 1) (key_at p c) (key_at p (c + 1)) (key_span p)) e

pub pair_span : (p : Plan) → levels_span p 1 2 ≡ merge_span p 1 1 + key_span p
pair_span p = span_more p 0 2 (omega arith) ∙ (unfold levels_span in (omega arith))

-- the place of a group's key, and of its wires, if its merges end just before wire `end`
abbrev key_by : Plan → ℕ → ℕ → ℕ → ℕ
key_by p c l end = cond (leb l 1) (key_at p c) (end - key_span p)

abbrev won_by : Plan → ℕ → ℕ → ℕ
won_by p l end = cond (leb l 1) 0 (end - key_span p - l)

pub merge_same : (p : Plan) (r n c m k mid end : ℕ) → k ≡ merge_at p (suc r) n m → mid ≡ other_at p (suc r) n m → end ≡ merge_at p (suc r) n m
    → merge p k (cond (leb (m / 2) 1) (key_at p c) (mid - key_span p)) (cond (leb (m - m / 2) 1) (key_at p (c + m / 2)) (end - key_span p))
    (cond (leb (m / 2) 1) 0 (mid - key_span p - m / 2)) (cond (leb (m - m / 2) 1) 0 (end - key_span p - (m - m / 2))) (m / 2) (m - m / 2)
    ≡ halves_merge p (suc r) n c m
unfolding halves_merge
merge_same p r n c m k mid end ek em ee =
    let l = m / 2 in
    let h = m - m / 2 in
    let o = other_at p (suc r) n m in
    let q = merge_at p (suc r) n m in
    ap (λ (i : ℕ). merge p i (key_by p c l mid) (key_by p (c + l) h end) (won_by p l mid) (won_by p h end) l h) ek
    ∙ ap (λ (i : ℕ). merge p q (key_by p c l i) (key_by p (c + l) h end) (won_by p l i) (won_by p h end) l h) em
    ∙ ap (λ (i : ℕ). merge p q (key_by p c l o) (key_by p (c + l) h i) (won_by p l o) (won_by p h i) l h) ee
    ∙ ap (λ (i : ℕ). merge p q i (key_by p (c + l) h q) (won_by p l o) (won_by p h q) l h) (sym (key_is p r n l c))
    ∙ ap (λ (i : ℕ). merge p q (best_key p (suc r) n c l) i (won_by p l o) (won_by p h q) l h) (sym (key_is p r o h (c + l)))
    ∙ ap (λ (i : ℕ). merge p q (best_key p (suc r) n c l) (best_key p (suc r) o (c + l) h) i (won_by p h q) l h) (sym (won_is p r n l))
    ∙ ap (λ (i : ℕ). merge p q (best_key p (suc r) n c l) (best_key p (suc r) o (c + l) h) (winner_flags p (suc r) n l)
    i l h) (sym (won_is p r o h))

pub better_same : (p : Plan) (r n c m q mid end : ℕ) → q ≡ result_at p (merge_at p (suc r) n m) + 1 → mid
    ≡ other_at p (suc r) n m → end ≡ merge_at p (suc r) n m
    → choose q (cond (leb (m / 2) 1) (key_at p c) (mid - key_span p))
    (cond (leb (m - m / 2) 1) (key_at p (c + m / 2)) (end - key_span p)) (key_span p)
    ≡ halves_better p (suc r) n c m
unfolding halves_better better_key
better_same p r n c m q mid end eq em ee =
    let l = m / 2 in
    let h = m - m / 2 in
    let o = other_at p (suc r) n m in
    let at = result_at p (merge_at p (suc r) n m) + 1 in
    ap (λ (i : ℕ). choose i (cond (leb l 1) (key_at p c) (mid - key_span p)) (key_by p (c + l) h end) (key_span p)) eq
    ∙ ap (λ (i : ℕ). choose at (cond (leb l 1) (key_at p c) (i - key_span p)) (key_by p (c + l) h end) (key_span p)) em
    ∙ ap (λ (i : ℕ). choose at (cond (leb l 1) (key_at p c) (o - key_span p)) (key_by p (c + l) h i) (key_span p)) ee
    ∙ ap (λ (i : ℕ). choose at i (key_by p (c + l) h (merge_at p (suc r) n m)) (key_span p)) (sym (key_is p r n l c))
    ∙ ap (λ (i : ℕ). choose at (best_key p (suc r) n c l) i (key_span p)) (sym (key_is p r o h (c + l)))

-- a choice by whether a number is at most 1
pub small_case : (m x y : ℕ) → m ≤ 1 → x ≡ cond (leb m 1) x y
small_case m x y h = sym (ap (λ (t : Bool). cond t x y) (le-leb m 1 h))

pub large_case : (m x y : ℕ) → 1 < m → y ≡ cond (leb m 1) x y
large_case m x y h = sym (ap (λ (t : Bool). cond t x y) (lt-leb m 1 h))

pub length_both : (at stays m : ℕ) → length (and_all at stays m) ≡ m
unfolding and_all
length_both at stays zero = refl
length_both at stays (suc m) = ap suc (length_both (at + 1) stays m)

-- the place of a candidate's key, from the end of its circuit
pub key_from : (p : Plan) (c span : ℕ) → span ≡ candidate_span p → p.inputs + (c + 1) * span ≡ key_at p c + key_span p
key_from p c span e =
    omega (
      arith,
      ap (λ (k : ℕ). (c + 1) * k) e,
      ap (λ (k : ℕ). k * candidate_span p) (add-one c),
      suc-mul c (candidate_span p),
      key_of_lem p (p.inputs + c * candidate_span p),
    )

-- the merges of two or more candidates end with their wires and their key
pub span_least : (p : Plan) (r m : ℕ) → 1 < m → m + key_span p ≤ levels_span p (suc r) m
span_least p r m h = omega (arith, span_more p r m h)

module _ (p : Plan) (f : Planned p) where
  pub key_below : (c l end n : ℕ) → c < p.candidates → levels_at p ≤ n → end ≤ n → (1 < l → key_span p ≤ end)
      → cond (leb l 1) (key_at p c) (end - key_span p) + key_span p ≤ n
  key_below c l end n hc h he k = ⊎_elim
      (λ (z : 1 < l). let q = k z in omega (arith, large_case l (key_at p c) (end - key_span p) z))
      (λ (z : l ≤ 1). omega (arith, small_case l (key_at p c) (end - key_span p) z, key_before p f c hc))
      (below_or_not 1 l)

  pub won_below : (l end n : ℕ) → end ≤ n → (1 < l → l + key_span p ≤ end) → 1 < l → cond (leb l 1) 0 (end - key_span p - l) + l ≤ n
  won_below l end n he k z = let q = k z in omega (arith, large_case l 0 (end - key_span p - l) z)

-- the span of one candidate is the span of all, divided by their number
pub divided : (wire inputs k span : ℕ) → 0 < k → wire ≡ inputs + k * span → (wire - inputs) / k ≡ span
divided wire inputs k span h e =
    let whole : wire - inputs ≡ span * k = omega (arith, mul_comm k span) in
    ap (λ (x : ℕ). x / k) whole ∙ mul-div_cancel span h
