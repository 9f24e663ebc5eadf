-- Demand 2: the closing bytes of the own list are those of full majority judgment.
-- Assumes nothing.
use mathlib.Core.Path.{◌≡◌, ◌∙◌, sym, ap, subst}
use mathlib.Core.Bool.{Bool, true, false, cond}
use mathlib.Core.Logic.{◌⊎◌, inl, inr, ⊎_elim}
use mathlib.Core.List.{List, [], ◌∷◌}
use Prim.Native.Nat.{ℕ, suc, ◌+◌, ◌-◌, ◌*◌, ◌≤◌, ◌<◌}
use native.Mathlib.Omega.{arith}
use lib.ListN.{length, get_or}
use lib.Seq.{ext_get_or}
use borrow.Author.Tests.{eq-eqb, ne_eqb}
use Rattle.gates.specs.Gate.{Gate}
use Rattle.gates.specs.Wires.{wire, wires_of, outputs_of}
use Rattle.gates.proofs.Laws.{AllGood, Holds, wires_hold, wires_bits, wire_bit, output_is, length_outputs}
use Rattle.gates.proofs.WireLaws.{length_wires}
use Rattle.jury.specs.declared.shape.Shape.{Shape}
use Rattle.jury.specs.Shape.{graded_limits, ballot_bytes}
use Rattle.jury.specs.Counts.{counts_of, count_of}
use Rattle.rule_judgment.specs.Median.{median_of}
use Rattle.jury.specs.Accepted.{GradedBallots}
use Rattle.basics.specs.Lists.{sum, tabulate}
use Rattle.basics.proofs.Cases.{below_or_not}
use Rattle.jury.proofs.Limits.{within}
use Rattle.basics.proofs.Tabulate.{length_tabulate}
use Rattle.jury.proofs.CountFacts.{counts_length, counts_row, counts_at, counts_sum}
use Rattle.rule_judgment.proofs.RunningSums.{running_start, running_next}
use Rattle.rule_judgment.specs.Judgment.{sequence_of, precedes, judgment_of}
use Rattle.rule_judgment.proofs.Statements.{Precedes}
use Rattle.rule_judgment.proofs.Order.{precedes_self, precedes_one_way}
use Rattle.rule_judgment.proofs.Winners.{Unpreceded, judgment_length, byte_one, byte_zero}
use Rattle.gate_words.specs.Gates.{constant}
use Rattle.gate_words.specs.Word.{ones_at}
use Rattle.gate_words.proofs.Numbers.{Binary}
use Rattle.gate_words.proofs.PointsBack.{good_constant}
use Rattle.gate_words.proofs.GateValues.{constant_is, holds_first}
use Rattle.graded_circuit.specs.declared.plan.Plan.{Plan}
use Rattle.graded_circuit.specs.Plan.{plan_of, Planned, bits_at, ballot_stride}
use Rattle.graded_circuit.specs.OwnList.{circuit, own_grading}
use Rattle.graded_circuit.proofs.Planning.{planned}
use Rattle.graded_circuit.proofs.SumLaws.{Sums}
use Rattle.graded_circuit.proofs.MergeLaws.{Same, Rule}
use Rattle.graded_circuit.proofs.CircuitLaws.{circuit_block, won_from, won_end, Final, circuit_law}
use Rattle.graded_circuit.proofs.RuleLaws.{Row, up_to, row_sums, same_sequence, judgment_rule}
use Rattle.graded_circuit.proofs.Columns.{column, one_grade}
use Rattle.basics.proofs.Flags.{never_true}

-- the wires of the circuit, for candidates with these rows of counts
module _ (W : ℕ → ℕ) (b : Binary W) (p : Plan) (f : Planned p) (two : 1 < p.candidates) (h : Holds W p.inputs (circuit p))
    (rows : List (List ℕ)) (long : length rows ≡ p.candidates)
    (row_is : (c : ℕ) → c < p.candidates → Row p.ballots p.grades (get_or rows c []))
    (counted : (c g : ℕ) → c < p.candidates → g < p.grades → ones_at W (bits_at p c g) (ballot_stride p) p.ballots ≡ get_or (get_or rows c []) g 0)
    (single : (c i : ℕ) → c < p.candidates → i < p.ballots → sum (tabulate p.grades (λ g. W (bits_at p c g + i * ballot_stride p))) ≡ 1) where
  some : 0 < p.grades
  some = omega (arith, f.d_least)

  -- the best candidate, and how each candidate compares with it
  pub record Judged : Type 0 where
    pub best : ℕ
    pub inside : best < p.candidates
    pub as_good : (i : ℕ) → i < p.candidates
        → ((W (won_from p f two + i) ≡ 1) × (sequence_of (get_or rows i []) ≡ sequence_of (get_or rows best []))) ⊎
        ((W (won_from p f two + i) ≡ 0) × Precedes (get_or rows best []) (get_or rows i []))

  rule : Rule p.ballots (p.grades - 1) p.candidates (λ c. up_to (get_or rows c [])) (λ i j. Precedes (get_or rows i []) (get_or rows j []))
  rule = judgment_rule p.ballots p.grades p.candidates some (λ c. get_or rows c []) row_is

  sums : (c : ℕ) → c < p.candidates → Sums p.ballots p.grades (up_to (get_or rows c [])) (median_of (get_or rows c []))
  sums c l = row_sums p.ballots p.grades (get_or rows c []) some (row_is c l)

  -- the number of ones among a grade's bits is what the grade adds to the sum
  first_count : (c : ℕ) → c < p.candidates → ones_at W (bits_at p c 0) (ballot_stride p) p.ballots ≡ up_to (get_or rows c []) 0
  first_count c l = omega (arith, counted c 0 l some, running_next (get_or rows c []) 0, running_start (get_or rows c []))

  next_count : (c g : ℕ) → c < p.candidates → suc g < p.grades → up_to (get_or rows c []) g
      + ones_at W (bits_at p c (suc g)) (ballot_stride p) p.ballots ≡ up_to (get_or rows c []) (suc g)
  next_count c g l m = omega (arith, counted c (suc g) l m, running_next (get_or rows c []) (suc g))

  judged_by : Final p f two W b h (λ c. up_to (get_or rows c [])) (λ i j. Precedes (get_or rows i []) (get_or rows j []))
      rule (λ c. median_of (get_or rows c [])) sums first_count next_count single → Judged
  judged_by final =
      record {
        best = final.best;
        inside = final.inside;
        as_good = λ i l. ⊎_elim
            (λ (z : (W (won_from p f two + i) ≡ 1) × Same (p.grades - 1) (λ c. up_to (get_or rows c [])) i final.best).
            inl (
              z.0,
              same_sequence p.ballots p.grades p.candidates some (λ c. get_or rows c []) row_is i
                  final.best l final.inside z.1,
            ))
            (λ (z : (W (won_from p f two + i) ≡ 0) × Precedes (get_or rows final.best []) (get_or rows i [])). inr z)
            (final.standing i l);
      }

  judged : Judged
  judged = judged_by (circuit_law p f two W b h (λ c. up_to (get_or rows c []))
      (λ i j. Precedes (get_or rows i []) (get_or rows j [])) rule (λ c. median_of (get_or rows c [])) sums first_count
      next_count single)

  -- no sequence precedes the best candidate's
  unpreceded : (j : Judged) (c : ℕ) → c < p.candidates
      → precedes (sequence_of (get_or rows c [])) (sequence_of (get_or rows j.best [])) ≡ false
  unpreceded j c l = ⊎_elim
      (λ (z : (W (won_from p f two + c) ≡ 1) × (sequence_of (get_or rows c []) ≡ sequence_of (get_or rows j.best []))).
      never_true (precedes (sequence_of (get_or rows c [])) (sequence_of (get_or rows j.best [])))
      (λ e. precedes_self (sequence_of (get_or rows j.best []))
      (subst (λ (q : List ℕ). precedes q (sequence_of (get_or rows j.best [])) ≡ true) z.1 e)))
      (λ (z : (W (won_from p f two + c) ≡ 0) × Precedes (get_or rows j.best []) (get_or rows c [])). precedes_one_way
      (sequence_of (get_or rows j.best [])) (sequence_of (get_or rows c [])) z.1)
      (j.as_good c l)

  -- the last k wires are the closing bytes
  pub closing_wires : (i : ℕ) → i < p.candidates → W (won_from p f two + i) ≡ get_or (judgment_of rows) i 0
  closing_wires i l =
      let j = judged in
      ⊎_elim
      (λ (z : (W (won_from p f two + i) ≡ 1) × (sequence_of (get_or rows i []) ≡ sequence_of (get_or rows j.best []))).
      z.0 ∙ sym (byte_one rows i (omega arith)
      (λ c m. subst (λ (q : List ℕ). precedes (sequence_of (get_or rows c [])) q ≡ false) (sym z.1)
      (unpreceded j c (omega arith)))))
      (λ (z : (W (won_from p f two + i) ≡ 0) × Precedes (get_or rows j.best []) (get_or rows i [])).
      z.0 ∙ sym (byte_zero rows i (omega arith) j.best (omega (arith, j.inside)) z.1))
      (j.as_good i l)

-- the own list of a single candidate, and of two or more
pub own_single : (s : Shape) → s.candidates ≡ 1 → own_grading s ≡ constant 1 ∷ []
unfolding own_grading
own_single s e = ap (λ (t : Bool). cond t (constant 1 ∷ []) (circuit (plan_of s))) (eq-eqb s.candidates 1 e)

own_circuit : (s : Shape) → 1 < s.candidates → own_grading s ≡ circuit (plan_of s)
unfolding own_grading
own_circuit s h = ap (λ (t : Bool). cond t (constant 1 ∷ []) (circuit (plan_of s))) (ne_eqb s.candidates 1 (λ e. omega arith))

-- the own list is well-formed, and has a gate for each closing byte
pub record Own (s : Shape) : Type 0 where
  pub good : AllGood (ballot_bytes s) (own_grading s)
  pub enough : s.candidates ≤ length (own_grading s)

enough_gates : (p : Plan) (f : Planned p) → 1 < p.candidates → p.candidates ≤ length (circuit p)
enough_gates p f two = omega (arith, (circuit_block p f two).long)

pub own : (s : Shape) → graded_limits s ≡ true → Own s
unfolding plan_of
own s e = ⊎_elim many one (below_or_not 1 s.candidates)
  where
    one : s.candidates ≤ 1 → Own s
    one l =
        let only : s.candidates ≡ 1 = omega (arith, (within s e).k_least) in
        record {
          good = rw (own_single s only) ((good_constant (ballot_bytes s) 1, tt));
          enough =
              omega (arith, ap length (own_single s only));
        }

    many : 1 < s.candidates → Own s
    many l =
        let block = circuit_block (plan_of s) (planned s e) l in
        record {
          good = rw (own_circuit s l) block.good;
          enough =
              omega (arith, ap length (own_circuit s l), enough_gates (plan_of s) (planned s e) l);
        }

-- the last wires are the closing bytes if each of them is
closing_from : (s : Shape) (xs : List ℕ) (gs : List Gate) → s.candidates ≤ length gs
    → ((i : ℕ) → i < s.candidates → wire (wires_of xs gs) (length xs + length gs - s.candidates + i)
    ≡ get_or (judgment_of (counts_of s xs)) i 0)
    → outputs_of s.candidates (wires_of xs gs) ≡ judgment_of (counts_of s xs)
closing_from s xs gs enough h =
    let k = s.candidates in
    let long : length (outputs_of k (wires_of xs gs)) ≡ k = length_outputs k (wires_of xs gs) (omega (arith, length_wires xs gs)) in
    ext_get_or 0 (outputs_of k (wires_of xs gs)) (judgment_of (counts_of s xs))
    (omega (arith, judgment_length (counts_of s xs), counts_length s xs))
    (λ i l. output_is k (wires_of xs gs) i ∙ ap (λ (n : ℕ). wire (wires_of xs gs) (n - k + i)) (length_wires xs gs) ∙ h i (omega arith))

-- Demand 2, about the definitions: for every shape within its limits and all accepted ballots, the last k wires of the
-- own list are the closing bytes of full majority judgment.
pub own_list_is_accurate : (s : Shape) (xs : List ℕ) → GradedBallots s xs
    → outputs_of s.candidates (wires_of xs (own_grading s)) ≡ judgment_of (counts_of s xs)
unfolding plan_of
own_list_is_accurate s xs a = ⊎_elim many one (below_or_not 1 s.candidates)
  where
    bits_of : (gs : List Gate) → AllGood (length xs) gs → Binary (wire (wires_of xs gs))
    bits_of gs good = wire_bit (wires_of xs gs) (wires_bits xs gs good a.bits)

    -- the only candidate's sequence is preceded by none
    only : s.candidates ≡ 1 → Unpreceded (counts_of s xs) 0
    only k j l =
        let e : j ≡ 0 = omega (arith, counts_length s xs) in
        let q = sequence_of (get_or (counts_of s xs) 0 []) in
        ap (λ (i : ℕ). precedes (sequence_of (get_or (counts_of s xs) i [])) q) e ∙ never_true (precedes q q) (precedes_self q)

    one : s.candidates ≤ 1 → outputs_of s.candidates (wires_of xs (own_grading s)) ≡ judgment_of (counts_of s xs)
    one l =
        let k : s.candidates ≡ 1 = omega (arith, (within s a.within).k_least) in
        let gs = constant 1 ∷ [] in
        let good : AllGood (length xs) gs = (good_constant (length xs) 1, tt) in
        let w = holds_first (wire (wires_of xs gs)) (length xs) (constant 1) [] (wires_hold xs gs good)
        ∙ constant_is (wire (wires_of xs gs)) (bits_of gs good) 1 in
        ap (λ (l : List Gate). outputs_of s.candidates (wires_of xs l)) (own_single s k)
        ∙ closing_from s xs gs (omega arith)
        (λ i h. let at : length xs + 1 - s.candidates + i ≡ length xs = omega arith in
        let e : 0 ≡ i = omega arith in
        ap (wire (wires_of xs gs)) at ∙ w
        ∙ sym (byte_one (counts_of s xs) 0 (omega (arith, counts_length s xs)) (only k))
        ∙ ap (λ (j : ℕ). get_or (judgment_of (counts_of s xs)) j 0) e)

    many : 1 < s.candidates → outputs_of s.candidates (wires_of xs (own_grading s)) ≡ judgment_of (counts_of s xs)
    many l =
        let p = plan_of s in
        let f = planned s a.within in
        let gs = circuit p in
        let good = subst (λ (n : ℕ). AllGood n gs) (sym a.size) (circuit_block p f l).good in
        let W = wire (wires_of xs gs) in
        let holds = subst (λ (n : ℕ). Holds W n gs) a.size (wires_hold xs gs good) in
        let row_is : (c : ℕ) → c < s.candidates → Row s.ballots s.grades (get_or (counts_of s xs) c []) =
        λ c h. record {
          long = ap length (counts_row s xs c h) ∙ length_tabulate s.grades (count_of s xs c);
          total = counts_sum s xs a c h;
        } in
        let counted : (c g : ℕ) → c < s.candidates → g < s.grades → ones_at W (bits_at p c g) (ballot_stride p) p.ballots
        ≡ get_or (get_or (counts_of s xs) c []) g 0 = λ c g hc hg. column s xs gs a c g hc hg
        ∙ sym (counts_at s xs c g hc hg) in
        ap (λ (l : List Gate). outputs_of s.candidates (wires_of xs l)) (own_circuit s l)
        ∙ closing_from s xs gs (enough_gates p f l)
        (λ i h.
        let at : length xs + length gs - s.candidates + i ≡ won_from p f l + i = omega (arith, won_end p f l, a.size) in
        ap W at ∙ closing_wires W (bits_of gs good) p f l holds (counts_of s xs) (counts_length s xs) row_is counted
        (one_grade s xs gs a) i h)
