-- The circuit of a plan is well-formed, and its last wires say who is as good as the best candidate.
-- Assumes nothing.
use mathlib.Core.Path.{◌≡◌, refl, sym, subst}
use Prim.Native.Nat.{ℕ, suc, ◌+◌, ◌-◌, ◌*◌, ◌/◌, ◌<◌}
use native.Mathlib.Nat.{zero-add}
use native.Mathlib.Omega.{arith}
use lib.ListN.{length}
use Rattle.basics.specs.Lists.{sum, tabulate}
use Rattle.gates.proofs.Laws.{Holds}
use Rattle.gate_words.specs.Word.{ones_at}
use Rattle.gate_words.proofs.Numbers.{Binary}
use Rattle.graded_circuit.specs.declared.plan.Plan.{Plan}
use Rattle.graded_circuit.specs.Plan.{Planned, bits_at, ballot_stride}
use Rattle.graded_circuit.specs.Key.{candidate_span}
use Rattle.graded_circuit.specs.Contest.{result_at}
use Rattle.graded_circuit.specs.Merge.{merge_span, won_at}
use Rattle.graded_circuit.specs.OwnList.{candidates_from, key_at, levels_span, other_at, merge_at, halves_merge, best_key, winner_flags, levels, low_levels, levels_at, circuit}
use Rattle.graded_circuit.proofs.Blocks.{Block, both_block}
use Rattle.graded_circuit.proofs.Cutting.{cut4}
use Rattle.graded_circuit.proofs.SumLaws.{Sums, Spells, candidate_law}
use Rattle.graded_circuit.proofs.MergeLaws.{Rule, Standing, Group, Joined}
use Rattle.graded_circuit.proofs.LevelsLaws.{candidates_block, levels_block, halves_merge_block, each_candidate, levels_law, halves_law}

module _ (p : Plan) (f : Planned p) (two : 1 < p.candidates) where
  abbrev pub circuit_span : ℕ
  circuit_span =
      p.candidates * candidate_span p + levels_span p low_levels (p.candidates / 2)
      + levels_span p low_levels (p.candidates - p.candidates / 2)
      + merge_span p (p.candidates / 2) (p.candidates - p.candidates / 2)

  pub circuit_block : Block p.inputs (circuit p) circuit_span
  unfolding circuit
  circuit_block =
      let k = p.candidates in
      let most = f.k_most in
      both_block (both_block (both_block (candidates_block p f p.inputs 0 k (omega arith) (omega arith)) refl
      (levels_block p f low_levels (levels_at p) 0 (k / 2) (omega arith) (omega arith) (omega arith) (omega arith))) (omega arith)
      (levels_block p f low_levels (other_at p low_levels (levels_at p) k) (k / 2) (k - k / 2) (omega arith)
      (omega arith) (omega arith) (omega arith))) (omega arith)
      (halves_merge_block p f low_levels (levels_at p) 0 k (omega arith) two (omega arith) (omega arith))

  -- the first of the last k wires
  pub won_from : ℕ
  won_from = won_at p (merge_at p low_levels (levels_at p) p.candidates)

  pub won_end : won_from + p.candidates ≡ p.inputs + length (circuit p)
  unfolding won_from
  won_end = omega (arith, circuit_block.long)

  module _ (W : ℕ → ℕ) (b : Binary W) (h : Holds W p.inputs (circuit p)) (S : ℕ → ℕ → ℕ)
      (Before : ℕ → ℕ → Type 0) (rule : Rule p.ballots (p.grades - 1) p.candidates S Before)
      (medians : ℕ → ℕ) (sums : (i : ℕ) → i < p.candidates → Sums p.ballots p.grades (S i) (medians i))
      (none_before : (c : ℕ) → c < p.candidates → ones_at W (bits_at p c 0) (ballot_stride p) p.ballots ≡ S c 0)
      (one_more : (c g : ℕ) → c < p.candidates → suc g < p.grades → S c g
      + ones_at W (bits_at p c (suc g)) (ballot_stride p) p.ballots ≡ S c (suc g))
      (single : (c i : ℕ) → c < p.candidates → i < p.ballots → sum (tabulate p.grades (λ g. W (bits_at p c g + i * ballot_stride p))) ≡ 1) where
    -- the parts of the circuit
    parts : Holds W p.inputs (candidates_from p p.inputs 0 p.candidates)
        × Holds W (levels_at p) (levels p low_levels (levels_at p) 0 (p.candidates / 2))
        × Holds W (other_at p low_levels (levels_at p) p.candidates)
        (levels p low_levels (other_at p low_levels (levels_at p) p.candidates) (p.candidates / 2)
        (p.candidates - p.candidates / 2))
        × Holds W (merge_at p low_levels (levels_at p) p.candidates) (halves_merge p low_levels (levels_at p) 0 p.candidates)
    unfolding circuit
    parts =
        let k = p.candidates in
        let most = f.k_most in
        let n = levels_at p in
        let other = other_at p low_levels n k in
        cut4 W p.inputs (candidates_from p p.inputs 0 k) (levels p low_levels n 0 (k / 2))
        (levels p low_levels other (k / 2) (k - k / 2)) (halves_merge p low_levels n 0 k) n other (merge_at p low_levels n k)
        (omega (arith, (candidates_block p f p.inputs 0 k (omega arith) (omega arith)).long))
        (omega (arith, (levels_block p f low_levels n 0 (k / 2) (omega arith) (omega arith) (omega arith) (omega arith)).long))
        (omega (
          arith,
          (levels_block p f low_levels other (k / 2) (k - k / 2) (omega arith) (omega arith)
              (omega arith) (omega arith)).long,
        )) h

    keys : (c : ℕ) → c < p.candidates → Spells W b p f (key_at p c) (S c)
    keys c l = candidate_law W b p f (S c) (medians c) (sums c l) c l (none_before c l) (λ g m. one_more c g l m)
        (λ i m. single c i l m) (p.inputs + c * candidate_span p) (omega arith) (each_candidate p f W parts.0 c l)

    -- how each candidate compares with the best one
    pub record Final : Type 0 where
      pub best : ℕ
      pub inside : best < p.candidates
      pub standing : (i : ℕ) → i < p.candidates → Standing p f S Before rule (W (won_from + i)) i best

    final : (q x y : ℕ) → Joined p f S Before rule W b 0 (p.candidates / 2) (p.candidates - p.candidates / 2) q x y won_from → Final
    final q x y j =
        record {
          best = j.best;
          inside = omega (arith, j.most);
          standing = λ i l. subst (λ (c : ℕ). Standing p f S Before rule (W (won_from + i)) c j.best) (zero-add i)
              (j.standing i (omega arith));
        }

    pub circuit_law : Final
    unfolding won_from
    circuit_law =
        let k = p.candidates in
        let most = f.k_most in
        let n = levels_at p in
        let other = other_at p low_levels n k in
        let one = levels_law p f S Before rule W b medians sums keys low_levels n 0 (k / 2) (omega arith)
        (omega arith) (omega arith) (omega arith) parts.1 in
        let two' = levels_law p f S Before rule W b medians sums keys low_levels other (k / 2) (k - k / 2)
        (omega arith) (omega arith) (omega arith) (omega arith) parts.2 in
        let x = best_key p low_levels n 0 (k / 2) in
        let y = best_key p low_levels other (0 + k / 2) (k - k / 2) in
        final (result_at p (merge_at p low_levels n k)) x y
        (halves_law p f S Before rule W b medians sums keys low_levels n 0 k (omega arith) two (omega arith) (omega arith) one
        (subst (λ (c : ℕ). Group p f S Before rule W b c (k - k / 2) (best_key p low_levels other c (k - k / 2))
        (winner_flags p low_levels other (k - k / 2))) (sym (zero-add (k / 2))) two')
        parts.3)
