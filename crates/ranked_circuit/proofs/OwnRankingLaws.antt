-- What holds for the own list of a ranking shape: the test accepts it, it is within its bound, and its closing bytes
-- are those of Schulze's rule.
-- Assumes nothing.
use mathlib.Core.Path.{◌≡◌, ◌∙◌, sym, ap, subst}
use mathlib.Core.Bool.{Bool, true, cond}
use mathlib.Core.Logic.{◌≢◌}
use mathlib.Core.List.{List, [], ◌∷◌}
use Prim.Native.Nat.{ℕ, zero, suc, ◌+◌, ◌-◌, ◌*◌, ◌^◌, ◌≤◌, ◌<◌}
use native.Mathlib.Omega.{arith}
use lib.ListN.{length, get_or}
use lib.Seq.{ext_get_or}
use Rattle.gates.specs.Gate.{Gate}
use Rattle.gates.specs.Wires.{wire, wires_of, outputs_of}
use Rattle.gates.proofs.Laws.{AllGood, Holds, wires_hold, wires_bits, wire_bit, wires_start, output_is, length_outputs}
use Rattle.gates.proofs.WireLaws.{length_wires}
use Rattle.gates.proofs.Accepting.{good_list_accepted}
use Rattle.gate_words.specs.Gates.{constant}
use Rattle.gate_words.specs.Word.{ones_at}
use Rattle.gate_words.specs.Counter.{Countable}
use Rattle.gate_words.proofs.Laws.{Binary, countable}
use Rattle.gate_words.proofs.PointsBack.{good_constant}
use Rattle.gate_words.proofs.GateValues.{constant_is, holds_first}
use Rattle.jury.specs.Width.{width_of}
use Rattle.basics.proofs.Tabulate.{length_tabulate, get_d_tabulate}
use Rattle.jury.proofs.WidthLaws.{width_half, below_width, least_width, width_most}
use Rattle.rule_schulze.specs.Schulze.{wins, schulze_of}
use Rattle.rule_schulze.specs.Votes.{votes}
use Rattle.rule_schulze.proofs.Winning.{unbeaten_wins}
use Rattle.ranked_circuit.specs.RankedList.{ranked_list}
use Rattle.ranked_circuit.specs.OwnRanking.{own_ranking, ranking_bound, OwnRankingHolds}
use Rattle.ranked_circuit.proofs.Columns.{column}
use Rattle.ranked_circuit.proofs.Accuracy.{outputs_from, list_end, inputs_before, circuit_good, closing_law}
use Rattle.ranked_circuit.proofs.SizeLaws.{gates_most, bound_small}

-- n ballots can be counted in words that are as wide as n
pub ranking_countable : (n : ℕ) → 0 < n → Countable n 0 (width_of n - 1)
ranking_countable n h =
    let low = least_width n h in
    let top : width_of n ≡ suc (width_of n - 1) = omega (arith, width_half n h) in
    let high : n < 2 ^ suc (width_of n - 1) = subst (λ (k : ℕ). n < 2 ^ k) top (below_width n) in
    countable n 0 (width_of n - 1) (omega arith) (omega arith) (omega arith)

-- the outputs are the closing bytes if each of the last k wires is
closing_from : (k n : ℕ) (xs : List ℕ) (gs : List Gate) → k ≤ length gs
    → ((i : ℕ) → i < k → wire (wires_of xs gs) (length xs + length gs - k + i) ≡ cond (wins (votes k n xs) k i) 1 0)
    → outputs_of k (wires_of xs gs) ≡ schulze_of (votes k n xs) k
unfolding schulze_of
closing_from k n xs gs enough h =
    let bytes = length_tabulate k (λ i. cond {A = ℕ} (wins (votes k n xs) k i) 1 0) in
    let long : length (outputs_of k (wires_of xs gs)) ≡ k = length_outputs k (wires_of xs gs) (omega (arith, length_wires xs gs)) in
    ext_get_or 0 (outputs_of k (wires_of xs gs)) _ (long ∙ sym bytes)
    (λ i l.
    let low : i < k = omega (arith, long) in
    output_is k (wires_of xs gs) i ∙ ap (λ (a : ℕ). wire (wires_of xs gs) (a - k + i)) (length_wires xs gs) ∙ h i low
    ∙ sym (get_d_tabulate k i (λ j. cond {A = ℕ} (wins (votes k n xs) k j) 1 0) 0 low))

bits_of : (xs : List ℕ) (gs : List Gate) → ((p : ℕ) → get_or xs p 0 ≤ 1) → AllGood (length xs) gs → Binary (wire (wires_of xs gs))
bits_of xs gs bits good = wire_bit (wires_of xs gs) (wires_bits xs gs good bits)

-- a single candidate wins
single : (n : ℕ) (xs : List ℕ) → ((p : ℕ) → get_or xs p 0 ≤ 1) → outputs_of 1 (wires_of xs (constant 1 ∷ [])) ≡ schulze_of (votes 1 n xs) 1
single n xs bits =
    let gs = constant 1 ∷ [] in
    let good : AllGood (length xs) gs = (good_constant (length xs) 1, tt) in
    let w = holds_first (wire (wires_of xs gs)) (length xs) (constant 1) [] (wires_hold xs gs good)
    ∙ constant_is (wire (wires_of xs gs)) (bits_of xs gs bits good) 1 in
    closing_from 1 n xs gs (omega arith)
    (λ i h.
    let at : length xs + 1 - 1 + i ≡ length xs = omega arith in
    let alone : wins (votes 1 n xs) 1 i ≡ true = unbeaten_wins (votes 1 n xs) 1 i (λ j hj ne. absurd (ne (omega arith))) in
    ap (wire (wires_of xs gs)) at ∙ w ∙ sym (ap (λ (c : Bool). cond {A = ℕ} c 1 0) alone))

outputs_in : (m n w : ℕ) → suc (suc m) ≤ length (ranked_list (suc (suc m)) n w)
outputs_in m n w = omega (arith, list_end m n w, inputs_before m n w)

-- two candidates or more
several : (m n w : ℕ) (xs : List ℕ) → Countable n 0 w → length xs ≡ n * suc (suc m) * suc (suc m) → ((p : ℕ) → get_or xs p 0 ≤ 1) →
    outputs_of (suc (suc m)) (wires_of xs (ranked_list (suc (suc m)) n w)) ≡ schulze_of (votes (suc (suc m)) n xs) (suc (suc m))
several m n w xs count size bits =
    let k = suc (suc m) in
    let gs = ranked_list (suc (suc m)) n w in
    let good : AllGood (length xs) gs = subst (λ (l : ℕ). AllGood l gs) (sym size) (circuit_good m n w count) in
    let W = wire (wires_of xs gs) in
    let holds : Holds W (n * k * k) gs = subst (λ (l : ℕ). Holds W l gs) size (wires_hold xs gs good) in
    let counted : (i j : ℕ) → i < k → j < k → i ≢ j → ones_at W (i * k + j) (k * k) n ≡ votes k n xs i j =
    λ i j hi hj ne. column W xs k n i j hi hj bits (λ p l. wires_start xs gs p (omega arith)) in
    let end = list_end m n w in
    closing_from k n xs gs (outputs_in m n w)
    (λ i h.
    let at : length xs + length gs - k + i ≡ outputs_from m n w + i = omega arith in
    ap W at ∙ closing_law m n w W (bits_of xs gs bits good) (votes k n xs) count counted holds i h)

single_holds : (n : ℕ) → OwnRankingHolds 1 n
unfolding own_ranking ranked_list ranking_bound
single_holds n =
    record {
      passes = good_list_accepted (n * 1 * 1) 1 (constant 1 ∷ []) (good_constant (n * 1 * 1) 1, tt) (omega arith) (omega arith);
      bounded = omega arith;
      closing = λ xs size bits. single n xs bits;
    }

several_holds : (m n : ℕ) → suc (suc m) ≤ 8 → 1 ≤ n → n ≤ 255 → OwnRankingHolds (suc (suc m)) n
unfolding own_ranking
several_holds m n hk ln hn =
    let k = suc (suc m) in
    let w = width_of n - 1 in
    let count = ranking_countable n ln in
    let top : suc w ≡ width_of n = omega (arith, width_half n ln) in
    let few : length (ranked_list (suc (suc m)) n w) ≤ ranking_bound k n (width_of n) =
    subst (λ (v : ℕ). length (ranked_list (suc (suc m)) n w) ≤ ranking_bound k n v) top
    (gates_most n w ln m (omega arith)) in
    record {
      passes = good_list_accepted (n * k * k) k (ranked_list (suc (suc m)) n w) (circuit_good m n w count)
          (outputs_in m n w) (omega (arith, few, bound_small k n (width_of n) hk hn (width_most n hn)));
      bounded = few;
      closing = λ xs size bits. several m n w xs count size bits;
    }

-- for all k from 1 to 8 and n from 1 to 255
pub own_ranking_holds : (k n : ℕ) → 1 ≤ k → k ≤ 8 → 1 ≤ n → n ≤ 255 → OwnRankingHolds k n
own_ranking_holds zero n lk hk ln hn = absurd (omega arith)
own_ranking_holds (suc zero) n lk hk ln hn = single_holds n
own_ranking_holds (suc (suc m)) n lk hk ln hn = several_holds m n hk ln hn
