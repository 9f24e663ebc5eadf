-- The number of gates of a ranked tasting's own list, and its bound.
-- Assumes nothing.
use mathlib.Core.Path.{◌≡◌, refl}
use Prim.Native.Nat.{ℕ, zero, suc, ◌+◌, ◌*◌, ◌/◌, ◌≤◌, ◌<◌}
use native.Mathlib.Nat.{mul-le-mul}
use native.Mathlib.Omega.{arith}
use lib.ListN.{length, length-append}
use Rattle.gate_words.specs.Counter.{count_size}
use Rattle.gate_words.proofs.CounterSteps.{count_size_most, levels_product}
use Rattle.gate_words.proofs.Laws.{length_counter, length_masked}
use Rattle.ranked_circuit.specs.Blocks.{smaller, larger, larger_if}
use Rattle.ranked_circuit.specs.RankedList.{ranked_list}
use Rattle.ranked_circuit.specs.OwnRanking.{ranking_bound}
use Rattle.ranked_circuit.proofs.BlockLaws.{length_whole, length_smaller, length_larger, length_larger_if}
use Rattle.ranked_circuit.proofs.ContestLaws.{length_meeting}
use Rattle.ranked_circuit.proofs.Figures.{Each, more_of, figure_is, pair_figure_is}

counter_most : (n w : ℕ) → 0 < n → count_size n 0 w + suc w ≤ 2 * (n * suc w) + 3 * suc w
counter_most n w h = omega (arith, count_size_most n 0 w n (omega arith) h, levels_product w n)

-- the number of gates of each block
sizes : (n w : ℕ) → Each length n w (count_size n 0 w + suc w) (3 + 3 * w) (suc w) (6 * w + 3) (6 * w + 2) (10 * w + 14) 1 1
sizes n w =
    record {
      counters = λ at from step. omega (arith, length_counter at from step n 0 w);
      compares = λ at a b. length_whole at a b w;
      strengths = λ l a. length_masked l a (suc w);
      firsts = λ h at a b at' l a' b' q.
          omega (
            arith,
            length-append (smaller at a b w h) (larger_if at' l a' b' w h),
            length_smaller at a b w h q,
            length_larger_if at' l a' b' w h q,
          );
      detours = λ h at a b at' a' b' q.
          omega (
            arith,
            length-append (smaller at a b w h) (larger at' a' b' w h),
            length_smaller at a b w h q,
            length_larger at' a' b' w h q,
          );
      meets = λ li lj ij ji mi mj at. omega (arith, length_meeting li lj ij ji mi mj w at);
      joins = λ a b. refl;
      lasts = λ a. refl;
    }

-- G: two counters and a comparison for each pair of candidates, a word for each link to or from candidate 0, and so
-- on
pub gates_are : (r n w : ℕ) → r ≤ 5 → length (ranked_list (suc (suc (suc r))) n w) ≡
    suc (suc (suc r)) * suc (suc r) * (count_size n 0 w + suc w) + suc (suc (suc r)) * suc (suc r) / 2 * (3 + 3 * w)
    + 2 * suc (suc r) * suc w + suc (suc r) * suc r * (6 * w + 3) + suc r * (suc (suc r) * suc r) * (6 * w + 2)
    + suc (suc r) * (3 + 3 * w) + suc (suc r) * suc r / 2 * (10 * w + 14) + 2 * suc r * suc r * more_of w + suc (suc (suc r)) * suc (suc r)
gates_are r n w h =
    let total = figure_is length (record { none = refl; both = length-append }) n w (count_size n 0 w + suc w)
    (3 + 3 * w) (suc w) (6 * w + 3) (6 * w + 2) (10 * w + 14) 1 1 (sizes n w) r h in
    omega arith

pub pair_gates_are : (n w : ℕ) → length (ranked_list 2 n w) ≡ 2 * (count_size n 0 w + suc w) + (3 + 3 * w) + 2
pair_gates_are n w =
    let total = pair_figure_is length (record { none = refl; both = length-append }) n w (count_size n 0 w + suc w)
    (3 + 3 * w) (suc w) (6 * w + 3) (6 * w + 2) (10 * w + 14) 1 1 (sizes n w) in
    omega arith

module _ (n w : ℕ) (h : 0 < n) where
  bounded_two : length (ranked_list 2 n w) ≤ ranking_bound 2 n (suc w)
  unfolding ranking_bound
  bounded_two = omega (arith, pair_gates_are n w, counter_most n w h)

  bounded_three : length (ranked_list 3 n w) ≤ ranking_bound 3 n (suc w)
  unfolding ranking_bound
  bounded_three = omega (arith, gates_are 0 n w (omega arith), counter_most n w h)

  bounded_four : length (ranked_list 4 n w) ≤ ranking_bound 4 n (suc w)
  unfolding ranking_bound
  bounded_four = omega (arith, gates_are 1 n w (omega arith), counter_most n w h)

  bounded_five : length (ranked_list 5 n w) ≤ ranking_bound 5 n (suc w)
  unfolding ranking_bound
  bounded_five = omega (arith, gates_are 2 n w (omega arith), counter_most n w h)

  bounded_six : length (ranked_list 6 n w) ≤ ranking_bound 6 n (suc w)
  unfolding ranking_bound
  bounded_six = omega (arith, gates_are 3 n w (omega arith), counter_most n w h)

  bounded_seven : length (ranked_list 7 n w) ≤ ranking_bound 7 n (suc w)
  unfolding ranking_bound
  bounded_seven = omega (arith, gates_are 4 n w (omega arith), counter_most n w h)

  bounded_eight : length (ranked_list 8 n w) ≤ ranking_bound 8 n (suc w)
  unfolding ranking_bound
  bounded_eight = omega (arith, gates_are 5 n w (omega arith), counter_most n w h)

  pub gates_most : (r : ℕ) → r ≤ 6 → length (ranked_list (suc (suc r)) n w) ≤ ranking_bound (suc (suc r)) n (suc w)
  gates_most zero l = bounded_two
  gates_most (suc zero) l = bounded_three
  gates_most (suc (suc zero)) l = bounded_four
  gates_most (suc (suc (suc zero))) l = bounded_five
  gates_most (suc (suc (suc (suc zero)))) l = bounded_six
  gates_most (suc (suc (suc (suc (suc zero))))) l = bounded_seven
  gates_most (suc (suc (suc (suc (suc (suc zero)))))) l = bounded_eight
  gates_most (suc (suc (suc (suc (suc (suc (suc r))))))) l = absurd (omega arith)

-- the bound is at most 400,000
pub bound_small : (c n v : ℕ) → c ≤ 8 → n ≤ 255 → v ≤ 8 → ranking_bound c n v ≤ 400000
unfolding ranking_bound
bound_small c n v hk hn hv =
    let two : c * c ≤ 8 * 8 = mul-le-mul hk hk in
    let three : c * c * c ≤ 64 * 8 = mul-le-mul two hk in
    let nv : n * v ≤ 255 * 8 = mul-le-mul hn hv in
    let a : c * c * (n * v) ≤ 64 * 2040 = mul-le-mul two nv in
    let a' : 2 * c * c * n * v ≡ 2 * (c * c * (n * v)) = omega arith in
    let b' : 12 * v + 4 ≤ 100 = omega arith in
    let b : c * c * c * (12 * v + 4) ≤ 512 * 100 = mul-le-mul three b' in
    let d' : 20 * v + 20 ≤ 180 = omega arith in
    let d : c * c * (20 * v + 20) ≤ 64 * 180 = mul-le-mul two d' in
    omega arith
