-- How many gates of a ranked tasting's own list are conditional.
-- Assumes nothing.
use mathlib.Core.Path.{◌≡◌, ◌∙◌, ap}
use mathlib.Core.Bool.{Bool, true, false, cond}
use mathlib.Core.List.{List, [], ◌∷◌, ◌++◌}
use Prim.Native.Nat.{ℕ, zero, suc, ◌+◌, ◌-◌, ◌*◌, ◌/◌, ◌≤◌}
use native.Mathlib.Omega.{arith}
use Rattle.gates.specs.Kind.{conditional_of}
use Rattle.gates.specs.Gate.{Gate}
use Rattle.gates.specs.Board.{conditional_count}
use Rattle.gates.proofs.Laws.{marks}
use Rattle.gates.proofs.Counting.{count_cons, count_nil, count_append}
use Rattle.gate_words.specs.Gates.{copy_of, not_of, and_of, or_of, xor_of, mux_of}
use Rattle.gate_words.specs.Choice.{choose, masked, chain_of}
use Rattle.gate_words.specs.Comparison.{first_digit, compare_words, differences, above}
use Rattle.gate_words.specs.Halves.{any_of_halves, unequal_halves, unequal_span, unequal_at, above_halves, above_at, compare_halves}
use Rattle.gate_words.specs.Adder.{full_adder, half_adder}
use Rattle.gate_words.specs.Counter.{level, adders, level_sum, count_levels, count_digits_as, count_digits, counter, count_size}
use Rattle.ranked_circuit.specs.Blocks.{compare, strictly, order, order_end, order_cut, order_size, cut_end, smaller, larger, larger_if}
use Rattle.ranked_circuit.specs.Contests.{meeting}
use Rattle.jury.specs.Width.{width_of}
use Rattle.ranked_circuit.specs.RankedList.{ranked_list}
use Rattle.ranked_circuit.specs.OwnRanking.{own_ranking}
use Rattle.ranked_circuit.specs.Cost.{conditional_gates, RankingConditional}
use Rattle.ranked_circuit.proofs.Figures.{Each, more_of, figure_is}

-- a conditional gate counts 1, any other 0
marked : (g : Gate) (gs : List Gate) → conditional_of g.kind ≡ true → conditional_count (g ∷ gs) ≡ suc (conditional_count gs)
marked g gs e = let m : cond {A = ℕ} (conditional_of g.kind) 1 0 ≡ 1 = ap (λ (t : Bool). cond {A = ℕ} t 1 0) e in
    omega (arith, count_cons g gs)

free : (g : Gate) (gs : List Gate) → conditional_of g.kind ≡ false → conditional_count (g ∷ gs) ≡ conditional_count gs
free g gs e = let m : cond {A = ℕ} (conditional_of g.kind) 1 0 ≡ 0 = ap (λ (t : Bool). cond {A = ℕ} t 1 0) e in
    omega (arith, count_cons g gs)

-- the blocks that `gate_words` has
choose_cost : (f x y w : ℕ) → conditional_count (choose f x y w) ≡ w
unfolding choose
choose_cost f x y zero = count_nil
choose_cost f x y (suc w) = marked (mux_of f x y) (choose f (x + 1) (y + 1) w) marks.7 ∙ ap suc (choose_cost f (x + 1) (y + 1) w)

masked_cost : (f x w : ℕ) → conditional_count (masked f x w) ≡ w
unfolding masked
masked_cost f x zero = count_nil
masked_cost f x (suc w) = marked (and_of f x) (masked f (x + 1) w) marks.4 ∙ ap suc (masked_cost f (x + 1) w)

differences_cost : (x y w : ℕ) → conditional_count (differences x y w) ≡ 0
unfolding differences
differences_cost x y zero = count_nil
differences_cost x y (suc w) = free (xor_of x y) (differences (x + 1) (y + 1) w) marks.6 ∙ differences_cost (x + 1) (y + 1) w

above_cost : (n f x s w : ℕ) → conditional_count (above n f x s w) ≡ w
unfolding above
above_cost n f x s zero = count_nil
above_cost n f x s (suc w) = marked (mux_of f x s) (above (n + 1) (f + 1) (x + 1) n w) marks.7
    ∙ ap suc (above_cost (n + 1) (f + 1) (x + 1) n w)

compare_words_cost : (n x y up down w : ℕ) → conditional_count (compare_words n x y up down w) ≡ 2 * w
unfolding compare_words
compare_words_cost n x y up down zero = count_nil
compare_words_cost n x y up down (suc w) =
    let rest = compare_words (n + 3) (x + 1) (y + 1) (n + 1) (n + 2) w in
    let a = free (xor_of x y) (mux_of n x up ∷ mux_of n y down ∷ rest) marks.6 in
    let b = marked (mux_of n x up) (mux_of n y down ∷ rest) marks.7 in
    let c = marked (mux_of n y down) rest marks.7 in
    omega (arith, a, b, c, compare_words_cost (n + 3) (x + 1) (y + 1) (n + 1) (n + 2) w)

first_digit_cost : (n x y : ℕ) → conditional_count (first_digit n x y) ≡ 1
unfolding first_digit
first_digit_cost n x y =
    let a = free (xor_of x y) (and_of x n ∷ xor_of n (n + 1) ∷ []) marks.6 in
    let b = marked (and_of x n) (xor_of n (n + 1) ∷ []) marks.4 in
    let c = free (xor_of n (n + 1)) [] marks.6 in
    omega (arith, a, b, c, count_nil)

-- each adder of a counter has three gates, one of them conditional
full_cost : (n s u v : ℕ) → conditional_count (full_adder n s u v) ≡ 1
unfolding full_adder
full_cost n s u v =
    let a = free (xor_of s u) (xor_of n v ∷ mux_of n v s ∷ []) marks.6 in
    let b = free (xor_of n v) (mux_of n v s ∷ []) marks.6 in
    let c = marked (mux_of n v s) [] marks.7 in
    omega (arith, a, b, c, count_nil)

half_cost : (n s u : ℕ) → conditional_count (half_adder n s u 0) ≡ 1
unfolding half_adder
half_cost n s u =
    let a = free (xor_of s u) (copy_of n ∷ and_of s u ∷ []) marks.6 in
    let b = free (copy_of n) (and_of s u ∷ []) marks.2 in
    let c = marked (and_of s u) [] marks.4 in
    omega (arith, a, b, c, count_nil)

level_cost : (n s at d m : ℕ) → conditional_count (level n s at d 0 m) ≡ adders m 0
unfolding level adders
level_cost n s at d zero = count_nil
level_cost n s at d (suc zero) = half_cost n s at
level_cost n s at d (suc (suc m)) =
    omega (
      arith,
      count_append (full_adder n s at (at + d)) (level (n + 3) (n + 1) (at + d + d) d 0 m),
      full_cost n s at (at + d),
      level_cost (n + 3) (n + 1) (at + d + d) d m,
    )

levels_cost : (n at d m r : ℕ) → 3 * conditional_count (count_levels n at d m 0 r) ≡ count_size m 0 r
unfolding count_levels count_size
levels_cost n at d m zero = omega (arith, count_nil)
levels_cost n at d m (suc r) =
    let t = adders (m - 1) 0 in
    omega (
      arith,
      count_append (level n at (at + d) d 0 (m - 1)) (count_levels (n + 3 * t) (n + 2) 3 t 0 r),
      level_cost n at (at + d) d (m - 1),
      levels_cost (n + 3 * t) (n + 2) 3 t r,
    )

digits_cost : (n at m r : ℕ) → conditional_count (count_digits n at m 0 r) ≡ 0
unfolding count_digits_as
digits_cost n at m zero = free (copy_of at) [] marks.2 ∙ count_nil
digits_cost n at m (suc r) =
    free (copy_of (level_sum n at (m - 1) 0)) (count_digits (n + 3 * adders (m - 1) 0) (n + 2) (adders (m - 1) 0) 0 r)
    marks.2 ∙ digits_cost (n + 3 * adders (m - 1) 0) (n + 2) (adders (m - 1) 0) r

pub counter_cost : (n at d m r : ℕ) → 3 * conditional_count (counter n at d m 0 r) ≡ count_size m 0 r
unfolding counter
counter_cost n at d m r = omega (
  arith,
  count_append (count_levels n at d m 0 r) (count_digits n at m 0 r),
  levels_cost n at d m r,
  digits_cost n at m r,
)

-- the blocks that compare two words
whole_cost : (n x y w : ℕ) → conditional_count (compare n x y w) ≡ 2 * w + 1
unfolding compare
whole_cost n x y w =
    omega (
      arith,
      count_append (first_digit n x y) (compare_words (n + 3) (x + 1) (y + 1) (n + 1) (n + 2) w),
      first_digit_cost n x y,
      compare_words_cost (n + 3) (x + 1) (y + 1) (n + 1) (n + 2) w,
    )

strictly_cost : (n x y w : ℕ) → conditional_count (strictly n x y w) ≡ suc w
unfolding strictly
strictly_cost n x y w =
    let rest = differences (x + 1) (y + 1) w ++ above (n + 2 + w) (n + 2) (x + 1) (n + 1) w in
    let a = free (xor_of x y) (and_of x n ∷ rest) marks.6 in
    let b = marked (and_of x n) rest marks.4 in
    omega (
      arith,
      a,
      b,
      count_append (differences (x + 1) (y + 1) w) (above (n + 2 + w) (n + 2) (x + 1) (n + 1) w),
      differences_cost (x + 1) (y + 1) w,
      above_cost (n + 2 + w) (n + 2) (x + 1) (n + 1) w,
    )

order_cost : (n x y w : ℕ) → conditional_count (order n x y w) ≡ w
unfolding order
order_cost n x y w = omega (
  arith,
  count_append (differences (x + 1) (y + 1) w) (above (n + w) n (x + 1) x w),
  differences_cost (x + 1) (y + 1) w,
  above_cost (n + w) n (x + 1) x w,
)

chain_cost : (n s at d m : ℕ) → conditional_count (chain_of 5 n s at d m) ≡ m
unfolding chain_of
chain_cost n s at d zero = count_nil
chain_cost n s at d (suc m) = marked (or_of s at) (chain_of 5 (n + 1) n (at + d) d m) marks.5 ∙ ap suc (chain_cost (n + 1) n (at + d) d m)

-- comparing words of h + 1 digits in one chain
tells_cost : (n x y h : ℕ) → conditional_count (compare_halves n x y h 0) ≡ 2 * h
unfolding compare_halves unequal_halves any_of_halves above_halves
tells_cost n x y h =
    let e = h + 0 in
    let differ = differences x y (suc e) in
    let any = chain_of 5 (n + suc e) n (n + 1) 1 h in
    let over = above (n + unequal_span e) (n + 1) (x + 1) x h in
    omega (
      arith,
      count_append (differ ++ any) over,
      count_append differ any,
      differences_cost x y (suc e),
      chain_cost (n + suc e) n (n + 1) 1 h,
      above_cost (n + unequal_span e) (n + 1) (x + 1) x h,
    )

cut_cost : (n x y w h : ℕ) → h ≤ w → conditional_count (order_cut n x y w h) ≡ w + (h - 1)
unfolding order_cut
cut_cost n x y w zero q = omega (arith, order_cost n x y w)
cut_cost n x y w (suc h) q =
    let l = w - suc h in
    let high = n + 2 * l in
    let low = order n x y l in
    let part = compare_halves high (x + suc l) (y + suc l) h 0 in
    let last = mux_of (unequal_at high h) (above_at high (x + suc l) h) (order_end n x l) in
    omega (
      arith,
      count_append (low ++ part) (last ∷ []),
      count_append low part,
      order_cost n x y l,
      tells_cost high (x + suc l) (y + suc l) h,
      marked last [] marks.7,
      count_nil,
    )

smaller_cost : (n x y w h : ℕ) → h ≤ w → conditional_count (smaller n x y w h) ≡ 2 * w + 1 + (h - 1)
unfolding smaller
smaller_cost n x y w h q = omega (
  arith,
  count_append (order_cut n x y w h) (choose (cut_end n x w h) y x (suc w)),
  cut_cost n x y w h q,
  choose_cost (cut_end n x w h) y x (suc w),
)

larger_cost : (n x y w h : ℕ) → h ≤ w → conditional_count (larger n x y w h) ≡ 2 * w + 1 + (h - 1)
unfolding larger
larger_cost n x y w h q = omega (
  arith,
  count_append (order_cut n x y w h) (choose (cut_end n x w h) x y (suc w)),
  cut_cost n x y w h q,
  choose_cost (cut_end n x w h) x y (suc w),
)

larger_if_cost : (n f x y w h : ℕ) → h ≤ w → conditional_count (larger_if n f x y w h) ≡ 2 * w + 2 + (h - 1)
unfolding larger_if
larger_if_cost n f x y w h q =
    omega (
      arith,
      count_append (order_cut n x y w h) (and_of f (cut_end n x w h) ∷ choose (n + order_size w h) x y (suc w)),
      cut_cost n x y w h q,
      marked (and_of f (cut_end n x w h)) (choose (n + order_size w h) x y (suc w)) marks.4,
      choose_cost (n + order_size w h) x y (suc w),
    )

-- two comparisons both ways, two one way, and four gates
meeting_cost : (li lj ij ji mi mj w at : ℕ) → conditional_count (meeting li lj ij ji mi mj w at) ≡ 6 * w + 8
unfolding meeting
meeting_cost li lj ij ji mi mj w at =
    let c = 3 + 3 * w in
    let s = 2 + 2 * w in
    let e = at + c + c + s + s in
    let first = compare at li lj w in
    let second = compare (at + c) ij ji w in
    let third = strictly (at + c + c) ij lj w in
    let fourth = strictly (at + c + c + s) ji li w in
    let down = mux_of (at + c - 2) mj (e + 1) ∷ [] in
    let up = mux_of (at + c - 1) mi e ∷ down in
    let back = and_of (at + c + c - 1) (e - 1) ∷ up in
    let forth = and_of (at + c + c - 2) (at + c + c + s - 1) ∷ back in
    omega (
      arith,
      count_append (first ++ second ++ third ++ fourth) forth,
      count_append (first ++ second ++ third) fourth,
      count_append (first ++ second) third,
      count_append first second,
      whole_cost at li lj w,
      whole_cost (at + c) ij ji w,
      strictly_cost (at + c + c) ij lj w,
      strictly_cost (at + c + c + s) ji li w,
      marked (and_of (at + c + c - 2) (at + c + c + s - 1)) back marks.4,
      marked (and_of (at + c + c - 1) (e - 1)) up marks.4,
      marked (mux_of (at + c - 1) mi e) down marks.7,
      marked (mux_of (at + c - 2) mj (e + 1)) [] marks.7,
      count_nil,
    )

-- the conditional gates of each block
costs : (n w : ℕ) → Each conditional_count n w (count_size n 0 w / 3) (2 * w + 1) (suc w) (4 * w + 3) (4 * w + 2) (6 * w + 8) 1 0
costs n w =
    record {
      counters = λ at from step. omega (arith, counter_cost at from step n w);
      compares = λ at a b. whole_cost at a b w;
      strengths = λ l a. masked_cost l a (suc w);
      firsts = λ h at a b at' l a' b' q.
          omega (
            arith,
            count_append (smaller at a b w h) (larger_if at' l a' b' w h),
            smaller_cost at a b w h q,
            larger_if_cost at' l a' b' w h q,
          );
      detours = λ h at a b at' a' b' q.
          omega (
            arith,
            count_append (smaller at a b w h) (larger at' a' b' w h),
            smaller_cost at a b w h q,
            larger_cost at' a' b' w h q,
          );
      meets = λ li lj ij ji mi mj at. meeting_cost li lj ij ji mi mj w at;
      joins = λ a b. marked (or_of a b) [] marks.5 ∙ ap suc count_nil;
      lasts = λ a. free (not_of a) [] marks.3 ∙ count_nil;
    }

-- C: a conditional gate for each adder of the counters, 2 w + 1 for each comparison of two candidates, and so on
conditional_are : (r n w : ℕ) → r ≤ 5 → conditional_count (ranked_list (suc (suc (suc r))) n w) ≡
    suc (suc (suc r)) * suc (suc r) * (count_size n 0 w / 3) + suc (suc (suc r)) * suc (suc r) / 2 * (2 * w + 1) + 2
    * suc (suc r) * suc w + suc (suc r) * suc r * (4 * w + 3) + suc r * (suc (suc r) * suc r) * (4 * w + 2)
    + suc (suc r) * (2 * w + 1) + suc (suc r) * suc r / 2 * (6 * w + 8) + 2 * suc r * suc r * more_of w + suc (suc (suc r)) * suc r
conditional_are r n w h =
    let total = figure_is conditional_count (record { none = count_nil; both = count_append }) n w
    (count_size n 0 w / 3) (2 * w + 1) (suc w) (4 * w + 3) (4 * w + 2) (6 * w + 8) 1 0 (costs n w) r h in
    omega arith

pub ranking_conditional : RankingConditional
unfolding own_ranking conditional_gates
ranking_conditional zero n l m = absurd (omega arith)
ranking_conditional (suc zero) n l m = absurd (omega arith)
ranking_conditional (suc (suc zero)) n l m = absurd (omega arith)
ranking_conditional (suc (suc (suc r))) n l m =
    let k = suc (suc (suc r)) in
    let w = width_of n - 1 in
    conditional_are r n w (omega arith)
    ∙ ap (λ (j : ℕ). conditional_gates k j (suc r) n w) {x = suc (suc r)} {y = k - 1} (omega arith)
    ∙ ap (λ (i : ℕ). conditional_gates k (k - 1) i n w) {x = suc r} {y = k - 2} (omega arith)
