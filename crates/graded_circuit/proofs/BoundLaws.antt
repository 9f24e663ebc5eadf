-- The own list keeps the bound on the number of gates.
-- Assumes nothing.
use mathlib.Core.Path.{◌≡◌, ◌∙◌, sym, ap}
use mathlib.Core.Logic.{⊎_elim}
use Prim.Native.Nat.{ℕ, zero, suc, ◌+◌, ◌-◌, ◌*◌, ◌/◌, ◌^◌, ◌≤◌, ◌<◌}
use native.Mathlib.Nat.{pow-succ', suc-mul, add-mul, mul_comm, mul_assoc, mul-add, mul-le-mul, mul-le-mul_left, mul-le-mul_right}
use native.Mathlib.Omega.{arith}
use lib.ListN.{length}
use lib.Pow.{pow_mono}
use Rattle.basics.proofs.Cases.{below_or_not}
use Rattle.gate_words.proofs.CounterSteps.{count_size_most, levels_product}
use Rattle.graded_circuit.specs.declared.plan.Plan.{Plan}
use Rattle.graded_circuit.specs.Plan.{Planned}
use Rattle.graded_circuit.specs.Bound.{bound_of}
use Rattle.graded_circuit.specs.RunningSums.{word_span, sum_size, worst_size}
use Rattle.graded_circuit.specs.Key.{key_span, candidate_span}
use Rattle.gate_words.proofs.ReachLaws.{reach_last_most}
use Rattle.graded_circuit.specs.Median.{later_span, ones_span}
use Rattle.graded_circuit.specs.Nearest.{side_span, either_span}
use Rattle.graded_circuit.specs.Contest.{tie_break_below_span}
use Rattle.graded_circuit.specs.Merge.{merge_span}
use Rattle.graded_circuit.specs.OwnList.{levels_span, low_levels, circuit}
use Rattle.graded_circuit.proofs.MedianLaws.{ones_span_lem}
use Rattle.graded_circuit.proofs.CandidateBlocks.{candidate_span_lem}
use Rattle.graded_circuit.proofs.LevelsLaws.{span_one, span_more}
use Rattle.graded_circuit.proofs.CircuitLaws.{circuit_block}

pub later_span_most : (m w : ℕ) → later_span m w ≤ 4 * m + 3 * w
unfolding later_span
later_span_most m zero = omega arith
later_span_most m (suc w) = omega (arith, later_span_most (m / 2) w)

pub ones_span_most : (m w : ℕ) → ones_span m w ≤ 4 * m + 3 * w + 1
ones_span_most m w = omega (arith, ones_span_lem m w, later_span_most (m / 2) w)

module _ (p : Plan) (f : Planned p) where
  -- the width w, and the product of the number of ballots and w
  w : ℕ
  w = suc p.digits

  nw : ℕ
  nw = p.ballots * suc p.digits

  -- a bound for the levels of a sum, and a grade's share in the bound
  levels : ℕ
  levels = p.digits * (2 * p.ballots + 2)

  share : ℕ
  share = 2 * nw + (30 * w + 20)

  sum_most : sum_size p ≤ levels
  unfolding levels
  sum_most = count_size_most p.ballots p.offset p.digits p.ballots (omega arith) f.n_least

  worst_most : worst_size p ≤ levels
  unfolding levels
  worst_most = count_size_most p.ballots p.worst p.digits p.ballots (omega arith) f.n_least

  -- a row, its levels and a word of the key take at most a grade's share
  small : p.ballots + levels + word_span p ≤ share
  unfolding levels share nw w
  small = omega (arith, levels_product p.digits p.ballots)

  -- a candidate's circuit takes at most one share for each grade
  candidate_most : candidate_span p ≤ p.grades * share
  candidate_most =
      let t = p.grades - 2 in
      let words : p.grades - 1 ≡ suc t = omega (arith, f.d_least) in
      let d : p.grades ≡ suc (suc t) = omega (arith, f.d_least) in
      omega (
        arith,
        candidate_span_lem p,
        mul-le-mul_right {m = p.grades - 3} {n = t} p.ballots (omega arith),
        mul-le-mul_left {m = sum_size p} {n = levels} t sum_most,
        worst_most,
        mul-add t (p.ballots + levels) (word_span p),
        mul-add t p.ballots levels,
        mul-le-mul_left {m = p.ballots + levels + word_span p} {n = share} t small,
        small,
        ap (λ (k : ℕ). k * word_span p) words,
        suc-mul t (word_span p),
        ap (λ (k : ℕ). k * share) d,
        suc-mul (suc t) share,
        suc-mul t share,
      )

  pub digits_most : p.digits ≤ 7
  digits_most = let no : ¬ (8 ≤ p.digits) = not_eight in omega arith
    where
      not_eight : ¬ (8 ≤ p.digits)
      not_eight eight =
          let high : 2 ^ 8 ≤ 2 ^ p.digits = pow_mono {i = 8} {j = p.digits} eight in
          omega (arith, f.low, f.n_most)

  pub places_most : p.places ≤ 2
  places_most = let no : ¬ (3 ≤ p.places) = not_three in omega arith
    where
      not_three : ¬ (3 ≤ p.places)
      not_three three =
          let high : 2 ^ 3 ≤ 2 ^ p.places = pow_mono {i = 3} {j = p.places} three in
          omega (arith, f.median_low, f.d_most)

  -- the comparison of the sums, for at most six sums
  tie_break_below_most : (digits t : ℕ) → t ≤ 5 → tie_break_below_span digits t ≤ 36 * digits + 46
  unfolding tie_break_below_span
  tie_break_below_most zero t h = omega arith
  tie_break_below_most (suc r) zero h = omega arith
  tie_break_below_most (suc r) (suc t) h =
      let few : t ≤ 4 = omega arith in
      omega (
        arith,
        reach_last_most r,
        mul-le-mul_right {m = t} {n = 4} (side_span r) few,
        mul-le-mul_right {m = t} {n = 4} (either_span r) few,
      )

  key_most : key_span p ≤ 6 * w
  unfolding w
  key_most = let few : p.grades - 1 ≤ 6 = omega (arith, f.d_most) in
      omega (arith, mul-le-mul_right {m = p.grades - 1} {n = 6} (word_span p) few)

  -- a bound for a merge of at most eight candidates and the key that it keeps
  merge : ℕ
  merge = 42 * w + 100

  merge_most : (l m : ℕ) → l + m ≤ 8 → merge_span p l m + key_span p ≤ merge
  unfolding merge w
  merge_most l m h =
      omega (
        arith,
        key,
        ones_span_most (p.grades - 1) p.places,
        places_most,
        tie_break_below_most p.digits (p.grades - 2) (omega (arith, f.d_most)),
        f.d_most,
      )
    where
      key : key_span p ≤ 6 * suc p.digits
      key = unfold w in key_most

  levels_most : (r m : ℕ) → 0 < m → m ≤ 8 → m ≤ 2 ^ r → levels_span p r m + merge ≤ m * merge
  levels_most zero m some few h = unfold levels_span in (let e : m ≡ 1 = omega arith in omega (arith, ap (λ (k : ℕ). k * merge) e))
  levels_most (suc r) m some few h = ⊎_elim
      (λ (l : 1 < m).
      let e = pow r m h in
      let whole : m ≡ m / 2 + (m - m / 2) = omega arith in
      omega (
        arith,
        span_more p r m l,
        levels_most r (m / 2) (omega arith) (omega arith) (omega arith),
        levels_most r (m - m / 2) (omega arith) (omega arith) (omega arith),
        merge_most (m / 2) (m - m / 2) (omega arith),
        ap (λ (k : ℕ). k * merge) whole,
        add-mul (m / 2) (m - m / 2) merge,
      ))
      (λ (l : m ≤ 1). let e : m ≡ 1 = omega arith in omega (arith, span_one p r m l, ap (λ (k : ℕ). k * merge) e))
      (below_or_not 1 m)
    where
      pow : (r m : ℕ) → m ≤ 2 ^ suc r → m ≤ 2 * 2 ^ r
      pow r m h = omega (arith, pow-succ' 2 r)

  -- all of it: a share for each candidate and grade, and a merge for each candidate
  all_most : 1 < p.candidates → length (circuit p) ≤ p.candidates * (p.grades * share) + p.candidates * merge
  all_most two =
      let k = p.candidates in
      let h = k / 2 in
      let few = f.k_most in
      let whole : k ≡ h + (k - h) = omega arith in
      omega (
        arith,
        (circuit_block p f two).long,
        mul-le-mul_left {m = candidate_span p} {n = p.grades * share} k candidate_most,
        levels_most low_levels h (omega arith) (omega arith) (omega arith),
        levels_most low_levels (k - h) (omega arith) (omega arith) (omega arith),
        merge_most h (k - h) (omega arith),
        ap (λ (x : ℕ). x * merge) whole,
        add-mul h (k - h) merge,
      )

  -- the products of the bound, from the shares of all candidates
  shares : p.candidates * (p.grades * share) ≡ 2 * p.candidates * p.grades * p.ballots * w + p.candidates * p.grades * (30 * w + 20)
  unfolding share nw w
  shares =
      let k = p.candidates in
      let d = p.grades in
      let n = p.ballots in
      let v = suc p.digits in
      let assoc : k * (d * (2 * (n * v) + (30 * v + 20))) ≡ k * d * (2 * (n * v) + (30 * v + 20)) =
      sym (mul_assoc k d (2 * (n * v) + (30 * v + 20))) in
      let split : k * d * (2 * (n * v) + (30 * v + 20)) ≡ k * d * (2 * (n * v)) + k * d * (30 * v + 20) =
      mul-add (k * d) (2 * (n * v)) (30 * v + 20) in
      let first : k * d * (2 * (n * v)) ≡ 2 * k * d * n * v =
      sym (mul_assoc (k * d) 2 (n * v)) ∙ ap (λ (x : ℕ). x * (n * v)) (mul_comm (k * d) 2 ∙ sym (mul_assoc 2 k d))
      ∙ sym (mul_assoc (2 * k * d) n v) in
      assoc ∙ split ∙ ap (λ (x : ℕ). x + k * d * (30 * v + 20)) first

  -- the merges take less than request 2.1 adds to the bound
  meets : p.candidates * merge ≤ p.candidates * p.grades * (400 * w + 400)
  unfolding merge w
  meets =
      let k = p.candidates in
      let d = p.grades in
      let v = 400 * suc p.digits + 400 in
      let one : 1 * v ≤ d * v = mul-le-mul_right {m = 1} {n = d} v (omega (arith, f.d_least)) in
      let each : 42 * suc p.digits + 100 ≤ d * v = omega arith in
      omega (arith, mul-le-mul_left {m = 42 * suc p.digits + 100} {n = d * v} k each, mul_assoc k d v)

  pub gates_most : 1 < p.candidates → length (circuit p) ≤ bound_of p.candidates p.grades p.ballots (suc p.digits)
  unfolding bound_of w
  gates_most two = omega (arith, all_most two, shares, meets)

  -- the whole circuit, bounded by plain numbers
  nw_small : nw ≤ 2040
  unfolding nw
  nw_small =
      let r : suc p.digits ≤ 8 = omega (arith, digits_most) in
      let h : p.ballots * suc p.digits ≤ 255 * 8 = mul-le-mul f.n_most r in
      omega arith

  share_small : share ≤ 5000
  unfolding share w
  share_small = omega (arith, nw_small, digits_most)

  merge_small : merge ≤ 500
  unfolding merge w
  merge_small = omega (arith, digits_most)

  pub gates_small : 1 < p.candidates → length (circuit p) ≤ 284000
  gates_small two =
      let each : p.grades * share ≤ 7 * 5000 = mul-le-mul f.d_most share_small in
      let all : p.candidates * (p.grades * share) ≤ 8 * 35000 = mul-le-mul f.k_most each in
      let met : p.candidates * merge ≤ 8 * 500 = mul-le-mul f.k_most merge_small in
      omega (arith, all_most two)

  -- its parts, bounded by plain numbers
  pub candidate_small : candidate_span p ≤ 35000
  candidate_small =
      let each : p.grades * share ≤ 7 * 5000 = mul-le-mul f.d_most share_small in
      omega (arith, candidate_most)

  pub sum_small : sum_size p ≤ 5000
  sum_small = omega (arith, sum_most, small, share_small)

  pub worst_small : worst_size p ≤ 5000
  worst_small = omega (arith, worst_most, small, share_small)

  pub merge_few : (l m : ℕ) → l + m ≤ 8 → merge_span p l m + key_span p ≤ 500
  merge_few l m h = omega (arith, merge_most l m h, merge_small)
