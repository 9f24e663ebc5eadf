-- `graded_contest::tie_break::tie_break` meets its contract: the nearest words, their comparisons and carries, then
-- which decides.
-- Assumes nothing.
use mathlib.Core.Path.{◌≡◌, ◌∙◌, refl, ap}
use mathlib.Core.List.{List}
use Prim.Native.Nat.{ℕ, suc, ◌+◌, ◌*◌, ◌≤◌}
use native.Mathlib.Omega.{arith}
use native.Mathlib.Numerals.{add-one}
use Rattle.gates.specs.Gate.{Gate}
use Rattle.gate_words.specs.Halves.{unequal_at, compare_span, above_at}
use Rattle.gate_words.proofs.Standing.{Stands, stands, stands_after, room_of, wrote_then}
use Rattle.graded_circuit.specs.Nearest.{stride, side_span, either_span, left_end, right_end}
use Rattle.graded_circuit.specs.TieBreak.{down_at, up_at, nearest_end, far_at, down_left, down_right, up_left, up_right, compare_and_reach, compare_and_reach_span, left_carry, right_carry, resolve, resolve_span, resolve_at, tie_break}
use Rattle.graded_circuit.proofs.TieBreakBlocks.{chosen_high_lem, nearest_block, compare_and_reach_block, down_left_below, down_right_below, up_left_below, up_right_below}
use Rattle.graded_keys.proofs.Steps.{product_most}
use Rattle.graded_contest.proofs.tie_break.tie_break.Goals as goal
use Rattle.graded_contest.proofs.tie_break.tie_break.Goals.{After-compare_and_reach-compared, After-nearest-chosen}

-- The products that the code forms are small, and are those of the definition.

record Products (r t : ℕ) : Type 0 where
  side_small : t * (2 * r + 3) ≤ 102
  side_is : t * (2 * r + 3) ≡ t * side_span r
  either_small : t * (2 * r + 2) ≤ 96
  either_is : t * (2 * r + 2) ≡ t * either_span r
  far_small : (t + 1) * (r + 2) ≤ 63
  far_is : (t + 1) * (r + 2) ≡ suc t * stride r

products : (r t : ℕ) → r ≤ 7 → t ≤ 6 → Products r t
products r t hr ht =
    let p : t * (2 * r + 3) ≤ 6 * 17 = product_most (t) (2 * r + 3) 6 17 ht (omega arith) in
    let q : t * (2 * r + 2) ≤ 6 * 16 = product_most (t) (2 * r + 2) 6 16 ht (omega arith) in
    let s : (t + 1) * (r + 2) ≤ 7 * 9 = product_most (t + 1) (r + 2) 7 9 (omega arith) (omega arith) in
    let e₁ : 2 * r + 3 ≡ side_span r = omega arith in
    let e₂ : 2 * r + 2 ≡ either_span r = omega arith in
    record {
      side_small = omega arith;
      side_is = ap (λ (k : ℕ). t * k) e₁;
      either_small = omega arith;
      either_is = ap (λ (k : ℕ). t * k) e₂;
      far_small = omega arith;
      far_is = ap (λ (k : ℕ). k * (r + 2)) (add-one t);
    }

-- the gates of `resolve`, by the place of the comparisons
resolved : ℕ → ℕ → ℕ → ℕ → ℕ → ℕ → ℕ → ℕ → ℕ → List Gate
resolved e s r q m a u f g = resolve q e s (unequal_at m r) (above_at m a r) (unequal_at (m + compare_span r) r)
    (above_at (m + compare_span r) u r) (left_carry m r) (right_carry m r) f g

same_resolved : (e s r : ℕ) {q q' m m' a a' u u' f f' g g' : ℕ} → q ≡ q' → m ≡ m' → a ≡ a' → u ≡ u' → f ≡ f' → g
    ≡ g' → resolved e s r q m a u f g ≡ resolved e s r q' m' a' u' f' g'
same_resolved e s r p₁ p₂ p₃ p₄ p₅ p₆ = cc

same_compared : (e r : ℕ) {n n' a a' c c' u u' v v' h h' : ℕ} → n ≡ n' → a ≡ a' → c ≡ c' → u ≡ u' → v ≡ v' → h ≡ h'
    → compare_and_reach n a c u v e r h ≡ compare_and_reach n' a' c' u' v' e r h'
same_compared e r p₁ p₂ p₃ p₄ p₅ p₆ = cc

-- the chosen words
a_is : (c : After-nearest-chosen) → c.left_end-a.result
    ≡ down_left c.args.w.wire c.args.x
    c.args.above c.args.between
a_is c =
    let a = c.args in
    let e : a.w.wire + a.between * (2 * a.above + 3) ≡ down_at a.w.wire a.above a.between =
    omega (arith, (products c.args.above c.args.between c.requires.narrow c.requires.few).side_is) in
    c.left_end-a.ensures ∙ ap (λ (k : ℕ). left_end k a.x a.above a.between) e

c_is : (c : After-nearest-chosen) → c.right_end-c.result
    ≡ down_right c.args.w.wire c.args.y
    c.args.above c.args.between
c_is c =
    let a = c.args in
    let e : a.w.wire + a.between * (2 * a.above + 3) ≡ down_at a.w.wire a.above a.between =
    omega (arith, (products c.args.above c.args.between c.requires.narrow c.requires.few).side_is) in
    c.right_end-c.ensures ∙ ap (λ (k : ℕ). right_end k a.y a.above a.between) e

u_is : (c : After-nearest-chosen) → c.left_end-u.result
    ≡ up_left c.args.w.wire c.args.x
    c.args.above c.args.between
u_is c =
    let a = c.args in
    let q = products c.args.above c.args.between c.requires.narrow c.requires.few in
    let e : a.w.wire + a.between * (2 * a.above + 3) + a.between * (2 * a.above + 2)
    ≡ up_at a.w.wire a.above a.between = omega (arith, q.side_is, q.either_is) in
    let g : a.x + (a.between + 1) * (a.above + 2) ≡ far_at a.x a.above a.between = omega (arith, q.far_is) in
    c.left_end-u.ensures ∙ ap (λ (k : ℕ). left_end k (a.x + (a.between + 1) * (a.above + 2)) a.above
    a.between) e ∙ ap (λ (k : ℕ). left_end (up_at a.w.wire a.above a.between) k a.above
    a.between) g

v_is : (c : After-nearest-chosen) → c.right_end-v.result
    ≡ up_right c.args.w.wire c.args.y
    c.args.above c.args.between
v_is c =
    let a = c.args in
    let q = products c.args.above c.args.between c.requires.narrow c.requires.few in
    let e : a.w.wire + a.between * (2 * a.above + 3) + a.between * (2 * a.above + 2)
    ≡ up_at a.w.wire a.above a.between = omega (arith, q.side_is, q.either_is) in
    let g : a.y + (a.between + 1) * (a.above + 2) ≡ far_at a.y a.above a.between = omega (arith, q.far_is) in
    c.right_end-v.ensures ∙ ap (λ (k : ℕ). right_end k (a.y + (a.between + 1) * (a.above + 2)) a.above
    a.between) e ∙ ap (λ (k : ℕ). right_end (up_at a.w.wire a.above a.between) k a.above
    a.between) g

-- after the choice
chosen : (c : After-nearest-chosen)
    → Stands c.nearest-chosen.result (c.args.w.wire
    + (c.args.between * side_span c.args.above
    + c.args.between * either_span c.args.above
    + c.args.between * either_span c.args.above))
    (compare_and_reach_span c.args.above + resolve_span)
chosen c =
    let a = c.args in
    stands_after a.w a.table.now _ c.nearest-chosen.new.table c.nearest-chosen.result _ _ _ c.nearest-chosen.ensures
    (nearest_block a.w.wire a.x a.y a.above a.high a.between c.requires.cut c.requires.first_below
    c.requires.second_below).long
    (stands a.w a.w.wire _ _ refl (omega arith) c.requires.room)

words : (c : After-nearest-chosen)
    → (c.left_end-a.result + suc c.args.above
    ≤ c.nearest-chosen.result.wire) × (c.right_end-c.result
    + suc c.args.above ≤ c.nearest-chosen.result.wire)
    × (c.left_end-u.result + suc c.args.above
    ≤ c.nearest-chosen.result.wire) × (c.right_end-v.result
    + suc c.args.above ≤ c.nearest-chosen.result.wire)
words c =
    let a = c.args in
    let p = (chosen c).place in
    let n = a.w.wire in
    let hx = c.requires.first_below in
    let hy = c.requires.second_below in (
      omega (arith, p, a_is c, down_left_below n a.x a.y a.above a.between hx hy),
      omega (arith, p, c_is c, down_right_below n a.x a.y a.above a.between hx hy),
      omega (arith, p, u_is c, up_left_below n a.x a.y a.above a.between hx hy),
      omega (arith, p, v_is c, up_right_below n a.x a.y a.above a.between hx hy),
    )

cut_most : (c : After-nearest-chosen) → c.chosen_high-cut.result ≤ c.args.above
cut_most c =
    let a = c.args in
    omega (
      arith,
      c.chosen_high-cut.ensures,
      chosen_high_lem a.above a.high a.between c.requires.cut,
    )

pub compare_and_reach-compared-requires : goal.compare_and_reach-compared-requires
compare_and_reach-compared-requires c = let q = words (goal.at.compare_and_reach-compared-requires c).After-nearest-chosen in
    record {
      room = room_of c.nearest-chosen.result _ _ _ (chosen (goal.at.compare_and_reach-compared-requires c).After-nearest-chosen) (omega arith);
      a_below = q.0;
      c_below = q.1;
      u_below = q.2;
      v_below = q.3;
      cut = cut_most (goal.at.compare_and_reach-compared-requires c).After-nearest-chosen;
    }

summed : (c : After-compare_and_reach-compared)
    → Stands c.compare_and_reach-compared.result
    (c.args.w.wire
    + (c.args.between * side_span c.args.above
    + c.args.between * either_span c.args.above
    + c.args.between
    * either_span c.args.above)
    + compare_and_reach_span c.args.above) resolve_span
summed c =
    let a = c.args in
    let q = words c.before.before.before.before in
    stands_after c.nearest-chosen.result
    c.nearest-chosen.new.table _ c.compare_and_reach-compared.new.table
    c.compare_and_reach-compared.result _ _ _ c.compare_and_reach-compared.ensures
    (compare_and_reach_block c.nearest-chosen.result.wire
    c.left_end-a.result
    c.right_end-c.result
    c.left_end-u.result
    c.right_end-v.result a.bit a.above
    c.chosen_high-cut.result
    (cut_most c.before.before.before.before) q.0 q.1 q.2 q.3).long
    (chosen c.before.before.before.before)

pub resolve_at-requires : goal.resolve_at-requires
resolve_at-requires c = record {
  room = (summed (goal.at.resolve_at-requires c).After-compare_and_reach-compared).left;
  place = omega (
    arith,
    (summed (goal.at.resolve_at-requires c).After-compare_and_reach-compared).place,
    (chosen (goal.at.resolve_at-requires c).After-nearest-chosen).place,
  );
  span_is = omega arith;
  narrow = c.requires.narrow;
}

pub returns : goal.returns
unfolding tie_break resolved
returns c = let a = c.args in
    let r = a.above in
    let t = a.between in
    let n = a.w.wire in
    let em : c.nearest-chosen.result.wire ≡ nearest_end n r t =
    omega (arith, (chosen (goal.at.returns c).After-nearest-chosen).place) in
    let eq : c.compare_and_reach-compared.result.wire ≡ resolve_at n r t =
    omega (arith, (summed (goal.at.returns c).After-compare_and_reach-compared).place) in
    let ef : a.x + r + 1 ≡ a.x + suc r = omega arith in
    let eg : a.x + (t + 1) * (r + 2) + r + 1 ≡ far_at a.x r t + suc r =
    omega (arith, (products c.args.above c.args.between c.requires.narrow c.requires.few).far_is) in
    wrote_then a.w a.table.now _ c.compare_and_reach-compared.new.table
    c.compare_and_reach-compared.result _ _ _ _
    (wrote_then a.w a.table.now _ c.nearest-chosen.new.table
    c.nearest-chosen.result _ _ _ _
    c.nearest-chosen.ensures
    c.compare_and_reach-compared.ensures
    (same_compared a.bit r em (a_is (goal.at.returns c).After-nearest-chosen)
    (c_is (goal.at.returns c).After-nearest-chosen) (u_is (goal.at.returns c).After-nearest-chosen)
    (v_is (goal.at.returns c).After-nearest-chosen)
    c.chosen_high-cut.ensures))
    c.resolve_at.ensures
    (same_resolved a.e a.s r eq em (a_is (goal.at.returns c).After-nearest-chosen)
    (u_is (goal.at.returns c).After-nearest-chosen) ef eg)
