-- `graded_contest::tie_break::nearest` meets its contract: the flags, the words chosen below the median, and those
-- from it on.
-- Assumes nothing.
use mathlib.Core.Path.{◌≡◌, ◌∙◌, refl, ap}
use Prim.Native.Nat.{ℕ, suc, ◌+◌, ◌*◌, ◌≤◌}
use native.Mathlib.Nat.{suc-mul}
use native.Mathlib.Numerals.{add-one}
use native.Mathlib.Omega.{arith}
use Rattle.graded_circuit.specs.Nearest.{stride, side_span, below_at, from_at, either_span, last_words, first_words}
use Rattle.graded_circuit.specs.TieBreak.{down_at, up_at, far_at, nearest}
use Rattle.graded_circuit.proofs.NearestLaws.{sides_block, last_of_block}
use Rattle.gate_words.proofs.Standing.{Stands, stands, stands_after, room_of, wrote_then}
use Rattle.graded_contest.proofs.tie_break.nearest.Goals as goal
use Rattle.graded_contest.proofs.tie_break.nearest.Goals.{After-last_of-down, After-sides-sided}

-- the words of a key after the first, and its last word, are below wire n
words : (x t r n : ℕ) → x + suc (suc t) * stride r ≤ n → (x + (r + 2) + t * stride r ≤ n)
    × (x + (t + 1) * (r + 2) + stride r ≤ n) × ((t + 1) * (r + 2) ≡ suc t * stride r)
words x t r n h =
    let e : (t + 1) * (r + 2) ≡ suc t * stride r = ap (λ (k : ℕ). k * (r + 2)) (add-one t) in
    (omega (arith, suc-mul (suc t) (stride r), suc-mul t (stride r)), omega (arith, e, suc-mul (suc t) (stride r)), e)

sided : (c : After-sides-sided) → Stands c.sides-sided.result
    (c.args.w.wire + c.args.between
    * side_span c.args.above)
    (c.args.between
    * either_span c.args.above
    + c.args.between
    * either_span c.args.above)
sided c =
    let a = c.args in
    stands_after a.w a.table.now _ c.sides-sided.new.table c.sides-sided.result _ _ _ c.sides-sided.ensures
    (sides_block a.w.wire (a.x + (a.above + 2)) (a.y + (a.above + 2)) a.above a.high a.between
    c.requires.cut (omega (arith, words c.args.x c.args.between c.args.above c.args.w.wire c.requires.first_below))
    (omega (arith, words c.args.y c.args.between c.args.above c.args.w.wire c.requires.second_below))).long
    (stands a.w a.w.wire _ _ refl (omega arith) c.requires.room)

pub last_of-down-requires : goal.last_of-down-requires
last_of-down-requires c = let x = words c.args.x c.args.between c.args.above c.args.w.wire c.requires.first_below in
    let y = words c.args.y c.args.between c.args.above c.args.w.wire c.requires.second_below in
    let p = (sided (goal.at.last_of-down-requires c).After-sides-sided).place in
    record {
      room = room_of c.sides-sided.result _ _ _ (sided (goal.at.last_of-down-requires c).After-sides-sided) (omega arith);
      sides_below = omega (arith, p);
      x_below = omega (arith, x.0, p);
      y_below = omega (arith, y.0, p);
      u_below = omega (arith, x.0, p);
      v_below = omega (arith, y.0, p);
      narrow = c.requires.narrow;
    }

down : (c : After-last_of-down)
    → Stands c.last_of-down.result
    (c.args.w.wire + c.args.between
    * side_span c.args.above + c.args.between
    * either_span c.args.above)
    (c.args.between * either_span c.args.above)
down c =
    let a = c.args in
    let x = words c.args.x c.args.between c.args.above c.args.w.wire c.requires.first_below in
    let y = words c.args.y c.args.between c.args.above c.args.w.wire c.requires.second_below in
    let p = (sided c.before.before.before.before).place in
    stands_after c.sides-sided.result
    c.sides-sided.new.table _ c.last_of-down.new.table c.last_of-down.result _ _
    _ c.last_of-down.ensures
    (last_of_block c.sides-sided.result.wire
    (a.w.wire + (a.above + 1) + a.above) (a.x + (a.above + 2)) (a.y + (a.above + 2)) a.x a.y
    a.above a.between (omega (arith, p)) (omega (arith, x.0, p)) (omega (arith, y.0, p))
    (omega (arith, x.0, p)) (omega (arith, y.0, p))).long
    (sided c.before.before.before.before)

pub first_of-requires : goal.first_of-requires
first_of-requires c = let x = words c.args.x c.args.between c.args.above c.args.w.wire c.requires.first_below in
    let y = words c.args.y c.args.between c.args.above c.args.w.wire c.requires.second_below in
    let p = (down (goal.at.first_of-requires c).After-last_of-down).place in
    record {
      room = (down (goal.at.first_of-requires c).After-last_of-down).left;
      sides_below = omega (arith, p);
      x_below = omega (arith, x.0, p);
      y_below = omega (arith, y.0, p);
      u_below = omega (arith, x.1, p);
      v_below = omega (arith, y.1, p);
      narrow = c.requires.narrow;
      few = c.requires.few;
    }

pub returns : goal.returns
unfolding nearest
returns c = let a = c.args in
    let r = a.above in
    let t = a.between in
    let n = a.w.wire in
    let x = a.x + (r + 2) in
    let y = a.y + (r + 2) in
    let below = n + (r + 1) + r in
    let e₁ : below ≡ below_at n r = omega arith in
    let e₂ : below + 1 ≡ from_at n r = omega arith in
    let ex : a.x + (t + 1) * (r + 2) ≡ far_at a.x r t =
    ap (λ (k : ℕ). a.x + k) (words c.args.x c.args.between c.args.above c.args.w.wire c.requires.first_below).2 in
    let ey : a.y + (t + 1) * (r + 2) ≡ far_at a.y r t =
    ap (λ (k : ℕ). a.y + k) (words c.args.y c.args.between c.args.above c.args.w.wire c.requires.second_below).2 in
    wrote_then a.w a.table.now _ c.last_of-down.new.table
    c.last_of-down.result _ _ _ _
    (wrote_then a.w a.table.now _ c.sides-sided.new.table
    c.sides-sided.result _ _ _ _
    c.sides-sided.ensures c.last_of-down.ensures
    (ap (λ (k : ℕ). last_words k below x y a.x a.y r t) (sided (goal.at.returns c).After-sides-sided).place
    ∙ ap (λ (k : ℕ). last_words (down_at n r t) k x y a.x a.y r t) e₁))
    c.first_of.ensures
    (ap (λ (k : ℕ). first_words k (below + 1) x y (a.x + (t + 1) * (r + 2)) (a.y + (t + 1) * (r + 2)) r t)
    (down (goal.at.returns c).After-last_of-down).place
    ∙ ap (λ (k : ℕ). first_words (up_at n r t) k x y (a.x + (t + 1) * (r + 2)) (a.y + (t + 1) * (r + 2)) r t) e₂
    ∙ ap (λ (k : ℕ). first_words (up_at n r t) (from_at n r) x y k (a.y + (t + 1) * (r + 2)) r t) ex
    ∙ ap (λ (k : ℕ). first_words (up_at n r t) (from_at n r) x y (far_at a.x r t) k r t) ey)
