-- `ranked_words::meeting::meeting` meets its contract: four comparisons, then the gates that decide.
-- Assumes nothing.
use mathlib.Core.Path.{◌≡◌, refl, ap}
use mathlib.Core.List.{List, [], ◌∷◌, ◌++◌}
use Prim.Native.Nat.{ℕ, ◌+◌, ◌-◌, ◌*◌}
use native.Mathlib.Omega.{arith}
use Rattle.gates.specs.Gate.{Gate}
use Rattle.gate_words.specs.Gates.{and_of, mux_of}
use Rattle.gate_words.proofs.Standing.{Stands, stands, stands_after, room_of, wrote_then}
use Rattle.ranked_circuit.specs.Blocks.{compare, strictly}
use Rattle.ranked_circuit.specs.Contests.{meeting}
use Rattle.ranked_circuit.proofs.BlockLaws.{length_whole, length_strictly}
use Rattle.ranked_words.proofs.meeting.meeting.Goals as goal
use Rattle.ranked_words.proofs.meeting.meeting.Goals.{After-compare-first, After-compare-second, After-strictly-fourth, After-strictly-third}

-- the numbers of gates of a comparison both ways, and of one way
abbrev both : ℕ → ℕ
both w = 3 + 3 * w

abbrev single : ℕ → ℕ
single w = 2 + 2 * w

one : (c : After-compare-first) → Stands c.compare-first.result (c.args.w.wire + both c.args.digits)
    (7 * c.args.digits + 11)
one c =
    let a = c.args in
    stands_after a.w a.table.now _ c.compare-first.new.table c.compare-first.result _ (both a.digits)
    (7 * a.digits + 11) c.compare-first.ensures
    (length_whole a.w.wire a.li a.lj a.digits) (stands a.w a.w.wire _ _ refl (omega arith) c.requires.room)

pub compare-second-requires : goal.compare-second-requires
compare-second-requires c = record {
  room = room_of c.compare-first.result _ _ _ (one (goal.at.compare-second-requires c).After-compare-first) (omega arith);
  first_below = omega (arith, c.requires.ij_below, (one (goal.at.compare-second-requires c).After-compare-first).place);
  second_below = omega (arith, c.requires.ji_below, (one (goal.at.compare-second-requires c).After-compare-first).place);
}

two : (c : After-compare-second)
    → Stands c.compare-second.result
    (c.args.w.wire + both c.args.digits + both c.args.digits)
    (4 * c.args.digits + 8)
two c =
    let a = c.args in
    let t = one c.before.before.before.before in
    stands_after c.compare-first.result c.compare-first.new.table _ c.compare-second.new.table c.compare-second.result _
    (both a.digits) (4 * a.digits + 8) c.compare-second.ensures
    (length_whole c.compare-first.result.wire a.ij a.ji a.digits)
    (stands c.compare-first.result _ _ _ t.place (omega arith) t.left)

pub strictly-third-requires : goal.strictly-third-requires
strictly-third-requires c = record {
  room = room_of c.compare-second.result _ _ _ (two (goal.at.strictly-third-requires c).After-compare-second) (omega arith);
  first_below = omega (arith, c.requires.ij_below, (two (goal.at.strictly-third-requires c).After-compare-second).place);
  second_below = omega (arith, c.requires.lj_below, (two (goal.at.strictly-third-requires c).After-compare-second).place);
}

three : (c : After-strictly-third)
    → Stands c.strictly-third.result
    (c.args.w.wire + both c.args.digits
    + both c.args.digits + single c.args.digits)
    (2 * c.args.digits + 6)
three c =
    let a = c.args in
    let t = two c.before.before.before.before in
    stands_after c.compare-second.result c.compare-second.new.table _ c.strictly-third.new.table c.strictly-third.result _
    (single a.digits) (2 * a.digits + 6) c.strictly-third.ensures
    (length_strictly c.compare-second.result.wire a.ij a.lj a.digits)
    (stands c.compare-second.result _ _ _ t.place (omega arith) t.left)

pub strictly-fourth-requires : goal.strictly-fourth-requires
strictly-fourth-requires c = record {
  room = room_of c.strictly-third.result _ _ _ (three (goal.at.strictly-fourth-requires c).After-strictly-third) (omega arith);
  first_below = omega (arith, c.requires.ji_below, (three (goal.at.strictly-fourth-requires c).After-strictly-third).place);
  second_below = omega (arith, c.requires.li_below, (three (goal.at.strictly-fourth-requires c).After-strictly-third).place);
}

-- after the comparisons
four : (c : After-strictly-fourth)
    → Stands c.strictly-fourth.result
    (c.args.w.wire + both c.args.digits
    + both c.args.digits
    + single c.args.digits
    + single c.args.digits) 4
four c =
    let a = c.args in
    let t = three c.before.before.before.before in
    stands_after c.strictly-third.result c.strictly-third.new.table _ c.strictly-fourth.new.table c.strictly-fourth.result
    _ (single a.digits) 4 c.strictly-fourth.ensures
    (length_strictly c.strictly-third.result.wire a.ji a.li a.digits)
    (stands c.strictly-third.result _ _ _ t.place (omega arith) t.left)

pub decide-requires : goal.decide-requires
decide-requires c = record {
  room = (four (goal.at.decide-requires c).After-strictly-fourth).left;
  first = omega (arith, (one (goal.at.decide-requires c).After-compare-first).place);
  second = omega (arith, (two (goal.at.decide-requires c).After-compare-second).place);
  third = omega (arith, (three (goal.at.decide-requires c).After-strictly-third).place);
  fourth = omega (arith, (four (goal.at.decide-requires c).After-strictly-fourth).place);
}

-- the gates that decide are equal if their wires are
decided : (a b s n a₁ b₁ s₁ n₁ mi mj : ℕ) → a ≡ a₁ → b ≡ b₁ → s ≡ s₁ → n ≡ n₁
    → ◌≡◌ {A = List Gate} (and_of (b - 2) (s - 1) ∷ and_of (b - 1) (n - 1) ∷ mux_of (a - 1) mi n ∷ mux_of (a - 2) mj (n + 1) ∷ [])
    (and_of (b₁ - 2) (s₁ - 1) ∷ and_of (b₁ - 1) (n₁ - 1) ∷ mux_of (a₁ - 1) mi n₁ ∷ mux_of (a₁ - 2) mj (n₁ + 1) ∷ [])
decided a b s n a₁ b₁ s₁ n₁ mi mj ea eb es en = rw (ea, eb, es, en)

pub returns : goal.returns
unfolding meeting
returns c = let a = c.args in
    let w = a.digits in
    let n = a.w.wire in
    wrote_then a.w a.table.now
    (compare n a.li a.lj w ++ compare (n + both w) a.ij a.ji w
    ++ strictly (n + both w + both w) a.ij a.lj w ++ strictly (n + both w + both w + single w) a.ji a.li w)
    c.strictly-fourth.new.table c.strictly-fourth.result _ _ c.decide.new.table c.decide.result
    (wrote_then a.w a.table.now
    (compare n a.li a.lj w ++ compare (n + both w) a.ij a.ji w
    ++ strictly (n + both w + both w) a.ij a.lj w)
    c.strictly-third.new.table c.strictly-third.result _ _ c.strictly-fourth.new.table c.strictly-fourth.result
    (wrote_then a.w a.table.now (compare n a.li a.lj w ++ compare (n + both w) a.ij a.ji w)
    c.compare-second.new.table c.compare-second.result _ _ c.strictly-third.new.table c.strictly-third.result
    (wrote_then a.w a.table.now (compare n a.li a.lj w) c.compare-first.new.table c.compare-first.result
    _ _ c.compare-second.new.table c.compare-second.result
    c.compare-first.ensures c.compare-second.ensures
    (ap (λ (m : ℕ). compare m a.ij a.ji w)
    (one (goal.at.returns c).After-compare-first).place))
    c.strictly-third.ensures
    (ap (λ (m : ℕ). strictly m a.ij a.lj w)
    (two (goal.at.returns c).After-compare-second).place))
    c.strictly-fourth.ensures (ap (λ (m : ℕ). strictly m a.ji a.li w) (three (goal.at.returns c).After-strictly-third).place))
    c.decide.ensures
    (decided c.compare-first.result.wire c.compare-second.result.wire c.strictly-third.result.wire
    c.strictly-fourth.result.wire _ _ _ _ a.mi a.mj
    (one (goal.at.returns c).After-compare-first).place
    (two (goal.at.returns c).After-compare-second).place
    (three (goal.at.returns c).After-strictly-third).place
    (four (goal.at.returns c).After-strictly-fourth).place)
