-- `graded_contest::contest::tie_break_below` meets its contract: only the medians, one comparison, or the nearest
-- differences.
-- Assumes nothing.
use mathlib.Core.Path.{◌≡◌, ◌∙◌, ap}
use Prim.Native.Nat.{ℕ, suc, ◌+◌, ◌-◌, ◌*◌, ◌%◌, ◌<◌}
use native.Mathlib.Omega.{arith}
use Rattle.gate_words.proofs.Writing.{wrote_as, room_less}
use Rattle.graded_circuit.specs.declared.plan.Plan.{Plan}
use Rattle.graded_circuit.specs.RunningSums.{word_span}
use Rattle.graded_circuit.specs.Key.{key_span}
use Rattle.graded_circuit.specs.Nearest.{stride, side_span, either_span}
use Rattle.graded_circuit.specs.TieBreak.{tie_break}
use Rattle.graded_circuit.proofs.BoundLaws.{digits_most}
use Rattle.graded_circuit.proofs.ContestLaws.{key_some}
use Rattle.graded_keys.proofs.Steps.{tie_break_below_zero, tie_break_below_one, tie_break_below_more, tie_break_below_span_one, tie_break_below_span_more}
use Rattle.graded_contest.proofs.contest.tie_break_below.Goals as goal
use Rattle.graded_contest.proofs.contest.tie_break_below.Goals.{Else-digits-eq0, Else-grades-eq2}

-- the words of a key are a stride apart
key_strides : (p : Plan) → 0 < p.digits → 2 < p.grades → key_span p ≡ suc (suc (p.grades - 3)) * stride (p.digits - 1)
key_strides p h k =
    let e : p.grades - 1 ≡ suc (suc (p.grades - 3)) = omega arith in
    let e' : p.digits + 1 ≡ stride (p.digits - 1) = omega arith in
    ap (λ (i : ℕ). i * word_span p) e ∙ ap (λ (i : ℕ). suc (suc (p.grades - 3)) * i) e'

pub returns-then-digits-eq0 : goal.returns-then-digits-eq0
returns-then-digits-eq0 c = let a = c.args in
    wrote_as a.w a.table.now _ _ _ _
    (tie_break_below_zero a.p a.w.wire a.x a.y a.e a.s a.p.digits a.high
    (a.p.grades - 2) c.if-digits-eq0.true) c.medians_alone.ensures

some : (c : Else-digits-eq0) → 0 < c.args.p.digits
some c =
    omega (arith, c.if-digits-eq0.false)

pub one_sum-requires : goal.one_sum-requires
one_sum-requires c = let a = c.args in
    let q = c.requires in
    let k = key_some a.p c.requires.plan in
    let z = some (goal.at.one_sum-requires c).Else-digits-eq0 in
    record {
      room = room_less a.w _ _ (omega (
        arith,
        tie_break_below_span_one a.p.digits (a.p.grades - 2) z (omega (arith, c.if-grades-eq2.true)),
      ))
          c.requires.room;
      first_below = omega (arith, q.first_below);
      second_below = omega (arith, q.second_below);
      cut = q.cut;
    }

pub returns-then-grades-eq2 : goal.returns-then-grades-eq2
returns-then-grades-eq2 c = let a = c.args in
    wrote_as a.w a.table.now _ _ _ _
    (tie_break_below_one a.p a.w.wire a.x a.y a.e a.s a.p.digits a.high (a.p.grades - 2)
    (some (goal.at.returns-then-grades-eq2 c).Else-digits-eq0) (omega (arith, c.if-grades-eq2.true)))
    c.one_sum.ensures

more : (c : Else-grades-eq2) → 2 < c.args.p.grades
more c =
    omega (arith, c.if-grades-eq2.false, c.requires.plan.d_least)

pub tie_break-requires : goal.tie_break-requires
tie_break-requires c = let a = c.args in
    let q = c.requires in
    let d = a.p.digits - 1 in
    let z = some (goal.at.tie_break-requires c).Else-digits-eq0 in
    let m = more (goal.at.tie_break-requires c).Else-grades-eq2 in
    let k = key_strides a.p z m in
    let e : a.p.grades - 2 - 1 ≡ a.p.grades - 3 = omega arith in
    let f = tie_break_below_span_more a.p.digits (a.p.grades - 2) z (omega arith) in
    record {
      room = room_less a.w _ _ (omega (arith, f, ap (λ (i : ℕ). i * side_span d) e, ap (λ (i : ℕ). i * either_span d) e)) c.requires.room;
      first_below = omega (arith, q.first_below, k);
      second_below = omega (arith, q.second_below, k);
      narrow = omega (arith, digits_most a.p c.requires.plan);
      few = omega (arith, c.requires.plan.d_most);
      cut = q.cut;
    }

pub returns : goal.returns
returns c = let a = c.args in
    let m = more (goal.at.returns c).Else-grades-eq2 in
    let e : a.p.grades - 3 ≡ a.p.grades - 2 - 1 = omega arith in
    wrote_as a.w a.table.now _ _ _ _
    (ap (tie_break (a.p.ballots % 2) a.w.wire a.x a.y a.e a.s (a.p.digits - 1) a.high) e
    ∙ tie_break_below_more a.p a.w.wire a.x a.y a.e a.s a.p.digits a.high
    (a.p.grades - 2) (some (goal.at.returns c).Else-digits-eq0) (omega arith)) c.tie_break.ensures
