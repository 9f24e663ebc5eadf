-- `graded_writer::merge::merge` meets its contract: the contest, which group stays, then who stays in each group.
-- Assumes nothing.
use mathlib.Core.Path.{◌≡◌, refl, ap}
use Prim.Native.Nat.{ℕ, ◌+◌, ◌-◌}
use native.Mathlib.Omega.{arith}
use Rattle.gate_words.proofs.Writing.{wrote_as, room_less}
use Rattle.gate_words.proofs.Standing.{Stands, stands, stands_after, room_of, wrote_then}
use Rattle.graded_circuit.specs.Contest.{contest, result_at, contest_span}
use Rattle.graded_circuit.specs.Merge.{keep_winners, select_flags, merge}
use Rattle.graded_circuit.proofs.ContestLaws.{contest_block}
use Rattle.graded_circuit.proofs.MergeLaws.{high_leaves, select_flags_block, keep_winners_block}
use Rattle.graded_writer.proofs.merge.merge.Goals as goal
use Rattle.graded_writer.proofs.merge.merge.Goals.{After-contest-compared, After-keep_winners-first, After-select_flags-judged}

pub contest-compared-requires : goal.contest-compared-requires
contest-compared-requires c = let q = c.requires in
    record {
      plan = c.requires.plan;
      room = room_less c.args.w _ _ (omega arith) c.requires.room;
      first_below = q.first_below;
      second_below = q.second_below;
      cut = omega (arith, c.high_digits.ensures, high_leaves c.args.p (c.args.l + c.args.m));
    }

-- after the contest, after the flags, and after the first group
compared : (c : After-contest-compared)
    → Stands c.contest-compared.result (c.args.w.wire
    + contest_span c.args.p)
    (3 + (c.args.l + c.args.m))
compared c =
    let a = c.args in
    let q = c.requires in
    stands_after a.w a.table.now _ c.contest-compared.new.table c.contest-compared.result _ _ _ c.contest-compared.ensures
    (contest_block a.p c.requires.plan a.w.wire a.x a.y c.high_digits.result
    (omega (arith, c.high_digits.ensures, high_leaves a.p (a.l + a.m))) q.first_below
    q.second_below).long
    (stands a.w a.w.wire _ _ refl (omega arith) c.requires.room)

pub overflow_sub-q : goal.overflow_sub-q
overflow_sub-q c = omega (arith, (compared (goal.at.overflow_sub-q c).After-contest-compared).place)

pub select_flags-judged-requires : goal.select_flags-judged-requires
select_flags-judged-requires c = record {
  room = room_of c.contest-compared.result _ _ _
      (compared (goal.at.select_flags-judged-requires c).After-contest-compared) (omega arith);
  place = omega (arith, (compared (goal.at.select_flags-judged-requires c).After-contest-compared).place);
}

judged : (c : After-select_flags-judged)
    → Stands c.select_flags-judged.result
    (c.args.w.wire + contest_span c.args.p + 3)
    (c.args.l + c.args.m)
judged c =
    stands_after c.contest-compared.result
    c.contest-compared.new.table _ c.select_flags-judged.new.table c.select_flags-judged.result
    _ _ _ c.select_flags-judged.ensures
    (select_flags_block (c.contest-compared.result.wire - 2)).long
    (compared c.before.before.before.before.before)

pub overflow_add-q : goal.overflow_add-q
overflow_add-q c = omega (
  arith,
  (compared (goal.at.overflow_add-q c).After-contest-compared).place,
  c.requires.room.small,
)

pub keep_winners-first-requires : goal.keep_winners-first-requires
keep_winners-first-requires c = let q = c.requires in
    let p = (judged (goal.at.keep_winners-first-requires c).After-select_flags-judged).place in
    record {
      room = room_of c.select_flags-judged.result _ _ _ (judged (goal.at.keep_winners-first-requires c).After-select_flags-judged) (omega arith);
      some = q.first_some;
      below = λ k. let z = q.first_won k in omega arith;
    }

first : (c : After-keep_winners-first)
    → Stands c.keep_winners-first.result
    (c.args.w.wire + contest_span c.args.p + 3
    + c.args.l) c.args.m
first c =
    let a = c.args in
    let q = c.requires in
    let at = c.before.before.before.before in
    let p = (judged at).place in
    stands_after c.select_flags-judged.result
    c.select_flags-judged.new.table _ c.keep_winners-first.new.table
    c.keep_winners-first.result _ _ _ c.keep_winners-first.ensures
    (keep_winners_block c.select_flags-judged.result.wire a.u
    (c.contest-compared.result.wire - 2 + 4) a.l
    (λ k. let z = q.first_won k in omega arith)
    (omega (arith, (compared at.before.before.before.before.before).place, p))).long
    (judged c.before.before.before.before)

pub overflow_add-q-2 : goal.overflow_add-q-2
overflow_add-q-2 c = omega (
  arith,
  (compared (goal.at.overflow_add-q-2 c).After-contest-compared).place,
  c.requires.room.small,
)

pub keep_winners-requires : goal.keep_winners-requires
keep_winners-requires c = let q = c.requires in
    let p = (first (goal.at.keep_winners-requires c).After-keep_winners-first).place in
    record {
      room = (first (goal.at.keep_winners-requires c).After-keep_winners-first).left;
      some = q.second_some;
      below = λ k. let z = q.second_won k in omega arith;
    }

pub returns : goal.returns
unfolding merge
returns c = let a = c.args in
    let e : c.contest-compared.result.wire - 2
    ≡ result_at a.p a.w.wire =
    omega (arith, (compared (goal.at.returns c).After-contest-compared).place) in
    wrote_then a.w a.table.now _ c.keep_winners-first.new.table
    c.keep_winners-first.result _ _ _ _
    (wrote_then a.w a.table.now _
    c.select_flags-judged.new.table
    c.select_flags-judged.result _ _ _ _
    (wrote_then a.w a.table.now _ c.contest-compared.new.table
    c.contest-compared.result _ _ _ _
    (wrote_as a.w a.table.now _ _ _ _
    (ap (contest a.p a.w.wire a.x a.y)
    c.high_digits.ensures)
    c.contest-compared.ensures)
    c.select_flags-judged.ensures (ap select_flags e))
    c.keep_winners-first.ensures (ap (λ (k : ℕ). keep_winners a.u (k + 4) a.l) e))
    c.keep_winners.ensures (ap (λ (k : ℕ). keep_winners a.v (k + 3) a.m) e)
