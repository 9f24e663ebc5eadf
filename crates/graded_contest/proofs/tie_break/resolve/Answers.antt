-- `graded_contest::tie_break::resolve` meets its contract: its four parts, one after the other.
-- Assumes nothing.
use mathlib.Core.Path.{refl}
use Prim.Native.Nat.{◌+◌}
use native.Mathlib.Omega.{arith}
use Rattle.gate_words.proofs.Writing.{wrote_both}
use Rattle.gate_words.proofs.Standing.{Stands, stands, stands_after, room_of}
use Rattle.graded_circuit.specs.TieBreak.{resolve}
use Rattle.graded_contest.proofs.tie_break.resolve.Goals as goal
use Rattle.graded_contest.proofs.tie_break.resolve.Goals.{After-both_say-outcome, After-lower_decides-lower, After-lower_first-first}

after_lower_first : (c : After-lower_first-first) → Stands c.lower_first-first.result (c.args.w.wire + 4) 12
after_lower_first c =
    stands_after c.args.w c.args.table.now _
    c.lower_first-first.new.table c.lower_first-first.result _ 4 12 c.lower_first-first.ensures refl
    (stands c.args.w c.args.w.wire _ _ refl
    (omega arith) c.requires)

pub both_say-outcome-requires : goal.both_say-outcome-requires
both_say-outcome-requires c = record {
  room = room_of c.lower_first-first.result _ _ _ (after_lower_first (goal.at.both_say-outcome-requires c).After-lower_first-first) (omega arith);
  small = omega (arith, c.requires.small);
}

after_both_say : (c : After-both_say-outcome) → Stands c.both_say-outcome.result (c.args.w.wire + 4 + 5) 7
after_both_say c =
    stands_after c.lower_first-first.result
    c.lower_first-first.new.table _ c.both_say-outcome.new.table c.both_say-outcome.result
    _ 5 7 c.both_say-outcome.ensures refl (after_lower_first c.before.before.before.before)

pub lower_decides-lower-requires : goal.lower_decides-lower-requires
lower_decides-lower-requires c = record {
  room = room_of c.both_say-outcome.result _ _ _ (after_both_say (goal.at.lower_decides-lower-requires c).After-both_say-outcome) (omega arith);
  small = omega (arith, c.requires.small);
}

after_lower_decides : (c : After-lower_decides-lower)
    → Stands c.lower_decides-lower.result (c.args.w.wire + 4 + 5 + 4) 3
after_lower_decides c =
    stands_after c.both_say-outcome.result
    c.both_say-outcome.new.table _ c.lower_decides-lower.new.table
    c.lower_decides-lower.result _ 4 3 c.lower_decides-lower.ensures refl
    (after_both_say c.before.before.before.before)

pub answer-requires : goal.answer-requires
answer-requires c = record {
  room = room_of c.lower_decides-lower.result _ _ _
      (after_lower_decides (goal.at.answer-requires c).After-lower_decides-lower) (omega arith);
  small = omega (arith, c.requires.small);
}

pub returns : goal.returns
unfolding resolve
returns c = let a = c.args in
    wrote_both a.w a.table.now _ c.lower_first-first.new.table
    c.lower_first-first.result _ _ _
    c.lower_first-first.ensures
    (wrote_both c.lower_first-first.result
    c.lower_first-first.new.table _
    c.both_say-outcome.new.table
    c.both_say-outcome.result _ _ _
    c.both_say-outcome.ensures
    (wrote_both c.both_say-outcome.result
    c.both_say-outcome.new.table _
    c.lower_decides-lower.new.table
    c.lower_decides-lower.result _ _ _
    c.lower_decides-lower.ensures c.answer.ensures))
