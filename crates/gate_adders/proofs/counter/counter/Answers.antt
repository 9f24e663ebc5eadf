-- `gate_adders::counter::counter` meets its contract: first the levels, then the copies of their sums.
-- Assumes nothing.
use native.Mathlib.Omega.{arith}
use Rattle.gates.proofs.Laws.{operand_counts_lem}
use Rattle.gate_words.specs.Counter.{counter}
use Rattle.gate_words.proofs.Writing.{wrote_both, room_after}
use Rattle.gate_words.proofs.CounterSteps.{length_count}
use Rattle.gate_adders.proofs.counter.counter.Goals as goal

pub count_digits-requires : goal.count_digits-requires
count_digits-requires c =
    let a = c.args in
    let w = c.count_levels-w in
    let n = length_count a.start.wire a.first a.stride a.count a.extra a.levels in
    record {
      room = room_after a.start a.table.now _ w.new.table w.result _ _ w.ensures (omega (arith, n)) c.requires.room;
      low_one = operand_counts_lem.2;
      top_one = operand_counts_lem.2;
      levels_below = omega (arith, n, w.ensures.wires);
      few = c.requires.few;
      countable = c.requires.countable;
    }

pub returns : goal.returns
unfolding counter
returns c =
    let a = c.args in
    wrote_both a.start a.table.now _ _ _ _ _ _ c.count_levels-w.ensures
    c.count_digits.ensures
