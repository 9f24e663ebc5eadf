-- `gate_adders::counter::count_levels` meets its contract: after each level, writing the levels left completes the
-- block.
-- Assumes nothing.
use Prim.Native.Nat.{◌-◌, ◌<◌}
use Rattle.gate_words.specs.Limits.{writer_limit}
use Rattle.gate_words.specs.Word.{Below}
use Rattle.gate_words.specs.Counter.{count_levels, Countable}
use Rattle.gate_words.proofs.Going.{Goes}
use Rattle.gate_adders.proofs.counter.count_levels.Given as goal

abbrev pub invariant-loop : goal.invariant-loop
invariant-loop l =
    (Below l.w.wire l.at l.d l.m) × (l.d < writer_limit) × (l.m < writer_limit) × (Countable l.m l.rest (l.levels - l.counter))
    × Goes l.initial.w l.initial.table (count_levels l.initial.w.wire l.first l.stride l.count l.extra l.levels) l.w l.table
    (count_levels l.w.wire l.at l.d l.m l.rest (l.levels - l.counter))
