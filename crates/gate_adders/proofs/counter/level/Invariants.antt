-- `gate_adders::counter::level` meets its contract: after each adder, writing the level from its sum on completes
-- the block.
-- Assumes nothing.
use Prim.Native.Nat.{◌-◌, ◌*◌}
use Rattle.gate_words.specs.Word.{Below}
use Rattle.gate_words.specs.Counter.{level}
use Rattle.gate_words.proofs.Going.{Goes}
use Rattle.gate_adders.proofs.counter.level.Given as goal

abbrev pub invariant-loop : goal.invariant-loop
invariant-loop l =
    (Below l.initial.w.wire l.at l.stride (l.count - 2 * l.counter))
    × Goes l.initial.w l.initial.table (level l.initial.w.wire l.sum l.first l.stride l.e l.count) l.w l.table
    (level l.w.wire l.s l.at l.stride l.e (l.count - 2 * l.counter))
