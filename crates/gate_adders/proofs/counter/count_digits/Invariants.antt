-- `gate_adders::counter::count_digits` meets its contract: after each digit, writing the digits left completes the
-- block.
-- Assumes nothing.
use Prim.Native.Nat.{◌+◌, ◌-◌, ◌<◌, ◌≤◌}
use Rattle.gate_words.specs.Limits.{writer_limit}
use Rattle.gate_words.specs.Counter.{count_digits_as, count_size, Countable}
use Rattle.gate_words.proofs.Going.{Goes}
use Rattle.gate_adders.proofs.counter.count_digits.Given as goal

abbrev pub invariant-loop : goal.invariant-loop
invariant-loop l =
    (l.n + count_size l.m l.rest (l.levels - l.counter) ≤ l.initial.w.wire) × (l.m < writer_limit) × Countable l.m l.rest (l.levels - l.counter)
    × Goes l.initial.w l.initial.table (count_digits_as l.low l.top l.base l.first l.count l.extra l.levels) l.w l.table
    (count_digits_as l.low l.top l.n l.at l.m l.rest (l.levels - l.counter))
