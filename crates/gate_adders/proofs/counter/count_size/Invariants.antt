-- `gate_adders::counter::count_size` meets its contract: the gates counted so far and those of the levels left add
-- up to all.
-- Assumes nothing.
use mathlib.Core.Path.{◌≡◌}
use Prim.Native.Nat.{◌+◌, ◌-◌, ◌<◌}
use Rattle.gate_words.specs.Limits.{writer_limit}
use Rattle.gate_words.specs.Counter.{count_size, Countable}
use Rattle.gate_adders.proofs.counter.count_size.Given as goal

abbrev pub invariant-loop : goal.invariant-loop
invariant-loop l =
    (l.carries < writer_limit) × Countable l.carries l.rest (l.levels - l.counter)
    × (l.gates + count_size l.carries l.rest (l.levels - l.counter) ≡ count_size l.count l.extra l.levels)
