-- `gate_adders::reach::carries_by` meets its contract: after i digits, writing the rest of the chain completes it.
-- Assumes nothing.
use Prim.Native.Nat.{◌+◌, ◌-◌}
use Rattle.gate_words.specs.Reach.{carries_by}
use Rattle.gate_words.proofs.Going.{Goes}
use Rattle.gate_adders.proofs.reach.carries_by.Given as goal

abbrev pub invariant-loop-i : goal.invariant-loop-i
invariant-loop-i l =
    Goes l.initial.next l.initial.table (carries_by l.initial.next.wire l.f l.x l.carry l.digits) l.next l.table
    (carries_by l.next.wire (l.f + l.i) (l.x + l.i) l.last (l.digits - l.i))
