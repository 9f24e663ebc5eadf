-- `gate_adders::reach::carries` meets its contract: after i digits, writing the digits left completes the block.
-- Assumes nothing.
use Prim.Native.Nat.{◌+◌, ◌-◌}
use Rattle.gate_words.specs.Reach.{carries}
use Rattle.gate_words.proofs.Going.{Goes}
use Rattle.gate_adders.proofs.reach.carries.Given as goal

abbrev pub invariant-loop-i : goal.invariant-loop-i
invariant-loop-i l =
    Goes l.initial.next l.initial.table (carries l.initial.next.wire l.x l.y l.carry l.digits) l.next l.table
    (carries l.next.wire (l.x + l.i) (l.y + l.i) l.last (l.digits - l.i))
