-- `graded_contest::contest::medians_alone` meets its contract: two gates.
-- Assumes nothing.
use mathlib.Core.Path.{refl}
use Prim.Native.Nat.{◌+◌}
use native.Mathlib.Omega.{arith}
use Rattle.gate_words.proofs.Writing.{wrote_both}
use Rattle.gate_words.proofs.Emitting.{copy_wrote}
use Rattle.gate_words.proofs.Standing.{Stands, stands, stands_after, room_of}
use Rattle.graded_contest.proofs.contest.medians_alone.Goals as goal
use Rattle.graded_contest.proofs.contest.medians_alone.Goals.{After-emit-differ}

after1 : (c : After-emit-differ) → Stands c.emit-differ.result (c.args.w.wire + 1) 1
after1 c =
    stands_after c.args.w c.args.table.now _
    c.emit-differ.new.table c.emit-differ.result _ 1 1 c.emit-differ.ensures refl
    (stands c.args.w c.args.w.wire _ _ refl
    (omega arith) c.requires)

pub emit-requires : goal.emit-requires
emit-requires c = room_of c.emit-differ.result _ _ _ (after1 (goal.at.emit-requires c).After-emit-differ) (omega arith)

pub returns : goal.returns
returns c = let a = c.args in
    (wrote_both a.w a.table.now _ c.emit-differ.new.table
    c.emit-differ.result _ _ _
    (copy_wrote a.w a.table.now c.emit-differ.new.table
    c.emit-differ.result a.e 0 0 c.emit-differ.ensures)
    (copy_wrote c.emit-differ.result c.emit-differ.new.table
    c.emit.new.table c.emit.result a.s 0 0
    c.emit.ensures))
