-- `gate_levels::level::wire_level` meets its contract: an input has level 0, any other wire that of its gate.
-- Assumes nothing.
use mathlib.Core.Path.{sym, ap}
use mathlib.Core.Bool.{Bool, cond}
use Prim.Native.Nat.{◌-◌}
use lib.ListN.{get_or}
use borrow.Author.Tests.{lt-ltb, le-ltb}
use Rattle.gate_levels.specs.Levels.{wire_level}
use Rattle.gate_levels.proofs.level.wire_level.Goals as goal

pub returns-then-wire-inputs : goal.returns-then-wire-inputs
unfolding wire_level
returns-then-wire-inputs c = let a = c.args in
    sym (ap (λ (b : Bool). cond b 0 (get_or a.levels.now (a.x - a.inputs) 0))
    (lt-ltb a.x a.inputs c.if-wire-inputs.true))

pub returns-else-wire-inputs : goal.returns-else-wire-inputs
unfolding wire_level
returns-else-wire-inputs c = let a = c.args in
    sym (ap (λ (b : Bool). cond b 0 (get_or a.levels.now (a.x - a.inputs) 0))
    (le-ltb a.x a.inputs c.if-wire-inputs.false))
