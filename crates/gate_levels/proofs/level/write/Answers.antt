-- `gate_levels::level::write` meets its contract: after each gate, writing the levels left completes the table.
-- Assumes nothing.
use mathlib.Core.Path.{◌∙◌, refl}
use Prim.Native.Nat.{◌<◌}
use native.Mathlib.Numerals.{add-one}
use native.Mathlib.Omega.{arith}
use lib.ListN.{length, length-set}
use lib.Seq.{take-suc-set}
use Rattle.gate_levels.proofs.Filling.{left_start, level_ready, left_turn, left_end}
use Rattle.gate_levels.proofs.level.write.Goals as goal

pub loop-g-init : goal.loop-g-init
loop-g-init c = left_start c.args.inputs c.args.table.now c.args.levels.now c.requires.good c.requires.levels_length

pub gate_level-level-requires : goal.gate_level-level-requires
gate_level-level-requires c = let l = c.loop-g in
    let a = c.args in
    record {
      marked = refl;
      gate = level_ready a.inputs a.table.now l.levels l.most l.g l.invariant c.requires.some_input
          (omega (arith, c.requires.levels_length, c.loop-g-test.true)) c.requires.few;
    }

pub loop-g-preserved : goal.loop-g-preserved
loop-g-preserved c = let l = c.loop-g in
    let a = c.args in
    let v = c.gate_level-level in
    let long = l.invariant.long in
    let inside : l.g < length l.levels = omega (arith, c.requires.levels_length, c.loop-g-test.true) in
    left_turn a.inputs a.table.now l.levels l.most l.g l.invariant c.requires.some_input
    (omega (arith, c.requires.levels_length, c.loop-g-test.true)) v.result
    v.ensures _ _ _ (length-set l.levels l.g v.result)
    (take-suc-set l.levels l.g v.result inside) c.max-most.ensures (add-one l.g)

pub returns : goal.returns
returns c = let l = c.loop-g in
    let a = c.args in
    let e = left_end a.inputs a.table.now l.levels l.most l.g l.invariant
    (omega (arith, c.requires.levels_length, c.loop-g-test.false)) in
    record { rounds = c.rounds.ensures ∙ e.1; levels = e.0 }
