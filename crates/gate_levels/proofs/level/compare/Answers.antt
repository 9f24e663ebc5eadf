-- `gate_levels::level::compare` meets its contract: the first gate whose level differs decides; until then,
-- comparing the rest answers for all.
-- Assumes nothing.
use mathlib.Core.Path.{◌∙◌, refl, ap}
use mathlib.Core.List.{[], ◌∷◌, ◌++◌}
use Prim.Native.Nat.{ℕ, ◌<◌}
use native.Mathlib.Numerals.{add-one}
use native.Mathlib.Omega.{arith}
use lib.ListN.{length, take}
use lib.Seq.{take-suc}
use Rattle.gate_levels.proofs.Filling.{left_start, level_ready, left_turn, other, own_levels}
use Rattle.gate_levels.proofs.level.compare.Goals as goal

pub loop-g-init : goal.loop-g-init
loop-g-init c = left_start c.args.inputs c.args.table.now c.args.levels.now c.requires.good c.requires.levels_length

pub gate_level-level-requires : goal.gate_level-level-requires
gate_level-level-requires c = let l = c.loop-g in
    let a = c.args in
    record {
      marked = refl;
      gate = level_ready a.inputs a.table.now a.levels.now l.most l.g l.invariant c.requires.some_input
          (omega (arith, c.requires.levels_length, c.loop-g-test.true)) c.requires.few;
    }

pub loop-g-preserved : goal.loop-g-preserved
loop-g-preserved c = let l = c.loop-g in
    let a = c.args in
    let v = c.gate_level-level in
    let inside : l.g < length a.levels.now = omega (arith, c.loop-g-test.true) in
    left_turn a.inputs a.table.now a.levels.now l.most l.g l.invariant c.requires.some_input
    (omega (arith, c.requires.levels_length, c.loop-g-test.true)) v.result v.ensures
    a.levels.now _ _ refl (take-suc a.levels.now l.g 0 inside
    ∙ ap (λ (n : ℕ). take l.g a.levels.now ++ (n ∷ [])) c.if-given-level.false) c.max-most.ensures
    (add-one l.g)

pub returns : goal.returns
returns c = let l = c.loop-g in
    let a = c.args in
    own_levels a.inputs a.table.now a.levels.now l.most l.g l.invariant
    (omega (arith, c.requires.levels_length, c.loop-g-test.false)) c.rounds.result c.rounds.ensures

pub returns-then-given-level : goal.returns-then-given-level
returns-then-given-level c = let l = c.loop-g in
    let a = c.args in
    let v = c.gate_level-level in
    other a.inputs a.table.now a.levels.now l.most l.g l.invariant c.requires.some_input
    (omega (arith, c.requires.levels_length, c.loop-g-test.true)) v.result
    v.ensures (λ e. c.if-given-level.true e)
