-- `gate_levels::level::gate_level` meets its contract: the largest level of the operands, plus one for a conditional
-- gate.
-- Assumes nothing.
use mathlib.Core.Path.{◌≡◌, ◌∙◌, ap}
use mathlib.Core.Bool.{Bool, true, false}
use mir.Val.{bool_byte}
use Prim.Native.Nat.{ℕ, ◌+◌, ◌≤◌, max}
use native.Mathlib.Omega.{arith}
use Rattle.basics.proofs.Flags.{bit_is}
use Rattle.gate_levels.proofs.Filling.{level_by, small_level, a_known, b_known, c_known}
use Rattle.gate_levels.proofs.level.gate_level.Goals as goal

mark_most : (t : Bool) → bool_byte t ≤ 1
mark_most true = omega arith
mark_most false = omega arith

pub wire_level-a-requires : goal.wire_level-a-requires
wire_level-a-requires c = a_known _ _ _ _ c.requires.gate _ c.at-gate.ensures

pub wire_level-b-requires : goal.wire_level-b-requires
wire_level-b-requires c = b_known _ _ _ _ c.requires.gate _ c.at-gate.ensures

pub wire_level-c-requires : goal.wire_level-c-requires
wire_level-c-requires c = c_known _ _ _ _ c.requires.gate _ c.at-gate.ensures

pub overflow_add-result : goal.overflow_add-result
overflow_add-result c = let a = c.args in
    let x = c.wire_level-a in
    let y = c.wire_level-b in
    let z = c.wire_level-c in
    let most : c.max-deepest.result ≡ max (max x.result y.result) z.result = c.max-deepest.ensures
    ∙ ap (λ (n : ℕ). max n z.result) c.max.ensures in
    omega (
      arith,
      small_level a.inputs a.table.now a.g a.levels.now c.requires.gate _ c.at-gate.ensures x.result
          y.result z.result x.ensures y.ensures z.ensures c.max-deepest.result most,
      c.from.ensures,
      mark_most c.conditional.result,
    )

pub returns : goal.returns
returns c = let a = c.args in
    let x = c.wire_level-a in
    let y = c.wire_level-b in
    let z = c.wire_level-c in
    let most : c.max-deepest.result ≡ max (max x.result y.result) z.result = c.max-deepest.ensures
    ∙ ap (λ (n : ℕ). max n z.result) c.max.ensures in
    ap (λ (n : ℕ). c.max-deepest.result + n) (c.from.ensures ∙ bit_is c.conditional.result)
    ∙ level_by a.inputs a.table.now a.g a.levels.now c.requires.gate _ c.at-gate.ensures x.result y.result
    z.result x.ensures y.ensures z.ensures c.max-deepest.result c.conditional.result most c.conditional.ensures
