-- `graded_keys::nearest::either` meets its contract: one choice of words for each key.
-- Assumes nothing.
use mathlib.Core.Path.{refl, ap}
use Prim.Native.Nat.{◌+◌}
use native.Mathlib.Numerals.{add-one}
use native.Mathlib.Omega.{arith}
use Rattle.gate_words.specs.Choice.{choose}
use Rattle.gate_words.proofs.Laws.{length_choose}
use Rattle.gate_words.proofs.Writing.{wrote_as}
use Rattle.graded_circuit.specs.Nearest.{either}
use Rattle.gate_words.proofs.Standing.{Stands, stands, stands_after, wrote_then}
use Rattle.graded_keys.proofs.nearest.either.Goals as goal
use Rattle.graded_keys.proofs.nearest.either.Goals.{After-choose-left}

-- after the first choice
first : (c : After-choose-left)
    → Stands c.choose-left.result
    (c.args.w.wire + (c.args.above + 1))
    (c.args.above + 1)
first c =
    stands_after c.args.w c.args.table.now _
    c.choose-left.new.table c.choose-left.result _ _ _ c.choose-left.ensures
    (length_choose c.args.f c.args.x
    c.args.u (c.args.above + 1))
    (stands c.args.w c.args.w.wire _ _ refl
    (omega arith) c.requires.room)

pub choose-requires : goal.choose-requires
choose-requires c = record {
  room = (first (goal.at.choose-requires c).After-choose-left).left;
  first_below = omega (arith, c.requires, (first (goal.at.choose-requires c).After-choose-left).place);
  second_below = omega (arith, c.requires, (first (goal.at.choose-requires c).After-choose-left).place);
}

pub returns : goal.returns
unfolding either
returns c = let a = c.args in
    wrote_then a.w a.table.now _ c.choose-left.new.table
    c.choose-left.result _ _ _ _
    (wrote_as a.w a.table.now _ _ _ _ (ap (choose a.f a.x a.u) (add-one a.above))
    c.choose-left.ensures)
    c.choose.ensures (ap (choose a.f a.y a.v) (add-one a.above))
