-- `jury::shape::Shape::new` meets its contract: the test of the limits decides its answer.
-- Assumes nothing.
use mathlib.Core.Path.{◌∙◌, sym}
use Rattle.jury.proofs.Constructed.{shaped_inside, shaped_outside}
use Rattle.jury.proofs.shape.Shape.new.Goals as goal

pub returns-then-is_within_limits : goal.returns-then-is_within_limits
returns-then-is_within_limits c = shaped_inside _ (sym c.is_within_limits.ensures ∙ c.if-is_within_limits.true)

pub returns-else-is_within_limits : goal.returns-else-is_within_limits
returns-else-is_within_limits c = shaped_outside _ (sym c.is_within_limits.ensures ∙ c.if-is_within_limits.false)
