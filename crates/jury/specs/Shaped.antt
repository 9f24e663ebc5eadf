-- What the constructor of shapes answers.
use Rattle.std.specs.Prelude.{◌≡◌, cond, Result, Ok, Err}
use Rattle.jury.specs.declared.shape.Shape.{Shape}
use Rattle.jury.specs.declared.reason.Refusal.{Refusal}
use Rattle.jury.specs.declared.reason.Refusal.TheVariants as refused
use Rattle.jury.specs.Shape.{within_limits}
use Rattle.jury.specs.Reason.{shaped_for, unless}

-- The answer is s itself if s is within the limits; otherwise it is a refusal, for reason 1.
pub record Shaped (s : Shape) (r : Result Shape Refusal) : Type 0 where
  pub result : r ≡ cond (within_limits s) (Ok s) (Err refused.Shape)
  pub reason : shaped_for r ≡ unless (within_limits s) 1
