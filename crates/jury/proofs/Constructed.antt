-- What the constructor's answer says about the shape that was requested.
-- Assumes nothing.
use mathlib.Core.Path.{◌≡◌, refl, sym, ap}
use mathlib.Core.Bool.{Bool, true, false, cond}
use Rattle.std.specs.Prelude.{Ok, Err}
use Rattle.jury.specs.declared.shape.Shape.{Shape}
use Rattle.jury.specs.Shape.{within_limits}
use Rattle.jury.specs.Reason.{shaped_for, unless, reason_of, reason_at}
use Rattle.jury.specs.Shaped.{Shaped}
use Rattle.jury.specs.declared.reason.Refusal.{Refusal}
use Rattle.jury.specs.declared.reason.Refusal.TheVariants as refused

-- an accepted shape is the one that was requested
pub shape_is : (b : Bool) (s x : Shape) → cond b (Ok s) (Err refused.Shape) ≡ Ok x → x ≡ s
shape_is true s x e = cc
shape_is false s x e = cc

-- a refused one is outside the limits, and the refusal is that of shapes
pub outside_is : (b : Bool) (s : Shape) (r : Refusal) → cond b (Ok s) (Err refused.Shape) ≡ Err r
    → (b ≡ false) × (r ≡ refused.Shape)
outside_is true s r e = absurd cc
outside_is false s r e = (refl, cc)

-- the two answers
pub shaped_inside : (s : Shape) → within_limits s ≡ true → Shaped s (Ok s)
unfolding shaped_for unless
shaped_inside s e = record {
  result = ap (λ (t : Bool). cond t (Ok s) (Err refused.Shape)) (sym e);
  reason = ap (λ (t : Bool). unless t 1) (sym e);
}

pub shaped_outside : (s : Shape) → within_limits s ≡ false → Shaped s (Err refused.Shape)
unfolding shaped_for unless reason_of reason_at
shaped_outside s e = record {
  result = ap (λ (t : Bool). cond t (Ok s) (Err refused.Shape)) (sym e);
  reason = ap (λ (t : Bool). unless t 1) (sym e);
}
