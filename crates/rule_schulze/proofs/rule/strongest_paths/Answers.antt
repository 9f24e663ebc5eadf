-- `rule_schulze::rule::strongest_paths` meets its contract: after l turns the table has the detours over the
-- candidates below l.
-- Assumes nothing.
use mathlib.Core.Path.{◌∙◌, refl, sym, ap}
use Prim.Native.Nat.{ℕ}
use native.Mathlib.Omega.{arith}
use native.Mathlib.Numerals.{add-one}
use Rattle.rule_schulze.specs.Closure.{closure}
use Rattle.rule_schulze.specs.inner.Tables.{entry}
use Rattle.rule_schulze.proofs.Tables.{detour_agree}
use Rattle.rule_schulze.proofs.rule.strongest_paths.Goals as goal

pub loop-l-init : goal.loop-l-init
unfolding closure
loop-l-init c = λ i j hi hj ne. refl

pub loop-l-preserved : goal.loop-l-preserved
unfolding closure
loop-l-preserved c = let s = entry c.args.links in
    let l = c.loop-l.l in
    λ i j hi hj ne.
    c.detour-after.ensures i j hi hj ne
    ∙ detour_agree c.args.k l (entry c.loop-l.paths) (closure l s) (omega arith) c.loop-l.invariant i j hi hj ne
    ∙ ap (λ (m : ℕ). closure m s i j) (sym (add-one l))
