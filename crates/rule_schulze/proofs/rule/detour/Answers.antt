-- `rule_schulze::rule::detour` meets its contract: the rows below i allow paths over l. Off the diagonal they are
-- the definition's.
-- Assumes nothing.
use mathlib.Core.Path.{◌∙◌}
use native.Mathlib.Omega.{arith}
use Rattle.rule_schulze.specs.inner.Tables.{entry}
use Rattle.rule_schulze.proofs.Tables.{detour_tried}
use Rattle.rule_schulze.proofs.rule.detour.Goals as goal

pub returns : goal.returns
returns c = λ i j hi hj ne. c.loop-i.invariant.1 i j (omega arith) hj
    ∙ detour_tried c.args.l (entry c.args.paths) i j ne
