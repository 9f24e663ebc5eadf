-- `rule_schulze::rule::wins` meets its contract: nobody below j beats i; the first candidate that does ends the
-- loop.
-- Assumes nothing.
use mathlib.Core.Path.{sym}
use native.Mathlib.Omega.{arith}
use Rattle.rule_schulze.specs.inner.Tables.{entry}
use Rattle.rule_schulze.proofs.Tables.{unbeaten_holds, unbeaten_fails}
use Rattle.rule_schulze.proofs.rule.wins.Goals as goal

pub returns-then-paths-i : goal.returns-then-paths-i
returns-then-paths-i c = let t = entry c.args.paths in
    let i = c.args.i in
    let j = c.loop-j.j in
    sym (unbeaten_fails c.args.paths c.args.k i j (omega arith) c.if-j-i.true c.if-paths-i.true)

pub returns : goal.returns
returns c = sym (unbeaten_holds c.args.paths c.args.k c.args.i
    (λ j h. c.loop-j.invariant j (omega arith)))
