-- `text::scan::first_malformed` meets its contract: the first malformed line of the rest is the first one of all.
-- Assumes nothing.
use mathlib.Core.Path.{◌∙◌, sym}
use native.Mathlib.Numerals.{add-one}
use native.Mathlib.Omega.{arith}
use Rattle.text.proofs.Scanning.{next_within, next_later, later_other, here_other, other_end}
use Rattle.text.proofs.scan.first_malformed.Goals as goal

pub returns-in_default : goal.returns-in_default
returns-in_default c = sym (here_other _ _ c.in_default.ensures c.loop-at-test.true c.loop-at.i) ∙ c.loop-at.invariant.2

pub loop-at-smaller : goal.loop-at-smaller
loop-at-smaller c = omega (arith, next_later c.args.text.now c.loop-at.at _ c.in-Some.ensures, c.loop-at-test.true)

pub loop-at-preserved : goal.loop-at-preserved
loop-at-preserved c =
    let text = c.args.text.now in
    let line = c.in-Some.ensures in
    let later = next_later text c.loop-at.at _ line in (
      next_within text c.loop-at.at _ line,
      omega arith,
      rw (add-one c.loop-at.i)
          (sym (later_other text c.loop-at.at _ line c.loop-at.i) ∙ c.loop-at.invariant.2),
    )

pub returns : goal.returns
returns c = sym (other_end c.args.text.now c.loop-at.at c.loop-at-test.false c.loop-at.i) ∙ c.loop-at.invariant.2
