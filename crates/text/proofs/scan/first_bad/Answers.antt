-- `text::scan::first_bad` meets its contract: the first bad gate of the rest is the first bad gate of all.
-- Assumes nothing.
use mathlib.Core.Path.{◌∙◌, sym}
use lib.ListN.{drop}
use native.Mathlib.Numerals.{add-one}
use native.Mathlib.Omega.{arith}
use Rattle.text.specs.Text.{lines_of, first_malformed}
use Rattle.text.proofs.Scanning.{next_within, next_later, later_other, later_good, here_bad, here_other, bad_end, not_both, nowhere_any}
use Rattle.text.proofs.scan.first_bad.Goals as goal

pub returns-in_err-line : goal.returns-in_err-line
returns-in_err-line c = not_both (first_malformed 0 (lines_of (drop c.loop-at.at c.args.text.now))) 0
    (here_other _ _ c.in_err-line.ensures c.loop-at-test.true 0) c.loop-at.invariant.2

pub returns-then-not-are_below : goal.returns-then-not-are_below
returns-then-not-are_below c =
    sym (here_bad _ _ _ c.in_ok-line.ensures c.args.inputs c.loop-at.i c.requires.some _ c.are_below.ensures c.if-not-are_below.true)
    ∙ c.loop-at.invariant.3

pub loop-at-smaller : goal.loop-at-smaller
loop-at-smaller c = omega (arith, next_later c.args.text.now c.loop-at.at _ c.in_ok-line.ensures, c.loop-at-test.true)

pub loop-at-preserved : goal.loop-at-preserved
loop-at-preserved c =
    let l = c.loop-at in
    let text = c.args.text.now in
    let line = c.in_ok-line.ensures in
    let later = next_later text l.at _ line in (
      next_within text l.at _ line,
      omega arith,
      nowhere_any _ 1 0 (sym (later_other text l.at _ line 0) ∙ l.invariant.2),
      rw (add-one l.i) (sym (later_good text l.at _ line c.args.inputs l.i c.requires.some _ c.are_below.ensures c.if-not-are_below.false)
          ∙ l.invariant.3),
    )

pub returns : goal.returns
returns c = sym (bad_end c.args.text.now c.loop-at.at c.loop-at-test.false c.args.inputs c.loop-at.i) ∙ c.loop-at.invariant.3
