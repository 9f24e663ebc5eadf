-- `text_lines::decimal::count` meets its contract: the number has more than `more` digits, and the bound is the
-- next power of ten.
-- Assumes nothing.
use mathlib.Core.Path.{◌∙◌, sym}
use native.Mathlib.Numerals.{add-one}
use Rattle.text_lines.proofs.DecimalLaws.{count_is}
use native.Mathlib.Omega.{arith}
use Rattle.text_lines.proofs.decimal.count.Goals as goal

pub returns : goal.returns
returns c = add-one c.loop-bound.more
    ∙ sym (count_is c.loop-bound.more c.args.n (omega arith) (omega arith)
    c.loop-bound.invariant.1)
