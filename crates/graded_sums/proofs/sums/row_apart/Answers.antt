-- `graded_sums::sums::row_apart` meets its contract, case by case.
-- Assumes nothing.
use mathlib.Core.Path.{◌∙◌, sym}
use Rattle.graded_sums.proofs.Writers.{first_apart, later_apart}
use Rattle.graded_sums.proofs.sums.row_apart.Goals as goal

pub returns-then-g-eq0 : goal.returns-then-g-eq0
returns-then-g-eq0 c =
    let a = c.args in c.apart.ensures ∙ sym (first_apart a.p a.g c.if-g-eq0.true)

pub returns : goal.returns
returns c =
    let a = c.args in sym (later_apart a.p a.g c.if-g-eq0.false)
