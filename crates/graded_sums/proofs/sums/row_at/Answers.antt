-- `graded_sums::sums::row_at` meets its contract: the best grade's bits, or a row.
-- Assumes nothing.
use mathlib.Core.Path.{◌∙◌, sym}
use Rattle.graded_sums.proofs.Writers.{first_row, later_row}
use Rattle.graded_sums.proofs.sums.row_at.Goals as goal

pub returns-then-g-eq0 : goal.returns-then-g-eq0
returns-then-g-eq0 c =
    let a = c.args in c.bits_at.ensures ∙ sym (first_row a.p a.n a.c a.g c.if-g-eq0.true)

pub returns : goal.returns
returns c =
    let a = c.args in sym (later_row a.p a.n a.c a.g c.if-g-eq0.false)
