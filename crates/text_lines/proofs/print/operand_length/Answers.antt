-- `text_lines::print::operand_length` meets its contract.
-- Assumes nothing.
use mathlib.Core.Path.{sym, ap}
use lib.ListN.{length}
use Rattle.text_lines.proofs.Storing.{decimal_most, text_used, text_unused}
use native.Mathlib.Omega.{arith}
use Rattle.text_lines.proofs.print.operand_length.Goals as goal

pub overflow_add-result : goal.overflow_add-result
overflow_add-result c = omega (arith, c.count.ensures, decimal_most c.args.n)

pub returns-then-used : goal.returns-then-used
returns-then-used c = omega (
  arith,
  c.count.ensures,
  ap length (text_used c.args.used c.args.n c.if-used.true),
)

pub returns-else-used : goal.returns-else-used
returns-else-used c = sym (ap length (text_unused c.args.used c.args.n c.if-used.false))
