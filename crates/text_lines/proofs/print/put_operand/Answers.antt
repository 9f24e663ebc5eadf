-- `text_lines::print::put_operand` meets its contract.
-- Assumes nothing.
use mathlib.Core.Path.{ap, refl}
use native.Mathlib.Numerals.{add-one}
use lib.ListN.{length, length-set}
use Rattle.text_lines.specs.Line.{operand_text}
use Rattle.text_lines.proofs.Storing.{text_used}
use native.Mathlib.Omega.{arith}
use Rattle.text_lines.proofs.print.put_operand.Goals as goal

pub returns-then-not-used : goal.returns-then-not-used
unfolding operand_text
returns-then-not-used c = rw c.if-not-used.true (record { next = omega arith; is = refl })

pub bounds-output-at : goal.bounds-output-at
bounds-output-at c = omega (arith, ap length (text_used c.args.used c.args.n c.if-not-used.false))

pub put-requires : goal.put-requires
put-requires c = omega (arith, ap length (text_used c.args.used c.args.n c.if-not-used.false), length-set c.args.output.now c.args.at 32)

pub returns : goal.returns
unfolding operand_text
returns c =
    let p = c.put.ensures in
    rw c.if-not-used.false (record { next = omega arith; is = rw (add-one c.args.at) at p.is })
