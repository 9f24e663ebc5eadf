-- `text_lines::print::put_line` meets its contract: the parts of the line are stored one after the other.
-- Assumes nothing.
use mathlib.Core.Path.{refl}
use mathlib.Core.List.{[], ◌∷◌}
use Rattle.text_lines.proofs.Storing.{stored_long, stored_then, line_with_lem, line_long}
use native.Mathlib.Omega.{arith}
use Rattle.text_lines.proofs.print.put_line.Goals as goal

pub put-kind_end-requires : goal.put-kind_end-requires
put-kind_end-requires c = omega (
  arith,
  line_long c.operands-count.result c.args.gate c.operands-count.ensures,
)

pub put_operand-a_end-requires : goal.put_operand-a_end-requires
put_operand-a_end-requires c = omega (
  arith,
  stored_long c.put-kind_end.ensures,
  line_long c.operands-count.result c.args.gate c.operands-count.ensures,
)

pub put_operand-b_end-requires : goal.put_operand-b_end-requires
put_operand-b_end-requires c = omega (
  arith,
  stored_long c.put-kind_end.ensures,
  stored_long c.put_operand-a_end.ensures,
  line_long c.operands-count.result c.args.gate c.operands-count.ensures,
)

pub put_operand-c_end-requires : goal.put_operand-c_end-requires
put_operand-c_end-requires c = omega (
  arith,
  stored_long c.put-kind_end.ensures,
  stored_long c.put_operand-a_end.ensures,
  stored_long c.put_operand-b_end.ensures,
  line_long c.operands-count.result c.args.gate c.operands-count.ensures,
)

pub bounds-output-c_end : goal.bounds-output-c_end
bounds-output-c_end c = omega (
  arith,
  stored_long c.put-kind_end.ensures,
  stored_long c.put_operand-a_end.ensures,
  stored_long c.put_operand-b_end.ensures,
  stored_long c.put_operand-c_end.ensures,
  line_long c.operands-count.result c.args.gate c.operands-count.ensures,
)

pub overflow_add-result : goal.overflow_add-result
overflow_add-result c = omega (
  arith,
  stored_long c.put-kind_end.ensures,
  stored_long c.put_operand-a_end.ensures,
  stored_long c.put_operand-b_end.ensures,
  stored_long c.put_operand-c_end.ensures,
  line_long c.operands-count.result c.args.gate c.operands-count.ensures,
)

pub returns : goal.returns
returns c =
    let a = stored_then c.put-kind_end.ensures c.put_operand-a_end.ensures in
    let b = stored_then a c.put_operand-b_end.ensures in
    let most = stored_then b c.put_operand-c_end.ensures in
    rw (← line_with_lem c.operands-count.result c.args.gate c.operands-count.ensures)
    (stored_then most {ys = 10 ∷ []} (record { next = refl; is = refl }))
