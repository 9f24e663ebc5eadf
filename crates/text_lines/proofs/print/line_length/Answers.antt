-- `text_lines::print::line_length` meets its contract: a number has at most ten characters, an operand eleven.
-- Assumes nothing.
use lib.Dec.{ltb}
use Rattle.text_lines.proofs.Storing.{decimal_most, operand_most, line_long}
use native.Mathlib.Omega.{arith}
use Rattle.text_lines.proofs.print.line_length.Goals as goal

pub overflow_add-result : goal.overflow_add-result
overflow_add-result c =
    let s = c.args in
    let m = c.operands-count.result in
    omega (arith, decimal_most s.gate.kind, operand_most (ltb 0 m) s.gate.a, operand_most (ltb 1 m) s.gate.b, operand_most (ltb 2 m) s.gate.c)

pub overflow_add-result-2 : goal.overflow_add-result-2
overflow_add-result-2 c =
    let s = c.args in
    let m = c.operands-count.result in
    omega (arith, decimal_most s.gate.kind, operand_most (ltb 0 m) s.gate.a, operand_most (ltb 1 m) s.gate.b, operand_most (ltb 2 m) s.gate.c)

pub overflow_add-result-3 : goal.overflow_add-result-3
overflow_add-result-3 c =
    let s = c.args in
    let m = c.operands-count.result in
    omega (arith, decimal_most s.gate.kind, operand_most (ltb 0 m) s.gate.a, operand_most (ltb 1 m) s.gate.b, operand_most (ltb 2 m) s.gate.c)

pub overflow_add-result-4 : goal.overflow_add-result-4
overflow_add-result-4 c =
    let s = c.args in
    let m = c.operands-count.result in
    omega (arith, decimal_most s.gate.kind, operand_most (ltb 0 m) s.gate.a, operand_most (ltb 1 m) s.gate.b, operand_most (ltb 2 m) s.gate.c)

pub returns : goal.returns
returns c =
    let s = c.args in
    let m = c.operands-count.result in
    record {
      is = omega (arith, line_long m s.gate c.operands-count.ensures);
      short = omega (
        arith,
        decimal_most s.gate.kind,
        operand_most (ltb 0 m) s.gate.a,
        operand_most (ltb 1 m) s.gate.b,
        operand_most (ltb 2 m) s.gate.c,
      );
    }
