-- `text_lines::line::gate_at` meets its contract: it reads the parts of a line in the definition's order.
-- Assumes nothing.
use Rattle.text_lines.proofs.Found.{no_kind, unknown, no_a, no_b, no_c, no_end, whole, end_none, end_other}
use Rattle.text_lines.proofs.line.gate_at.Goals as goal

pub returns-in_err-kind : goal.returns-in_err-kind
returns-in_err-kind c = rw c.from_residual.ensures (no_kind _ _ c.in_err-kind.ensures)

pub returns-then-kind-ge-KINDS : goal.returns-then-kind-ge-KINDS
returns-then-kind-ge-KINDS c = unknown _ _ _ c.in_ok-kind.ensures c.if-kind-ge-KINDS.true

pub returns-in_err-a : goal.returns-in_err-a
returns-in_err-a c = rw c.from_residual-in_err-a.ensures (no_a _ _ _ c.in_ok-kind.ensures c.if-kind-ge-KINDS.false
    _ c.operands-count.ensures c.in_err-a.ensures)

pub returns-in_err-b : goal.returns-in_err-b
returns-in_err-b c = rw c.from_residual-in_err-b.ensures (no_b _ _ _ c.in_ok-kind.ensures c.if-kind-ge-KINDS.false
    _ c.operands-count.ensures _ c.in_ok-a.ensures c.in_err-b.ensures)

pub returns-in_err-c : goal.returns-in_err-c
returns-in_err-c c = rw c.from_residual-in_err-c.ensures (no_c _ _ _ c.in_ok-kind.ensures c.if-kind-ge-KINDS.false
    _ c.operands-count.ensures _ c.in_ok-a.ensures _ c.in_ok-b.ensures c.in_err-c.ensures)

pub returns-then-text-c : goal.returns-then-text-c
returns-then-text-c c = no_end _ _ _ c.in_ok-kind.ensures c.if-kind-ge-KINDS.false _ c.operands-count.ensures
    _ c.in_ok-a.ensures _ c.in_ok-b.ensures _ c.in_ok-c.ensures (end_none _ _ c.if-text-c.true)

pub returns-then-not-ended : goal.returns-then-not-ended
returns-then-not-ended c = no_end _ _ _ c.in_ok-kind.ensures c.if-kind-ge-KINDS.false
    _ c.operands-count.ensures _ c.in_ok-a.ensures _ c.in_ok-b.ensures _ c.in_ok-c.ensures
    (end_other _ _ c.if-text-c.false c.if-not-ended.true)

pub returns : goal.returns
returns c = whole _ _ _ c.in_ok-kind.ensures c.if-kind-ge-KINDS.false _ c.operands-count.ensures
    _ c.in_ok-a.ensures _ c.in_ok-b.ensures _ c.in_ok-c.ensures c.if-text-c.false c.if-not-ended.false
