-- `gate_words::writer::Writer::emit` meets its contract: the four numbers are the gate's, and its mark is counted.
-- Assumes nothing.
use Rattle.gate_words.proofs.Writing.{wrote_gate}
use Rattle.gate_words.proofs.writer.Writer.emit.Goals as goal

pub returns : goal.returns
returns c =
    let a = c.args in
    wrote_gate a.self a.table.now a.kind a.a a.b a.c c.operands-count.result _ _ _ _ _ c.operands-count.ensures
    c.operand.ensures c.operand-2.ensures
    c.operand-3.ensures c.mark.ensures c.store.ensures
