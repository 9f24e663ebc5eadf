-- `gate_words::writer::Writer::chain` meets its contract: after each gate, writing the rest of the chain completes
-- it.
-- Assumes nothing.
use Prim.Native.Nat.{◌-◌}
use Rattle.gate_words.specs.Word.{Below}
use Rattle.gate_words.specs.Choice.{chain_of}
use Rattle.gate_words.proofs.Going.{Goes}
use Rattle.gate_words.proofs.writer.Writer.chain.Given as goal

abbrev pub invariant-loop : goal.invariant-loop
invariant-loop l =
    Goes l.initial.w l.initial.table (chain_of l.kind l.initial.w.wire l.s l.first l.stride l.count) l.w l.table
    (chain_of l.kind l.w.wire l.last l.at l.stride (l.count - l.counter))
    × Below l.initial.w.wire l.at l.stride (l.count - l.counter)
